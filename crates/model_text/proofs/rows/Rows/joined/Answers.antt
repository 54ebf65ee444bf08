use Rattle.std.proofs.Common.{◌++◌, ◌∙◌, ap, arith, take, List, ℕ}
use Rattle.std.specs.List.{concat}
use Rattle.model_text.specs.InsideRows.{row_lists}
use Rattle.model_text.proofs.Growing.{joined_more}
use Rattle.model_text.proofs.rows.Rows.joined.Goals as goal

pub loop-i-preserved : goal.loop-i-preserved
loop-i-preserved g c =
    c.in_ok-extend_from_slice.ensures.items
    ∙ (ap (λ (t : List ℕ). t ++ c.deref.result.now) c.loop-i.invariant
    ∙ (ap (λ (t : List ℕ). concat (row_lists (take c.loop-i.i c.args.self.now.lists.items)) ++ t) c.deref.ensures.value
    ∙ joined_more c.args.self.now.lists.items c.loop-i.i c.index.result.now (omega arith) c.index.ensures))
