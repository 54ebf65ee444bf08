use Rattle.std.proofs.Common.{ℕ, List, [], ◌∷◌, ◌++◌, sym, ◌∙◌, ap}
use Rattle.machine_record.specs.Reading.{actions_from}
use Rattle.machine_record.proofs.Pieces.{actions_push}
use Rattle.machine_record.proofs.reading.actions_from.Goals as goal

pub loop-index-preserved : goal.loop-index-preserved
loop-index-preserved g c =
    c.in_ok-push.ensures.items
    ∙ (ap (λ (xs : List ℕ). xs ++ c.half_at.result ∷ []) c.loop-index.invariant
    ∙ (ap (λ (x : ℕ). actions_from c.args.bytes.now c.args.at c.loop-index.index ++ x ∷ []) c.half_at.ensures
    ∙ sym (actions_push c.args.bytes.now c.args.at c.loop-index.index)))
