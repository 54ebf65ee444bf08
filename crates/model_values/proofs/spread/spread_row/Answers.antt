use Rattle.std.proofs.Common.{ℕ, Bool, List, sym, subst, ◌∙◌, arith}
use Rattle.model_values.specs.Known.{IsConcluded, IsRival, NotesMore}
use Rattle.model_values.proofs.Concluding.{concluded_more, notes_none, notes_then}
use Rattle.model_values.proofs.Table.{has_spread, spread_then}
use Rattle.model_values.proofs.spread.spread_row.Goals as goal

pub loop-w-init : goal.loop-w-init
loop-w-init c = record {
  spread = has_spread c.args.question.now c.args.level c.args.table.now;
  more = notes_none c.args.level c.args.table.now;
  concluded = λ _ v low. absurd (omega (arith, low));
}

pub loop-w-preserved : goal.loop-w-preserved
loop-w-preserved c =
    let q = c.args.question.now in
    let i = c.loop-w.invariant in
    let e = c.spread_pair-new.ensures in
    record {
      spread = spread_then q c.args.level c.args.table.now c.loop-w.table c.spread_pair-new.new.table i.spread e.spread;
      more = subst (λ (m : Bool). NotesMore c.args.level c.args.table.now c.spread_pair-new.new.table m) (sym c.either-more.ensures)
          (notes_then c.args.level c.args.table.now c.loop-w.table c.spread_pair-new.new.table c.loop-w.more c.spread_pair-new.result i.more e.more);
      concluded = λ quiet. concluded_more (λ (t : List ℕ) (v : ℕ). IsRival q.operations.now q.sources.now c.args.x v → IsConcluded q t c.args.level c.args.x v) c.loop-w.w c.loop-w.more
          c.spread_pair-new.result c.loop-w.table c.spread_pair-new.new.table i.concluded e.more.same e.concluded (sym c.either-more.ensures ∙ quiet);
    }

pub returns : goal.returns
returns c =
    let i = c.loop-w.invariant in
    record {
      spread = i.spread;
      more = i.more;
      concluded = λ quiet w rival. i.concluded quiet w (omega (arith, rival.writer, c.loop-w-test.false)) rival;
    }
