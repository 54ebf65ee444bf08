use Rattle.std.proofs.Common.{ℕ, Bool, List, sym, subst, ◌∙◌, arith}
use Rattle.model_values.specs.Known.{AreConcludedOf, NotesMore}
use Rattle.model_values.proofs.Concluding.{concluded_more, notes_none, notes_then}
use Rattle.model_values.proofs.Table.{has_spread, spread_then}
use Rattle.model_values.proofs.spread.spread_once.Goals as goal

pub loop-x-init : goal.loop-x-init
loop-x-init c = record {
  spread = has_spread c.args.question.now c.args.level c.args.table.now;
  more = notes_none c.args.level c.args.table.now;
  concluded = λ _ v low. absurd (omega (arith, low));
}

pub loop-x-preserved : goal.loop-x-preserved
loop-x-preserved c =
    let q = c.args.question.now in
    let i = c.loop-x.invariant in
    let e = c.spread_row-new.ensures in
    record {
      spread = spread_then q c.args.level c.args.table.now c.loop-x.table c.spread_row-new.new.table i.spread e.spread;
      more = subst (λ (m : Bool). NotesMore c.args.level c.args.table.now c.spread_row-new.new.table m) (sym c.either-more.ensures)
          (notes_then c.args.level c.args.table.now c.loop-x.table c.spread_row-new.new.table c.loop-x.more c.spread_row-new.result i.more e.more);
      concluded = λ quiet. concluded_more (λ (t : List ℕ) (v : ℕ). AreConcludedOf q t c.args.level v) c.loop-x.x c.loop-x.more
          c.spread_row-new.result c.loop-x.table c.spread_row-new.new.table i.concluded e.more.same e.concluded (sym c.either-more.ensures ∙ quiet);
    }

pub returns : goal.returns
returns c =
    let i = c.loop-x.invariant in
    record {
      spread = i.spread;
      more = i.more;
      concluded = λ quiet x w rival. i.concluded quiet x (omega (arith, rival.reader, c.loop-x-test.false)) w rival;
    }
