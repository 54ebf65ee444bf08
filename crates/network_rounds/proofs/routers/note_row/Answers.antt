use Rattle.std.proofs.Common.{ℕ, ◌+◌, ◌*◌, ◌∙◌, ap, arith}
use Rattle.std.specs.Prelude.{slice_index}
use Rattle.network_judge.specs.Table.{table_of}
use Rattle.network_rounds.proofs.Meeting.{row_more}
use Rattle.network_rounds.proofs.routers.note_row.Goals as goal

pub note_choice-requires-clause-first : goal.note_choice-requires-clause-first
note_choice-requires-clause-first c = λ z first e.
    (let may = c.loop-column.invariant.first z first e in
    let here = may.here in
    let size = c.loop-column.invariant.size in
    omega (arith, here, size))

pub loop-column-preserved : goal.loop-column-preserved
loop-column-preserved c =
    row_more (table_of c.args.kinds.now c.args.joins.now c.args.choices.now) c.loop-column.routers c.note_choice.new.routers c.loop-column.firsts c.note_choice.new.firsts
    c.args.x c.loop-column.column (slice_index c.args.choices.now c.cell.result) c.loop-column.invariant c.requires.x c.requires.input
    (let low = c.loop-column-test.true in let width = c.requires.width in omega (arith, low, width))
    (ap (slice_index c.args.choices.now) (c.cell.ensures.value ∙ ap (λ (w : ℕ). c.args.x * w + c.loop-column.column) c.requires.width))
    c.note_choice.ensures
