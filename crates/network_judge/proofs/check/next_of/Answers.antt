use Rattle.std.proofs.Common.{arith}
use Rattle.network_judge.specs.Table.{Table, table_of}
use Rattle.network_judge.proofs.Tracing.{column_of_end}
use Rattle.network_judge.proofs.check.next_of.Goals as goal

pub returns-then-column-width-clause-none : goal.returns-then-column-width-clause-none
returns-then-column-width-clause-none c =
    let t : Table = table_of c.args.kinds.now c.args.joins.now c.args.choices.now in
    λ e low. (let less = column_of_end t c.args.columns.now c.args.width c.args.to c.requires.columns c.requires.width e in
    let more = c.if-column-width.true in
    absurd (omega arith))
