use Rattle.std.proofs.Common.{arith}
use Rattle.network_judge.specs.Table.{Table, table_of}
use Rattle.network_answer.proofs.Counting.{used_is_marked}
use Rattle.network_answer.proofs.totals.is_hop_marked.Goals as goal

pub returns-clause-no : goal.returns-clause-no
returns-clause-no c =
    let t : Table = table_of c.args.kinds.now c.args.joins.now c.args.choices.now in
    λ same used.
    (let found = used_is_marked t c.args.used.now c.requires.marked c.args.x used in
    let end = c.loop-column-test.false in
    let low = found.1 in
    let wide = c.requires.width in
    let down = c.loop-column.invariant found.0 (omega arith) in
    let marked = found.2 in
    let here = rw wide at down in
    cc)
