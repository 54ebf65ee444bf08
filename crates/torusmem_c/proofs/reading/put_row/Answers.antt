use Rattle.std.proofs.Common.{◌≡◌, ◌<◌, ℕ, List, length, slice_get, Some, arith}
use Rattle.std.specs.Option.{unwrap_or}
use Rattle.core_laws.specs.Row.{row_of}
use Rattle.core_laws.specs.Machine.{built_to}
use Rattle.torusmem_c.proofs.Fronts.{puts_more}
use Rattle.torusmem_c.proofs.Rows.{word_at}
use Rattle.torusmem_c.proofs.reading.put_row.Goals as goal

pub loop-at-preserved : goal.loop-at-preserved
loop-at-preserved c =
    let row : List ℕ = row_of (built_to c.args.machine.now) c.args.machine.now.state in
    let count = c.row_length-count.ensures in
    let room = c.if-count-out.false in
    let test = c.loop-at-test.true in
    let size = c.loop-at.invariant.size in
    let there : c.loop-at.at < length row = omega (arith, count, test) in
    let low : c.loop-at.at < length c.loop-at.out = omega (arith, room, test, size) in
    let found = c.row.ensures.value in
    let told = c.unwrap_or.ensures in
    let word = word_at row c.loop-at.at there in
    let read : slice_get row c.loop-at.at ≡ Some c.unwrap_or.result = cc in
    let more = puts_more row c.args.out.now c.loop-at.out c.loop-at.at c.unwrap_or.result read size low c.loop-at.invariant.words in
    record { size = more.0; words = more.1 }
