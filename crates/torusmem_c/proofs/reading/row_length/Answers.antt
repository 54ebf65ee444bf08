use Rattle.std.proofs.Common.{◌≡◌, ◌≤◌, ◌<◌, true, false, ℕ, List, length, is_some, slice_get, arith}
use Rattle.core_laws.specs.Row.{row_of}
use Rattle.core_laws.specs.Machine.{built_to}
use Rattle.torusmem_c.proofs.Rows.{row_small, goes_on, ends}
use Rattle.torusmem_c.proofs.reading.row_length.Goals as goal

pub overflow_add-count : goal.overflow_add-count
overflow_add-count c =
    let read = c.row.ensures.value in
    let told = c.is_some.ensures in
    let test = c.loop-count-test.true in
    let seen : is_some (slice_get (row_of (built_to c.args.machine.now) c.args.machine.now.state) c.loop-count.count) ≡ true = cc in
    let low = goes_on (row_of (built_to c.args.machine.now) c.args.machine.now.state) c.loop-count.count seen in
    let few = row_small c.reached.ensures.after.0 c.args.machine.now c.reached.ensures.after.1 c.reached.ensures.after.2 in
    omega (arith, low, few)

pub loop-count-smaller : goal.loop-count-smaller
loop-count-smaller c =
    let read = c.row.ensures.value in
    let told = c.is_some.ensures in
    let test = c.loop-count-test.true in
    let seen : is_some (slice_get (row_of (built_to c.args.machine.now) c.args.machine.now.state) c.loop-count.count) ≡ true = cc in
    let low = goes_on (row_of (built_to c.args.machine.now) c.args.machine.now.state) c.loop-count.count seen in
    omega (arith, low)

pub loop-count-preserved : goal.loop-count-preserved
loop-count-preserved c =
    let read = c.row.ensures.value in
    let told = c.is_some.ensures in
    let test = c.loop-count-test.true in
    let seen : is_some (slice_get (row_of (built_to c.args.machine.now) c.args.machine.now.state) c.loop-count.count) ≡ true = cc in
    let low = goes_on (row_of (built_to c.args.machine.now) c.args.machine.now.state) c.loop-count.count seen in
    omega (arith, low)

pub returns : goal.returns
returns c =
    let read = c.row.ensures.value in
    let told = c.is_some.ensures in
    let test = c.loop-count-test.false in
    let seen : is_some (slice_get (row_of (built_to c.args.machine.now) c.args.machine.now.state) c.loop-count.count) ≡ false = cc in
    ends (row_of (built_to c.args.machine.now) c.args.machine.now.state) c.loop-count.count c.loop-count.invariant seen
