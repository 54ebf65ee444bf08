use Rattle.std.proofs.Common.{rules, ◌<◌, length, arith}
use Rattle.std.proofs.lemmas.Option.{slice_get-get_or}
use Rattle.trace_laws.specs.Searches.{configs_of}
use Rattle.trace_judge.proofs.Joining.{waiting_has}
use Rattle.trace_judge.proofs.adding.is_dominated.Goals as goal

pub returns-then-is_none : goal.returns-then-is_none
returns-then-is_none g c = λ e.
    let l : c.loop-slot.slot < length c.args.table.now = omega arith in
    waiting_has c.args.table.now c.args.address c.loop-slot.slot _ c.args.config c.in-Some.less (configs_of c.args.found.now)
    (omega arith) (slice_get-get_or c.args.table.now c.loop-slot.slot _ l) c.in-Some.ensures.1 c.in-Some.ensures.0
    (c.place_for.ensures (search rules))
