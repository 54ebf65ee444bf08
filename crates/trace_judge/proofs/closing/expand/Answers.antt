use Rattle.std.proofs.Common.{◌<◌, Some, length, arith}
use Rattle.std.proofs.lemmas.Option.{slice_get-get_or}
use Rattle.trace_laws.proofs.Lists.{get_within}
use Rattle.trace_judge.proofs.Growth.{expanding_skip, expanding_add}
use Rattle.trace_judge.proofs.closing.expand.Goals as goal
use Rattle.trace_judge.proofs.closing.expand.Goals.{in-Some+in_ok-take, in_default}

pub loop-slot-preserved : goal.loop-slot-preserved
loop-slot-preserved g c =
    let l : c.loop-slot.slot < length c.args.table.now = omega arith in
    elim c.match-after_elders.branch [
      | in-Some+in_ok-take w ↦ rw (w.found-is, w.nodes-is)
          (expanding_add c.args.table.now c.args.address c.args.found.now.items c.args.nodes.now.items c.args.from c.loop-slot.slot
          c.loop-slot.found.items
          w.take.new.found.items c.loop-slot.nodes.items w.take.new.nodes.items _ w.in-Some.opened w.in-Some.config c.requires.there
          (slice_get-get_or c.args.table.now c.loop-slot.slot _ l) w.in-Some.ensures.0 w.in-Some.ensures.1
          w.in_ok-take.ensures.there w.in_ok-take.ensures.grows w.in_ok-take.ensures.ways c.loop-slot.invariant)
      | in_default w ↦ rw (w.found-is, w.nodes-is)
          (expanding_skip c.args.table.now c.args.address c.args.found.now.items c.args.nodes.now.items c.args.from c.loop-slot.slot
          c.loop-slot.found.items
          c.loop-slot.nodes.items _
          (slice_get-get_or c.args.table.now c.loop-slot.slot _ l) w.in_default.ensures c.loop-slot.invariant)
    ]

pub returns-clause-expanded : goal.returns-clause-expanded
returns-clause-expanded g c = λ s o may. c.loop-slot.invariant.expanded s o
    (let l = get_within c.args.table.now s (Some o) may.pending.there in omega arith) may
