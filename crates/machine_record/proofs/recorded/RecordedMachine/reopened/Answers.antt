-- A machine goes on with a record where this one keeps one.
use Rattle.std.proofs.Common.{◌∙◌, Some, [], ap}
use Rattle.machine_record.specs.Machine.{Recorded}
use Rattle.machine_record.specs.Recorded.{recording_of, room_of}
use Rattle.machine_record.specs.Replay.{made_by}
use Rattle.machine_record.proofs.Restores.{anew_with, anew_without, fresh_is, fresh_makes}
use Rattle.machine_record.proofs.recorded.RecordedMachine.reopened.Goals as goal

pub returns-then-is_none-clause-kept : goal.returns-then-is_none-clause-kept
returns-then-is_none-clause-kept g c =
    rw (← c.self.view_is)
    (anew_without c.self.inside.kept c.unrecorded.result c.is_none.result c.is_none.ensures c.if-is_none.true
    (ap (λ (v : Recorded). v.kept) c.unrecorded.ensures))

pub invariant_of-result : goal.invariant_of-result
invariant_of-result g c =
    ap made_by c.begun_without_scripts.ensures
    ∙ fresh_makes c.in_ok-opened.opened.text.items [] c.in_ok-opened.opened.machine c.in_ok-opened.ensures.loaded c.in_ok-opened.ensures.spins c.in_ok-opened.ensures.opened.guard

pub returns-clause-kept : goal.returns-clause-kept
returns-clause-kept g c =
    rw (← c.self.view_is)
    (anew_with c.self.inside.kept _ c.is_none.result c.is_none.ensures c.if-is_none.false
    (fresh_is c.in_ok-opened.opened.text.items c.in_ok-opened.opened.machine (recording_of c.begun_without_scripts.result)
    (room_of (Some c.begun_without_scripts.result)) c.in_ok-opened.ensures.loaded c.in_ok-opened.ensures.spins c.in_ok-opened.ensures.opened.guard c.begun_without_scripts.ensures))
