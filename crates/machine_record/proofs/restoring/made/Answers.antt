use Rattle.machine_record.specs.Recorded.{recording_of}
use Rattle.machine_record.proofs.Restores.{stops_by}
use Rattle.machine_record.proofs.restoring.made.Goals as goal

pub returns-in-Ok-Some-clause-err : goal.returns-in-Ok-Some-clause-err
returns-in-Ok-Some-clause-err g c =
    stops_by (recording_of c.args.kept) c.deref.result.now c.deref-2.result.now c.in_ok-machine.machine c.replay.new.machine c.in-Ok-Some.field-0
    c.in-Ok-Some.at c.deref.ensures.value c.deref-2.ensures.value c.in-Ok-Some.field-0-is c.in_ok-machine.ensures.ok c.in-Ok-Some.ensures
