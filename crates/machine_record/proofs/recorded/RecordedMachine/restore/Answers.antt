use Rattle.machine_record.specs.Recorded.{recording_of}
use Rattle.machine_record.proofs.Restores.{restored_ok}
use Rattle.machine_record.proofs.recorded.RecordedMachine.restore.Goals as goal

pub returns-clause-ok : goal.returns-clause-ok
returns-clause-ok g c =
    restored_ok c.args.bytes.now (recording_of c.in_ok-kept.kept) c.made.result c.in_ok-kept.ensures.ok c.made.ensures.ok
