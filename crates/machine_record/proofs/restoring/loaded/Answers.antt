use Rattle.machine_record.specs.Recorded.{recording_of}
use Rattle.machine_record.proofs.Restores.{loaded_by}
use Rattle.machine_record.proofs.restoring.loaded.Goals as goal

pub returns-in-Ok-clause-ok : goal.returns-in-Ok-clause-ok
returns-in-Ok-clause-ok g c =
    loaded_by (recording_of c.args.kept.now) c.deref.result.now c.deref-2.result.now c.in-Ok.machine c.deref.ensures.value c.deref-2.ensures.value
    c.in-Ok.ensures.loaded c.in-Ok.ensures.spins c.in-Ok.ensures.guard
