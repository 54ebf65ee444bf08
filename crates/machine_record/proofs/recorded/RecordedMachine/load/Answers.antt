use Rattle.std.proofs.Common.{◌∙◌, ap}
use Rattle.machine_record.specs.Replay.{made_by}
use Rattle.machine_record.proofs.Restores.{fresh_makes}
use Rattle.machine_record.proofs.recorded.RecordedMachine.load.Goals as goal

pub invariant_of-result : goal.invariant_of-result
invariant_of-result g c =
    ap made_by c.in-Ok.ensures
    ∙ fresh_makes c.args.machine.now c.args.scripts.now c.in_ok-asked.asked c.in_ok-asked.ensures.loaded c.in_ok-asked.ensures.spins c.in_ok-asked.ensures.guard
