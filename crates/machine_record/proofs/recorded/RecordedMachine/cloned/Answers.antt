use Rattle.std.proofs.Common.{ap, subst}
use Rattle.std.specs.Prelude.{option_map}
use Rattle.machine_record.specs.Calls.{IsMadeAgain}
use Rattle.machine_record.specs.Recorded.{recording_of, room_of}
use Rattle.machine_record.specs.Recording.{Recording}
use Rattle.machine_record.proofs.Restores.{is_made_by, one_made}
use Rattle.machine_record.proofs.recorded.RecordedMachine.cloned.Goals as goal

pub returns-in-Ok : goal.returns-in-Ok
returns-in-Ok g c =
    one_made (recording_of c.in-Some.kept) c.in-Ok.machine c.args.self.now
    (subst (λ (r : Recording). IsMadeAgain r c.in-Ok.machine) c.in_ok-copied-in-Some.ensures c.in-Ok.ensures.ok)
    (is_made_by c.args.self.now (option_map recording_of c.self.inside.kept) (room_of c.self.inside.kept) c.self.inside.machine (recording_of c.in-Some.kept)
    c.self.view_is (ap (option_map recording_of) c.in-Some.is) c.self.invariant)
