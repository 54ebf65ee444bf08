use Rattle.std.proofs.Common.{ap}
use Rattle.std.specs.Prelude.{option_map}
use Rattle.machine_record.specs.Recorded.{recording_of, room_of}
use Rattle.machine_record.proofs.Restores.{is_made_by}
use Rattle.machine_record.proofs.recorded.RecordedMachine.saved.Goals as goal

pub returns-in_ok-bytes_of-in-Some-clause-back : goal.returns-in_ok-bytes_of-in-Some-clause-back
returns-in_ok-bytes_of-in-Some-clause-back g c = record {
  kept = recording_of c.in-Some.kept;
  read = c.in_ok-bytes_of-in-Some.ensures.back;
  made = is_made_by c.args.self.now (option_map recording_of c.self.inside.kept) (room_of c.self.inside.kept) c.self.inside.machine (recording_of c.in-Some.kept) c.self.view_is
      (ap (option_map recording_of) c.in-Some.is) c.self.invariant;
}
