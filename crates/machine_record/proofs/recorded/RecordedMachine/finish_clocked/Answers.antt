use Rattle.std.specs.Prelude.{option_map}
use Rattle.machine_record.specs.Recorded.{recording_of, room_of}
use Rattle.machine_record.proofs.Keeps.{keeps_clocked_rounds}
use Rattle.machine_record.proofs.recorded.RecordedMachine.finish_clocked.Goals as goal

pub invariant_of-self : goal.invariant_of-self
invariant_of-self g c =
    keeps_clocked_rounds (option_map recording_of c.self.inside.kept) (option_map recording_of c.keep_clocked_rounds.new.kept) (room_of c.self.inside.kept) (room_of c.keep_clocked_rounds.new.kept)
    c.self.inside.machine
    c.finish_clocked-rounds.new.self c.finish_clocked-rounds.result c.self.invariant c.finish_clocked-rounds.ensures.state c.finish_clocked-rounds.ensures.spins c.finish_clocked-rounds.ensures.guard
    c.keep_clocked_rounds.ensures
