use Rattle.std.specs.Prelude.{option_map}
use Rattle.machine_record.specs.Recorded.{recording_of, room_of}
use Rattle.machine_record.proofs.Keeps.{keeps_round}
use Rattle.machine_record.proofs.recorded.RecordedMachine.round.Goals as goal

pub invariant_of-self : goal.invariant_of-self
invariant_of-self g c =
    keeps_round (option_map recording_of c.self.inside.kept) (option_map recording_of c.keep_rounds.new.kept) (room_of c.self.inside.kept) (room_of c.keep_rounds.new.kept)
    c.self.inside.machine c.round.new.self c.self.invariant c.round.ensures.state
    c.round.ensures.spins c.round.ensures.guard c.keep_rounds.ensures
