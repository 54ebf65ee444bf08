use Rattle.std.specs.Prelude.{option_map}
use Rattle.machine_record.specs.Recorded.{recording_of, room_of}
use Rattle.machine_record.proofs.Keeps.{keeps_fair}
use Rattle.machine_record.proofs.recorded.RecordedMachine.fair_round.Goals as goal

pub invariant_of-self : goal.invariant_of-self
invariant_of-self g c =
    keeps_fair (option_map recording_of c.self.inside.kept) (option_map recording_of c.keep_fair_rounds.new.kept) (room_of c.self.inside.kept) (room_of c.keep_fair_rounds.new.kept)
    c.self.inside.machine c.fair_round-held.new.self 1 c.self.invariant c.fair_round-held.ensures.made c.keep_fair_rounds.ensures
