use Rattle.std.specs.Prelude.{option_map}
use Rattle.machine_record.specs.Recorded.{recording_of, room_of}
use Rattle.machine_record.proofs.Keeps.{keeps_move}
use Rattle.machine_record.proofs.recorded.RecordedMachine.step.Goals as goal

pub invariant_of-self : goal.invariant_of-self
invariant_of-self g c =
    keeps_move (option_map recording_of c.self.inside.kept) (option_map recording_of c.keep.new.kept) (room_of c.self.inside.kept) (room_of c.keep.new.kept)
    c.self.inside.machine c.step.new.self c.args.step c.self.invariant
    c.in-Moved.ensures.step c.in-Moved.ensures.spins c.in-Moved.ensures.guard c.keep.ensures
