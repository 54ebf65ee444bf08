use Rattle.std.specs.Prelude.{option_map}
use Rattle.machine_record.specs.Recorded.{recording_of, room_of}
use Rattle.machine_record.proofs.Keeps.{keeps_line}
use Rattle.machine_record.proofs.recorded.RecordedMachine.append.Goals as goal

pub invariant_of-self-2 : goal.invariant_of-self-2
invariant_of-self-2 g c =
    keeps_line (option_map recording_of c.self.inside.kept) (option_map recording_of c.keep_line.new.kept) (room_of c.self.inside.kept) (room_of c.keep_line.new.kept)
    c.self.inside.machine c.append.new.self c.args.processor c.args.line
    c.self.invariant c.in_ok-append.ensures.taken.0 c.in_ok-append.ensures.taken.1 c.in_ok-append.ensures.taken.2 c.in_ok-append.ensures.taken.3 c.keep_line.ensures
