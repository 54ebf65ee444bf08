use Rattle.std.proofs.Common.{take}
use Rattle.std.specs.Fmt.{HasWritten, IsPlainFormatter}
use Rattle.std.specs.List.{flat_map}
use Rattle.program_fault.specs.EndLines.{spin_line}
use Rattle.program_fault.proofs.end_lines.EndLinesDisplay.fmt.Given as goal

abbrev pub invariant-loop-spin : goal.invariant-loop-spin
invariant-loop-spin g l =
    IsPlainFormatter l.fn.f → HasWritten g.W.Write.write_str_gives l.fn.f (flat_map (spin_line l.self) (take l.spin-index l.self.spins.now)) l.f
