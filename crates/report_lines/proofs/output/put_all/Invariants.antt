use Rattle.std.proofs.Common.{length, ◌-◌, ◌≡◌, ◌≤◌, take}
use Rattle.std.specs.Io.KnownBytes.{Appends}
use Rattle.report_lines.proofs.output.put_all.Given as goal

-- so much was taken so far, and each put took something
abbrev pub invariant-loop-done : goal.invariant-loop-done
invariant-loop-done g l = record {
  within : l.done ≤ length l.bytes;
  taken : Appends (g.W.Out.taken l.fn.out) (g.W.Out.taken l.out) (take l.done l.bytes);
  quiet : g.W.Out.failures l.out ≡ g.W.Out.failures l.fn.out;
}

abbrev pub decreases-loop-done : goal.decreases-loop-done
decreases-loop-done g l = length l.bytes - l.done
