use Rattle.std.proofs.Common.{◌≡◌, take}
use Rattle.std.specs.Io.KnownBytes.{Appends}
use Rattle.trace_answer.specs.Texts.{lines_text}
use Rattle.trace_answer.proofs.order.write_lines.Given as goal

-- the lines so far were taken, and no put failed
abbrev pub invariant-loop-call : goal.invariant-loop-call
invariant-loop-call g l = record {
  taken : Appends (g.W.Out.taken l.fn.out) (g.W.Out.taken l.out) (lines_text l.issued (take l.call-index l.order));
  quiet : g.W.Out.failures l.out ≡ g.W.Out.failures l.fn.out;
}
