use Rattle.std.proofs.Common.{◌≡◌}
use Rattle.std.specs.Io.KnownBytes.{Appends}
use Rattle.std.specs.List.{flat_map}
use Rattle.command_texts.specs.Lines.{order_lines}
use Rattle.command_texts.proofs.channels.put_channels.Given as goal

-- the lines so far were taken, and no put failed
abbrev pub invariant-loop-index : goal.invariant-loop-index
invariant-loop-index g l = record {
  taken : Appends (g.W.Out.taken l.fn.out) (g.W.Out.taken l.out) (flat_map (λ line. line) (order_lines l.torus l.numbers l.index));
  quiet : g.W.Out.failures l.out ≡ g.W.Out.failures l.fn.out;
}
