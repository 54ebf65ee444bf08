use Rattle.std.proofs.Common.{◌≡◌, take}
use Rattle.std.specs.Io.KnownBytes.{Appends}
use Rattle.std.specs.List.{flat_map}
use Rattle.command_texts.specs.Lines.{channel_line}
use Rattle.command_texts.proofs.route.put_route.Given as goal

-- the lines so far were taken, and no put failed
abbrev pub invariant-loop-channel : goal.invariant-loop-channel
invariant-loop-channel g l = record {
  taken : Appends (g.W.Out.taken l.fn.out) (g.W.Out.taken l.out) (flat_map (channel_line l.torus) (take l.channel-index l.channels));
  quiet : g.W.Out.failures l.out ≡ g.W.Out.failures l.fn.out;
}
