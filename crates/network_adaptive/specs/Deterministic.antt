-- A network whose routers have one choice each, as one whose routers choose.
use Rattle.std.specs.Prelude.{◌==◌, true}
use Rattle.wormhole.specs.Net.{Net}
use Rattle.network_adaptive.specs.Choices.{AdaptiveNet}

-- the one choice is an escape, and all channels are marked
abbrev pub deterministic : Net → AdaptiveNet
deterministic m = record {
  frame = m;
  chooses = λ x j y. m.next x j == y;
  escapes = λ x j y. m.next x j == y;
  marked = λ x. true;
}
