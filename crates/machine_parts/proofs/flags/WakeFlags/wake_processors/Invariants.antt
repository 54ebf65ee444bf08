use Rattle.std.proofs.Common.{◌≡◌, false}
use Rattle.core_laws.specs.Waking.{processors}
use Rattle.machine_parts.specs.Awake.{with_bits}
use Rattle.machine_parts.proofs.flags.WakeFlags.wake_processors.Given as goal

-- the processors so far are awake
abbrev pub invariant-loop-tile : goal.invariant-loop-tile
invariant-loop-tile g l = record {
  all : l.self-inside.all ≡ false;
  torus : l.self-inside.torus ≡ l.initial.self-inside.torus;
  depth : l.self-inside.depth ≡ l.initial.self-inside.depth;
  words : l.self-inside.words ≡ l.initial.self-inside.words;
  ends : l.self-inside.ends ≡ l.initial.self-inside.ends;
  awake : l.self-inside.awake ≡ with_bits l.initial.self-inside.awake 16 (processors l.tile);
}
