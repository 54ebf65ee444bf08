use Rattle.std.proofs.Common.{◌≡◌, ℕ, ◌<◌, None, length, drop}
use Rattle.std.specs.Prelude.{slice_index, slice_index_or}
use Rattle.network_rounds.specs.Arbiters.{first_among, asking}
use Rattle.network_rounds.proofs.arbiter.note_firsts.Given as goal

-- the first of the choices so far, and of the rest, is that of all
abbrev pub invariant-loop-k : goal.invariant-loop-k
invariant-loop-k g l = record {
  size : length l.firsts ≡ length l.initial.firsts;
  so_far : (y : ℕ) → y < length l.machine.channels
      → first_among (slice_index l.lasts y) (slice_index_or l.firsts y None) (asking l.machine (drop l.k l.moves) y)
      ≡ first_among (slice_index l.lasts y) None (asking l.machine l.moves y);
}
