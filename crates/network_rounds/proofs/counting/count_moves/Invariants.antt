use Rattle.std.proofs.Common.{◌≡◌, ◌+◌, ◌<◌, ◌^◌, ℕ, length, take}
use Rattle.std.specs.Prelude.{slice_index}
use Rattle.network_rounds.specs.Counts.{flits_gone, packets_begun}
use Rattle.network_rounds.proofs.counting.count_moves.Given as goal

-- the counts so far
abbrev pub invariant-loop-k : goal.invariant-loop-k
invariant-loop-k l = record {
  many : length l.begun ≡ length l.initial.begun;
  begun : (x : ℕ) → x < length l.initial.begun → slice_index l.initial.begun x + packets_begun x (take l.k l.moves) < 2 ^ 64
      → slice_index l.begun x ≡ slice_index l.initial.begun x + packets_begun x (take l.k l.moves);
  size : length l.flits ≡ length l.initial.flits;
  flits : (x : ℕ) → x < length l.initial.flits → slice_index l.initial.flits x + flits_gone x (take l.k l.moves) < 2 ^ 64
      → slice_index l.flits x ≡ slice_index l.initial.flits x + flits_gone x (take l.k l.moves);
}
