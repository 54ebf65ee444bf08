use Rattle.std.proofs.Common.{◌≡◌, ◌≤◌, None, length, take}
use Rattle.std.specs.Prelude.{slice_index_or, option_to_list}
use Rattle.std.specs.List.{flat_map}
use Rattle.network_rounds.specs.Arbiters.{attempt_by}
use Rattle.network_rounds.proofs.granting.write_attempts.Given as goal

-- the attempts so far
abbrev pub invariant-loop-k : goal.invariant-loop-k
invariant-loop-k g l = record {
  size : length l.attempts ≡ length l.initial.attempts;
  few : l.count ≤ l.k;
  so_far : take l.count l.attempts
      ≡ flat_map (λ of. option_to_list (attempt_by l.by l.machine (λ z. slice_index_or l.firsts z None) of)) (take l.k l.moves);
}
