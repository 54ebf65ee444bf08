-- In the rounds that a guard makes no operation waits for ever.
use Rattle.std.proofs.Common.{◌≡◌, ℕ, suc, ◌+◌, ◌^◌, ◌<◌, ◌≤◌, Bool, true, List, ap, arith}
use Rattle.torus.specs.declared.step.Step.{Step}
use Rattle.core_laws.specs.Core.{Load}
use Rattle.core_laws.specs.Machine.{Core, IsAfter}
use Rattle.machine_core.specs.Oldest.{oldest}
use Rattle.machine_core.specs.Guarded.{guarded_round}
use Rattle.machine_core.proofs.Orders.{oldest_is}
use Rattle.fair_rounds.specs.Guard.{Guarding, holds}
use Rattle.fair_rounds.specs.Hosts.{IsOut, Handing, with_lines, WaitsLonger, AreSuccessive, SeesMachines, IsRoundByRound, longest_wait}
use Rattle.fair_rounds.proofs.GuardKnows.{holds_where}
use Rattle.fair_rounds.proofs.Lines.{Stage, grow_all}
use Rattle.fair_rounds.proofs.Waits.{IsMade, out_begun, nobody_waits}

-- what holds back, of machines in turn
pub held_where : (most : ℕ) (c : ℕ → Core) (g : ℕ → Guarding) (l : Load) (steps : List Step) → IsAfter l (c 0) steps → AreSuccessive c → SeesMachines most c g
    → (k : ℕ) → k < 2 ^ 64 → (holds (g k) (c k) ≡ true → WaitsLonger most c k) × (WaitsLonger most c k → holds (g k) (c k) ≡ true)
held_where most c g l steps start turn given k low = holds_where most c g turn (record { load = l; steps = steps; after = start }) given k low

module _ (most : ℕ) (lines : ℕ → List Handing) (c : ℕ → Core) (g : ℕ → Guarding) (l : Load) (steps : List Step) (start : IsAfter l (c 0) steps)
    (rounds : IsRoundByRound lines c g) (given : SeesMachines most (λ k. with_lines (c k) (lines k)) g) where
  abbrev begun : ℕ → Core
  begun k = with_lines (c k) (lines k)

  abbrev held : ℕ → Bool
  held k = holds (g k) (with_lines (c k) (lines k))

  made : IsMade oldest lines (λ k. holds (g k) (with_lines (c k) (lines k))) c
  made = record { words = rounds.words; next = rounds.next }

  turn : AreSuccessive (λ k. with_lines (c k) (lines k))
  turn = record {
    steps = λ k. guarded_round oldest (holds (g k) (with_lines (c k) (lines k))) (with_lines (c k) (lines k));
    lines = λ k. lines (suc k);
    words = λ k. rounds.words (suc k);
    next = λ k. ap (λ (x : Core). with_lines x (lines (suc k))) (rounds.next k);
  }

  begins : Stage (with_lines (c 0) (lines 0))
  begins = (grow_all (lines 0) (c 0) (record { load = l; steps = steps; after = start }) (rounds.words 0)).stage

  waits_begun : (k : ℕ) → WaitsLonger most c k → WaitsLonger most (λ k. with_lines (c k) (lines k)) k
  waits_begun k w = record {
    processor = w.processor;
    index = w.index;
    since = w.since;
    long = w.long;
    out = λ m from to. out_begun oldest oldest_is lines (λ k. holds (g k) (with_lines (c k) (lines k))) c l steps start made m w.processor w.index (w.out m from to);
  }

  pub none_waits : (k p i : ℕ) → k + longest_wait most (c 0) < 2 ^ 64 → ((m : ℕ) → k ≤ m → m ≤ k + longest_wait most (c 0) → IsOut (c m) p i) → ⊥
  none_waits k p i few =
      nobody_waits oldest oldest_is lines (λ k. holds (g k) (with_lines (c k) (lines k))) c l steps start made most k p i
      (λ j low w. (holds_where most (λ k. with_lines (c k) (lines k)) g turn begins given j (omega (arith, low, few))).1 (waits_begun j w))
