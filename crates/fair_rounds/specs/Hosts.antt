-- Hosts that hand lines for ever, with rounds by an arbiter and a guard.
use Rattle.std.specs.Prelude.{◌≡◌, ◌↔◌, ℕ, suc, ◌+◌, ◌*◌, ◌<◌, ◌≤◌, Bool, true, List, [], ◌∷◌}
use Rattle.std.specs.Prelude.{Option, Some, None, All}
use Rattle.torus.specs.Shape.{tiles_of}
use Rattle.torus.specs.declared.step.Step.{Step}
use Rattle.torus.specs.declared.fault.Fault.{Fault}
use Rattle.script_lines.specs.declared.line.Line.{Line}
use Rattle.one_order.specs.Observed.{HasIssued, HasAnswered}
use Rattle.machine_parts.specs.Machine.{Core, core_after, shown}
use Rattle.machine_parts.specs.Handed.{handed, refused, BringsWords}
use Rattle.machine_core.specs.Arbiters.{Arbiter}
use Rattle.machine_core.specs.Oldest.{oldest}
use Rattle.machine_core.specs.Guarded.{guarded_round}
use Rattle.fair_rounds.specs.Guard.{Guarding, guard_of, holds, guard_after}

-- processor p's operation i is out: issued and not answered
pub record IsOut (c : Core) (p i : ℕ) : Type 0 where
  pub issued : HasIssued (shown c) p i
  pub unanswered : HasAnswered (shown c) p i → ⊥

-- a line of a host, for a processor
pub record Handing : Type 0 where
  pub processor : ℕ
  pub line : Line

-- the machine once a host has handed it a line, which it may refuse
abbrev pub taken_by : Core → Handing → Option Fault → Core
taken_by c h None = handed c h.processor h.line
taken_by c h (Some fault) = c

-- and many, one after the other
abbrev pub with_lines : Core → List Handing → Core
with_lines c [] = c
with_lines c (h ∷ hs) = with_lines (taken_by c h (refused c h.processor h.line)) hs

-- some operation was out in the round before each of the last rounds, so many and one more
pub record WaitsLonger (most : ℕ) (c : ℕ → Core) (k : ℕ) : Type 0 where
  pub processor : ℕ
  pub index : ℕ
  pub since : ℕ
  pub long : since + most < k
  pub out : (m : ℕ) → since ≤ m → m ≤ k → IsOut (c m) processor index

-- The machine at the beginning of each round of hosts that go on for ever: before a round any lines are
-- handed to any processors; and a round begins no operation where one has been out for more than so many
-- rounds.
pub record IsHosted (by : Arbiter) (most : ℕ) (lines : ℕ → List Handing) (held : ℕ → Bool)
    (c : ℕ → Core) : Type 0 where
  pub words : (k : ℕ) → All (λ h. BringsWords h.line) (lines k)
  pub guard : (k : ℕ) → (held k ≡ true) ↔ WaitsLonger most c k
  pub next : (k : ℕ) → c (suc k) ≡ core_after (with_lines (c k) (lines k))
      (guarded_round by (held k) (with_lines (c k) (lines k)))

-- machines one after the other: what steps make of each, and then lines of hosts, is the next
pub record AreSuccessive (c : ℕ → Core) : Type 0 where
  pub steps : ℕ → List Step
  pub lines : ℕ → List Handing
  pub words : (k : ℕ) → All (λ h. BringsWords h.line) (lines k)
  pub next : (k : ℕ) → c (suc k) ≡ with_lines (core_after (c k) (steps k)) (lines k)

-- a guard of so many rounds that is given machines, one after the other
pub record SeesMachines (most : ℕ) (c : ℕ → Core) (g : ℕ → Guarding) : Type 0 where
  pub first : g 0 ≡ guard_of most
  pub next : (k : ℕ) → g (suc k) ≡ guard_after (g k) (c k)

-- The machine at the beginning of each round of hosts that go on for ever, where the rounds are made by
-- Guard::round: before a round any lines are handed to any processors; the guard is given the machine then.
pub record IsRoundByRound (lines : ℕ → List Handing) (c : ℕ → Core) (g : ℕ → Guarding) : Type 0 where
  pub words : (k : ℕ) → All (λ h. BringsWords h.line) (lines k)
  pub next : (k : ℕ) → c (suc k) ≡ core_after (with_lines (c k) (lines k))
      (guarded_round oldest (holds (g k) (with_lines (c k) (lines k))) (with_lines (c k) (lines k)))

-- the bound of a guard: 241 moves for each tag of each tile, and 2 for each tile
abbrev pub longest_wait : ℕ → Core → ℕ
longest_wait most c = most + 241 * (tiles_of c.shape * c.tags) + 2 * tiles_of c.shape + 1

-- no operation is out for so many rounds
abbrev pub NobodyWaits : ℕ → (ℕ → Core) → Type 0
NobodyWaits bound c =
    (k p i : ℕ) → ((m : ℕ) → k ≤ m → m ≤ k + bound → IsOut (c m) p i) → ⊥
