-- Hosts of a machine that makes fair rounds for ever (this project's own format).
use Rattle.std.specs.Prelude.{◌≡◌, ℕ, suc, List, All}
use Rattle.machine_parts.specs.Handed.{BringsWords}
use Rattle.fair_rounds.specs.Guard.{guard_of}
use Rattle.fair_rounds.specs.Hosts.{Handing, with_lines}
use Rattle.machine_asked.specs.Asked.{Asked, asked_in, fair_made}

-- once lines are handed to it, each of which it may refuse
abbrev pub with_handed : Asked → List Handing → Asked
with_handed v lines = asked_in v (with_lines v.core lines)

-- The machine at the beginning of each of its fair rounds, of which the first is the first of its guard, of so
-- many rounds: before a round any lines are handed to any processors.
pub record IsHostedFairly (most : ℕ) (lines : ℕ → List Handing) (v : ℕ → Asked) : Type 0 where
  pub words : (k : ℕ) → All (λ h. BringsWords h.line) (lines k)
  pub first : (v 0).guard ≡ guard_of most
  pub core : (k : ℕ) → (v (suc k)).core ≡ (fair_made (with_handed (v k) (lines k))).core
  pub guard : (k : ℕ) → (v (suc k)).guard ≡ (fair_made (with_handed (v k) (lines k))).guard
