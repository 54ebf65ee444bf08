-- Rounds of a pace from a load, and the fewest that finish every script (this project's own format).
use Rattle.std.specs.Prelude.{◌≡◌, ℕ, ◌<◌, ◌≤◌, true, false, List, []}
use Rattle.torus.specs.declared.step.Step.{Step}
use Rattle.machine_parts.specs.Core.{Load}
use Rattle.machine_parts.specs.Machine.{Core, core_after_load, all_finished}
use Rattle.machine_core.specs.Rounds.{rounds_of}
use Rattle.machine_core.specs.Clocked.{clocked_rounds}
use Rattle.fair_rounds.specs.declared.pacing.Pace.{Pace}
use Rattle.fair_rounds.specs.declared.pacing.Pace.TheVariants.{InOrder, Turned, Fair}
use Rattle.fair_rounds.specs.FairRounds.{fair_steps}
use Rattle.fair_rounds.specs.Paces.{fresh_fair, guard_behind, paced_attempts}

-- the attempts of so many rounds from a load, one after the other: in order; clocked, with the turns from
-- 0 on; or fair
abbrev pub paced_rounds : Pace → Load → ℕ → List Step
paced_rounds InOrder l k = rounds_of l.shape k
paced_rounds Turned l k = clocked_rounds (core_after_load l []) k
paced_rounds (Fair most) l k = fair_steps (fresh_fair (Fair most) l) k

-- the attempts of the round of a machine that is behind so many from a load
abbrev pub paced_round : Pace → Load → Core → ℕ → List Step
paced_round p l c k = paced_attempts p (guard_behind p l k) c k

-- the machine after so many rounds from a load
abbrev pub after_paced : Pace → Load → ℕ → Core
after_paced p l k = core_after_load l (paced_rounds p l k)

-- so many rounds of a pace are the fewest that finish every script; where these are more than the most
-- that are allowed, they are that many
pub record AreFewestPaced (p : Pace) (l : Load) (most k : ℕ) : Type 0 where
  pub allowed : k ≤ most
  pub unfinished : (j : ℕ) → j < k → all_finished (after_paced p l j).state ≡ false
  pub finished : k < most → all_finished (after_paced p l k).state ≡ true
