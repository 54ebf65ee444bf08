-- The rounds of a pace: in order, clocked by turns, or fair (this project's own format).
use Rattle.std.specs.Prelude.{ℕ, List, [], Some, None}
use Rattle.torus.specs.declared.step.Step.{Step}
use Rattle.machine_parts.specs.Core.{Load, round}
use Rattle.machine_parts.specs.Machine.{Core, core_after_load}
use Rattle.machine_core.specs.Clocked.{clocked_round}
use Rattle.fair_rounds.specs.declared.pacing.Pace.{Pace}
use Rattle.fair_rounds.specs.declared.pacing.Pace.TheVariants.{InOrder, Turned, Fair}
use Rattle.fair_rounds.specs.Guard.{Guarding, guard_of, usual_guard, guard_after}
use Rattle.fair_rounds.specs.FairRounds.{FairMachine, fair_after, fair_attempts}

-- the guard with which the rounds of a pace begin: of so many rounds, or the usual one
abbrev pub first_guard : Pace → Core → Guarding
first_guard (Fair (Some most)) c = guard_of most
first_guard (Fair None) c = usual_guard c
first_guard InOrder c = usual_guard c
first_guard Turned c = usual_guard c

-- a load before any step, with that guard
abbrev pub fresh_fair : Pace → Load → FairMachine
fresh_fair p l = record {
  core = core_after_load l [];
  guard = first_guard p (core_after_load l []);
}

-- the attempts of the round of a machine that is behind so many, and the guard behind it
abbrev pub paced_attempts : Pace → Guarding → Core → ℕ → List Step
paced_attempts InOrder g c k = round c.shape
paced_attempts Turned g c k = clocked_round c k
paced_attempts (Fair most) g c k = fair_attempts (record { core = c; guard = g })

abbrev pub paced_guard : Pace → Guarding → Core → Guarding
paced_guard InOrder g c = g
paced_guard Turned g c = g
paced_guard (Fair most) g c = guard_after g c

-- the guard behind so many rounds from a load
abbrev pub guard_behind : Pace → Load → ℕ → Guarding
guard_behind InOrder l k = (fresh_fair InOrder l).guard
guard_behind Turned l k = (fresh_fair Turned l).guard
guard_behind (Fair most) l k = (fair_after (fresh_fair (Fair most) l) k).guard
