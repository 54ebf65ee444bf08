-- Fair rounds until every script is finished.
use Rattle.std.proofs.Common.{◌≡◌, inl, inr, ℕ, zero, suc, ◌+◌, ◌<◌, ◌≤◌, Bool, true, false, List, ◌++◌, refl, sym, ◌∙◌, ap, subst, arith}
use Rattle.std.proofs.lemmas.Bool.{cases_lt}
use Rattle.torus.specs.declared.step.Step.{Step}
use Rattle.core_laws.specs.Rounds.{moves_in}
use Rattle.core_laws.specs.Core.{Load, step}
use Rattle.core_laws.specs.Machine.{Core, IsAfter, built_to, core_after, all_finished}
use Rattle.core_laws.proofs.Machines.{after_steps}
use Rattle.machine_core.specs.Oldest.{oldest}
use Rattle.machine_core.specs.Guarded.{guarded_round}
use Rattle.machine_core.proofs.ClockedRounds.{arbited_move}
use Rattle.machine_core.proofs.Finishing.{few_left}
use Rattle.machine_core.proofs.Orders.{oldest_is}
use Rattle.machine_core.proofs.Rounds.{core_append}
use Rattle.fair_rounds.specs.Guard.{Guarding, holds, guard_after}
use Rattle.fair_rounds.specs.FairRounds.{FairMachine, fair_attempts, fair_next, fair_after, fair_steps}
use Rattle.fair_rounds.proofs.GuardOut.{someone_out}
use Rattle.fair_rounds.proofs.HeldMoves.{held_count}
use Rattle.fair_rounds.proofs.Lines.{Stage}

-- the steps of fair rounds lead to the machine behind them
pub steps_lead : (m : FairMachine) (k : ℕ) → core_after m.core (fair_steps m k) ≡ (fair_after m k).core
steps_lead m zero = refl
steps_lead m (suc k) =
    core_append m.core (fair_steps m k) (fair_attempts (fair_after m k))
    ∙ ap (λ (c : Core). core_after c (fair_attempts (fair_after m k))) (steps_lead m k)

-- a round by a guard counts moves
round_counts : (g : Guarding) (c : Core) (b : Bool) → holds g c ≡ b → Stage c → all_finished c.state ≡ false
    → 0 < moves_in (step (built_to c)) c.state (guarded_round oldest b c)
round_counts g c false is st busy = (arbited_move st.load c st.steps st.after oldest oldest_is busy).1
round_counts g c true is st busy =
    let out = someone_out g c st is in held_count oldest oldest_is c st out.0 out.1 out.2

-- a machine and its guard have made so many fair rounds, before each some script wasn't finished, and each has made a move
pub record HasMade (m now : FairMachine) (k : ℕ) : Type 0 where
  pub so_far : now ≡ fair_after m k
  pub busy : (j : ℕ) → j < k → all_finished (fair_after m j).core.state ≡ false
  pub few : k + now.core.moves_left ≤ m.core.moves_left

pub has_none : (m : FairMachine) → HasMade m m 0
has_none m = record { so_far = refl; busy = λ j low. absurd (omega (arith, low)); few = omega arith }

module _ (l : Load) (m : FairMachine) (steps : List Step) (h : IsAfter l m.core steps) (now : FairMachine) (k : ℕ) (made : HasMade m now k) where
  pub stands : IsAfter l now.core (steps ++ fair_steps m k)
  stands = subst (λ (c : Core). IsAfter l c (steps ++ fair_steps m k)) (steps_lead m k ∙ ap (λ (x : FairMachine). x.core) (sym made.so_far))
      (after_steps l m.core steps (fair_steps m k) h)

  pub few_made : k ≤ 15794304
  few_made =
      let few = made.few in
      let left = few_left l m.core steps h in
      let moves = h.moves in
      omega (arith, few, left, moves)

  module _ (next : FairMachine) (held : Bool) (is_held : held ≡ holds now.guard now.core) (busy : all_finished now.core.state ≡ false)
      (moves : next.core.moves_left + moves_in (step (built_to now.core)) now.core.state (guarded_round oldest held now.core) ≡ now.core.moves_left) where
    pub less_left : next.core.moves_left < now.core.moves_left
    less_left =
        let some = round_counts now.guard now.core held (sym is_held) (record { load = l; steps = steps ++ fair_steps m k; after = stands }) busy in
        omega (arith, some, moves)

    pub has_more : next.core ≡ core_after now.core (guarded_round oldest held now.core) → next.guard ≡ guard_after now.guard now.core → HasMade m next (k + 1)
    has_more core_is guard_is =
        let e : suc k ≡ k + 1 = omega arith in
        let is : next ≡ fair_next now =
        ap (λ (c : Core). record { core = c; guard = next.guard }) (core_is ∙ ap (λ (b : Bool). core_after now.core (guarded_round oldest b now.core)) is_held)
        ∙ ap (λ (g : Guarding). record { core = core_after now.core (fair_attempts now); guard = g }) guard_is in
        record {
          so_far = is ∙ (ap fair_next made.so_far ∙ ap (fair_after m) e);
          busy = λ j low. elim (cases_lt j k) [
            | inl less ↦ made.busy j less
            | inr most ↦
                (let same : j ≡ k = omega (arith, low, most) in
                ap (λ (n : ℕ). all_finished (fair_after m n).core.state) same
                ∙ (ap (λ (x : FairMachine). all_finished x.core.state) (sym made.so_far) ∙ busy))
          ];
          few = let few = made.few in let less = less_left in omega (arith, few, less);
        }
