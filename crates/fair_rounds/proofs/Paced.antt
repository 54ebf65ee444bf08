-- A machine that makes rounds of a pace from a load until every script is finished.
use Rattle.std.proofs.Common.{◌≡◌, ℕ, zero, suc, ◌+◌, ◌<◌, ◌≤◌, ◌++◌, List, [], Bool, true, false, Option, refl, sym, ap, subst, ◌∙◌, arith, ⊎_elim}
use Rattle.std.proofs.lemmas.Bool.{cases_lt}
use Rattle.torus.specs.Shape.{Shape}
use Rattle.torus.specs.declared.step.Step.{Step}
use Rattle.machine_parts.specs.Core.{Load, round}
use Rattle.core_laws.specs.Runs.{IsAcceptedLoad}
use Rattle.machine_parts.specs.Machine.{Core, IsAfter, all_finished, core_after, core_after_load}
use Rattle.machine_parts.proofs.Machines.{after_steps, named_machine, stands_after}
use Rattle.machine_core.specs.Rounds.{NeedsRounds, rounds_of}
use Rattle.machine_core.specs.Clocked.{NeedsClocked, clocked_round, clocked_rounds}
use Rattle.machine_core.proofs.Finishing.{rounds_push}
use Rattle.fair_rounds.specs.declared.pacing.Pace.{Pace}
use Rattle.fair_rounds.specs.declared.pacing.Pace.TheVariants.{InOrder, Turned, Fair}
use Rattle.fair_rounds.specs.declared.pacing.Pacer.{Pacer}
use Rattle.fair_rounds.specs.Guard.{Guarding}
use Rattle.fair_rounds.specs.FairRounds.{FairMachine, fair_after, fair_attempts, fair_next, fair_steps}
use Rattle.fair_rounds.specs.Paces.{first_guard, fresh_fair, guard_behind, paced_attempts, paced_guard}
use Rattle.fair_rounds.specs.Fewest.{AreFewestPaced, after_paced, paced_round, paced_rounds}
use Rattle.fair_rounds.proofs.FairFinish.{steps_lead}

-- the machine that steps lead to from a fresh one
pub from_fresh : (l : Load) (steps : List Step) → IsAcceptedLoad l → core_after (core_after_load l []) steps ≡ core_after_load l steps
from_fresh l steps ok =
    named_machine l (core_after (core_after_load l []) steps) steps (after_steps l (core_after_load l []) [] steps (stands_after l [] ok))

-- the machine that is behind so many rounds is the one of which the guard speaks
pub fair_is : (most : Option ℕ) (l : Load) (k : ℕ) (c : Core) → IsAfter l c (paced_rounds (Fair most) l k)
    → c ≡ (fair_after (fresh_fair (Fair most) l) k).core
fair_is most l k c after =
    named_machine l c (paced_rounds (Fair most) l k) after
    ∙ (sym (from_fresh l (paced_rounds (Fair most) l k) after.accepted) ∙ steps_lead (fresh_fair (Fair most) l) k)

-- the attempts of one round more
pub round_more : (p : Pace) (l : Load) (k : ℕ) (c : Core) → IsAfter l c (paced_rounds p l k)
    → paced_rounds p l k ++ paced_round p l c k ≡ paced_rounds p l (k + 1)
round_more InOrder l k c after = ap (λ (s : Shape). rounds_of l.shape k ++ round s) after.shape ∙ sym (rounds_push l.shape k)
round_more Turned l k c after =
    let fresh : Core = core_after_load l [] in
    let one : suc k ≡ k + 1 = omega arith in
    let is : c ≡ core_after fresh (clocked_rounds fresh k) =
    named_machine l c (clocked_rounds fresh k) after ∙ sym (from_fresh l (clocked_rounds fresh k) after.accepted) in
    ap (λ (x : Core). clocked_rounds fresh k ++ clocked_round x k) is ∙ ap (clocked_rounds fresh) one
round_more (Fair most) l k c after =
    let m : FairMachine = fresh_fair (Fair most) l in
    let one : suc k ≡ k + 1 = omega arith in
    ap (λ (x : Core). fair_steps m k ++ fair_attempts (record { core = x; guard = (fair_after m k).guard })) (fair_is most l k c after)
    ∙ ap (fair_steps m) one

-- and the guard behind it
pub guard_more : (p : Pace) (l : Load) (k : ℕ) (c : Core) → IsAfter l c (paced_rounds p l k)
    → paced_guard p (guard_behind p l k) c ≡ guard_behind p l (k + 1)
guard_more InOrder l k c after = refl
guard_more Turned l k c after = refl
guard_more (Fair most) l k c after =
    let m : FairMachine = fresh_fair (Fair most) l in
    let one : suc k ≡ k + 1 = omega arith in
    ap (λ (x : Core). (fair_next (record { core = x; guard = (fair_after m k).guard })).guard) (fair_is most l k c after)
    ∙ ap (λ (n : ℕ). (fair_after m n).guard) one

-- whether every script is finished after the rounds
pub finished_now : (p : Pace) (l : Load) (k : ℕ) (c : Core) (b : Bool) → IsAfter l c (paced_rounds p l k) → b ≡ all_finished c.state
    → all_finished (after_paced p l k).state ≡ b
finished_now p l k c b after is = ap all_finished (sym after.state) ∙ sym is

-- so many rounds are made, and before each of them not every script was finished
pub record HasMade (p : Pace) (l : Load) (k : ℕ) (c : Core) : Type 0 where
  pub after : IsAfter l c (paced_rounds p l k)
  pub unfinished : (j : ℕ) → j < k → all_finished (after_paced p l j).state ≡ false

no_rounds : (p : Pace) (l : Load) → [] ≡ paced_rounds p l 0
no_rounds InOrder l = search
no_rounds Turned l = search
no_rounds (Fair most) l = search

pub none_made : (p : Pace) (l : Load) (c : Core) → IsAfter l c [] → HasMade p l 0 c
none_made p l c after = record {
  after = subst (IsAfter l c) (no_rounds p l) after;
  unfinished = λ j below. absurd (omega (arith, below));
}

-- before the first round
pub first_pacer : (p : Pace) (l : Load) (c : Core) → IsAfter l c [] → first_guard p c ≡ guard_behind p l 0
first_pacer InOrder l c after = ap (first_guard InOrder) (named_machine l c [] after)
first_pacer Turned l c after = ap (first_guard Turned) (named_machine l c [] after)
first_pacer (Fair most) l c after = ap (first_guard (Fair most)) (named_machine l c [] after)

-- before one round more, not every script was finished
pub busy_more : (p : Pace) (l : Load) (k : ℕ) (c : Core) → HasMade p l k c → false ≡ all_finished c.state
    → (j : ℕ) → j < k + 1 → all_finished (after_paced p l j).state ≡ false
busy_more p l k c made busy j below = ⊎_elim (made.unfinished j)
    (λ last. let same : j ≡ k = omega (arith, below, last) in
    ap (λ (n : ℕ). all_finished (after_paced p l n).state) same ∙ finished_now p l k c false made.after busy)
    (cases_lt j k)

-- one round more, where not every script is finished
pub one_more : (p : Pace) (l : Load) (k : ℕ) (c d : Core) → HasMade p l k c → false ≡ all_finished c.state
    → ((steps : List Step) → IsAfter l c steps → IsAfter l d (steps ++ paced_round p l c k)) → HasMade p l (k + 1) d
one_more p l k c d made busy law = record {
  after = subst (IsAfter l d) (round_more p l k c made.after) (law (paced_rounds p l k) made.after);
  unfinished = busy_more p l k c made busy;
}

-- every script is finished
pub enough : (p : Pace) (l : Load) (most k : ℕ) (c : Core) → HasMade p l k c → k < most → true ≡ all_finished c.state
    → AreFewestPaced p l most k
enough p l most k c made below finished = record {
  allowed = omega (arith, below);
  unfinished = made.unfinished;
  finished = λ under. finished_now p l k c true made.after finished;
}

-- as many as are allowed
pub as_allowed : (p : Pace) (l : Load) (most : ℕ) (c : Core) → HasMade p l most c → AreFewestPaced p l most most
as_allowed p l most c made =
    record { allowed = omega arith; unfinished = made.unfinished; finished = λ under. absurd (omega (arith, under)) }

-- there is one fewest number of rounds
fewer : (p : Pace) (l : Load) (most j k : ℕ) → AreFewestPaced p l most j → AreFewestPaced p l most k → j < k → ⊥
fewer p l most j k a b below =
    let within = b.allowed in
    let f = b.unfinished j below in
    let t = a.finished (omega (arith, below, within)) in
    absurd (let no : true ≡ false = sym t ∙ f in cc)

pub fewest_once : (p : Pace) (l : Load) (most j k : ℕ) → AreFewestPaced p l most j → AreFewestPaced p l most k → j ≡ k
fewest_once p l most j k a b = ⊎_elim (λ below. absurd (fewer p l most j k a b below))
    (λ up. ⊎_elim (λ above. absurd (fewer p l most k j b a above)) (λ down. omega (arith, up, down)) (cases_lt k j))
    (cases_lt j k)
