-- Rounds that are made while an operation isn't answered.
use Rattle.std.proofs.Common.{◌≡◌, inl, inr, ℕ, ◌+◌, ◌<◌, ◌||◌, Bool, true, false, List, ◌++◌, refl, sym, ◌∙◌, ap, subst, arith}
use Rattle.std.specs.Prelude.{is_some}
use Rattle.std.proofs.lemmas.Bool.{cases_lt}
use Rattle.torus.specs.declared.step.Step.{Step}
use Rattle.machine_parts.specs.Core.{Load, round}
use Rattle.machine_parts.specs.Machine.{Core, IsAfter, RunsOn, core_after, all_finished}
use Rattle.machine_parts.proofs.Machines.{after_steps}
use Rattle.machine_core.specs.Rounds.{rounds_of}
use Rattle.machine_core.proofs.Finishing.{HasMade, has_none, has_more, still_few}
use Rattle.machine_asked.specs.Asked.{answer_to, is_settled, NeedsToWait}

-- whether nobody has to wait after so many rounds
abbrev pub settled_after : Core → ℕ → ℕ → ℕ → Bool
settled_after c p index k = is_settled (core_after c (rounds_of c.shape k)) p index

-- a machine has made so many rounds, and before each of them the operation had to be waited for
pub record HasWaited (start now : Core) (p index k : ℕ) : Type 0 where
  pub made : HasMade start now k
  pub waiting : (j : ℕ) → j < k → settled_after start p index j ≡ false

pub waits_none : (c : Core) (p index : ℕ) → HasWaited c c p index 0
waits_none c p index = record { made = has_none c; waiting = λ j low. absurd (omega arith) }

-- neither of two is
neither : (a b : Bool) → (a || b) ≡ false → b ≡ false
neither true b e = cc
neither false b e = e

pub busy : (c : Core) (p index : ℕ) → is_settled c p index ≡ false → all_finished c.state ≡ false
busy c p index e = neither (is_some (answer_to c p index)) (all_finished c.state) e

pub waits_more : (start now next : Core) (p index k : ℕ) → HasWaited start now p index k → is_settled now p index ≡ false
    → next ≡ core_after now (round now.shape) → HasWaited start next p index (k + 1)
waits_more start now next p index k h e is = record {
  made = has_more start now next k h.made (busy now p index e) is;
  waiting = λ j low. elim (cases_lt j k) [
    | inl less ↦ h.waiting j less
    | inr most ↦ (let same : j ≡ k = omega arith in
        ap (settled_after start p index) same ∙ (ap (λ (x : Core). is_settled x p index) (sym h.made.so_far) ∙ e))
  ];
}

-- the rounds are the least number
pub waited : (start now : Core) (p index k : ℕ) → HasWaited start now p index k → is_settled now p index ≡ true → NeedsToWait start p index k
waited start now p index k h e =
    record { settled = ap (λ (x : Core). is_settled x p index) (sym h.made.so_far) ∙ e; least = h.waiting }

pub on_after : (start now : Core) (k : ℕ) → now ≡ core_after start (rounds_of start.shape k) → RunsOn start now (rounds_of start.shape k)
on_after start now k is = λ l before h. subst (λ (x : Core). IsAfter l x (before ++ rounds_of start.shape k)) (sym is)
    (after_steps l start before (rounds_of start.shape k) h)

pub few_rounds : (l : Load) (start now : Core) (steps : List Step) (p index k : ℕ) → IsAfter l start steps → HasWaited start now p index k
    → is_settled now p index ≡ false → k < 15794304
few_rounds l start now steps p index k h made e = still_few l start steps h now k made.made (busy now p index e)
