-- Fair rounds that are made while some script isn't finished.
use Rattle.std.proofs.Common.{◌≡◌, inl, inr, ℕ, suc, ◌+◌, ◌<◌, ◌≤◌, Bool, true, false, List, [], ◌∷◌, ◌++◌, Option, Some, None, refl, sym, ◌∙◌, ap, subst, arith}
use Rattle.std.proofs.lemmas.Bool.{cases_lt}
use Rattle.std.proofs.lemmas.List.{append_assoc, append-nil}
use Rattle.torus.specs.declared.step.Step.{Step}
use Rattle.machine_parts.specs.Rounds.{IsEnabled, moves_in, one_if_moved, or_same}
use Rattle.machine_parts.specs.Core.{Load, State, step}
use Rattle.machine_parts.specs.Machine.{Core, IsAfter, MakesMove, RunsOn, all_finished, built_to, core_after, core_next, core_with, event_in}
use Rattle.machine_asked.specs.Asked.{AreFewestFair, Asked, asked_attempts, fair_made, fair_rounds_made, fair_rounds_of}

-- attempts of which one is enabled where it comes are some moves
module _ (m : Core) where
  counted : (c : Core) (x : Step) (xs : List Step) (o : Option State)
      → 0 < moves_in (step (built_to m)) (core_with c (event_in (built_to m) c.state x) o).state xs
      → 0 < one_if_moved o + moves_in (step (built_to m)) (or_same c.state o) xs
  counted c x xs (Some t) rest = omega arith
  counted c x xs None rest = omega (arith, rest)

  same_build : (c : Core) (x : Step) (o : Option State) → built_to (core_with c (event_in (built_to m) c.state x) o) ≡ built_to c
  same_build c x None = refl
  same_build c x (Some t) = refl

  some_move : (c : Core) (before : List Step) (x : Step) (behind : List Step) → built_to c ≡ built_to m
      → IsEnabled (step (built_to m)) (core_after c before).state x → 0 < moves_in (step (built_to m)) c.state (before ++ x ∷ behind)
  some_move c [] x behind e enabled =
      let one : one_if_moved (step (built_to m) c.state x) ≡ 1 = ap one_if_moved enabled.1 in
      omega (arith, one)
  some_move c (b ∷ before) x behind e enabled =
      let next : core_next c b ≡ core_with c (event_in (built_to m) c.state b) (step (built_to m) c.state b) =
      ap (λ k. core_with c (event_in k c.state b) (step k c.state b)) e in
      let rest : 0 < moves_in (step (built_to m)) (core_next c b).state (before ++ x ∷ behind) =
      some_move (core_next c b) before x behind
      (ap built_to next ∙ (same_build c b (step (built_to m) c.state b) ∙ e)) enabled in
      counted c b (before ++ x ∷ behind) (step (built_to m) c.state b)
      (subst (λ (n : Core). 0 < moves_in (step (built_to m)) n.state (before ++ x ∷ behind)) next rest)

moves_count : (c : Core) (xs : List Step) → MakesMove c xs → 0 < moves_in (step (built_to c)) c.state xs
moves_count c xs h =
    subst (λ (ys : List Step). 0 < moves_in (step (built_to c)) c.state ys) (sym h.of)
    (some_move c c h.before h.attempt h.behind refl h.enabled)

-- a machine has made so many fair rounds, and before each some script wasn't finished
pub record HasMadeFair (start now : Asked) (k : ℕ) : Type 0 where
  pub so_far : now ≡ fair_rounds_made start k
  pub busy : (j : ℕ) → j < k → all_finished (fair_rounds_made start j).core.state ≡ false
  pub few : k + now.core.moves_left ≤ start.core.moves_left
  pub on : RunsOn start.core now.core (fair_rounds_of start k)

pub none_made : (v : Asked) → HasMadeFair v v 0
none_made v = record {
  so_far = refl;
  busy = λ j low. absurd (omega (arith, low));
  few = omega arith;
  on = λ l before h. subst (λ (steps : List Step). IsAfter l v.core steps) (sym (append-nil before)) h;
}

pub one_more : (start now next : Asked) (k : ℕ) → HasMadeFair start now k → all_finished now.core.state ≡ false → next ≡ fair_made now
    → next.core.moves_left + moves_in (step (built_to now.core)) now.core.state (asked_attempts now) ≡ now.core.moves_left
    → (all_finished now.core.state ≡ false → MakesMove now.core (asked_attempts now))
    → RunsOn now.core next.core (asked_attempts now) → HasMadeFair start next (k + 1)
one_more start now next k made unfinished is moves live on =
    let more : suc k ≡ k + 1 = omega arith in
    let some = moves_count now.core (asked_attempts now) (live unfinished) in
    let few = made.few in
    record {
      so_far = is ∙ (ap fair_made made.so_far ∙ ap (fair_rounds_made start) more);
      busy = λ j low. elim (cases_lt j k) [
        | inl less ↦ made.busy j less
        | inr most ↦
            (let same : j ≡ k = omega (arith, low, most) in
            ap (λ (n : ℕ). all_finished (fair_rounds_made start n).core.state) same
            ∙ (ap (λ (x : Asked). all_finished x.core.state) (sym made.so_far) ∙ unfinished))
      ];
      few = omega (arith, few, some, moves);
      on = λ l before h.
          let here : List Step = fair_rounds_of start k in
          let then : IsAfter l next.core ((before ++ here) ++ asked_attempts now) = on l (before ++ here) (made.on l before h) in
          let there : (before ++ here) ++ asked_attempts now ≡ before ++ fair_rounds_of start (k + 1) =
          append_assoc before here (asked_attempts now)
          ∙ (ap (λ (v : Asked). before ++ (here ++ asked_attempts v)) made.so_far
          ∙ ap (λ (n : ℕ). before ++ fair_rounds_of start n) more) in
          subst (λ (steps : List Step). IsAfter l next.core steps) there then;
    }

-- they are the fewest that finish every script, where so many are allowed
pub fewest_made : (start now : Asked) (most k : ℕ) → HasMadeFair start now k → k ≤ most → (k < most → all_finished now.core.state ≡ true)
    → AreFewestFair start most k
fewest_made start now most k made allowed finished = record {
  allowed = allowed;
  unfinished = made.busy;
  finished = λ less. ap (λ (x : Asked). all_finished x.core.state) (sym made.so_far) ∙ finished less;
}
