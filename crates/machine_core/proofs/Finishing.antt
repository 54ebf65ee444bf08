-- Rounds finish every script of a machine that is reached.
use Rattle.std.proofs.Common.{◌≡◌, inl, inr, ℕ, zero, suc, ◌+◌, ◌<◌, ◌≤◌, Bool, true, false, List, [], ◌∷◌, ◌++◌, length, Option, Some, None, refl, sym, ◌∙◌}
use Rattle.std.proofs.Common.{ap, subst, arith, append_assoc}
use Rattle.std.proofs.lemmas.List.{append-nil}
use Rattle.std.proofs.lemmas.Bool.{cases_lt, false≢true}
use Rattle.torus.specs.Shape.{Shape}
use Rattle.torus.specs.declared.step.Step.{Step}
use Rattle.one_order.specs.Events.{Event}
use Rattle.machine_parts.specs.AbstractScripts.{AreFinished}
use Rattle.machine_parts.specs.Rounds.{or_same, after_attempts, after_rounds, Finishes}
use Rattle.tile.specs.Tile.{Design}
use Rattle.machine_parts.specs.Core.{Load, State, design_of, step, round, run_of}
use Rattle.machine_parts.specs.Runs.{state_after}
use Rattle.machine_parts.proofs.RowOfRuns.{all_steps}
use Rattle.machine_parts.specs.ProgressMoves.{tiles_finished, moves_left}
use Rattle.machine_parts.proofs.Finish.{run_finishes}
use Rattle.machine_parts.specs.Machine.{Core, IsAfter, built_to, event_in, core_with, core_next, core_after, all_finished}
use Rattle.machine_parts.proofs.Machines.{after_steps, finished_of_machine}
use Rattle.machine_parts.proofs.Moves.{built, same_finished}
use Rattle.machine_core.specs.Rounds.{rounds_of}
use Rattle.machine_core.proofs.Rounds.{core_append}

-- a round more
pub rounds_push : (s : Shape) (k : ℕ) → rounds_of s (k + 1) ≡ rounds_of s k ++ round s
rounds_push s zero = append-nil (round s)
rounds_push s (suc k) =
    ap (rounds_of s) (let e : suc k + 1 ≡ suc (k + 1) = omega arith in e)
    ∙ (ap (λ (xs : List Step). round s ++ xs) (rounds_push s k) ∙ sym (append_assoc (round s) (rounds_of s k) (round s)))

-- attempts keep what a machine is built to, and its state is that of the core's rounds
with_built : (c : Core) (e : Event) (o : Option State) → built_to (core_with c e o) ≡ built_to c
with_built c e None = refl
with_built c e (Some s) = refl

with_state : (c : Core) (e : Event) (o : Option State) → (core_with c e o).state ≡ or_same c.state o
with_state c e None = refl
with_state c e (Some s) = refl

after_built : (c : Core) (xs : List Step) → built_to (core_after c xs) ≡ built_to c
after_built c [] = refl
after_built c (x ∷ xs) = after_built (core_next c x) xs ∙ with_built c (event_in (built_to c) c.state x) (step (built_to c) c.state x)

after_state : (d : Design) (c : Core) (xs : List Step) → built_to c ≡ d → (core_after c xs).state ≡ after_attempts (step d) c.state xs
after_state d c [] e = refl
after_state d c (x ∷ xs) e =
    after_state d (core_next c x) xs (with_built c (event_in (built_to c) c.state x) (step (built_to c) c.state x) ∙ e)
    ∙ ap (λ (s : State). after_attempts (step d) s xs)
    (with_state c (event_in (built_to c) c.state x) (step (built_to c) c.state x) ∙ ap (λ (b : Design). or_same c.state (step b c.state x)) e)

rounds_state : (d : Design) (k : ℕ) (c : Core) → built_to c ≡ d → (core_after c (rounds_of d.shape k)).state ≡ after_rounds (step d) (round d.shape) k c.state
rounds_state d zero c e = refl
rounds_state d (suc k) c e =
    ap (λ (x : Core). x.state) (core_append c (round d.shape) (rounds_of d.shape k))
    ∙ (rounds_state d k (core_after c (round d.shape)) (after_built c (round d.shape) ∙ e)
    ∙ ap (after_rounds (step d) (round d.shape) k) (after_state d c (round d.shape) e))

-- whether the scripts are finished after so many rounds
abbrev pub finished_after : Core → ℕ → Bool
finished_after c k = all_finished (core_after c (rounds_of c.shape k)).state

-- a machine has made so many rounds, and before each some script wasn't finished
pub record HasMade (start now : Core) (k : ℕ) : Type 0 where
  pub so_far : now ≡ core_after start (rounds_of start.shape k)
  pub busy : (j : ℕ) → j < k → finished_after start j ≡ false

pub has_none : (c : Core) → HasMade c c 0
has_none c = record { so_far = refl; busy = λ j low. absurd (omega arith) }

pub busy_now : (start now : Core) (k : ℕ) → HasMade start now k → all_finished now.state ≡ false → (j : ℕ) → j < k + 1 → finished_after start j ≡ false
busy_now start now k made is j low = elim (cases_lt j k) [
  | inl less ↦ made.busy j less
  | inr most ↦ (let e : j ≡ k = omega arith in ap (finished_after start) e ∙ (ap (λ (x : Core). all_finished x.state) (sym made.so_far) ∙ is))
]

-- a round keeps the shape
kept_shape : (start now : Core) (k : ℕ) → HasMade start now k → now.shape ≡ start.shape
kept_shape start now k made = ap (λ (x : Core). x.shape) made.so_far ∙ ap (λ (d : Design). d.shape) (after_built start (rounds_of start.shape k))

pub has_more : (start now next : Core) (k : ℕ) → HasMade start now k → all_finished now.state ≡ false → next ≡ core_after now (round now.shape)
    → HasMade start next (k + 1)
has_more start now next k made is e = record {
  so_far =
      e
      ∙ (ap (λ (s : Shape). core_after now (round s)) (kept_shape start now k made)
      ∙ (ap (λ (x : Core). core_after x (round start.shape)) made.so_far
      ∙ (sym (core_append start (rounds_of start.shape k) (round start.shape)) ∙ ap (core_after start) (sym (rounds_push start.shape k)))));
  busy = busy_now start now k made is;
}

-- there is a number of rounds after which they are, at most the moves left
module _ (l : Load) (c : Core) (steps : List Step) (h : IsAfter l c steps) where
  finishes : Finishes (step (design_of l)) (round l.shape) tiles_finished (λ s. moves_left l steps (length steps)) (state_after l steps (length steps))
  finishes = run_finishes l h.accepted steps (length steps)

  abbrev most : ℕ
  most = finishes.rounds

  shown_after : (k : ℕ) → finished_after c k ≡ tiles_finished (after_rounds (step (design_of l)) (round l.shape) k (state_after l steps (length steps)))
  shown_after k =
      ap (λ (s : Shape). all_finished (core_after c (rounds_of s k)).state) h.shape
      ∙ (same_finished (core_after c (rounds_of l.shape k)).state
      ∙ ap tiles_finished (rounds_state (design_of l) k c (built l c steps h)
      ∙ ap (after_rounds (step (design_of l)) (round l.shape) k) (h.state ∙ sym (all_steps l steps))))

  done : finished_after c most ≡ true
  done = shown_after most ∙ finishes.is.done

  -- rounds after which they aren't finished are no more
  pub few_rounds : (k : ℕ) → ((j : ℕ) → j < k → finished_after c j ≡ false) → k ≤ moves_left l steps (length steps)
  few_rounds k busy = elim (cases_lt most k) [
    | inl low ↦ absurd (false≢true (sym (busy most low) ∙ done))
    | inr high ↦ (let few = finishes.few in omega (arith, few, high))
  ]

  pub few_now : (k : ℕ) → ((j : ℕ) → j < k → finished_after c j ≡ false) → k ≤ c.moves_left
  few_now k busy = subst (λ (n : ℕ). k ≤ n) (sym h.moves) (few_rounds k busy)

  pub few_left : moves_left l steps (length steps) ≤ 15794304
  few_left = let total = h.accepted.scripts.total in let tiles = h.accepted.shape.tiles in omega (arith, total, tiles)

  pub still_few : (now : Core) (k : ℕ) → HasMade c now k → all_finished now.state ≡ false → k < 15794304
  still_few now k made is =
      let few : k + 1 ≤ moves_left l steps (length steps) = few_rounds (k + 1) (busy_now c now k made is) in
      let left = few_left in
      omega (arith, few, left)

  -- and every script of the run is finished
  pub finished_run : (k : ℕ) → finished_after c k ≡ true
      → AreFinished (run_of l (steps ++ rounds_of c.shape k)) (length (steps ++ rounds_of c.shape k)) l.scripts
  finished_run k is = (finished_of_machine l (core_after c (rounds_of c.shape k)) (steps ++ rounds_of c.shape k)
      (after_steps l c steps (rounds_of c.shape k) h)).0 is
