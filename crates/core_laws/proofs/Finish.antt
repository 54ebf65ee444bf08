-- Rounds finish every script.
use Rattle.std.proofs.Common.{◌≡◌, ℕ, ◌-◌, ◌<◌, false, List, [], ◌∷◌, ◌++◌, length, take, Option, Some, None, option_map, refl, ◌∙◌, ap, subst, arith}
use Rattle.torus.specs.declared.step.Step.{Step}
use Rattle.core_laws.specs.Rounds.{first_enabled, one_if_moved, Finishes}
use Rattle.core_laws.proofs.Rounds.{rounds_finish}
use Rattle.core_laws.proofs.Simulates.{first_shown, finishes_shown}
use Rattle.core_laws.specs.Tile.{Design}
use Rattle.core_laws.specs.Core.{Load, State, design_of, first_state, step, or_same, after, round}
use Rattle.core_laws.specs.Runs.{IsAcceptedLoad, state_after}
use Rattle.core_laws.proofs.AgentSteps.{option_map_some}
use Rattle.core_laws.specs.ProgressMoves.{IsLive, tiles_finished, moves_made, most_moves, moves_left}
use Rattle.core_laws.proofs.Live.{is_live}
use Rattle.core_laws.proofs.Made.{take_all, after_push, made_push}
use Rattle.core_laws.proofs.Budget.{few_moves}

module _ (l : Load) (ok : IsAcceptedLoad l) where
  abbrev d : Design
  d = design_of l

  -- a run as a machine of its own: an enabled step is added to the list
  abbrev longer : List Step → Step → Option (List Step)
  longer xs a = option_map (λ s. xs ++ a ∷ []) (step d (after l xs) a)

  -- the state after the list is the machine's
  shown_by : (xs : List Step) (a : Step) (o : Option State) → step d (after l xs) a ≡ o → option_map (after l) (option_map (λ s. xs ++ a ∷ []) o) ≡ o
  shown_by xs a None is = refl
  shown_by xs a (Some t) is = ap Some (after_push d xs (first_state l) a ∙ ap (or_same (after l xs)) is)

  shown : (xs : List Step) (a : Step) → option_map (after l) (longer xs a) ≡ step d (after l xs) a
  shown xs a = shown_by xs a (step d (after l xs) a) refl

  -- what is left of a list
  abbrev left_of : List Step → ℕ
  left_of xs = most_moves l - moves_made l xs

  falls : (xs ys : List Step) (a : Step) → longer xs a ≡ Some ys → left_of ys < left_of xs
  falls xs ys a is =
      let p = option_map_some (λ (s : State). xs ++ a ∷ []) (step d (after l xs) a) ys is in
      let one : one_if_moved (step d (after l xs) a) ≡ 1 = ap one_if_moved p.1 in
      let made = made_push d xs (first_state l) a in
      let same = ap (moves_made l) p.2 in
      let few = few_moves l ok ys in
      omega arith

  lives : (xs : List Step) → tiles_finished (after l xs) ≡ false → (a : Step) × (first_enabled longer xs (round l.shape) ≡ Some a)
  lives xs busy =
      let now : state_after l xs (length xs) ≡ after l xs = ap (after l) (take_all xs) in
      let live : IsLive d (after l xs) = subst (IsLive d) now (is_live l ok xs (length xs) (ap tiles_finished now ∙ busy)) in
      (live.0, first_shown longer (step d) (after l) shown xs (round l.shape) ∙ live.1)

  -- From every list of attempts on rounds finish every script, and the least number of them that does is at most the moves left.
  list_finishes : (xs : List Step) → Finishes longer (round l.shape) (λ ys. tiles_finished (after l ys)) left_of xs
  list_finishes xs =
      rounds_finish longer (round l.shape) (λ ys. tiles_finished (after l ys)) (λ ys. Unit {0}) left_of (λ ys zs a inv is. tt)
      (λ ys zs a inv is. falls ys zs a is) (λ ys inv busy. lives ys busy) xs tt

  pub run_finishes : (steps : List Step) (n : ℕ) → Finishes (step d) (round l.shape) tiles_finished (λ s. moves_left l steps n) (state_after l steps n)
  run_finishes steps n = finishes_shown longer (step d) (after l) shown (round l.shape) tiles_finished left_of (take n steps) (list_finishes (take n steps))
