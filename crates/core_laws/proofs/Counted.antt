-- The moves left of a longer list of steps.
use Rattle.std.proofs.Common.{◌≡◌, ◌+◌, ◌-◌, List, [], ◌∷◌, ◌++◌, length, ap, arith}
use Rattle.torus.specs.declared.step.Step.{Step}
use Rattle.core_laws.specs.Rounds.{moves_in, one_if_moved}
use Rattle.core_laws.specs.Rounds as rounds
use Rattle.core_laws.specs.Tile.{Design}
use Rattle.core_laws.specs.Core.{Load, State, design_of, first_state, step, next, after, after_from}
use Rattle.core_laws.specs.ProgressMoves.{moves_made, most_moves, moves_left}
use Rattle.core_laws.proofs.Made.{or_is, take_all, made_push}

-- of all steps
pub left_is : (l : Load) (steps : List Step) → moves_left l steps (length steps) ≡ most_moves l - moves_made l steps
left_is l steps = ap (λ (xs : List Step). most_moves l - moves_made l xs) (take_all steps)

-- of one attempt more: one less where it is enabled
pub left_push : (l : Load) (steps : List Step) (attempt : Step)
    → moves_left l (steps ++ attempt ∷ []) (length (steps ++ attempt ∷ []))
    ≡ moves_left l steps (length steps) - one_if_moved (step (design_of l) (after l steps) attempt)
left_push l steps attempt =
    let now = left_is l steps in
    let then = left_is l (steps ++ attempt ∷ []) in
    let more = made_push (design_of l) steps (first_state l) attempt in
    omega (arith, now, then, more)

-- the moves of two lists, one after the other
pub made_append : (d : Design) (s : State) (xs ys : List Step)
    → moves_in (step d) s (xs ++ ys) ≡ moves_in (step d) s xs + moves_in (step d) (after_from d s xs) ys
made_append d s [] ys = omega arith
made_append d s (x ∷ xs) ys =
    let rest = made_append d (rounds.or_same s (step d s x)) xs ys in
    let same : moves_in (step d) (after_from d (rounds.or_same s (step d s x)) xs) ys ≡ moves_in (step d) (after_from d (next d s x) xs) ys =
    ap (λ (t : State). moves_in (step d) (after_from d t xs) ys) (or_is s (step d s x)) in
    omega (arith, rest, same)
