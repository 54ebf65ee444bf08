-- The moves that a machine has left, and that it makes one where a script isn't finished.
use Rattle.std.proofs.Common.{◌≡◌, ◌+◌, ◌<◌, ◌≤◌, false, List, [], ◌∷◌, ◌++◌, length, Option, Some, None, refl, sym, ◌∙◌, ap, subst, arith}
use Rattle.std.proofs.lemmas.List.Folds.{list_all-map}
use Rattle.torus.specs.Shape.{Shape}
use Rattle.torus.specs.declared.step.Step.{Step}
use Rattle.one_order.specs.Following.{is_finished}
use Rattle.one_order.specs.ProcessorRecord.{ProcessorRecord}
use Rattle.core_laws.specs.Rounds.{or_same, one_if_moved, moves_in, IsEnabled}
use Rattle.core_laws.specs.Tile.{Design, TileState}
use Rattle.core_laws.specs.Core.{Load, State, design_of, first_state, step, round, after}
use Rattle.core_laws.specs.Runs.{state_after}
use Rattle.core_laws.specs.ProgressMoves.{IsLive, tiles_finished, moves_made, most_moves}
use Rattle.core_laws.proofs.Made.{take_all}
use Rattle.core_laws.proofs.Budget.{few_moves}
use Rattle.core_laws.proofs.Live.{is_live, round_makes_move}
use Rattle.core_laws.specs.Machine.{Core, IsAfter, MakesMove, built_to, event_in, core_with, core_next, core_after, all_finished}
use Rattle.core_laws.proofs.Counted.{left_is, made_append}
use Rattle.core_laws.proofs.Machines.{named_machine, after_steps}

pub same_finished : (s : State) → all_finished s ≡ tiles_finished s
same_finished s = list_all-map (λ (b : ProcessorRecord). is_finished b.following) (λ (t : TileState). t.processor.operations) s.tiles

-- where an attempt of a list is enabled, it is one of the machine's moves
module _ (d : Design) where
  by_first : (c : Core) (x : Step) (xs : List Step) (o : Option State) → step (built_to c) c.state x ≡ o → (0 < moves_in (step d) c.state xs → MakesMove c xs)
      → 0 < one_if_moved o + moves_in (step d) (or_same c.state o) xs → MakesMove c (x ∷ xs)
  by_first c x xs (Some t) is rest h = record { before = []; attempt = x; behind = xs; of = refl; enabled = (t, is) }
  by_first c x xs None is rest h =
      let more : MakesMove c xs = rest (omega arith) in
      let stays : core_next c x ≡ c = ap (core_with c (event_in (built_to c) c.state x)) is in
      record {
        before = x ∷ more.before;
        attempt = more.attempt;
        behind = more.behind;
        of = ap (λ (ys : List Step). x ∷ ys) more.of;
        enabled = subst (λ (e : Core). IsEnabled (step (built_to c)) (core_after e more.before).state more.attempt) (sym stays) more.enabled;
      }

  pub makes_move : (c : Core) (xs : List Step) → built_to c ≡ d → 0 < moves_in (step d) c.state xs → MakesMove c xs
  makes_move c [] e h = absurd (omega arith)
  makes_move c (x ∷ xs) e h =
      by_first c x xs (step d c.state x) (ap (λ (b : Design). step b c.state x) e) (makes_move c xs e) h

module _ (l : Load) (c : Core) (steps : List Step) (h : IsAfter l c steps) where
  pub built : built_to c ≡ design_of l
  built = ap built_to (named_machine l c steps h)

  -- moves made and moves left
  pub all_moves : moves_made l steps + c.moves_left ≡ most_moves l
  all_moves =
      let few = few_moves l h.accepted steps in
      let left = left_is l steps in
      let now = h.moves in
      omega (arith, few, left, now)

  -- the moves of further steps
  more_made : (more : List Step) → moves_made l (steps ++ more) ≡ moves_made l steps + moves_in (step (built_to c)) c.state more
  more_made more =
      let both = made_append (design_of l) (first_state l) steps more in
      let same : moves_in (step (built_to c)) c.state more ≡ moves_in (step (design_of l)) (after l steps) more
      = ap (λ (d : Design). moves_in (step d) c.state more) built ∙ ap (λ (s : State). moves_in (step (design_of l)) s more) h.state in
      omega (arith, both, same)

  pub most_left : (more : List Step) → moves_in (step (built_to c)) c.state more ≤ c.moves_left
  most_left more =
      let few = few_moves l h.accepted (steps ++ more) in
      let made = more_made more in
      let all = all_moves in
      omega (arith, few, made, all)

  -- what is left behind them
  pub left_after : (more : List Step) → (core_after c more).moves_left + moves_in (step (built_to c)) c.state more ≡ c.moves_left
  left_after more =
      let then = (after_steps l c steps more h).moves in
      let left = left_is l (steps ++ more) in
      let few = few_moves l h.accepted (steps ++ more) in
      let made = more_made more in
      let all = all_moves in
      omega (arith, then, left, few, made, all)

  -- the state is that after all steps
  state_is : state_after l steps (length steps) ≡ c.state
  state_is = ap (after l) (take_all steps) ∙ sym h.state

  module _ (busy : all_finished c.state ≡ false) where
    unfinished : tiles_finished (state_after l steps (length steps)) ≡ false
    unfinished = ap tiles_finished state_is ∙ (sym (same_finished c.state) ∙ busy)

    -- a step of a round is enabled
    pub lives : IsLive (built_to c) c.state
    lives = subst (λ (d : Design). IsLive d c.state) (sym built)
        (subst (IsLive (design_of l)) state_is (is_live l h.accepted steps (length steps) unfinished))

    some_move : 0 < moves_in (step (design_of l)) c.state (round c.shape)
    some_move = subst (λ (s : Shape). 0 < moves_in (step (design_of l)) c.state (round s)) (sym h.shape)
        (subst (λ (s : State). 0 < moves_in (step (design_of l)) s (round l.shape)) state_is (round_makes_move l h.accepted steps (length steps) unfinished))

    -- and a round makes a move
    pub round_moves : MakesMove c (round c.shape)
    round_moves = makes_move (design_of l) c (round c.shape) built some_move
