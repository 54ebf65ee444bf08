-- Rounds in which no operation begins.
use Rattle.std.proofs.Common.{◌≡◌, ℕ, ◌+◌, ◌*◌, ◌≤◌, suc, Bool, true, false, List, [], ◌∷◌, ◌++◌, length, Option, Some, None, sym, ap, ◌∙◌, refl, arith, subst, slice_get, append_assoc, append-nil}
use Rattle.std.specs.Prelude.{if◌then◌else◌, take}
use Rattle.std.proofs.lemmas.List.{take_all}
use Rattle.torus.specs.Shape.{tiles_of}
use Rattle.torus.specs.declared.step.Step.{Step}
use Rattle.wormhole.specs.Net.{IsOn}
use Rattle.wormhole.specs.State.{empty}
use Rattle.wormhole.specs.Events.{network_after}
use Rattle.wormhole.specs.Weight.{sum_below}
use Rattle.tile.specs.Tile.{Design}
use Rattle.tile.specs.Agents.{agent_kind}
use Rattle.core_laws.specs.Core.{Load, State, design_of, first_state, step, or_same, next, after, after_from}
use Rattle.core_laws.specs.Runs.{IsAcceptedLoad, state_after}
use Rattle.core_laws.specs.Machine.{Core, built_to, core_with, core_next, event_in}
use Rattle.core_laws.specs.Network.{net_of}
use Rattle.core_laws.proofs.Made.{after_push, still}
use Rattle.core_laws.proofs.Stands.{tile_at}
use Rattle.fair_rounds.specs.Burden.{burden}
use Rattle.fair_rounds.specs.Chores.{unsent_of, served_count, chores}
use Rattle.fair_rounds.specs.Charges.{charge}
use Rattle.fair_rounds.specs.Costs.{cost_if_made, cost, cost_of}
use Rattle.fair_rounds.specs.NetRuns.{net_run}
use Rattle.machine_core.specs.Guarded.{begins_operation, without_begins}
use Rattle.fair_rounds.proofs.Charges.{step_charges}
use Rattle.fair_rounds.proofs.NetRuns.{noted_run, net_append}
use Rattle.fair_rounds.proofs.RoundMoves.{Finds}

-- the steps that begin no operation, from state to state
abbrev pub plain_of : Design → State → List Step → List Step
plain_of d s [] = []
plain_of d s (a ∷ steps) = if begins_operation s a then plain_of d s steps else a ∷ plain_of d (next d s a) steps

next_state : (c : Core) (a : Step) → (core_next c a).state ≡ next (built_to c) c.state a
next_state c a = by_step (step (built_to c) c.state a)
  where
    by_step : (o : Option State) → (core_with c (event_in (built_to c) c.state a) o).state ≡ or_same c.state o
    by_step None = refl
    by_step (Some s) = refl

next_design : (c : Core) (a : Step) → built_to (core_next c a) ≡ built_to c
next_design c a = by_step (step (built_to c) c.state a)
  where
    by_step : (o : Option State) → built_to (core_with c (event_in (built_to c) c.state a) o) ≡ built_to c
    by_step None = refl
    by_step (Some s) = refl

pub plain_is : (steps : List Step) (c : Core) (d : Design) (s : State) → built_to c ≡ d → c.state ≡ s → without_begins c steps ≡ plain_of d s steps
plain_is [] c d s built state = refl
plain_is (a ∷ steps) c d s built state =
    by_begin (plain_is steps c d s built state)
    (plain_is steps (core_next c a) d (next d s a) (next_design c a ∙ built) (next_state c a ∙ (ap (λ (e : Design). next e c.state a) built ∙ ap (λ (u : State). next d u a) state)))
    (begins_operation s a) (ap (λ (u : State). begins_operation u a) state)
  where
    by_begin : without_begins c steps ≡ plain_of d s steps → without_begins (core_next c a) steps ≡ plain_of d (next d s a) steps
        → (b : Bool) → begins_operation c.state a ≡ b
        → (if begins_operation c.state a then without_begins c steps else a ∷ without_begins (core_next c a) steps)
        ≡ (if b then plain_of d s steps else a ∷ plain_of d (next d s a) steps)
    by_begin left here b is =
        ap (λ (x : Bool). if x then without_begins c steps else a ∷ without_begins (core_next c a) steps) is ∙ by_bit b
      where
        by_bit : (b : Bool) → (if b then without_begins c steps else a ∷ without_begins (core_next c a) steps)
            ≡ (if b then plain_of d s steps else a ∷ plain_of d (next d s a) steps)
        by_bit true = left
        by_bit false = ap (λ xs. a ∷ xs) here

-- two lists
pub plain_append : (d : Design) (s : State) (a b : List Step) → plain_of d s (a ++ b) ≡ plain_of d s a ++ plain_of d (after_from d s (plain_of d s a)) b
plain_append d s [] b = refl
plain_append d s (x ∷ a) b = by_begin (begins_operation s x) (plain_append d s a b) (plain_append d (next d s x) a b)
  where
    by_begin : (t : Bool) → plain_of d s (a ++ b) ≡ plain_of d s a ++ plain_of d (after_from d s (plain_of d s a)) b
        → plain_of d (next d s x) (a ++ b) ≡ plain_of d (next d s x) a ++ plain_of d (after_from d (next d s x) (plain_of d (next d s x) a)) b
        → (if t then plain_of d s (a ++ b) else x ∷ plain_of d (next d s x) (a ++ b))
        ≡ (if t then plain_of d s a else x ∷ plain_of d (next d s x) a)
        ++ plain_of d (after_from d s (if t then plain_of d s a else x ∷ plain_of d (next d s x) a)) b
    by_begin true left right = left
    by_begin false left right = ap (λ xs. x ∷ xs) right

-- an attempt of the list that begins nothing where what holds is such
pub plain_finds : (d : Design) (a : Step) (Q : State → Type 0) → ((s : State) → Q s → begins_operation s a ≡ false)
    → (steps : List Step) (s : State) → IsOn a steps → Finds d a Q s (plain_of d s steps)
plain_finds d a Q plain steps s on =
    let before : List Step = plain_of d s on.0 in
    record {
      before = before;
      rest = plain_of d (after_from d s before) (a ∷ on.1);
      is = ap (plain_of d s) on.2 ∙ plain_append d s on.0 (a ∷ on.1);
      found = λ q. (
        plain_of d (next d (after_from d s before) a) on.1,
        ap (λ (b : Bool). if b then plain_of d (after_from d s before) on.1 else a ∷ plain_of d (next d (after_from d s before) a) on.1)
            (plain (after_from d s before) q),
      );
    }

pub plain_on : (d : Design) (a : Step) → ((s : State) → begins_operation s a ≡ false) → (steps : List Step) (s : State) → IsOn a steps → IsOn a (plain_of d s steps)
plain_on d a plain steps s on =
    let f = plain_finds d a (λ s. Unit {0}) (λ s q. plain s) steps s on in
    let at = f.found tt in
    (f.before, at.0, f.is ∙ ap (λ xs. f.before ++ xs) at.1)

take_front : (xs ys : List Step) → take (length xs) (xs ++ ys) ≡ xs
take_front [] ys = refl
take_front (x ∷ xs) ys = ap (λ zs. x ∷ zs) (take_front xs ys)

-- what is still to do after a list
module _ (l : Load) (ok : IsAcceptedLoad l) where
  abbrev d : Design
  d = design_of l

  -- what a list of steps leaves to do
  abbrev pub left_to_do : List Step → ℕ
  left_to_do xs = burden (net_of (design_of l)) (net_run (design_of l) (empty (net_of (design_of l))) (first_state l) xs)
      + 30 * sum_below (tiles_of l.shape) (λ b. unsent_of (tile_at (after l xs) b).bank.to_put)

  pub chores_are : (xs : List Step) → chores l xs (length xs) ≡ left_to_do xs
  chores_are xs =
      let all : take (length xs) xs ≡ xs = take_all (length xs) xs (omega arith) in
      ap (λ g. burden (net_of (design_of l)) g + 30 * sum_below (tiles_of l.shape) (λ b. unsent_of (tile_at (state_after l xs (length xs)) b).bank.to_put))
      (noted_run l xs (length xs) ∙ ap (net_run (design_of l) (empty (net_of (design_of l))) (first_state l)) all)
      ∙ ap (λ ys. burden (net_of (design_of l)) (net_run (design_of l) (empty (net_of (design_of l))) (first_state l) xs)
      + 30 * sum_below (tiles_of l.shape) (λ b. unsent_of (tile_at (after l ys) b).bank.to_put)) all

  -- chores before the last of some steps
  chores_before : (xs : List Step) (a : Step) → chores l (xs ++ a ∷ []) (length xs) ≡ left_to_do xs
  chores_before xs a =
      let first : take (length xs) (xs ++ a ∷ []) ≡ xs = take_front xs (a ∷ []) in
      ap (λ g. burden (net_of (design_of l)) g + 30 * sum_below (tiles_of l.shape) (λ b. unsent_of (tile_at (state_after l (xs ++ a ∷ []) (length xs)) b).bank.to_put))
      (noted_run l (xs ++ a ∷ []) (length xs) ∙ ap (net_run (design_of l) (empty (net_of (design_of l))) (first_state l)) first)
      ∙ ap (λ ys. burden (net_of (design_of l)) (net_run (design_of l) (empty (net_of (design_of l))) (first_state l) xs)
      + 30 * sum_below (tiles_of l.shape) (λ b. unsent_of (tile_at (after l ys) b).bank.to_put)) first

  get_last : (xs : List Step) (a : Step) → slice_get (xs ++ a ∷ []) (length xs) ≡ Some a
  get_last [] a = refl
  get_last (x ∷ xs) a = get_last xs a

  longer : (xs : List Step) (a : Step) → length (xs ++ a ∷ []) ≡ suc (length xs)
  longer [] a = refl
  longer (x ∷ xs) a = ap suc (longer xs a)

  one_step : (xs : List Step) (a : Step) (o : Option State) → step (design_of l) (after l xs) a ≡ o → begins_operation (after l xs) a ≡ false
      → left_to_do (xs ++ a ∷ []) + 91 * served_count (design_of l) (after l xs) + cost (design_of l) (after l xs) a
      ≤ left_to_do xs + 91 * served_count (design_of l) (after l (xs ++ a ∷ []))
  one_step xs a None is begin =
      let now : after l (xs ++ a ∷ []) ≡ after l xs = after_push (design_of l) xs (first_state l) a ∙ ap (or_same (after l xs)) is in
      let net : net_run (design_of l) (empty (net_of (design_of l))) (first_state l) (xs ++ a ∷ [])
      ≡ net_run (design_of l) (empty (net_of (design_of l))) (first_state l) xs =
      net_append (design_of l) (empty (net_of (design_of l))) (first_state l) xs (a ∷ [])
      ∙ ap (λ e. network_after (net_of (design_of l)) (net_run (design_of l) (empty (net_of (design_of l))) (first_state l) xs) e)
      (still (design_of l) (after l xs) a is) in
      let none : cost (design_of l) (after l xs) a ≡ 0 = ap (λ o. cost_if_made o (charge (agent_kind a.agent) a.choice)) is in
      let same : left_to_do (xs ++ a ∷ []) ≡ left_to_do xs =
      ap (λ g. burden (net_of (design_of l)) g + 30 * sum_below (tiles_of l.shape) (λ b. unsent_of (tile_at (after l (xs ++ a ∷ [])) b).bank.to_put)) net
      ∙ ap (λ (u : State). burden (net_of (design_of l)) (net_run (design_of l) (empty (net_of (design_of l))) (first_state l) xs)
      + 30 * sum_below (tiles_of l.shape) (λ b. unsent_of (tile_at u b).bank.to_put)) now in
      let served : served_count (design_of l) (after l (xs ++ a ∷ [])) ≡ served_count (design_of l) (after l xs) = ap (served_count (design_of l)) now in
      omega (arith, none, same, served)
  one_step xs a (Some u) is begin =
      let before : state_after l (xs ++ a ∷ []) (length xs) ≡ after l xs = ap (after l) (take_front xs (a ∷ [])) in
      let all : take (suc (length xs)) (xs ++ a ∷ []) ≡ xs ++ a ∷ [] =
      ap (λ n. take n (xs ++ a ∷ [])) (sym (longer xs a)) ∙ take_all (length (xs ++ a ∷ [])) (xs ++ a ∷ []) (omega arith) in
      let behind : state_after l (xs ++ a ∷ []) (suc (length xs)) ≡ after l (xs ++ a ∷ []) = ap (after l) all in
      let falls = step_charges l ok (xs ++ a ∷ []) (length xs) a u (get_last xs a) (ap (λ (v : State). step (design_of l) v a) before ∙ is)
      (ap (λ (v : State). begins_operation v a) before ∙ begin) in
      let counts : cost (design_of l) (after l xs) a ≡ charge (agent_kind a.agent) a.choice = ap (λ o. cost_if_made o (charge (agent_kind a.agent) a.choice)) is in
      let now = chores_before xs a in
      let chores_then : chores l (xs ++ a ∷ []) (suc (length xs)) ≡ left_to_do (xs ++ a ∷ []) =
      ap (chores l (xs ++ a ∷ [])) (sym (longer xs a)) ∙ chores_are (xs ++ a ∷ []) in
      let s0 : served_count (design_of l) (state_after l (xs ++ a ∷ []) (length xs)) ≡ served_count (design_of l) (after l xs) = ap (served_count (design_of l)) before in
      let s1 : served_count (design_of l) (state_after l (xs ++ a ∷ []) (suc (length xs))) ≡ served_count (design_of l) (after l (xs ++ a ∷ [])) =
      ap (served_count (design_of l)) behind in
      omega (arith, falls, counts, now, chores_then, s0, s1)

  -- a list in which nothing begins does what it costs
  pub list_falls : (steps xs : List Step)
      → left_to_do (xs ++ plain_of (design_of l) (after l xs) steps) + 91 * served_count (design_of l) (after l xs)
      + cost_of (design_of l) (after l xs) (plain_of (design_of l) (after l xs) steps)
      ≤ left_to_do xs + 91 * served_count (design_of l) (after l (xs ++ plain_of (design_of l) (after l xs) steps))
  list_falls [] xs =
      let same : left_to_do (xs ++ []) ≡ left_to_do xs = ap left_to_do (append-nil xs) in
      let served : served_count (design_of l) (after l (xs ++ [])) ≡ served_count (design_of l) (after l xs) = ap (λ ys. served_count (design_of l) (after l ys)) (append-nil xs) in
      omega (arith, same, served)
  list_falls (a ∷ steps) xs = by_begin (begins_operation (after l xs) a) refl (list_falls steps xs)
      (subst (λ (u : State). left_to_do ((xs ++ a ∷ []) ++ plain_of (design_of l) u steps) + 91 * served_count (design_of l) u
      + cost_of (design_of l) u (plain_of (design_of l) u steps)
      ≤ left_to_do (xs ++ a ∷ []) + 91 * served_count (design_of l) (after l ((xs ++ a ∷ []) ++ plain_of (design_of l) u steps)))
      (after_push (design_of l) xs (first_state l) a) (list_falls steps (xs ++ a ∷ [])))
    where
      by_begin : (b : Bool) → begins_operation (after l xs) a ≡ b
          → left_to_do (xs ++ plain_of (design_of l) (after l xs) steps) + 91 * served_count (design_of l) (after l xs)
          + cost_of (design_of l) (after l xs) (plain_of (design_of l) (after l xs) steps)
          ≤ left_to_do xs + 91 * served_count (design_of l) (after l (xs ++ plain_of (design_of l) (after l xs) steps))
          → left_to_do ((xs ++ a ∷ []) ++ plain_of (design_of l) (next (design_of l) (after l xs) a) steps)
          + 91 * served_count (design_of l) (next (design_of l) (after l xs) a)
          + cost_of (design_of l) (next (design_of l) (after l xs) a) (plain_of (design_of l) (next (design_of l) (after l xs) a) steps)
          ≤ left_to_do (xs ++ a ∷ [])
          + 91 * served_count (design_of l) (after l ((xs ++ a ∷ []) ++ plain_of (design_of l) (next (design_of l) (after l xs) a) steps))
          → left_to_do (xs ++ (if b then plain_of (design_of l) (after l xs) steps else a ∷ plain_of (design_of l) (next (design_of l) (after l xs) a) steps))
          + 91 * served_count (design_of l) (after l xs)
          + cost_of (design_of l) (after l xs) (if b then plain_of (design_of l) (after l xs) steps else a ∷ plain_of (design_of l) (next (design_of l) (after l xs) a) steps)
          ≤ left_to_do xs + 91 * served_count (design_of l)
          (after l (xs ++ (if b then plain_of (design_of l) (after l xs) steps else a ∷ plain_of (design_of l) (next (design_of l) (after l xs) a) steps)))
      by_begin true is left right = left
      by_begin false is left right =
          let one = one_step xs a (step (design_of l) (after l xs) a) refl is in
          let rest : List Step = plain_of (design_of l) (next (design_of l) (after l xs) a) steps in
          let list : (xs ++ a ∷ []) ++ rest ≡ xs ++ a ∷ rest = append_assoc xs (a ∷ []) rest in
          let todo : left_to_do ((xs ++ a ∷ []) ++ rest) ≡ left_to_do (xs ++ a ∷ rest) = ap left_to_do list in
          let served : served_count (design_of l) (after l ((xs ++ a ∷ []) ++ rest)) ≡ served_count (design_of l) (after l (xs ++ a ∷ rest)) =
          ap (λ ys. served_count (design_of l) (after l ys)) list in
          let now : served_count (design_of l) (after l (xs ++ a ∷ [])) ≡ served_count (design_of l) (next (design_of l) (after l xs) a) =
          ap (served_count (design_of l)) (after_push (design_of l) xs (first_state l) a) in
          omega (arith, one, right, todo, served, now)
