-- Drawn moves are moves, at most as many as are allowed, and as many where not every script is finished.
use Rattle.std.proofs.Common.{◌≡◌, ℕ, zero, suc, ◌+◌, ◌-◌, ◌%◌, ◌<◌, ◌≤◌, ◌++◌, List, [], ◌∷◌, Bool, true, false, Option, Some, None, cond, get_or, length}
use Rattle.std.proofs.Common.{refl, sym, ap, subst, ◌∙◌, arith, slice_get}
use Rattle.std.specs.Prelude.{is_some}
use Rattle.std.specs.List.{filter}
use Rattle.std.proofs.lemmas.Option.{slice_get-get_or}
use Rattle.torus.specs.declared.step.Step.{Step}
use Rattle.core_laws.specs.Rounds.{if_enabled, first_enabled, moves_in, one_if_moved, or_same}
use Rattle.one_order.specs.Load.{Load}
use Rattle.core_laws.specs.Core.{State, step, round}
use Rattle.core_laws.specs.ProgressMoves.{most_moves}
use Rattle.core_laws.specs.Machine.{Core, IsAfter, built_to, core_next, core_after, all_finished}
use Rattle.core_laws.proofs.Machines.{after_steps}
use Rattle.core_laws.proofs.Moves.{lives, most_left}
use Rattle.core_laws.specs.Enabled.{ahead_if_moved}
use Rattle.core_laws.specs.MachineMoves.{moves_of, moves_from}
use Rattle.core_laws.proofs.StepLists.{load_few, machine_few, machine_further, machine_joined}
use Rattle.rand_xoshiro.specs.SplitMix64.{mix_u64}
use Rattle.command_schedule.specs.Drawn.{drawn_moves, drawn_of, enabled_now, move_then, unless_finished}

-- what is found among those that pass a test passes it
by_test : {X : Type 0} (p : X → Bool) (x : X) (xs ys : List X) (k : ℕ) (y : X) (b : Bool) → p x ≡ b
    → ((i : ℕ) → slice_get ys i ≡ Some y → p y ≡ true) → slice_get (cond b (x ∷ ys) ys) k ≡ Some y → p y ≡ true
by_test p x xs ys k y false is rest found = rest k found
by_test p x xs ys zero y true is rest found = let same : x ≡ y = cc in ap p (sym same) ∙ is
by_test p x xs ys (suc k) y true is rest found = rest k found

passes : {X : Type 0} (p : X → Bool) (xs : List X) (k : ℕ) (y : X) → slice_get (filter p xs) k ≡ Some y → p y ≡ true
passes p [] k y found = absurd (cc)
passes p (x ∷ xs) k y found = by_test p x xs (filter p xs) k y (p x) refl (λ i h. passes p xs i y h) found

drawn_at : (xs : List Step) (word : ℕ) (y : Step) → drawn_of xs word ≡ Some y → (k : ℕ) × (slice_get xs k ≡ Some y)
drawn_at [] word y is = absurd (cc)
drawn_at (x ∷ xs) word y is = (word % length (x ∷ xs), is)

-- what is drawn is enabled
drawn_enabled : (c : Core) (xs : List Step) (word : ℕ) (y : Step) → drawn_of (enabled_now c xs) word ≡ Some y
    → is_some (step (built_to c) c.state y) ≡ true
drawn_enabled c xs word y is =
    let at : (k : ℕ) × (slice_get (enabled_now c xs) k ≡ Some y) = drawn_at (enabled_now c xs) word y is in
    passes (λ attempt. is_some (step (built_to c) c.state attempt)) xs at.0 y at.1

one_by : (x : Step) (o : Option State) → is_some o ≡ true → ahead_if_moved x o [] ≡ x ∷ []
one_by x None is = absurd (cc)
one_by x (Some t) is = refl

one_is : (c : Core) (x : Step) → is_some (step (built_to c) c.state x) ≡ true → moves_from c (x ∷ []) ≡ x ∷ []
one_is c x is = one_by x (step (built_to c) c.state x) is

-- each of them is a move
module _ (most state : ℕ) (c : Core) (rest : (d : Core) → moves_from d (drawn_moves most state d) ≡ drawn_moves most state d) where
  are_by : (o : Option Step) → ((y : Step) → o ≡ Some y → is_some (step (built_to c) c.state y) ≡ true)
      → moves_from c (move_then o (λ attempt. drawn_moves most state (core_next c attempt)))
      ≡ move_then o (λ attempt. drawn_moves most state (core_next c attempt))
  are_by None is = refl
  are_by (Some x) is =
      let more : List Step = drawn_moves most state (core_next c x) in
      machine_joined c (x ∷ []) more
      ∙ (ap (λ (xs : List Step). xs ++ moves_from (core_next c x) more) (one_is c x (is x refl)) ∙ ap (λ (xs : List Step). x ∷ xs) (rest (core_next c x)))

  are_unless : (b : Bool) (xs : List Step) → moves_from c xs ≡ xs → moves_from c (unless_finished b xs) ≡ unless_finished b xs
  are_unless true xs is = refl
  are_unless false xs is = is

pub drawn_are : (most state : ℕ) (c : Core) → moves_from c (drawn_moves most state c) ≡ drawn_moves most state c
drawn_are zero state c = refl
drawn_are (suc k) state c =
    let o : Option Step = drawn_of (enabled_now c (round c.shape)) (mix_u64 state).0 in
    are_unless k (mix_u64 state).1 c (λ d. drawn_are k (mix_u64 state).1 d) (all_finished c.state)
    (move_then o (λ attempt. drawn_moves k (mix_u64 state).1 (core_next c attempt)))
    (are_by k (mix_u64 state).1 c (λ d. drawn_are k (mix_u64 state).1 d) o (λ y is. drawn_enabled c (round c.shape) (mix_u64 state).0 y is))

-- they are not more than are allowed
few_by : (b : Bool) (o : Option Step) (k : ℕ) (rest : Step → List Step) → ((x : Step) → length (rest x) ≤ k)
    → length (unless_finished b (move_then o rest)) ≤ k + 1
few_by true o k rest few = omega arith
few_by false None k rest few = omega arith
few_by false (Some x) k rest few = let h : length (rest x) ≤ k = few x in omega (arith, h)

pub drawn_few : (most state : ℕ) (c : Core) → length (drawn_moves most state c) ≤ most
drawn_few zero state c = omega arith
drawn_few (suc k) state c =
    let one : length (drawn_moves (suc k) state c) ≤ k + 1 =
    few_by (all_finished c.state) (drawn_of (enabled_now c (round c.shape)) (mix_u64 state).0) k
    (λ attempt. drawn_moves k (mix_u64 state).1 (core_next c attempt)) (λ x. drawn_few k (mix_u64 state).1 (core_next c x)) in
    omega (arith, one)

-- while a step of a round is enabled, one is drawn
none_by : (d : Step) (x : Step) (f : State → Step → Option State) (others : Option Step) (b : Bool) (ys : List Step) (o : Option State) → is_some o ≡ b
    → if_enabled f x others o ≡ Some d → (others ≡ Some d → ys ≡ [] → ⊥) → cond b (x ∷ ys) ys ≡ [] → ⊥
none_by d x f others false ys None is first rest none = rest first none
none_by d x f others true ys None is first rest none = absurd (cc)
none_by d x f others b ys (Some t) is first rest none =
    let e : x ∷ ys ≡ [] = ap (λ (v : Bool). cond v (x ∷ ys) ys) is ∙ none in absurd (cc)

some_enabled : (c : Core) (xs : List Step) (d : Step) → first_enabled (step (built_to c)) c.state xs ≡ Some d → enabled_now c xs ≡ [] → ⊥
some_enabled c [] d first none = absurd (cc)
some_enabled c (x ∷ xs) d first none =
    none_by d x (step (built_to c)) (first_enabled (step (built_to c)) c.state xs) (is_some (step (built_to c) c.state x)) (enabled_now c xs) (step (built_to c) c.state x) refl
    first (some_enabled c xs d) none

drawn_is : (xs : List Step) (word : ℕ) → (xs ≡ [] → ⊥) → (drawn_of xs word ≡ None → ⊥)
drawn_is [] word some none = some refl
drawn_is (x ∷ xs) word some none =
    let inside : word % length (x ∷ xs) < length (x ∷ xs) = omega arith in
    let e : Some (get_or (x ∷ xs) (word % length (x ∷ xs)) x) ≡ None = sym (slice_get-get_or (x ∷ xs) (word % length (x ∷ xs)) x inside) ∙ none in
    cc

-- and a list with an enabled attempt makes a move
made_by : (f : State → Step → Option State) (x d : Step) (s : State) (others : Option Step) (n : Option State → ℕ) (o : Option State) → if_enabled f x others o ≡ Some d
    → (others ≡ Some d → 0 < n None) → 0 < one_if_moved o + n o
made_by f x d s others n None first rest = let h : 0 < n None = rest first in omega (arith, h)
made_by f x d s others n (Some t) first rest = omega arith

some_made : (f : State → Step → Option State) (s : State) (xs : List Step) (d : Step) → first_enabled f s xs ≡ Some d → 0 < moves_in f s xs
some_made f s [] d first = absurd (cc)
some_made f s (x ∷ xs) d first =
    made_by f x d s (first_enabled f s xs) (λ o. moves_in f (or_same s o) xs) (f s x) first (λ more. some_made f s xs d more)

-- Of a machine that steps led to: where not every script is finished behind them, they are as many as are
-- allowed.
module _ (l : Load) where
  goes_on : (before : List Step) (c : Core) (word : ℕ) → IsAfter l c before → all_finished c.state ≡ false
      → drawn_of (enabled_now c (round c.shape)) word ≡ None → ⊥
  goes_on before c word after busy =
      let live : (attempt : Step) × (first_enabled (step (built_to c)) c.state (round c.shape) ≡ Some attempt) = lives l c before after busy in
      drawn_is (enabled_now c (round c.shape)) word (some_enabled c (round c.shape) live.0 live.1)

  all_by : (c : Core) (k : ℕ) (b : Bool) (o : Option Step) (rest : Step → List Step) → all_finished c.state ≡ b
      → (b ≡ false → o ≡ None → ⊥) → ((x : Step) → all_finished (core_after (core_next c x) (rest x)).state ≡ false → length (rest x) ≡ k)
      → all_finished (core_after c (unless_finished b (move_then o rest))).state ≡ false
      → length (unless_finished b (move_then o rest)) ≡ k + 1
  all_by c k true o rest is some more busy = absurd (let e : true ≡ false = sym is ∙ busy in cc)
  all_by c k false None rest is some more busy = absurd (some refl refl)
  all_by c k false (Some x) rest is some more busy = let h : length (rest x) ≡ k = more x busy in omega (arith, h)

  pub drawn_all : (most state : ℕ) (before : List Step) (c : Core) → IsAfter l c before
      → all_finished (core_after c (drawn_moves most state c)).state ≡ false → length (drawn_moves most state c) ≡ most
  drawn_all zero state before c after busy = refl
  drawn_all (suc k) state before c after busy =
      let count : length (drawn_moves (suc k) state c) ≡ k + 1 =
      all_by c k (all_finished c.state) (drawn_of (enabled_now c (round c.shape)) (mix_u64 state).0)
      (λ attempt. drawn_moves k (mix_u64 state).1 (core_next c attempt)) refl
      (λ unfinished none. goes_on before c (mix_u64 state).0 after unfinished none)
      (λ x unfinished. drawn_all k (mix_u64 state).1 (before ++ x ∷ []) (core_next c x) (after_steps l c before (x ∷ []) after) unfinished)
      busy in
      omega (arith, count)

  -- a machine whose every script isn't finished has a move left
  pub left_some : (steps : List Step) (c : Core) → IsAfter l c steps → all_finished c.state ≡ false → 0 < c.moves_left
  left_some steps c after busy =
      let live : (attempt : Step) × (first_enabled (step (built_to c)) c.state (round c.shape) ≡ Some attempt) = lives l c steps after busy in
      let made : 0 < moves_in (step (built_to c)) c.state (round c.shape) = some_made (step (built_to c)) c.state (round c.shape) live.0 live.1 in
      let most : moves_in (step (built_to c)) c.state (round c.shape) ≤ c.moves_left = most_left l c steps after (round c.shape) in
      omega (arith, made, most)
