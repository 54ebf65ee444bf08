-- Rounds of attempts, of any machine whose steps are a partial function.
use Rattle.std.specs.Prelude.{◌≡◌, ℕ, zero, suc, ◌+◌, ◌<◌, ◌≤◌, Bool, true, false, List, [], ◌∷◌, ◌++◌, Option, Some}
use Rattle.std.specs.Prelude.{None}

-- an item is on a list
abbrev pub IsOn : {A : Type 0} → A → List A → Type 0
IsOn {A} x xs = (before : List A) × (after : List A) × (xs ≡ before ++ x ∷ after)

-- the new state where there is one, and else the old
abbrev pub or_same : {S : Type 0} → S → Option S → S
or_same s None = s
or_same s (Some t) = t

-- 1 for a new state
abbrev pub one_if_moved : {S : Type 0} → Option S → ℕ
one_if_moved None = 0
one_if_moved (Some t) = 1

-- a machine's step: the state after a choice; None where the choice isn't enabled
module _ {S C : Type 0} (step : S → C → Option S) where
  -- the state after attempts at some choices, in order: one that isn't enabled changes nothing
  abbrev pub after_attempts : S → List C → S
  after_attempts s [] = s
  after_attempts s (c ∷ cs) = after_attempts (or_same s (step s c)) cs

  -- how many of these attempts are enabled where they come
  abbrev pub moves_in : S → List C → ℕ
  moves_in s [] = 0
  moves_in s (c ∷ cs) = one_if_moved (step s c) + moves_in (or_same s (step s c)) cs

  -- the choice, where it is enabled, and else another
  abbrev pub if_enabled : C → Option C → Option S → Option C
  if_enabled c others None = others
  if_enabled c others (Some t) = Some c

  -- the first of some choices that is enabled now
  abbrev pub first_enabled : S → List C → Option C
  first_enabled s [] = None
  first_enabled s (c ∷ cs) = if_enabled c (first_enabled s cs) (step s c)

  -- a choice is enabled
  abbrev pub IsEnabled : S → C → Type 0
  IsEnabled s c = (t : S) × (step s c ≡ Some t)

  -- the state after so many rounds, each one attempt of every choice of a list
  abbrev pub after_rounds : List C → ℕ → S → S
  after_rounds cs zero s = s
  after_rounds cs (suc k) s = after_rounds cs k (after_attempts s cs)

  -- the least number of rounds after which a test is passed
  pub record IsLeast (cs : List C) (finished : S → Bool) (s : S) (k : ℕ) : Type 0 where
    pub done : finished (after_rounds cs k s) ≡ true
    pub least : (j : ℕ) → j < k → finished (after_rounds cs j s) ≡ false

  -- rounds pass the test, and the least number of them that does is at most what is left
  pub record Finishes (cs : List C) (finished : S → Bool) (left : S → ℕ) (s : S) : Type 0 where
    pub rounds : ℕ
    pub few : rounds ≤ left s
    pub is : IsLeast cs finished s rounds

  -- what work there is: enabled steps lower what is left, in the states of which a test holds and
  -- which they keep; and
  -- while the machine isn't finished, a choice of the round is enabled
  pub record IsBoundedWork (cs : List C) (finished : S → Bool) (reached : S → Bool)
      (left : S → ℕ) : Type 0 where
    pub kept : (s t : S) (c : C) → reached s ≡ true → step s c ≡ Some t → reached t ≡ true
    pub falls : (s t : S) (c : C) → reached s ≡ true → step s c ≡ Some t → left t < left s
    pub lives : (s : S) → reached s ≡ true → finished s ≡ false
        → (c : C) × IsOn c cs × IsEnabled s c
