-- Of a list of attempts those that are enabled where they come, for any machine whose steps are a
-- partial function.
use Rattle.std.specs.Prelude.{◌≡◌, List, [], ◌∷◌, ◌++◌, Option, Some, None}
use Rattle.core_laws.specs.Rounds.{or_same, after_attempts, IsEnabled}

-- the first list has items of the second, in their order there
pub data IsSublist {A : Type 0} : List A → List A → Type 0 where
  nothing : IsSublist [] []
  keeps : (x : A) (xs ys : List A) → IsSublist xs ys → IsSublist (x ∷ xs) (x ∷ ys)
  leaves : (x : A) (xs ys : List A) → IsSublist xs ys → IsSublist xs (x ∷ ys)

-- a choice in front of others, where it made a new state
abbrev pub ahead_if_moved : {S C : Type 0} → C → Option S → List C → List C
ahead_if_moved c None others = others
ahead_if_moved c (Some t) others = c ∷ others

module _ {S C : Type 0} (step : S → C → Option S) where
  -- of attempts from a state, those that are enabled where they come
  abbrev pub enabled_of : S → List C → List C
  enabled_of s [] = []
  enabled_of s (c ∷ cs) = ahead_if_moved c (step s c) (enabled_of (or_same s (step s c)) cs)

  -- each of these attempts is enabled where it comes
  abbrev pub AreEnabled : S → List C → Type 0
  AreEnabled s cs = (before : List C) (c : C) (behind : List C) → cs ≡ before ++ c ∷ behind
      → IsEnabled step (after_attempts step s before) c
