-- The enabled attempts of a list.
use Rattle.std.proofs.Common.{◌≡◌, ℕ, ◌+◌, List, [], ◌∷◌, ◌++◌, length, Option, Some, None, refl, sym, ◌∙◌, ap, subst, arith}
use Rattle.core_laws.specs.Rounds.{or_same, one_if_moved, after_attempts, moves_in, IsEnabled}
use Rattle.core_laws.specs.Enabled.{IsSublist, nothing, keeps, leaves, ahead_if_moved, enabled_of, AreEnabled}

module _ {S C : Type 0} (step : S → C → Option S) where
  part_by : (c : C) (o : Option S) (xs cs : List C) → IsSublist xs cs → IsSublist (ahead_if_moved c o xs) (c ∷ cs)
  part_by c None xs cs is = leaves c xs cs is
  part_by c (Some t) xs cs is = keeps c xs cs is

  pub part : (s : S) (cs : List C) → IsSublist (enabled_of step s cs) cs
  part s [] = nothing
  part s (c ∷ cs) = part_by c (step s c) (enabled_of step (or_same s (step s c)) cs) cs (part (or_same s (step s c)) cs)

  after_by : (s : S) (c : C) (cs : List C) (o : Option S) → step s c ≡ o
      → after_attempts step (or_same s o) (enabled_of step (or_same s o) cs) ≡ after_attempts step (or_same s o) cs
      → after_attempts step s (ahead_if_moved c o (enabled_of step (or_same s o) cs))
      ≡ after_attempts step (or_same s o) cs
  after_by s c cs None is rest = rest
  after_by s c cs (Some t) is rest =
      ap (λ (o : Option S). after_attempts step (or_same s o) (enabled_of step t cs)) is ∙ rest

  -- they lead to the same state
  pub same_after : (s : S) (cs : List C) → after_attempts step s (enabled_of step s cs) ≡ after_attempts step s cs
  same_after s [] = refl
  same_after s (c ∷ cs) = after_by s c cs (step s c) refl (same_after (or_same s (step s c)) cs)

  count_by : (c : C) (o : Option S) (xs : List C) (n : ℕ) → length xs ≡ n
      → length (ahead_if_moved c o xs) ≡ one_if_moved o + n
  count_by c None xs n is = omega (arith, is)
  count_by c (Some t) xs n is = omega (arith, is)

  pub count : (s : S) (cs : List C) → length (enabled_of step s cs) ≡ moves_in step s cs
  count s [] = refl
  count s (c ∷ cs) =
      count_by c (step s c) (enabled_of step (or_same s (step s c)) cs) (moves_in step (or_same s (step s c)) cs)
      (count (or_same s (step s c)) cs)

  joined_by : (c : C) (o : Option S) (xs ys zs : List C) → zs ≡ xs ++ ys
      → ahead_if_moved c o zs ≡ ahead_if_moved c o xs ++ ys
  joined_by c None xs ys zs is = is
  joined_by c (Some t) xs ys zs is = ap (λ (ws : List C). c ∷ ws) is

  pub joined : (s : S) (cs ds : List C)
      → enabled_of step s (cs ++ ds) ≡ enabled_of step s cs ++ enabled_of step (after_attempts step s cs) ds
  joined s [] ds = refl
  joined s (c ∷ cs) ds =
      let t : S = or_same s (step s c) in
      joined_by c (step s c) (enabled_of step t cs) (enabled_of step (after_attempts step t cs) ds)
      (enabled_of step t (cs ++ ds)) (joined t cs ds)

  -- attempts each enabled where they come: the first is, and the others after it are
  pub first_enabled : (s : S) (c : C) (cs : List C) → AreEnabled step s (c ∷ cs) → IsEnabled step s c
  first_enabled s c cs are = are [] c cs refl

  pub rest_enabled : (s : S) (c : C) (cs : List C) → AreEnabled step s (c ∷ cs)
      → AreEnabled step (or_same s (step s c)) cs
  rest_enabled s c cs are before d behind is = are (c ∷ before) d behind (ap (λ (xs : List C). c ∷ xs) is)

  none_before : (before behind : List C) (c : C) → [] ≡ before ++ c ∷ behind → ⊥
  none_before [] behind c e = cc
  none_before (b ∷ before) behind c e = cc

  pub are_none : (s : S) → AreEnabled step s []
  are_none s before c behind is = absurd (none_before before behind c is)

  more_by : (s : S) (c : C) (cs : List C) → IsEnabled step s c → AreEnabled step (or_same s (step s c)) cs
      → (before : List C) (d : C) (behind : List C) → c ∷ cs ≡ before ++ d ∷ behind
      → IsEnabled step (after_attempts step s before) d
  more_by s c cs first rest [] d behind is = subst (IsEnabled step s) (cc) first
  more_by s c cs first rest (b ∷ before) d behind is =
      let head : c ≡ b = cc in
      subst (λ (e : C). IsEnabled step (after_attempts step (or_same s (step s e)) before) d) head
      (rest before d behind (cc))

  pub are_more : (s : S) (c : C) (cs : List C) → IsEnabled step s c → AreEnabled step (or_same s (step s c)) cs
      → AreEnabled step s (c ∷ cs)
  are_more = more_by

  enabled_by : (s : S) (c : C) (o : Option S) (xs : List C) → step s c ≡ o → AreEnabled step (or_same s o) xs
      → AreEnabled step s (ahead_if_moved c o xs)
  enabled_by s c None xs is rest = rest
  enabled_by s c (Some t) xs is rest =
      are_more s c xs (t, is) (subst (λ (o : Option S). AreEnabled step (or_same s o) xs) (sym is) rest)

  -- each is enabled where it comes
  pub enabled : (s : S) (cs : List C) → AreEnabled step s (enabled_of step s cs)
  enabled s [] = are_none s
  enabled s (c ∷ cs) =
      enabled_by s c (step s c) (enabled_of step (or_same s (step s c)) cs) refl (enabled (or_same s (step s c)) cs)

  -- they are all attempts where these are all enabled
  pub all : (s : S) (cs : List C) → AreEnabled step s cs → enabled_of step s cs ≡ cs
  all s [] are = refl
  all s (c ∷ cs) are =
      let others : List C = enabled_of step (or_same s (step s c)) cs in
      ap (λ (o : Option S). ahead_if_moved c o others) (first_enabled s c cs are).1
      ∙ ap (λ (xs : List C). c ∷ xs) (all (or_same s (step s c)) cs (rest_enabled s c cs are))

  pub again : (s : S) (cs : List C) → enabled_of step s (enabled_of step s cs) ≡ enabled_of step s cs
  again s cs = all s (enabled_of step s cs) (enabled s cs)
