-- Items of lists.
use Rattle.std.proofs.Common.{◌≡◌, ◌⊎◌, List, [], ◌∷◌, ◌++◌, inl, inr, ap, refl}
use Rattle.core_laws.specs.Rounds.{IsOn}

module _ {A : Type 0} where
  pub on_head : (x : A) (xs : List A) → IsOn x (x ∷ xs)
  on_head x xs = ([], xs, refl)

  pub on_tail : (y x : A) (xs : List A) → IsOn x xs → IsOn x (y ∷ xs)
  on_tail y x xs on = (y ∷ on.0, on.1, ap (λ (zs : List A). y ∷ zs) on.2)

  by_before : (y x : A) (xs before after : List A) → y ∷ xs ≡ before ++ x ∷ after → (y ≡ x) ⊎ IsOn x xs
  by_before y x xs [] after e = inl (cc)
  by_before y x xs (b ∷ bs) after e = inr (bs, after, cc)

  -- an item is the first, or among the others
  pub on_cases : (y x : A) (xs : List A) → IsOn x (y ∷ xs) → (y ≡ x) ⊎ IsOn x xs
  on_cases y x xs on = by_before y x xs on.0 on.1 on.2

  empty_before : (x : A) (before after : List A) → [] ≡ before ++ x ∷ after → ⊥
  empty_before x [] after e = cc
  empty_before x (b ∷ bs) after e = cc

  -- no item is on an empty list
  pub on_none : (x : A) → IsOn x [] → ⊥
  on_none x on = empty_before x on.0 on.1 on.2
