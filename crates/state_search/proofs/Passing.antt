-- Tries to leave out the items of a part, the last one first.
use Rattle.std.proofs.Common.{◌≡◌, ◌<◌, ◌≤◌, ◌-◌, ℕ, List, Bool, Option, subst, inl, inr, arith}
use Rattle.std.proofs.Math.Nat.{eq-or-lt_of_le}
use Rattle.state_search.specs.declared.smallest.Passed.{Passed}
use Rattle.state_search.specs.declared.smallest.Passed.TheVariants as passed
use Rattle.state_search.specs.declared.smallest.Tried.{Tried}
use Rattle.state_search.specs.declared.smallest.Tried.TheVariants as tried
use Rattle.state_search.specs.Parts.{IsKept, IsNeeded}
use Rattle.state_search.specs.Smaller.{IsTried}

-- what becomes of tries to leave out each item from one on
abbrev pub IsPassedDownTo : List (Option ℕ) → (List Bool → Type 0) → List Bool → ℕ → ℕ → ℕ → Passed
    → Type 0
IsPassedDownTo sources stands kept before left at passed.Less = left < before
IsPassedDownTo sources stands kept before left at passed.Needed =
    (k : ℕ) → at ≤ k → IsKept kept k → IsNeeded sources stands kept k
IsPassedDownTo sources stands kept before left at passed.Spent = left ≡ 0

-- one item more is needed
pub one_more : (sources : List (Option ℕ)) (stands : List Bool → Type 0) (kept : List Bool) (before left now at : ℕ) (p : Passed) → 0 < at → now ≤ left
    → IsNeeded sources stands kept (at - 1) → IsPassedDownTo sources stands kept before left at p → IsPassedDownTo sources stands kept before now (at - 1) p
one_more sources stands kept before left now at passed.Less low fewer needed h = omega arith
one_more sources stands kept before left now at passed.Needed low fewer needed h = λ k high there. elim (eq-or-lt_of_le high) [
  | inl e ↦ subst (λ z. IsNeeded sources stands kept z) e needed
  | inr over ↦ h k (omega arith) there
]
one_more sources stands kept before left now at passed.Spent low fewer needed h = omega arith

-- a try says that an item is needed
pub needed_by : {A : Type 0} (sources : List (Option ℕ)) (breaks stands : List Bool → Type 0) (kept lent : List Bool) (k before left : ℕ) (t : Tried A)
    → t ≡ tried.Needed → lent ≡ kept → IsTried sources breaks stands lent k before left t → IsNeeded sources stands kept k
needed_by sources breaks stands kept lent k before left t is same h =
    subst (λ z. IsNeeded sources stands z k) same (subst (λ z. IsTried sources breaks stands lent k before left z) is h)
