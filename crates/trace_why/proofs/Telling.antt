-- How things are told, one after the other.
use Rattle.std.proofs.Common.{◌≡◌, ⊎_elim, ℕ, ◌+◌, List, [], ◌∷◌, ◌++◌, length, Some, ◌∙◌, subst, arith, slice_get, length-append}
use Rattle.trace_laws.proofs.Lists.{get_push_cases, same_get}

-- of some things the first n are each told so
pub record Telling {A B : Type 0} (R : A → B → Type 0) (things : List A) (n : ℕ) (found : List B) : Type 0 where
  pub sized : length found ≡ n
  pub each : (m : ℕ) (x : A) (y : B) → slice_get things m ≡ Some x → slice_get found m ≡ Some y → R x y

pub telling_more : {A B : Type 0} (R : A → B → Type 0) (things : List A) (n : ℕ) (found : List B) (thing : A) (line : B)
    → Telling R things n found → slice_get things n ≡ Some thing → R thing line → Telling R things (n + 1) (found ++ line ∷ [])
telling_more {A} {B} R things n found thing line told at is = record {
  sized = let s = told.sized in length-append found (line ∷ []) ∙ omega arith;
  each = λ m x y h k. ⊎_elim {C = R x y}
      (λ (old : slice_get found m ≡ Some y). told.each m x y h old)
      (λ (last : (m ≡ length found) × (line ≡ y)).
      let same : m ≡ n = last.0 ∙ told.sized in
      let e : thing ≡ x = same_get things n thing x at (subst (λ (j : ℕ). slice_get things j ≡ Some x) same h) in
      subst (λ (z : B). R x z) last.1 (subst (λ (z : A). R z line) e is))
      (get_push_cases found line m y k);
}
