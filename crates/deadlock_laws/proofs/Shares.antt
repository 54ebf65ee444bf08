-- Lists cut at a place, and numbers shared out by a size.
use Rattle.std.proofs.Common.{◌≡◌, ℕ, zero, suc, ◌+◌, ◌*◌, ◌/◌, ◌%◌, ◌<◌, List, [], ◌∷◌, ◌++◌, length, refl, ap}
use Rattle.std.proofs.Common.{arith}
use Rattle.std.proofs.lemmas.Nat.{div-add-mod'}

-- a list from one of its items on
pub record Split (d : ℕ) (xs : List ℕ) : Type 0 where
  pub before : List ℕ
  pub item : ℕ
  pub after : List ℕ
  pub is : xs ≡ before ++ item ∷ after
  pub size : length before ≡ d

pub split : (d : ℕ) (xs : List ℕ) → d < length xs → Split d xs
split d [] low = let none : length {A = ℕ} [] ≡ 0 = refl in absurd (omega arith)
split zero (x ∷ xs) low = record { before = []; item = x; after = xs; is = refl; size = refl }
split (suc d) (x ∷ xs) low =
    let r = split d xs (less low) in
    record { before = x ∷ r.before; item = r.item; after = r.after; is = ap (λ l. x ∷ l) r.is; size = ap suc r.size }
  where
    less : suc d < length (x ∷ xs) → d < length xs
    less l = let more : length (x ∷ xs) ≡ suc (length xs) = refl in omega arith

-- so many of one size, and what is left
pub record Shared (size all : ℕ) : Type 0 where
  pub count : ℕ
  pub left : ℕ
  pub is : count * size + left ≡ all
  pub few : left < size

pub shared : (size all : ℕ) → 0 < size → Shared size all
shared size all some = record { count = all / size; left = all % size; is = div-add-mod' all size; few = mod_low size all some }
  where
    mod_low : (s a : ℕ) → 0 < s → a % s < s
    mod_low s a h = omega arith
