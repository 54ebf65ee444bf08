-- The places of a walk, as a list and by their steps.
use Rattle.std.proofs.Common.{◌≡◌, ◌≢◌, ℕ, zero, suc, ◌+◌, ◌<◌, ◌≤◌, true, false, cond, eqb, List, [], ◌∷◌, ◌++◌, refl, sym, ◌∙◌, ap, subst, arith}
use Rattle.std.proofs.lemmas.Bool.{eq-eqb, ne_eqb}
use Rattle.network_judge.specs.Table.{Table, table_next}
use Rattle.network_judge.specs.Ways.{place, walk}

-- the first n places of the walk from x
abbrev pub places : Table → ℕ → ℕ → ℕ → List ℕ
places t j x zero = []
places t j x (suc n) = x ∷ places t j (table_next t x j) n

-- a walk that first comes to j after m steps
pub walk_is : (t : Table) (j x m f : ℕ) → ((k : ℕ) → k < m → place t j x k ≢ j) → place t j x m ≡ j → m ≤ f
    → walk t j x (suc f) ≡ places t j x (suc m)
walk_is t j x zero f clear here low =
    let same : eqb x j ≡ true = eq-eqb x j here in ap (λ b. x ∷ cond b [] (walk t j (table_next t x j) f)) same
walk_is t j x (suc m) zero clear here low = absurd (omega arith)
walk_is t j x (suc m) (suc f) clear here low =
    let other : eqb x j ≡ false = ne_eqb x j (clear 0 (omega arith)) in
    ap (λ b. x ∷ cond b [] (walk t j (table_next t x j) (suc f))) other
    ∙ ap (λ xs. x ∷ xs) (walk_is t j (table_next t x j) m f (λ k l. clear (suc k) (omega arith)) here (omega arith))

-- one step further
pub place_next : (t : Table) (j x k : ℕ) → place t j x (suc k) ≡ table_next t (place t j x k) j
place_next t j x zero = refl
place_next t j x (suc k) = place_next t j (table_next t x j) k

-- so many steps further
pub place_add : (t : Table) (j x a b n : ℕ) → n ≡ a + b → place t j (place t j x a) b ≡ place t j x n
place_add t j x zero b n e = let same : b ≡ n = omega arith in ap (place t j x) same
place_add t j x (suc a) b zero e = absurd (omega arith)
place_add t j x (suc a) b (suc n) e = place_add t j (table_next t x j) a b n (omega arith)

-- the places, in two parts
pub places_cut : (t : Table) (j x a b n : ℕ) → n ≡ a + b → places t j x n ≡ places t j x a ++ places t j (place t j x a) b
places_cut t j x zero b n e = let same : n ≡ b = omega arith in ap (places t j x) same
places_cut t j x (suc a) b zero e = absurd (omega arith)
places_cut t j x (suc a) b (suc n) e = ap (λ xs. x ∷ xs) (places_cut t j (table_next t x j) a b n (omega arith))

-- an item of the places: its step, and how many follow
pub record Split (t : Table) (j x n y : ℕ) (after : List ℕ) : Type 0 where
  pub step : ℕ
  pub more : ℕ
  pub all : n ≡ suc (step + more)
  pub here : place t j x step ≡ y
  pub rest : after ≡ places t j (table_next t y j) more

pub split : (t : Table) (j x n : ℕ) (before : List ℕ) (y : ℕ) (after : List ℕ) → places t j x n ≡ before ++ y ∷ after → Split t j x n y after
split t j x zero [] y after e = cc
split t j x zero (b ∷ before) y after e = cc
split t j x (suc n) [] y after e =
    let same : x ≡ y = cc in
    let rest : places t j (table_next t x j) n ≡ after = cc in
    record {
      step = 0;
      more = n;
      all = omega arith;
      here = same;
      rest = sym rest ∙ ap (λ z. places t j (table_next t z j) n) same;
    }
split t j x (suc n) (b ∷ before) y after e =
    let tail : places t j (table_next t x j) n ≡ before ++ y ∷ after = cc in
    let r = split t j (table_next t x j) n before y after tail in
    let all = r.all in
    record { step = suc r.step; more = r.more; all = omega arith; here = r.here; rest = r.rest }

-- what rises at each step rises over several
pub rises : (f : ℕ → ℕ) (m : ℕ) → ((k : ℕ) → k < m → f k < f (suc k)) → (d a b : ℕ) → b ≡ suc (a + d) → b ≤ m → f a < f b
rises f m up zero a b e low = let same : suc a ≡ b = omega arith in subst (λ z. f a < f z) same (up a (omega arith))
rises f m up (suc d) a b e low =
    let before = rises f m up d a (suc (a + d)) refl (omega arith) in
    let step = up (suc (a + d)) (omega arith) in
    let same : suc (suc (a + d)) ≡ b = omega arith in
    subst (λ z. f a < f z) same (omega (arith, before, step))
