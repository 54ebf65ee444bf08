-- Numbers by place, of which one is another.
use Rattle.std.proofs.Common.{◌≡◌, ◌≢◌, ◌⊎◌, inl, inr, ℕ, refl}
use Rattle.std.proofs.lemmas.Bool.{cases_eq}

-- one number of a list by place is another
pub pick : (v w n old : ℕ) → (v ≡ w) ⊎ (v ≢ w) → ℕ
pick v w n old (inl e) = n
pick v w n old (inr ne) = old

pub pick_same : (v w n old : ℕ) (s : (v ≡ w) ⊎ (v ≢ w)) → v ≡ w → pick v w n old s ≡ n
unfolding pick
pick_same v w n old (inl e) h = refl
pick_same v w n old (inr ne) h = absurd (ne h)

pub pick_other : (v w n old : ℕ) (s : (v ≡ w) ⊎ (v ≢ w)) → v ≢ w → pick v w n old s ≡ old
unfolding pick
pick_other v w n old (inl e) h = absurd (h e)
pick_other v w n old (inr ne) h = refl

abbrev pub with_front : (ℕ → ℕ) → ℕ → ℕ → ℕ → ℕ
with_front fronts w n v = pick v w n (fronts v) (cases_eq v w)

pub front_same : (fronts : ℕ → ℕ) (w n v : ℕ) → v ≡ w → with_front fronts w n v ≡ n
front_same fronts w n v e = pick_same v w n (fronts v) (cases_eq v w) e

pub front_other : (fronts : ℕ → ℕ) (w n v : ℕ) → v ≢ w → with_front fronts w n v ≡ fronts v
front_other fronts w n v ne = pick_other v w n (fronts v) (cases_eq v w) ne
