-- A sum whose items are paid by different items of another.
use Rattle.std.proofs.Common.{◌≡◌, ◌≢◌, ℕ, ◌-◌, ◌+◌, ◌<◌, ◌≤◌, zero, suc, inl, inr, refl, arith, subst}
use Rattle.std.proofs.lemmas.Bool.{cases_lt}
use Rattle.wormhole.specs.State.{update}
use Rattle.wormhole.specs.Weight.{sum_below}
use Rattle.wormhole.proofs.Changes.{update_same, update_other}
use Rattle.wormhole.proofs.Sums.{sum_one}

-- an item is at most one of the other sum, by a relation
pub record IsPaid (R : ℕ → ℕ → Type 0) (m : ℕ) (v : ℕ → ℕ) (y : ℕ) (cost : ℕ) : Type 0 where
  pub at : ℕ
  pub low : at < m
  pub by : R y at
  pub most : cost ≤ v at

-- each item that isn't 0 is paid by one of the other sum, and no two by the same
pub reindexed : (R : ℕ → ℕ → Type 0) → ((y z x : ℕ) → R y x → R z x → y ≡ z) → (n m : ℕ) (g v : ℕ → ℕ)
    → ((y : ℕ) → y < n → 0 < g y → IsPaid R m v y (g y)) → sum_below n g ≤ sum_below m v
reindexed R apart zero m g v pays = omega arith
reindexed R apart (suc n) m g v pays = elim (cases_lt 0 (g n)) [
  | inl some ↦
      let here : IsPaid R m v n (g n) = pays n (omega arith) some in
      let x : ℕ = here.at in
      let w : ℕ → ℕ = update v x (v x - g n) in
      let at : w x ≡ v x - g n = update_same v x (v x - g n) in
      let all : sum_below m w + v x ≡ sum_below m v + w x =
      sum_one m x v w here.low (λ y low other. update_other v x (v x - g n) y other) in
      let rest : sum_below n g ≤ sum_below m w = reindexed R apart n m g w (λ y low more.
      let paid : IsPaid R m v y (g y) = pays y (omega arith) more in
      let other : paid.at ≢ x = λ same. let e : y ≡ n = apart y n x (subst (R y) same paid.by) here.by in omega (arith, e, low) in
      let is : w paid.at ≡ v paid.at = update_other v x (v x - g n) paid.at other in
      let most = paid.most in
      record { at = paid.at; low = paid.low; by = paid.by; most = omega (arith, most, is) }) in
      let most = here.most in
      omega (arith, most, all, rest, at)
  | inr none ↦
      let rest : sum_below n g ≤ sum_below m v = reindexed R apart n m g v (λ y low more. pays y (omega arith) more) in
      omega (arith, rest, none)
]

-- sums of items that are at most those of another
pub sum_most : (n : ℕ) (f g : ℕ → ℕ) → ((x : ℕ) → x < n → f x ≤ g x) → sum_below n f ≤ sum_below n g
sum_most zero f g most = omega arith
sum_most (suc n) f g most = let rest = sum_most n f g (λ x low. most x (omega arith)) in let last = most n (omega arith) in omega (arith, rest, last)

pub sum_plus : (n : ℕ) (f g : ℕ → ℕ) → sum_below n (λ x. f x + g x) ≡ sum_below n f + sum_below n g
sum_plus zero f g = refl
sum_plus (suc n) f g = let rest = sum_plus n f g in omega (arith, rest)
