-- A walk over hops of more steps than there are channels goes round for ever.
use Rattle.std.proofs.Common.{◌≡◌, ◌⊎◌, inl, inr, ℕ, zero, suc, ◌+◌, ◌-◌, ◌<◌, Bool, true, false, cond, eqb, Some, refl, sym, ◌∙◌, ap, arith}
use Rattle.std.proofs.lemmas.Bool.{eqb-true, eqb-false, cases_lt}
use Rattle.std.proofs.lemmas.Option.{slice_get_within}
use Rattle.network_judge.specs.declared.table.Kind.TheVariants.{Injection, Hop}
use Rattle.network_judge.specs.Table.{Table, channels_of, kind_of}
use Rattle.network_judge.specs.Ways.{place, IsUnderWay}
use Rattle.network_judge.proofs.Places.{place_add}

-- a test passes somewhere below n, or nowhere
pub found : (p : ℕ → Bool) (n : ℕ) → ((k : ℕ) × (k < n) × (p k ≡ true)) ⊎ ((k : ℕ) → k < n → p k ≡ false)
found p zero = inr (λ k l. absurd (omega arith))
found p (suc n) = here (p n) refl (found p n)
  where
    here : (b : Bool) → p n ≡ b → ((k : ℕ) × (k < n) × (p k ≡ true)) ⊎ ((k : ℕ) → k < n → p k ≡ false)
        → ((k : ℕ) × (k < suc n) × (p k ≡ true)) ⊎ ((k : ℕ) → k < suc n → p k ≡ false)
    here true e r = inl (n, omega arith, e)
    here false e (inl w) = let low = w.1 in inl (w.0, omega arith, w.2)
    here false e (inr none) =
        inr (λ k l. elim (cases_lt k n) [ inl low ↦ none k low | inr high ↦ let same : k ≡ n = omega arith in ap p same ∙ e ])

-- two places with one value
pub record Collision (f : ℕ → ℕ) (n : ℕ) : Type 0 where
  pub first : ℕ
  pub second : ℕ
  pub order : first < second
  pub below : second < n
  pub same : f first ≡ f second

-- a number, or another in place of m
data Avoids (x m y r : ℕ) : Type 0 where
  hit : x ≡ m → r ≡ y → Avoids x m y r
  miss : (x ≡ m → ⊥) → r ≡ x → Avoids x m y r

avoids : (x m y : ℕ) → Avoids x m y (cond (eqb x m) y x)
avoids x m y = by (eqb x m) refl
  where
    by : (b : Bool) → eqb x m ≡ b → Avoids x m y (cond b y x)
    by true e = hit (eqb-true x m e) refl
    by false e = miss (eqb-false x m e) refl

-- more numbers than values (the pigeonhole principle)
pub collide : (n m : ℕ) (f : ℕ → ℕ) → ((k : ℕ) → k < n → f k < m) → m < n → Collision f n
collide zero m f into less = absurd (omega arith)
collide (suc n) zero f into less = absurd (let z = into 0 (omega arith) in omega arith)
collide (suc n) (suc m) f into less =
    elim (found (λ k. eqb (f k) (f n)) n) [
      | inl w ↦ record { first = w.0; second = n; order = w.1; below = omega arith; same = eqb-true (f w.0) (f n) w.2 }
      | inr none ↦
          let other : (k : ℕ) → k < n → f k ≡ f n → ⊥ = λ k l. eqb-false (f k) (f n) (none k l) in
          let g : ℕ → ℕ = λ k. cond (eqb (f k) m) (f n) (f k) in
          let within : (k : ℕ) → k < n → g k < m =
          λ k l. (let a = into k (omega arith) in let b = into n (omega arith) in let ne = other k l in
          elim (avoids (f k) m (f n)) [ hit p q ↦ (let d : f n ≡ m → ⊥ = λ z. ne (p ∙ sym z) in omega (arith, q, d)) | miss p q ↦ omega (arith, p, q) ]) in
          let r = collide n m g within (omega arith) in
          let order = r.order in
          let below = r.below in
          let same : f r.first ≡ f r.second =
          elim (avoids (f r.first) m (f n)) [
            | hit p q ↦ elim (avoids (f r.second) m (f n)) [
              | hit u v ↦ p ∙ sym u
              | miss u v ↦ absurd (other r.second below (sym v ∙ (sym r.same ∙ q)))
            ]
            | miss p q ↦ elim (avoids (f r.second) m (f n)) [
              | hit u v ↦ absurd (other r.first (omega arith) (sym q ∙ (r.same ∙ v)))
              | miss u v ↦ sym q ∙ (r.same ∙ v)
            ]
          ] in
          record { first = r.first; second = r.second; order = order; below = omega arith; same = same }
    ]

-- from there on each step is at a hop
hops_on : (t : Table) (i j a b m : ℕ) → a < b → b < m → place t j i a ≡ place t j i b → IsUnderWay t i j m
    → (fuel k : ℕ) → k < fuel → 0 < k → kind_of t (place t j i k) ≡ Some Hop
hops_on t i j a b m less low same u zero k l some = absurd (omega arith)
hops_on t i j a b m less low same u (suc fuel) k l some =
    elim (cases_lt k m) [
      | inl here ↦ u.hops k some here
      | inr high ↦
          let d : ℕ = k - b in
          let before : place t j (place t j i a) d ≡ place t j i (a + d) = place_add t j i a d (a + d) refl in
          let after : place t j (place t j i b) d ≡ place t j i k = place_add t j i b d k (omega arith) in
          let one : place t j i (a + d) ≡ place t j i k = sym before ∙ (ap (λ z. place t j z d) same ∙ after) in
          ap (kind_of t) (sym one) ∙ hops_on t i j a b m less low same u fuel (a + d) (omega arith) (omega arith)
    ]

pub round : (t : Table) (i j m : ℕ) → m ≡ channels_of t + 1 → IsUnderWay t i j m → (n : ℕ) → IsUnderWay t i j n
round t i j m e u n =
    let into : (k : ℕ) → k < m → place t j i k < channels_of t = λ k l. within k l in
    let r = collide m (channels_of t) (λ k. place t j i k) into (omega arith) in
    record {
      sender = u.sender;
      receiver = u.receiver;
      hops = λ k some l. hops_on t i j r.first r.second m r.order r.below r.same u (suc k) k (omega arith) some;
    }
  where
    within : (k : ℕ) → k < m → place t j i k < channels_of t
    within zero l = slice_get_within t.kinds i Injection u.sender
    within (suc k) l = slice_get_within t.kinds (place t j i (suc k)) Hop (u.hops (suc k) (omega arith) l)
