-- Whether steps lead from one number to another.
use Rattle.std.proofs.Common.{◌≡◌, ◌⊎◌, inl, inr, ⊎_elim, ℕ, zero, suc, ◌+◌, ◌-◌, ◌<◌, ◌≤◌, ◌&&◌, ◌||◌, Bool, true, false, cond, eqb, refl, sym, ◌∙◌, ap, subst, arith, eq-eqb}
use Rattle.std.proofs.lemmas.Bool.{cases_lt, cases_eq, lt-ltb, le-ltb, eqb-true, and_parts, and_from, or_left, or_right}
use Rattle.std.specs.Prelude.{nat_lt}
use Rattle.network_judge.proofs.Rounds.{Collision, collide}
use Rattle.network_judge.proofs.Firsts.{any, any_at, any_from}

-- steps that lead from x to a number
pub data Path (step : ℕ → ℕ → Bool) (x : ℕ) : ℕ → Type 0 where
  Stop : Path step x x
  Go : (y z : ℕ) → Path step x y → step y z ≡ true → Path step x z

-- whether at most k steps over numbers below n lead from x to y
abbrev pub reach : (ℕ → ℕ → Bool) → ℕ → ℕ → ℕ → ℕ → Bool
reach step n zero x y = eqb x y
reach step n (suc k) x y = reach step n k x y || any (λ z. reach step n k x z && step z y) n

pub or_cases : (a b : Bool) → (a || b) ≡ true → (a ≡ true) ⊎ (b ≡ true)
or_cases true b e = inl refl
or_cases false b e = inr e

pub path_of : (step : ℕ → ℕ → Bool) (n k x y : ℕ) → reach step n k x y ≡ true → Path step x y
path_of step n zero x y e = subst (Path step x) (eqb-true x y e) Stop
path_of step n (suc k) x y e = ⊎_elim
    (λ (a : reach step n k x y ≡ true). path_of step n k x y a)
    (λ (b : any (λ z. reach step n k x z && step z y) n ≡ true).
    let w = any_from (λ z. reach step n k x z && step z y) n b in
    let p = and_parts (reach step n k x w.0) (step w.0 y) w.2 in
    Go w.0 y (path_of step n k x w.0 p.0) p.1)
    (or_cases (reach step n k x y) (any (λ z. reach step n k x z && step z y) n) e)

-- so many steps from x to y: where they are, counted from the end
record Way (step : ℕ → ℕ → Bool) (m x y : ℕ) : Type 0 where
  at : ℕ → ℕ
  end : at 0 ≡ y
  begin : at m ≡ x
  goes : (k : ℕ) → k < m → step (at (suc k)) (at k) ≡ true

abbrev push : ℕ → (ℕ → ℕ) → ℕ → ℕ
push z f zero = z
push z f (suc k) = f k

way_of : (step : ℕ → ℕ → Bool) (x y : ℕ) → Path step x y → (m : ℕ) × Way step m x y
way_of step x y Stop = (0, record { at = λ k. x; end = refl; begin = refl; goes = λ k l. absurd (omega arith) })
way_of step x y (Go u z p s) = more (way_of step x u p)
  where
    goes : (m : ℕ) (w : Way step m x u) → (k : ℕ) → k < suc m → step (push z w.at (suc k)) (push z w.at k) ≡ true
    goes m w zero l = subst (λ v. step v z ≡ true) (sym w.end) s
    goes m w (suc k) l = w.goes k (omega arith)

    more : (m : ℕ) × Way step m x u → (m : ℕ) × Way step m x z
    more r = (suc r.0, record { at = push z r.1.at; end = refl; begin = r.1.begin; goes = goes r.0 r.1 })

-- without a round
abbrev skip : ℕ → ℕ → (ℕ → ℕ) → ℕ → ℕ
skip a d f k = cond (nat_lt a k) (f (k + d)) (f k)

skip_low : (a d : ℕ) (f : ℕ → ℕ) (k : ℕ) → k ≤ a → skip a d f k ≡ f k
skip_low a d f k l = ap (λ b. cond b (f (k + d)) (f k)) (le-ltb a k l)

skip_high : (a d : ℕ) (f : ℕ → ℕ) (k i : ℕ) → a < k → i ≡ k + d → skip a d f k ≡ f i
skip_high a d f k i l e = ap (λ b. cond b (f (k + d)) (f k)) (lt-ltb a k l) ∙ ap f (sym e)

steps_at : (step : ℕ → ℕ → Bool) (u v p q : ℕ) → u ≡ p → v ≡ q → step p q ≡ true → step u v ≡ true
steps_at step u v p q e f s = subst (λ z. step z v ≡ true) (sym e) (subst (λ z. step p z ≡ true) (sym f) s)

cut : (step : ℕ → ℕ → Bool) (m x y : ℕ) (w : Way step m x y) (r : Collision w.at (suc m)) → Way step (m - (r.second - r.first)) x y
cut step m x y w r =
    let order = r.order in
    let below = r.below in
    let a : ℕ = r.first in
    let d : ℕ = r.second - r.first in
    record {
      at = skip a d w.at;
      end = skip_low a d w.at 0 (omega arith) ∙ w.end;
      begin = elim (cases_lt a (m - d)) [
        | inl high ↦ skip_high a d w.at (m - d) m high (omega arith) ∙ w.begin
        | inr low ↦
            let here : m - d ≡ a = omega arith in
            let there : r.second ≡ m = omega arith in
            skip_low a d w.at (m - d) low ∙ (ap w.at here ∙ (r.same ∙ (ap w.at there ∙ w.begin)))
      ];
      goes = λ k l. elim (cases_lt k a) [
        | inl low ↦ steps_at step (skip a d w.at (suc k)) (skip a d w.at k) (w.at (suc k)) (w.at k)
            (skip_low a d w.at (suc k) (omega arith)) (skip_low a d w.at k (omega arith)) (w.goes k (omega arith))
        | inr high ↦ elim (cases_eq k a) [
          | inl same ↦ steps_at step (skip a d w.at (suc k)) (skip a d w.at k) (w.at (suc r.second)) (w.at r.second)
              (skip_high a d w.at (suc k) (suc r.second) (omega arith) (omega arith))
              (skip_low a d w.at k (omega arith) ∙ (ap w.at same ∙ r.same)) (w.goes r.second (omega arith))
          | inr more ↦ steps_at step (skip a d w.at (suc k)) (skip a d w.at k) (w.at (suc (k + d))) (w.at (k + d))
              (skip_high a d w.at (suc k) (suc (k + d)) (omega arith) (omega arith))
              (skip_high a d w.at k (k + d) (omega arith) refl) (w.goes (k + d) (omega arith))
        ]
      ];
    }

module _ (step : ℕ → ℕ → Bool) (n : ℕ) (stay : (z y : ℕ) → step z y ≡ true → y < n) where
  inside : (m x y : ℕ) → x < n → (w : Way step m x y) → (k : ℕ) → k < suc m → w.at k < n
  inside m x y low w k l = elim (cases_lt k m) [
    | inl less ↦ stay (w.at (suc k)) (w.at k) (w.goes k less)
    | inr high ↦ let same : m ≡ k = omega arith in let e : w.at k ≡ x = sym (ap w.at same) ∙ w.begin in omega arith
  ]

  -- a way of fewer steps than there are numbers
  short : (fuel m x y : ℕ) → m < fuel → x < n → Way step m x y → (i : ℕ) × (i < n) × Way step i x y
  short zero m x y l low w = absurd (omega arith)
  short (suc fuel) m x y l low w = elim (cases_lt m n) [
    | inl less ↦ (m, less, w)
    | inr high ↦
        let r = collide (suc m) n w.at (inside m x y low w) (omega arith) in
        let order = r.order in
        let below = r.below in
        short fuel (m - (r.second - r.first)) x y (omega arith) low (cut step m x y w r)
  ]

  reach_way : (m x y : ℕ) → x < n → Way step m x y → reach step n m x y ≡ true
  reach_way zero x y low w = eq-eqb x y (sym w.begin ∙ w.end)
  reach_way (suc m) x y low w =
      let u : ℕ = w.at 1 in
      let before : reach step n m x u ≡ true = reach_way m x u low (record { at = λ k. w.at (suc k); end = refl; begin = w.begin; goes = λ k l. w.goes (suc k) (omega arith) }) in
      let s : step u y ≡ true = subst (λ z. step u z ≡ true) w.end (w.goes 0 (omega arith)) in
      or_right (reach step n m x y) (any (λ z. reach step n m x z && step z y) n)
      (any_at (λ z. reach step n m x z && step z y) n u (inside (suc m) x y low w 1 (omega arith)) (and_from (reach step n m x u) (step u y) before s))

  reach_more : (m d k x y : ℕ) → k ≡ d + m → reach step n m x y ≡ true → reach step n k x y ≡ true
  reach_more m zero k x y same e = let here : m ≡ k = omega arith in subst (λ z. reach step n z x y ≡ true) here e
  reach_more m (suc d) zero x y same e = absurd (omega arith)
  reach_more m (suc d) (suc k) x y same e =
      or_left (reach step n k x y) (any (λ z. reach step n k x z && step z y) n) (reach_more m d k x y (omega arith) e)

  pub reach_path : (x y : ℕ) → x < n → Path step x y → reach step n n x y ≡ true
  reach_path x y low p =
      let w = way_of step x y p in
      let r = short (suc w.0) w.0 x y (omega arith) low w.1 in
      let less = r.1 in
      reach_more r.0 (n - r.0) n x y (omega arith) (reach_way r.0 x y low r.2)
