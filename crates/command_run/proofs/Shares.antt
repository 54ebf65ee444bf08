-- How workers share the tiles: each tile is tiles_of_worker by one of them.
use Rattle.std.proofs.Common.{◌≡◌, ℕ, zero, suc, ◌+◌, ◌-◌, ◌*◌, ◌/◌, ◌<◌, ◌≤◌, List, [], ◌∷◌, length, map, sym, ap, ◌∙◌, subst, inl, inr, ⊎_elim, arith}
use mathlib.Core.Logic.{dite}
use native.Mathlib.Decide.{ℕ_discrete}
use Rattle.std.specs.List.{range_with_len}
use Rattle.std.proofs.Math.Nat.{add-mul, div-mul-le_self, mul-div_cancel_left, zero-div}
use Rattle.std.proofs.lemmas.Bool.{cases_lt}
use Rattle.std.proofs.lemmas.List.FromFn.{length-map-range_with_len}
use Rattle.std.proofs.lemmas.Nat.{le-div}
use Rattle.history.specs.Groups.{Owns}
use Rattle.history.specs.Key.{count_up, ranges, Rises}
use Rattle.history.specs.Opening.{CanDeal}
use Rattle.command_run.specs.Workers.{first_held, tiles_of_worker}

owns_count : (a k t : ℕ) → Owns (count_up a k) t → (a ≤ t) × (t < a + k)
owns_count a zero t o = absurd o
owns_count a (suc k) t (inl e) = (omega arith, omega arith)
owns_count a (suc k) t (inr o) = let p = owns_count (suc a) k t o in (omega arith, omega arith)

count_owns : (a k t : ℕ) → a ≤ t → t < a + k → Owns (count_up a k) t
count_owns a zero t l m = absurd (omega arith)
count_owns a (suc k) t l m = dite (ℕ_discrete a t) (λ e. inl e) (λ n. inr (count_owns (suc a) k t (omega arith) (omega arith)))

module _ (f : ℕ → ℕ) where
  -- the numbers from f j on, up to f (j + 1)
  abbrev pub span : ℕ → List ℕ
  span j = count_up (f j) (f (j + 1) - f j)

  pub ranges_are : (a k n : ℕ) → f (a + suc k) ≡ n → ranges (f a) (map f (range_with_len (a + 1) k)) n ≡ map span (range_with_len a (suc k))
  ranges_are a zero n e =
      let end : n ≡ f (a + 1) = sym e in
      ap (λ (m : ℕ). count_up (f a) (m - f a) ∷ []) end
  ranges_are a (suc k) n e =
      let next : a + 1 + suc k ≡ a + suc (suc k) = omega arith in
      ap (λ (l : List (List ℕ)). span a ∷ l) (ranges_are (a + 1) k n (ap f next ∙ e))

  module _ (up : (j : ℕ) → f j < f (j + 1)) where
    pub rises_by : (a k n : ℕ) → f (a + suc k) ≡ n → Rises (f a) (map f (range_with_len (a + 1) k)) n
    rises_by a zero n e = subst (λ (m : ℕ). f a < m) e (up a)
    rises_by a (suc k) n e =
        let next : a + 1 + suc k ≡ a + suc (suc k) = omega arith in
        (up a, rises_by (a + 1) k n (ap f next ∙ e))

    -- the span in which a number lies
    pub spanned : (a k t : ℕ) → f a ≤ t → t < f (a + k) → (j : ℕ) × (j < a + k) × Owns (span j) t
    spanned a zero t low high =
        let same : a + zero ≡ a = omega arith in
        let e = ap f same in
        absurd (omega (arith, low, high, e))
    spanned a (suc k) t low high = ⊎_elim
        (λ (below : t < f (a + 1)).
        let grows = up a in
        (a, omega arith, count_owns (f a) (f (a + 1) - f a) t low (omega (arith, low, below, grows))))
        (λ (past : f (a + 1) ≤ t).
        let next : a + suc k ≡ a + 1 + k = omega arith in
        let r = spanned (a + 1) k t past (subst (λ (m : ℕ). t < f m) next high) in
        let lt = r.1 in
        (r.0, omega (arith, lt), r.2))
        (cases_lt t (f (a + 1)))

module _ (n workers : ℕ) (some : 0 < workers) (few : workers ≤ n) where
  abbrev g : ℕ → ℕ
  g = first_held n workers

  begins : g 0 ≡ 0
  begins =
      let none : 0 * n ≡ 0 = omega arith in
      ap (λ (m : ℕ). m / workers) none ∙ zero-div workers

  ends : g workers ≡ n
  ends = mul-div_cancel_left n some

  up : (j : ℕ) → g j < g (j + 1)
  up j =
      let below : j * n / workers * workers ≤ j * n = div-mul-le_self (j * n) workers in
      let one : 1 * workers ≡ workers = omega arith in
      let left : (j * n / workers + 1) * workers ≡ j * n / workers * workers + 1 * workers = add-mul (j * n / workers) 1 workers in
      let this : 1 * n ≡ n = omega arith in
      let right : (j + 1) * n ≡ j * n + 1 * n = add-mul j 1 n in
      let le : j * n / workers + 1 ≤ (j + 1) * n / workers =
      le-div (j * n / workers + 1) ((j + 1) * n) workers some (omega (arith, below, one, left, this, right, few)) in
      omega (arith, le)

  last : (k : ℕ) → workers ≡ suc k → g (0 + suc k) ≡ n
  last k e =
      let same : 0 + suc k ≡ workers = omega (arith, e) in
      ap g same ∙ ends

  shares_by : (k : ℕ) → workers ≡ suc k → ranges 0 (map g (range_with_len 1 k)) n ≡ map (tiles_of_worker n workers) (range_with_len 0 (suc k))
  shares_by k e = ap (λ (a : ℕ). ranges a (map g (range_with_len 1 k)) n) (sym begins) ∙ ranges_are g 0 k n (last k e)

  rise_by : (k : ℕ) → workers ≡ suc k → Rises 0 (map g (range_with_len 1 k)) n
  rise_by k e = subst (λ (a : ℕ). Rises a (map g (range_with_len 1 k)) n) begins (rises_by g up 0 k n (last k e))

  one_less : suc (workers - 1) ≡ workers
  one_less = omega (arith, some)

  -- the ranges between the cuts are what the workers hold
  pub shares : ranges 0 (map g (range_with_len 1 (workers - 1))) n ≡ map (tiles_of_worker n workers) (range_with_len 0 workers)
  shares = shares_by (workers - 1) (sym one_less) ∙ ap (λ (m : ℕ). map (tiles_of_worker n workers) (range_with_len 0 m)) one_less

  pub can_deal_shares : workers ≤ 16 → CanDeal (map g (range_with_len 1 (workers - 1))) 0 n
  can_deal_shares most =
      let count : length (map g (range_with_len 1 (workers - 1))) ≡ workers - 1 = length-map-range_with_len g 1 (workers - 1) in
      record { rise = rise_by (workers - 1) (sym one_less); few_cuts = omega (arith, count, most); few_probes = omega arith }

  -- each tile is tiles_of_worker by a worker
  pub holder : (t : ℕ) → t < n → (j : ℕ) × (j < workers) × Owns (tiles_of_worker n workers j) t
  holder t lt =
      let from : g 0 ≤ t = let e = begins in omega (arith, e) in
      let same : 0 + workers ≡ workers = omega arith in
      let r = spanned g up 0 workers t from (let e = ap g same ∙ ends in omega (arith, e, lt)) in
      let within = r.1 in
      (r.0, omega (arith, within), r.2)

  not_past : (j : ℕ) → j < workers → g (j + 1) ≤ n
  not_past j lt = past_by (workers - (j + 1)) (j + 1) (omega (arith, lt))
    where
      past_by : (k i : ℕ) → i + k ≡ workers → g i ≤ n
      past_by zero i e =
          let same : i ≡ workers = omega (arith, e) in
          let is = ap g same ∙ ends in
          omega (arith, is)
      past_by (suc k) i e =
          let more = past_by k (i + 1) (omega (arith, e)) in
          let grows = up i in
          omega (arith, more, grows)

  -- what a worker holds are tiles
  pub holds_tiles : (j t : ℕ) → j < workers → Owns (tiles_of_worker n workers j) t → t < n
  holds_tiles j t lt o =
      let p = owns_count (g j) (g (j + 1) - g j) t o in
      let high = p.1 in
      let grows = up j in
      let end = not_past j lt in
      omega (arith, high, grows, end)

  -- the first worker's first tile
  pub holds_some : (j : ℕ) → Owns (tiles_of_worker n workers j) (g j)
  holds_some j = let grows = up j in count_owns (g j) (g (j + 1) - g j) (g j) (omega arith) (omega (arith, grows))
