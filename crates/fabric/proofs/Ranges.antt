-- The ranges into which cuts part the tiles.
use Rattle.std.proofs.Common.{◌≡◌, ⊎_elim, inl, inr, ℕ, zero, suc, ◌+◌, ◌-◌, ◌<◌, ◌≤◌, List, [], ◌∷◌, ap, ◌∙◌, subst, arith}
use Rattle.std.proofs.lemmas.Bool.{cases_lt}
use mathlib.Core.Logic.{dite}
use native.Mathlib.Decide.{ℕ_discrete}
use Rattle.fabric_rule.specs.Groups.{Owns, In, Apart, first_group}
use Rattle.fabric.specs.Key.{count_up, ranges, Rises}

pub owns_count : (a k t : ℕ) → Owns (count_up a k) t → (a ≤ t) × (t < a + k)
owns_count a zero t o = absurd o
owns_count a (suc k) t (inl e) = (omega arith, omega arith)
owns_count a (suc k) t (inr o) = let p = owns_count (suc a) k t o in (omega arith, omega arith)

pub count_owns : (a k t : ℕ) → a ≤ t → t < a + k → Owns (count_up a k) t
count_owns a zero t l m = absurd (omega arith)
count_owns a (suc k) t l m = dite (ℕ_discrete a t) (λ e. inl e) (λ n. inr (count_owns (suc a) k t (omega arith) (omega arith)))

pub rises_below : (a : ℕ) (cs : List ℕ) (n : ℕ) → Rises a cs n → a < n
rises_below a [] n r = r
rises_below a (c ∷ cs) n r = let p = rises_below c cs n r.1 in let q = r.0 in omega arith

ranges_from : (a : ℕ) (cs : List ℕ) (n t : ℕ) → Rises a cs n → In (ranges a cs n) t → a ≤ t
ranges_from a [] n t r (inl o) = (owns_count a (n - a) t o).0
ranges_from a [] n t r (inr i) = absurd i
ranges_from a (c ∷ cs) n t r (inl o) = (owns_count a (c - a) t o).0
ranges_from a (c ∷ cs) n t r (inr i) = let p = ranges_from c cs n t r.1 i in let q = r.0 in omega arith

pub ranges_apart : (a : ℕ) (cs : List ℕ) (n : ℕ) → Rises a cs n → Apart (ranges a cs n)
ranges_apart a [] n r = ((λ t o i. i), tt)
ranges_apart a (c ∷ cs) n r = (
  (λ t o i. let p = owns_count a (c - a) t o in let q = ranges_from c cs n t r.1 i in let h = r.0 in let x = p.1 in absurd (omega arith)),
  ranges_apart c cs n r.1,
)

-- each tile below n is in a range, and no other is
pub in_ranges : (a : ℕ) (cs : List ℕ) (n t : ℕ) → Rises a cs n → a ≤ t → t < n → In (ranges a cs n) t
in_ranges a [] n t r lo hi = inl (count_owns a (n - a) t lo (omega arith))
in_ranges a (c ∷ cs) n t r lo hi =
    ⊎_elim (λ (below : t < c). inl (count_owns a (c - a) t lo (omega arith))) (λ (past : c ≤ t). inr (in_ranges c cs n t r.1 past hi)) (cases_lt t c)

pub range_within : (a : ℕ) (cs : List ℕ) (n t : ℕ) → Rises a cs n → In (ranges a cs n) t → t < n
range_within a [] n t r (inl o) = let p = owns_count a (n - a) t o in let x = p.1 in omega (arith, x, r)
range_within a [] n t r (inr i) = absurd i
range_within a (c ∷ cs) n t r (inl o) =
    let p = owns_count a (c - a) t o in let x = p.1 in let y = r.0 in let z = rises_below c cs n r.1 in omega (arith, x, y, z)
range_within a (c ∷ cs) n t r (inr i) = range_within c cs n t r.1 i

-- the next range
pub range_here : (a c : ℕ) (rest cs : List ℕ) (n : ℕ) (groups : List (List ℕ)) → rest ≡ c ∷ cs → Rises a rest n → groups ≡ ranges a rest n
    → (first_group groups ≡ count_up a (c - a)) × (a < c) × (c ≤ n)
range_here a c rest cs n groups e r g =
    let r' : Rises a (c ∷ cs) n = subst (λ (l : List ℕ). Rises a l n) e r in
    let lt = rises_below c cs n r'.1 in
    (ap first_group (g ∙ ap (λ (l : List ℕ). ranges a l n) e), r'.0, omega arith)
