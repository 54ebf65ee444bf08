-- Two views put together keep the rule.
use Rattle.std.proofs.Common.{◌≡◌, ◌≢◌, ◌⊎◌, ℕ, ◌≤◌, true≢false, List, length, set, refl, sym, ap, ◌∙◌, subst, inl, inr, ⊎_elim, arith}
use mathlib.Core.Option.{some, some-injective}
use mathlib.Core.Logic.{dite}
use native.Mathlib.Decide.{ℕ_discrete}
use lib.ListN.{get_elem?}
use Rattle.atomic_table.proofs.Lists.{at_set, set_here, set_else}
use Rattle.torus.specs.declared.step.Step.{Step}
use Rattle.core_laws.specs.Core.{Load}
use Rattle.fabric_rule.specs.View.{View, blank}
use Rattle.fabric_rule.specs.Groups.{In, both, longer}
use Rattle.fabric_rule.specs.Rule.{IsBegunBy, Kept}
use Rattle.fabric_rule.proofs.Groups.{in_append, in_left, in_right, apart_append, others_none, longer_goes, longer_length, whole}
use Rattle.fabric_rule.proofs.Growing.{there_length}

module _ (load : Load) (words : List ℕ) (views : List View) (r : List Step) (id other : ℕ) (v w : View)
    (k : Kept load words views r) (at : get_elem? views id ≡ some v) (ne : ¬ (other ≡ id)) (at' : get_elem? views other ≡ some w) where
  abbrev B : View
  B = both v w

  fits_both : IsBegunBy load r B
  fits_both = let f = k.fits id v at in let g = k.fits other w at' in record {
    same_load = f.same_load;
    begins = longer_goes v.groups w.groups r v.run w.run f.begins g.begins;
    apart = apart_append v.groups w.groups f.apart g.apart (λ t i j. k.apart id other v w at at' (λ e. ne (sym e)) t i j);
    told = (f.begins, in_left v.groups w.groups, (g.begins, in_right v.groups w.groups, tt));
  }

  fits_blank : IsBegunBy load r blank
  fits_blank = record { same_load = (λ e. absurd (true≢false (sym e))); begins = (r, refl, others_none r); apart = tt; told = tt }

  abbrev now : List View
  now = set (set views id B) other blank

  -- whose view it is
  abbrev Origin : ℕ → View → Type 0
  Origin j u = (blank ≡ u) ⊎ ((j ≢ other) × (((j ≡ id) × (B ≡ u)) ⊎ ((j ≢ id) × (get_elem? views j ≡ some u))))

  origin : (j : ℕ) (u : View) → get_elem? now j ≡ some u → Origin j u
  origin j u e = ⊎_elim
      (λ (p : (j ≡ other) × (blank ≡ u)). inl p.1)
      (λ (p : (j ≢ other) × (get_elem? (set views id B) j ≡ some u)). inr (p.0, at_set views id j B u p.1))
      (at_set (set views id B) other j blank u e)

  fits_by : (j : ℕ) (u : View) → Origin j u → IsBegunBy load r u
  fits_by j u (inl e) = subst (IsBegunBy load r) e fits_blank
  fits_by j u (inr p) = ⊎_elim (λ (q : (j ≡ id) × (B ≡ u)). subst (IsBegunBy load r) q.1 fits_both) (λ (q : (j ≢ id) × (get_elem? views j ≡ some u)). k.fits j u q.1)
      p.1

  -- a seat before that had the tile, which is the same one or the one that was taken in
  abbrev Had : ℕ → ℕ → Type 0
  Had j t = (j ≢ other) × ((m : ℕ) × (z : View) × (get_elem? views m ≡ some z) × In z.groups t × ((m ≡ j) ⊎ ((j ≡ id) × (m ≡ other))))

  had : (j : ℕ) (u : View) (t : ℕ) → Origin j u → In u.groups t → Had j t
  had j u t (inl e) i = absurd (subst (λ (z : View). In z.groups t) (sym e) i)
  had j u t (inr p) i = (
    p.0,
    ⊎_elim
        (λ (q : (j ≡ id) × (B ≡ u)). ⊎_elim
        (λ (x : In v.groups t). (id, v, at, x, inl (sym q.0)))
        (λ (y : In w.groups t). (other, w, at', y, inr (q.0, refl)))
        (in_append v.groups w.groups t (subst (λ (z : View). In z.groups t) (sym q.1) i)))
        (λ (q : (j ≢ id) × (get_elem? views j ≡ some u)). (j, u, q.1, i, inl refl))
        p.1,
  )

  apart_had : (i j t : ℕ) → i ≢ j → Had i t → Had j t → ⊥
  apart_had i j t n x y = k.apart x.1.0 y.1.0 x.1.1 y.1.1 x.1.2 y.1.2 (λ e. ⊎_elim
      (λ (p : x.1.0 ≡ i). ⊎_elim (λ (q : y.1.0 ≡ j). n (sym p ∙ e ∙ q)) (λ (q : (j ≡ id) × (y.1.0 ≡ other)). x.0 (sym p ∙ e ∙ q.1)) y.1.4)
      (λ (p : (i ≡ id) × (x.1.0 ≡ other)). ⊎_elim (λ (q : y.1.0 ≡ j). y.0 (sym q ∙ sym e ∙ p.1)) (λ (q : (j ≡ id) × (y.1.0 ≡ other)). n (p.0 ∙ sym q.0)) y.1.4)
      x.1.4) t x.1.3 y.1.3

  there : get_elem? now id ≡ some B
  there = set_else (set views id B) other id blank (λ e. ne (sym e)) ∙ set_here views id B (there_length views id v at)

  long : (a : List Step) → length a ≤ length (longer v.run w.run) → a ≡ r → longer v.run w.run ≡ r
  long a le e = let g = fits_both.begins in let m = ap length e in whole (longer v.run w.run) g.0 r g.1 (omega arith)

  known : (m : ℕ) × (z : View) × (get_elem? now m ≡ some z) × (z.run ≡ r)
  known = let q = k.known in dite (ℕ_discrete q.0 id)
      (λ same. let e : v ≡ q.1 = some-injective v q.1 (sym at ∙ subst (λ (m : ℕ). get_elem? views m ≡ some q.1) same q.2) in
      (id, B, there, long v.run (longer_length v.run w.run).0 (ap (λ (z : View). z.run) e ∙ q.3)))
      (λ n. dite (ℕ_discrete q.0 other)
      (λ same. let e : w ≡ q.1 = some-injective w q.1 (sym at' ∙ subst (λ (m : ℕ). get_elem? views m ≡ some q.1) same q.2) in
      (id, B, there, long w.run (longer_length v.run w.run).1 (ap (λ (z : View). z.run) e ∙ q.3)))
      (λ n'. (q.0, q.1, set_else (set views id B) other q.0 blank n' ∙ set_else views id q.0 B n ∙ q.2, q.3)))

  pub kept_joined : Kept load words now r
  kept_joined = record {
    shown = k.shown;
    named = k.named;
    fits = (λ j u e. fits_by j u (origin j u e));
    apart = (λ i j a b e f n t x y. apart_had i j t n (had i a t (origin i a e) x) (had j b t (origin j b f) y));
    known = known;
  }
