-- A view cut in two keeps the rule.
use Rattle.std.proofs.Common.{◌≡◌, ◌≢◌, ◌⊎◌, ℕ, zero, suc, List, [], ◌∷◌, ◌++◌, length, set, refl, sym, ap, ◌∙◌, subst, inl, inr, ⊎_elim}
use mathlib.Core.Option.{some, some-injective, some-ne-none}
use mathlib.Core.Logic.{dite}
use native.Mathlib.Decide.{ℕ_discrete}
use lib.ListN.{get_elem?}
use Rattle.atomic_table.proofs.Lists.{at_set, set_here, set_else, at_longer}
use Rattle.torus.specs.declared.step.Step.{Step}
use Rattle.core_laws.specs.Core.{Load}
use Rattle.fabric_rule.specs.View.{View}
use Rattle.fabric_rule.specs.Groups.{In, Apart, with_groups}
use Rattle.fabric_rule.specs.Rule.{IsBegunBy, Kept}
use Rattle.fabric_rule.proofs.Groups.{others_sub}
use Rattle.fabric_rule.proofs.Growing.{there_length}

at_end : (l : List View) (a b : View) (j : ℕ) → get_elem? (l ++ a ∷ []) j ≡ some b → (get_elem? l j ≡ some b) ⊎ ((j ≡ length l) × (a ≡ b))
at_end [] a b zero e = inr (refl, some-injective a b e)
at_end [] a b (suc j) e = absurd (some-ne-none b (sym e))
at_end (x ∷ xs) a b zero e = inl e
at_end (x ∷ xs) a b (suc j) e = ⊎_elim (λ p. inl p) (λ p. inr (ap suc p.0, p.1)) (at_end xs a b j e)

module _ (load : Load) (words : List ℕ) (views : List View) (r : List Step) (id : ℕ) (v : View) (gl gq : List (List ℕ))
    (k : Kept load words views r) (at : get_elem? views id ≡ some v) (subl : (t : ℕ) → In gl t → In v.groups t) (subq : (t : ℕ) → In gq t → In v.groups t)
    (no_tile : (t : ℕ) → In gl t → In gq t → ⊥) (partl : Apart gl) (partq : Apart gq) where
  abbrev L : View
  L = with_groups v gl

  abbrev Q : View
  Q = with_groups v gq

  abbrev cut : List View
  cut = set views id L ++ Q ∷ []

  cut_fits : (gs : List (List ℕ)) → ((t : ℕ) → In gs t → In v.groups t) → Apart gs → IsBegunBy load r (with_groups v gs)
  cut_fits gs sub part = let f = k.fits id v at in record {
    same_load = f.same_load;
    begins = (f.begins.0, f.begins.1, others_sub v.groups gs f.begins.0 sub f.begins.2);
    apart = part;
    told = tt;
  }

  abbrev Place : ℕ → View → Type 0
  Place j u = (((j ≡ id) × (L ≡ u)) ⊎ ((j ≢ id) × (get_elem? views j ≡ some u))) ⊎ ((j ≡ length (set views id L)) × (Q ≡ u))

  place : (j : ℕ) (u : View) → get_elem? cut j ≡ some u → Place j u
  place j u e = ⊎_elim (λ p. inl (at_set views id j L u p)) (λ p. inr p) (at_end (set views id L) Q u j e)

  place_fits : (j : ℕ) (u : View) → Place j u → IsBegunBy load r u
  place_fits j u (inl (inl p)) = subst (IsBegunBy load r) p.1 (cut_fits gl subl partl)
  place_fits j u (inl (inr p)) = k.fits j u p.1
  place_fits j u (inr p) = subst (IsBegunBy load r) p.1 (cut_fits gq subq partq)

  move : (a b : View) (t : ℕ) → a ≡ b → In b.groups t → In a.groups t
  move a b t e i = subst (λ (z : View). In z.groups t) (sym e) i

  place_apart : (i j : ℕ) (a b : View) (t : ℕ) → Place i a → Place j b → i ≢ j → In a.groups t → In b.groups t → ⊥
  place_apart i j a b t (inl (inl p)) (inl (inl q)) n x y = n (p.0 ∙ sym q.0)
  place_apart i j a b t (inl (inl p)) (inl (inr q)) n x y = k.apart id j v b at q.1 (λ e. q.0 (sym e)) t (subl t (move L a t p.1 x)) y
  place_apart i j a b t (inl (inl p)) (inr q) n x y = no_tile t (move L a t p.1 x) (move Q b t q.1 y)
  place_apart i j a b t (inl (inr p)) (inl (inl q)) n x y = k.apart i id a v p.1 at p.0 t x (subl t (move L b t q.1 y))
  place_apart i j a b t (inl (inr p)) (inl (inr q)) n x y = k.apart i j a b p.1 q.1 n t x y
  place_apart i j a b t (inl (inr p)) (inr q) n x y = k.apart i id a v p.1 at p.0 t x (subq t (move Q b t q.1 y))
  place_apart i j a b t (inr p) (inl (inl q)) n x y = no_tile t (move L b t q.1 y) (move Q a t p.1 x)
  place_apart i j a b t (inr p) (inl (inr q)) n x y = k.apart id j v b at q.1 (λ e. q.0 (sym e)) t (subq t (move Q a t p.1 x)) y
  place_apart i j a b t (inr p) (inr q) n x y = n (p.0 ∙ sym q.0)

  cut_known : (m : ℕ) × (z : View) × (get_elem? cut m ≡ some z) × (z.run ≡ r)
  cut_known = let q = k.known in dite (ℕ_discrete q.0 id)
      (λ same. let e : v ≡ q.1 = some-injective v q.1 (sym at ∙ subst (λ (m : ℕ). get_elem? views m ≡ some q.1) same q.2) in
      (id, L, at_longer (set views id L) (Q ∷ []) id L (set_here views id L (there_length views id v at)), ap (λ (z : View). z.run) e ∙ q.3))
      (λ n. (q.0, q.1, at_longer (set views id L) (Q ∷ []) q.0 q.1 (set_else views id q.0 L n ∙ q.2), q.3))

  pub kept_cut : Kept load words cut r
  kept_cut = record {
    shown = k.shown;
    named = k.named;
    fits = (λ j u e. place_fits j u (place j u e));
    apart = (λ i j a b e f n t x y. place_apart i j a b t (place i a e) (place j b f) n x y);
    known = cut_known;
  }
