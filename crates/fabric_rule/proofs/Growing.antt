-- One seat learns the longest run, which goes on by steps of its own: the rule is kept.
use Rattle.std.proofs.Common.{◌≡◌, ◌≢◌, ℕ, zero, suc, ◌<◌, true, List, [], ◌∷◌, ◌++◌, length, set, sym, ap, ◌∙◌, subst, ⊎_elim, arith, append_assoc}
use Rattle.std.proofs.lemmas.List.{append-nil}
use mathlib.Core.Option.{some, some-ne-none}
use lib.ListN.{get_elem?}
use Rattle.atomic_table.proofs.Lists.{at_set, set_here}
use Rattle.torus.specs.Shape.{tiles_of}
use Rattle.torus.specs.declared.step.Step.{Step}
use Rattle.core_laws.specs.Core.{Load}
use Rattle.fabric_rule.specs.Known.{ShowsBeginning}
use Rattle.fabric_rule.specs.View.{View}
use Rattle.fabric_rule.specs.Groups.{In, Apart, Mine, Named, ToldOfGroup}
use Rattle.fabric_rule.specs.Rule.{IsBegunBy, Kept}
use Rattle.fabric_rule.proofs.Groups.{others_append, named_append, others_of_mine, told_more}

pub there_length : (l : List View) (i : ℕ) (u : View) → get_elem? l i ≡ some u → i < length l
there_length [] i u e = absurd (some-ne-none u (sym e))
there_length (x ∷ l) zero u e = omega arith
there_length (x ∷ l) (suc i) u e = let p = there_length l i u e in omega arith

-- one seat learns the longest run, which goes on by steps of its own. Its view becomes w
module _ (load : Load) (words now : List ℕ) (views : List View) (r more : List Step) (id : ℕ) (v w : View)
    (k : Kept load words views r) (at : get_elem? views id ≡ some v) (shown : ShowsBeginning load now (r ++ more)) (named : Named (tiles_of load.shape) more)
    (mine : Mine v.groups more)
    (run : w.run ≡ r ++ more) (same_load : w.live ≡ true → w.load ≡ load) (sub : (t : ℕ) → In w.groups t → In v.groups t) (parted : Apart w.groups)
    (told : ToldOfGroup (r ++ more) w.groups w.told) where
  fits_other : (j : ℕ) (u : View) → j ≢ id → get_elem? views j ≡ some u → IsBegunBy load (r ++ more) u
  fits_other j u ne e = let f = k.fits j u e in let no_tile = k.apart id j v u at e (λ s. ne (sym s)) in record {
    same_load = f.same_load;
    begins = (
      f.begins.0 ++ more,
      ap (λ (l : List Step). l ++ more) f.begins.1 ∙ append_assoc u.run f.begins.0 more,
      others_append u.groups f.begins.0 more f.begins.2 (others_of_mine v.groups u.groups more no_tile mine),
    );
    apart = f.apart;
    told = told_more v.groups r more u.groups u.told no_tile mine f.told;
  }

  fits_own : IsBegunBy load (r ++ more) w
  fits_own = record { same_load = same_load; begins = ([], sym (append-nil w.run ∙ run), tt); apart = parted; told = told }

  fits_all : (j : ℕ) (u : View) → get_elem? (set views id w) j ≡ some u → IsBegunBy load (r ++ more) u
  fits_all j u e = ⊎_elim (λ (p : (j ≡ id) × (w ≡ u)). subst (IsBegunBy load (r ++ more)) p.1 fits_own)
      (λ (p : (j ≢ id) × (get_elem? views j ≡ some u)). fits_other j u p.0 p.1) (at_set views id j w u e)

  -- no seat has a tile that it hadn't
  was : (j : ℕ) (u : View) → get_elem? (set views id w) j ≡ some u → (z : View) × (get_elem? views j ≡ some z) × ((t : ℕ) → In u.groups t → In z.groups t)
  was j u e = ⊎_elim
      (λ (p : (j ≡ id) × (w ≡ u)).
      (v, subst (λ (m : ℕ). get_elem? views m ≡ some v) (sym p.0) at, λ t i. sub t (subst (λ (z : View). In z.groups t) (sym p.1) i)))
      (λ (p : (j ≢ id) × (get_elem? views j ≡ some u)). (u, p.1, λ t i. i))
      (at_set views id j w u e)

  apart_all : (i j : ℕ) (a b : View) → get_elem? (set views id w) i ≡ some a → get_elem? (set views id w) j ≡ some b → i ≢ j → (t : ℕ) → In a.groups t
      → In b.groups t → ⊥
  apart_all i j a b e f ne t x y = let p = was i a e in let q = was j b f in k.apart i j p.0 q.0 p.1 q.1 ne t (p.2 t x) (q.2 t y)

  pub kept_grow : Kept load now (set views id w) (r ++ more)
  kept_grow = record {
    shown = shown;
    named = named_append (tiles_of load.shape) r more k.named named;
    fits = fits_all;
    apart = apart_all;
    known = (id, w, set_here views id w (there_length views id v at), run);
  }
