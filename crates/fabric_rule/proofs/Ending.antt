-- The rule at the beginning, and at the end.
use Rattle.std.proofs.Common.{◌≡◌, ◌≢◌, ℕ, zero, suc, ◌<◌, List, [], ◌∷◌, ◌++◌, refl, sym, ap, ◌∙◌, subst}
use Rattle.std.proofs.lemmas.List.{append-nil}
use mathlib.Core.Option.{some, some-injective, some-ne-none}
use lib.ListN.{get_elem?}
use Rattle.torus.specs.Shape.{tiles_of}
use Rattle.torus.specs.declared.step.Step.{Step}
use Rattle.core_laws.specs.Core.{Load}
use Rattle.fabric_rule.specs.Known.{tile_of, ShowsBeginning}
use Rattle.fabric_rule.specs.View.{View}
use Rattle.fabric_rule.specs.Groups.{In, Apart, Others, Named, ToldOfGroup}
use Rattle.fabric_rule.specs.Rule.{IsBegunBy, Kept}

pub begins : (load : Load) (row : List ℕ) (v : View) → ShowsBeginning load row [] → v.load ≡ load → v.run ≡ [] → v.told ≡ [] → Apart v.groups → Kept load row (v ∷ []) []
begins load row v shown e f g parted = record { shown = shown; named = tt; fits = fits; apart = apart; known = (0, v, refl, f) }
  where
    own : IsBegunBy load [] v
    own = record { same_load = (λ _. e); begins = ([], sym (append-nil v.run ∙ f), tt); apart = parted; told = subst (ToldOfGroup [] v.groups) (sym g) tt }

    fits : (j : ℕ) (u : View) → get_elem? (v ∷ []) j ≡ some u → IsBegunBy load [] u
    fits zero u p = subst (IsBegunBy load []) (some-injective v u p) own
    fits (suc j) u p = absurd (some-ne-none u (sym p))

    apart : (i j : ℕ) (a b : View) → get_elem? (v ∷ []) i ≡ some a → get_elem? (v ∷ []) j ≡ some b → i ≢ j → (t : ℕ) → In a.groups t → In b.groups t → ⊥
    apart zero zero a b p q n t x y = n refl
    apart zero (suc j) a b p q n t x y = absurd (some-ne-none b (sym q))
    apart (suc i) j a b p q n t x y = absurd (some-ne-none a (sym p))

-- the run of a seat that has every tile is the longest
pub ends : (load : Load) (words : List ℕ) (views : List View) (r : List Step) (id : ℕ) (v : View) → Kept load words views r → get_elem? views id ≡ some v
    → ((t : ℕ) → t < tiles_of load.shape → In v.groups t) → v.run ≡ r
ends load words views r id v k at all =
    let f = (k.fits id v at).begins in
    let none_left : f.0 ≡ [] = empty f.0 f.2 (named_right v.run f.0 (subst (Named (tiles_of load.shape)) f.1 k.named)) in
    sym (f.1 ∙ (ap (λ (l : List Step). v.run ++ l) none_left ∙ append-nil v.run))
  where
    named_right : (xs ys : List Step) → Named (tiles_of load.shape) (xs ++ ys) → Named (tiles_of load.shape) ys
    named_right [] ys n = n
    named_right (x ∷ xs) ys n = named_right xs ys n.1

    empty : (xs : List Step) → Others v.groups xs → Named (tiles_of load.shape) xs → xs ≡ []
    empty [] o n = refl
    empty (x ∷ xs) o n = absurd (o.0 (all (tile_of x) n.0))
