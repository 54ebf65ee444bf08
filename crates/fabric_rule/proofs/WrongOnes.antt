-- Wrong rules of a shared row: words, views and runs of which the rule says one thing and each wrong one another.
use Rattle.std.proofs.Common.{◌≡◌, ◌≢◌, inl, inr, ℕ, zero, suc, ◌<◌, true, List, [], ◌∷◌, ◌++◌, refl, sym, subst, ap, replicate, slice_index, arith}
use mathlib.Core.Option.{some, some-injective, some-ne-none}
use lib.ListN.{get_elem?}
use Rattle.torus.specs.Shape.{tiles_of}
use Rattle.torus.specs.declared.step.Step.{Step}
use Rattle.torus.specs.declared.step.Choice.TheVariants.{Done}
use Rattle.one_order.specs.Following.{first_of, is_finished}
use Rattle.core_laws.specs.Core.{Load}
use Rattle.fabric_rule.specs.Known.{ShowsBeginning}
use Rattle.fabric_rule.specs.View.{View}
use Rattle.fabric_rule.specs.Groups.{In, Apart, Others, Extends, Named, ToldOfGroup}
use Rattle.fabric_rule.specs.Rule.{IsBegunBy, Kept}

-- two tiles with eight words, and empty scripts
abbrev load : Load
load = record {
  shape = record { radices = 2 ∷ []; datelines = 1 ∷ [] };
  depth = 4;
  tags = 4;
  opening = replicate 8 0;
  scripts = [] ∷ [] ∷ [];
}

-- processor 0 has reported, and the done word, behind 96 places and the memory, is 1
abbrev run : List Step
run = record { agent = 0; choice = Done } ∷ []

abbrev words : List ℕ
words = replicate 104 0 ++ 1 ∷ []

-- a seat of one tile that knows some steps
abbrev seat : ℕ → List Step → View
seat tile known = record { live = true; load = load; run = known; groups = (tile ∷ []) ∷ []; told = [] }

-- each tile has its seat; that of tile 0 has made the step, and that of tile 1 doesn't know of it
abbrev seats : List View
seats = seat 0 run ∷ seat 1 [] ∷ []

words_show_the_run : ShowsBeginning load words run
unfolding ShowsBeginning first_of is_finished
words_show_the_run = refl

-- what holds of two views holds of each of them, and of pairs of different ones
module _ (v w : View) where
  each_of_two : (P : View → Type 0) → P v → P w → (id : ℕ) (u : View) → get_elem? (v ∷ w ∷ []) id ≡ some u → P u
  each_of_two P at_v at_w zero u e = subst P (some-injective v u e) at_v
  each_of_two P at_v at_w (suc zero) u e = subst P (some-injective w u e) at_w
  each_of_two P at_v at_w (suc (suc id)) u e = absurd (some-ne-none u (sym e))

  abbrev Disjoint : View → View → Type 0
  Disjoint a b = (t : ℕ) → In a.groups t → In b.groups t → ⊥

  pair_apart : Disjoint v w → (i j : ℕ) (a b : View) → get_elem? (v ∷ w ∷ []) i ≡ some a
      → get_elem? (v ∷ w ∷ []) j ≡ some b → i ≢ j → Disjoint a b
  pair_apart d zero zero a b e f other = absurd (other refl)
  pair_apart d zero (suc zero) a b e f other =
      subst (λ x. Disjoint x b) (some-injective v a e) (subst (Disjoint v) (some-injective w b f) d)
  pair_apart d (suc zero) zero a b e f other =
      subst (λ x. Disjoint x b) (some-injective w a e) (subst (Disjoint w) (some-injective v b f) (λ t p q. d t q p))
  pair_apart d (suc zero) (suc zero) a b e f other = absurd (other refl)
  pair_apart d zero (suc (suc j)) a b e f other = absurd (some-ne-none b (sym f))
  pair_apart d (suc zero) (suc (suc j)) a b e f other = absurd (some-ne-none b (sym f))
  pair_apart d (suc (suc i)) j a b e f other = absurd (some-ne-none a (sym e))

one_group : (tile : ℕ) → Apart ((tile ∷ []) ∷ [])
one_group tile = ((λ t mine other. other), tt)

-- a tile of the seat of tile 0 is none of that of tile 1
seats_apart : (t : ℕ) → In ((0 ∷ []) ∷ []) t → In ((1 ∷ []) ∷ []) t → ⊥
seats_apart t (inl (inl first)) (inl (inl second)) = absurd (omega (arith, first, second))
seats_apart t (inl (inl first)) (inl (inr none)) = none
seats_apart t (inl (inl first)) (inr none) = none
seats_apart t (inl (inr none)) other = none
seats_apart t (inr none) other = none

-- the step is of tile 0, and so of none of tile 1
not_of_tile_1 : Others ((1 ∷ []) ∷ []) run
not_of_tile_1 = (mine, tt)
  where
    mine : In ((1 ∷ []) ∷ []) 0 → ⊥
    mine (inl (inl is)) = absurd (omega (arith, is))
    mine (inl (inr none)) = none
    mine (inr none) = none

rule_is_kept : Kept load words seats run
rule_is_kept = record {
  shown = words_show_the_run;
  named = (omega arith, tt);
  fits = each_of_two (seat 0 run) (seat 1 []) (IsBegunBy load run)
      (record { same_load = (λ _. refl); begins = ([], refl, tt); apart = one_group 0; told = tt })
      (record { same_load = (λ _. refl); begins = (run, refl, not_of_tile_1); apart = one_group 1; told = tt });
  apart = pair_apart (seat 0 run) (seat 1 []) seats_apart;
  known = (0, seat 0 run, refl, refl);
}

-- wrong: each seat knows the longest run
abbrev EachKnowsIt : List View → List Step → Type 0
EachKnowsIt views r = (id : ℕ) (v : View) → get_elem? views id ≡ some v → v.run ≡ r

one_knows_less : EachKnowsIt seats run → ⊥
one_knows_less h = cc (h 1 (seat 1 []) refl)

-- wrong: the longest run begins with each seat's, and may go on by steps of the seat's own
abbrev BeginsWithEach : List View → List Step → Type 0
BeginsWithEach views r = (id : ℕ) (v : View) → get_elem? views id ≡ some v → Extends r v.run

-- the seat of tile 0 has lost its own step
abbrev forgetful : List View
forgetful = seat 0 [] ∷ seat 1 run ∷ []

own_step_is_known : Kept load words forgetful run → ⊥
own_step_is_known k = lost (k.fits 0 (seat 0 []) refl).begins
  where
    lost : (b : (rest : List Step) × (run ≡ rest) × Others ((0 ∷ []) ∷ []) rest) → ⊥
    lost b = (subst (Others ((0 ∷ []) ∷ [])) (sym b.1) b.2).0 (inl (inl refl))

own_step_is_lost : BeginsWithEach forgetful run
own_step_is_lost =
    each_of_two (seat 0 []) (seat 1 run) (λ v. Extends run v.run) (run, refl) ([], refl)

-- wrong: of two seats the tiles may be the same, where each seat's own are apart
abbrev ApartInEach : List View → Type 0
ApartInEach views = (id : ℕ) (v : View) → get_elem? views id ≡ some v → Apart v.groups

abbrev doubled : List View
doubled = seat 0 run ∷ seat 0 run ∷ []

tile_has_one_seat : Kept load words doubled run → ⊥
tile_has_one_seat k =
    k.apart 0 1 (seat 0 run) (seat 0 run) refl refl (λ e. absurd (omega (arith, e))) 0 (inl (inl refl)) (inl (inl refl))

tile_has_two_seats : ApartInEach doubled
tile_has_two_seats = each_of_two (seat 0 run) (seat 0 run) (λ v. Apart v.groups) (one_group 0) (one_group 0)

-- wrong: the words show a state that some seat knows, and not that after the longest run
abbrev ShowsSome : List ℕ → List View → Type 0
ShowsSome row views = (id : ℕ) × (v : View) × (get_elem? views id ≡ some v) × ShowsBeginning load row v.run

abbrev first_words : List ℕ
first_words = replicate 105 0

older_row_is_refused : Kept load first_words seats run → ⊥
unfolding ShowsBeginning first_of is_finished
older_row_is_refused k =
    let e : ◌≡◌ {A = ℕ} 0 1 = ap (λ (row : List ℕ). slice_index row 104) k.shown in
    absurd (omega (arith, e))

older_row_is_taken : ShowsSome first_words seats
unfolding ShowsBeginning first_of is_finished
older_row_is_taken = (1, seat 1 [], refl, refl)
