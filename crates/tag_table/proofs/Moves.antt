-- What taking and giving back one tag does to a table.
use Rattle.std.proofs.Common.{◌≡◌, ◌<◌, ◌⊎◌, inl, inr, ℕ, zero, suc, List, [], ◌∷◌, length, Option, None, Some, cond, set, refl, sym, ap, ◌∙◌, arith}
use Rattle.std.specs.Prelude.{is_some}
use Rattle.std.proofs.lemmas.List.{get_or-set_same, get_or-set_other}
use Rattle.std.proofs.lemmas.List.Sums.{sum_by-set}
use Rattle.torus.specs.declared.step.OpId.{OpId}
use Rattle.tag_table.specs.Tags.{holder_of, free_tag, IsTaken, IsGivenBack, HoldDistinctTags, HoldsNone}
use Rattle.tag_table.proofs.Free.{free_tag-found}

-- a tag that somebody holds is a tag of the table
held_exists : (tags : List (Option OpId)) (t : ℕ) (id : OpId) → holder_of tags t ≡ Some id → t < length tags
held_exists [] t id e = cc
held_exists (x ∷ xs) zero id e = omega arith
held_exists (x ∷ xs) (suc t) id e = omega (arith, held_exists xs t id e)

-- who holds tag s after tag t went to an operation: that operation, or whoever held it before
holder-taken : (tags : List (Option OpId)) (t s : ℕ) (id other : OpId) → holder_of (set tags t (Some id)) s ≡ Some other
    → ((s ≡ t) × (id ≡ other)) ⊎ (holder_of tags s ≡ Some other)
holder-taken [] t s id other e = inr e
holder-taken (x ∷ xs) zero zero id other e = inl (refl, cc)
holder-taken (x ∷ xs) zero (suc s) id other e = inr e
holder-taken (x ∷ xs) (suc t) zero id other e = inr e
holder-taken (x ∷ xs) (suc t) (suc s) id other e =
    elim (holder-taken xs t s id other e) [ inl here ↦ inl (ap suc here.0, here.1) | inr before ↦ inr before ]

-- who holds tag s after tag t was given back held it before
holder-given : (tags : List (Option OpId)) (t s : ℕ) (id : OpId) → holder_of (set tags t None) s ≡ Some id → holder_of tags s ≡ Some id
holder-given [] t s id e = e
holder-given (x ∷ xs) zero zero id e = cc
holder-given (x ∷ xs) zero (suc s) id e = e
holder-given (x ∷ xs) (suc t) zero id e = e
holder-given (x ∷ xs) (suc t) (suc s) id e = holder-given xs t s id e

-- what a tag adds to the count of those that are out
abbrev counted : Option OpId → ℕ
counted holder = cond (is_some holder) 1 0

pub taken : (tags : List (Option OpId)) (t : ℕ) (id : OpId) → free_tag tags ≡ Some t → IsTaken tags (set tags t (Some id)) t id
taken tags t id e =
    let lowest = free_tag-found tags t e in
    record {
      was_free = lowest.free;
      held = get_or-set_same tags t (Some id) None lowest.exists;
      others = λ u other. get_or-set_other tags t u (Some id) None other;
      one_more =
          let before : counted (holder_of tags t) ≡ 0 = rw lowest.free in
          let change = sum_by-set counted tags t (Some id) None lowest.exists in
          omega (arith, before, change);
    }

pub given : (tags : List (Option OpId)) (t : ℕ) (id : OpId) → holder_of tags t ≡ Some id → IsGivenBack tags (set tags t None) t id
given tags t id e =
    record {
      was_held = e;
      free = get_or-set_same tags t None None (held_exists tags t id e);
      others = λ u other. get_or-set_other tags t u None None other;
      one_less =
          let before : counted (holder_of tags t) ≡ 1 = rw e in
          let change = sum_by-set counted tags t None None (held_exists tags t id e) in
          omega (arith, before, change);
    }

pub distinct-taken : (tags : List (Option OpId)) (t : ℕ) (id : OpId) → HoldDistinctTags tags → HoldsNone tags id → HoldDistinctTags (set tags t (Some id))
distinct-taken tags t id distinct none r s other at_r at_s =
    elim (holder-taken tags t r id other at_r) [
      | inl r_new ↦ elim (holder-taken tags t s id other at_s) [
        | inl s_new ↦ r_new.0 ∙ sym s_new.0
        | inr s_old ↦ absurd (none s (s_old ∙ ap Some (sym r_new.1)))
      ]
      | inr r_old ↦ elim (holder-taken tags t s id other at_s) [
        | inl s_new ↦ absurd (none r (r_old ∙ ap Some (sym s_new.1)))
        | inr s_old ↦ distinct r s other r_old s_old
      ]
    ]

pub distinct-given : (tags : List (Option OpId)) (t : ℕ) → HoldDistinctTags tags → HoldDistinctTags (set tags t None)
distinct-given tags t distinct r s id at_r at_s = distinct r s id (holder-given tags t r id at_r) (holder-given tags t s id at_s)
