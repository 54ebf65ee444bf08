-- The first free tag of a table.
use Rattle.std.proofs.Common.{◌≡◌, ◌<◌, ◌≤◌, ◌↔◌, ℕ, List, length, Option, None, Some, true, false, cond, refl, sym, ap, ◌∙◌, arith}
use Rattle.std.specs.Prelude.{IsSome, IsNone, is_none, nat_lt}
use Rattle.std.specs.List.{position_or_len}
use Rattle.std.proofs.lemmas.List.Quantifiers.{position-Some}
use Rattle.std.proofs.lemmas.List.Sums.{fails_before_first, position_or_len_is}
use Rattle.std.proofs.lemmas.Bool.Decides.{nat_tests}
use Rattle.torus.specs.declared.step.OpId.{OpId}
use Rattle.tag_table.specs.Tags.{holder_of, free_tag, AreAllOut, IsLowestFree}

-- a tag that isn't free is out
out : (holder : Option OpId) → is_none holder ≡ false → IsSome holder
out None e = cc
out (Some id) e = refl

free : (holder : Option OpId) → is_none holder ≡ true → holder ≡ None
free None e = refl
free (Some id) e = cc

held : (holder : Option OpId) → IsSome holder → is_none holder ≡ false
held None e = cc
held (Some id) e = refl

-- a place that is looked up in a list of n elements
found_below : (at n : ℕ) → at < n → cond (nat_lt at n) (Some at) None ≡ Some at
found_below at n h = grind (arith, nat_tests)

absent_from : (at n : ℕ) → n ≤ at → cond (nat_lt at n) (Some at) None ≡ None
absent_from at n h = grind (arith, nat_tests)

absent_past : (at n : ℕ) → cond (nat_lt at n) (Some at) None ≡ None → n ≤ at
absent_past at n e = grind (arith, nat_tests)

pub free_tag-found : (tags : List (Option OpId)) (t : ℕ) → free_tag tags ≡ Some t → IsLowestFree tags t
free_tag-found tags t e =
    let found = position-Some is_none tags t None e in
    record {
      exists = found.0;
      free = free (holder_of tags t) found.1;
      lower_out = λ u lower. out (holder_of tags u) (found.2 u lower);
    }

pub free_tag-lowest : (tags : List (Option OpId)) (t : ℕ) → IsLowestFree tags t → free_tag tags ≡ Some t
free_tag-lowest tags t lowest =
    let at : position_or_len is_none tags ≡ t =
    position_or_len_is is_none tags t None (omega arith) (λ u lower. held (holder_of tags u) (lowest.lower_out u lower)) (λ _. ap is_none lowest.free) in
    found_below (position_or_len is_none tags) (length tags) (omega arith) ∙ ap Some at

pub free_tag-none : (tags : List (Option OpId)) → free_tag tags ≡ None → AreAllOut tags
free_tag-none tags e t below =
    out (holder_of tags t) (fails_before_first is_none tags t None (omega (arith, absent_past (position_or_len is_none tags) (length tags) e)))

pub free_tag-all_out : (tags : List (Option OpId)) → AreAllOut tags → free_tag tags ≡ None
free_tag-all_out tags all =
    let at : position_or_len is_none tags ≡ length tags =
    position_or_len_is is_none tags (length tags) None (omega arith) (λ u lower. held (holder_of tags u) (all u lower)) (λ past. absurd (omega arith)) in
    absent_from (position_or_len is_none tags) (length tags) (omega arith)

pub none_exactly : (tags : List (Option OpId)) (found : Option ℕ) → found ≡ free_tag tags → IsNone found ↔ AreAllOut tags
none_exactly tags None e = (λ _. free_tag-none tags (sym e), λ _. refl)
none_exactly tags (Some t) e = (λ none. cc, λ all. let wrong : Some t ≡ None = e ∙ free_tag-all_out tags all in cc)
