-- Exactly one row shows given channels and words.
use Rattle.std.proofs.Common.{◌≡◌, ◌≢◌, ◌↔◌, ℕ, zero, suc, ◌+◌, ◌-◌, ◌*◌, ◌/◌, ◌%◌, ◌<◌, inl, inr, List, [], ◌∷◌, ◌++◌, length, get_or, sym, ◌∙◌, ap, subst}
use Rattle.std.proofs.Common.{arith, mod-eq_of_lt}
use Rattle.std.specs.List.{flat_map}
use Rattle.std.proofs.Math.Nat.{suc-mul, add-mod_left, add-mod_right}
use Rattle.std.proofs.lemmas.Bool.{cases_lt}
use Rattle.std.proofs.lemmas.Nat.{div-add-mod', div_below}
use Rattle.std.proofs.lemmas.List.{get_or_append_left, get_or-append-add, get_or_past, length-append, same_lists, get_or_default}
use Rattle.std.proofs.lemmas.List.FromFn.{length-map-range_with_len, get_or-map-range_with_len}
use Rattle.flit_buffer.specs.Places.{Ring}
use Rattle.flit_buffer.specs.Surroundings.{Surroundings, ring, AreRings, ShowsAll}
use Rattle.flit_buffer.proofs.ManyRings.{before}
use Rattle.flit_buffer.proofs.RingArithmetic.{place_from, place_within}
use Rattle.core_laws.specs.Row.{place_word, places_of, row_showing}

-- the place that is i after the front is as many after it
pub after_front : (depth front i : ℕ) → front < depth → i < depth → ((front + i) % depth + (depth - front)) % depth ≡ i
after_front depth front i f h =
    place_from depth front i (depth - front)
    ∙ ap (λ n. n % depth) (omega arith)
    ∙ add-mod_left depth i ∙ mod-eq_of_lt h

-- and the place that is as many after the front as place q is, is q
pub place_again : (depth front q : ℕ) → front < depth → q < depth → (front + (q + (depth - front)) % depth) % depth ≡ q
place_again depth front q f h =
    ap (λ n. n % depth) (omega arith)
    ∙ place_from depth q (depth - front) front
    ∙ ap (λ n. n % depth) (omega arith)
    ∙ add-mod_right q depth ∙ mod-eq_of_lt h

module _ (depth : ℕ) where
  places_count : (r : Ring) → length (places_of depth r) ≡ depth
  places_count r = length-map-range_with_len (place_word depth r) 0 depth

  pub all_count : (rings : List Ring) → length (flat_map (places_of depth) rings) ≡ length rings * depth
  all_count [] = omega arith
  all_count (r ∷ rings) =
      length-append (places_of depth r) (flat_map (places_of depth) rings)
      ∙ ap (λ n. n + length (flat_map (places_of depth) rings)) (places_count r)
      ∙ ap (λ n. depth + n) (all_count rings)
      ∙ (let s = suc-mul (length rings) depth in omega (arith, s))

  place_at : (rings : List Ring) (x q : ℕ) → x < length rings → q < depth
      → get_or (flat_map (places_of depth) rings) (x * depth + q) 0 ≡ place_word depth (ring rings x) q
  place_at [] x q h low = absurd (omega arith)
  place_at (r ∷ rings) zero q h low =
      let n = places_count r in
      ap (λ k. get_or (places_of depth r ++ flat_map (places_of depth) rings) k 0) (omega arith)
      ∙ get_or_append_left (places_of depth r) (flat_map (places_of depth) rings) 0 q (omega (arith, n))
      ∙ get_or-map-range_with_len (place_word depth r) 0 depth q q 0 low (omega arith)
  place_at (r ∷ rings) (suc x) q h low =
      let n = places_count r in
      let s = suc-mul x depth in
      ap (λ k. get_or (places_of depth r ++ flat_map (places_of depth) rings) k 0) (omega (arith, s, n))
      ∙ get_or-append-add (places_of depth r) (flat_map (places_of depth) rings) (x * depth + q) 0
      ∙ place_at rings x q (omega arith) low

  module _ (around : Surroundings) where
    abbrev count : ℕ
    count = length around.rings

    pub row_count : length (row_showing depth around) ≡ count * depth + length around.words
    row_count = length-append (flat_map (places_of depth) around.rings) around.words ∙ ap (λ n. n + length around.words) (all_count around.rings)

    pub row_place : (x q : ℕ) → x < count → q < depth → get_or (row_showing depth around) (x * depth + q) 0 ≡ place_word depth (ring around.rings x) q
    row_place x q h low =
        let b = before depth x count h in
        let n = all_count around.rings in
        get_or_append_left (flat_map (places_of depth) around.rings) around.words 0 (x * depth + q) (omega (arith, b, n))
        ∙ place_at around.rings x q h low

    pub row_word : (a : ℕ) → get_or (row_showing depth around) (count * depth + a) 0 ≡ get_or around.words a 0
    row_word a =
        ap (λ n. get_or (row_showing depth around) (n + a) 0) (sym (all_count around.rings))
        ∙ get_or-append-add (flat_map (places_of depth) around.rings) around.words a 0

    module _ (are : AreRings depth around) where
      -- the row shows them
      pub row_shows : ShowsAll (row_showing depth around) depth around
      row_shows = record {
        size = row_count;
        rings = λ x h.
            let r = are x h in
            record {
              within = (let b = before depth x count h in omega (arith, b, row_count));
              places = λ i low.
                  row_place x (((ring around.rings x).front + i) % depth) h (place_within depth (ring around.rings x).front i r.front)
                  ∙ ap (λ k. get_or (ring around.rings x).channel.flits k 0) (after_front depth (ring around.rings x).front i r.front low);
            };
        words = λ a h. row_word a;
      }

      -- a place of a row that shows them
      shown_place : (row : List ℕ) → ShowsAll row depth around → (x q : ℕ) → x < count → q < depth
          → get_or row (x * depth + q) 0 ≡ place_word depth (ring around.rings x) q
      shown_place row shows x q h low =
          let r = are x h in
          let i : ℕ = (q + (depth - (ring around.rings x).front)) % depth in
          let i_in : i < depth = omega arith in
          ap (λ k. get_or row (x * depth + k) 0) (sym (place_again depth (ring around.rings x).front q r.front low))
          ∙ (shows.rings x h).places i i_in

      by_half : (row : List ℕ) → ShowsAll row depth around → (k : ℕ) → k < length row → get_or row k 0 ≡ get_or (row_showing depth around) k 0
      by_half row shows k h = elim (cases_lt k (count * depth)) [
        | inl low ↦
            let some : 0 < depth = above depth k low in
            let x : ℕ = k / depth in
            let q : ℕ = k % depth in
            let q_in : q < depth = omega arith in
            let x_in : x < count = div_below k depth count some low in
            let is : x * depth + q ≡ k = div-add-mod' k depth in
            ap (λ n. get_or row n 0) (sym is) ∙ shown_place row shows x q x_in q_in
            ∙ sym (row_place x q x_in q_in) ∙ ap (λ n. get_or (row_showing depth around) n 0) is
        | inr high ↦
            let a : ℕ = k - count * depth in
            let is : count * depth + a ≡ k = omega arith in
            let a_in : a < length around.words = omega (arith, shows.size) in
            ap (λ n. get_or row n 0) (sym is) ∙ shows.words a a_in ∙ sym (row_word a) ∙ ap (λ n. get_or (row_showing depth around) n 0) is
      ]
        where
          above : (depth k : ℕ) → k < count * depth → 0 < depth
          above zero k low = absurd (omega arith)
          above (suc m) k low = omega arith

      -- and no other does
      pub only_row : (row : List ℕ) → ShowsAll row depth around → row ≡ row_showing depth around
      only_row row shows = same_lists row (row_showing depth around) (shows.size ∙ sym row_count) (λ k d h.
          get_or_default row k d 0 h ∙ (by_half row shows k h
          ∙ get_or_default (row_showing depth around) k 0 d
          (let s : length row ≡ length (row_showing depth around) = shows.size ∙ sym row_count in omega (arith, s))))

      pub one_row : (row : List ℕ) → ShowsAll row depth around ↔ (row ≡ row_showing depth around)
      one_row row = (only_row row, λ e. subst (λ (z : List ℕ). ShowsAll z depth around) (sym e) row_shows)

      -- a place at which no flit lies
      pub empty_place : (x q : ℕ) → x < count → q < depth
          → ((i : ℕ) → i < length (ring around.rings x).channel.flits → ((ring around.rings x).front + i) % depth ≢ q)
          → get_or (row_showing depth around) (x * depth + q) 0 ≡ 0
      empty_place x q h low none =
          let r = are x h in
          let i : ℕ = (q + (depth - (ring around.rings x).front)) % depth in
          row_place x q h low ∙ elim (cases_lt i (length (ring around.rings x).channel.flits)) [
            | inl there ↦ absurd (none i there (place_again depth (ring around.rings x).front q r.front low))
            | inr past ↦ get_or_past (ring around.rings x).channel.flits i 0 past
          ]
