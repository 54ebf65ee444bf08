-- A row of zeros and then the words shows empty channels and the words.
use Rattle.std.proofs.Common.{◌≡◌, ℕ, suc, ◌+◌, ◌*◌, ◌%◌, ◌<◌, ◌≤◌, List, ◌++◌, length, get_or, replicate, sym, ◌∙◌, ap, subst, arith}
use Rattle.std.proofs.lemmas.List.{get_or-replicate, get_or_append_left, get_or-append-add, length-replicate, length-append}
use Rattle.std.proofs.Math.Nat.{mul-le-mul_right}
use Rattle.flit_buffer.specs.Places.{Ring, IsRing, Shows, empty_ring}
use Rattle.flit_buffer.specs.Surroundings.{Surroundings, ring, no_ring, AreRings, ShowsAll}

empty_is : (depth : ℕ) → 0 < depth → IsRing depth (empty_ring depth)
empty_is depth some = record { channel = record { adds_up = omega arith; flits_are_words = λ i h. absurd (omega arith) }; front = some }

abbrev pub start : ℕ → ℕ → List ℕ → Surroundings
start depth count words = record { rings = replicate count (empty_ring depth); words = words }

module _ (depth count : ℕ) (words : List ℕ) (some : 0 < depth) where
  at_start : (x : ℕ) → x < count → ring (replicate count (empty_ring depth)) x ≡ empty_ring depth
  at_start x low = get_or-replicate count x (empty_ring depth) no_ring low

  pub are_rings : AreRings depth (start depth count words)
  are_rings x low =
      let low' : x < count = omega (arith, length-replicate count (empty_ring depth)) in
      subst (λ (r : Ring). IsRing depth r) (sym (at_start x low')) (empty_is depth some)

  row : List ℕ
  row = replicate (count * depth) 0 ++ words

  row_length : length row ≡ count * depth + length words
  unfolding row
  row_length = length-append (replicate (count * depth) 0) words ∙ ap (λ n. n + length words) (length-replicate {A = ℕ} (count * depth) 0)

  before : (x q : ℕ) → x < count → q < depth → x * depth + q < count * depth
  before x q low small =
      let m : suc x * depth ≤ count * depth = mul-le-mul_right depth low in
      omega (arith, m)

  zero_at : (p : ℕ) → p < count * depth → get_or row p 0 ≡ 0
  unfolding row
  zero_at p low = get_or_append_left (replicate (count * depth) 0) words 0 p (omega (arith, length-replicate {A = ℕ} (count * depth) 0))
      ∙ get_or-replicate (count * depth) p 0 0 low

  empty_shown : (x : ℕ) → x < count → Shows row (x * depth) depth (empty_ring depth)
  empty_shown x low = record {
    within = (let m : suc x * depth ≤ count * depth = mul-le-mul_right depth low in omega (arith, m, row_length));
    places = λ i h. let q : (0 + i) % depth < depth = omega arith in zero_at (x * depth + (0 + i) % depth) (before x ((0 + i) % depth) low q);
  }

  pub starts : ShowsAll (replicate (count * depth) 0 ++ words) depth (start depth count words)
  unfolding row
  starts = record {
    size = row_length ∙ ap (λ n. n * depth + length words) (sym (length-replicate count (empty_ring depth)));
    rings = λ x low.
        let low' : x < count = omega (arith, length-replicate count (empty_ring depth)) in
        subst (λ (r : Ring). Shows row (x * depth) depth r) (sym (at_start x low')) (empty_shown x low');
    words = λ a low.
        ap (λ n. get_or row (n * depth + a) 0) (length-replicate count (empty_ring depth))
        ∙ ap (λ n. get_or row (n + a) 0) (sym (length-replicate {A = ℕ} (count * depth) 0))
        ∙ get_or-append-add (replicate (count * depth) 0) words a 0;
  }
