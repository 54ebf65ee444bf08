-- The first lines, and the place of a line, break no rule: they are allowed.
use Rattle.std.proofs.Common.{◌≡◌, ℕ, ◌≤◌, ◌<◌, ◌==◌, ◌&&◌, List, [], ◌∷◌, None, nat_le, slice_index, inl, inr, arith}
use Rattle.std.specs.List.{AllByRecursion}
use Rattle.std.proofs.lemmas.Bool.{eqb-true, eqb-false, ltb-true, leb-true, eq-eqb}
use Rattle.torus.specs.Shape.{product}
use Rattle.report_lines.specs.Line.{radix_list}
use Rattle.report_lines.specs.declared.line.Radices.{Radices}
use Rattle.report_check.specs.Seen.{Seen, above_last, has_newer}
use Rattle.report_check.specs.Good.{AreRadices, InSection, BehindEntries, AllowedHeader, AllowedShape, AllowedInit, ToldBelow, AllowedWord}
use Rattle.report_check.specs.declared.rule.Kind.{Kind}
use Rattle.report_check.specs.declared.rule.Kind.TheVariants as kind
use Rattle.report_check.specs.declared.rule.Rule.TheVariants as rule
use Rattle.report_check.specs.Broken.{unless, ◌<|>◌, place_broken, header_broken, radix_broken, radices_broken, shape_broken, word_broken, init_broken, behind_broken, word_left, left_untold, told_broken}
use Rattle.report_check.proofs.RuleTests.{unless_kept, or_kept, last_kept, and_both, or_either, not_true, not_or, first_from-none}

pub place_kept : (s : Seen) (latest : ℕ) (found : Kind) → place_broken s.section latest found ≡ None → InSection s latest
place_kept s latest found h =
    let late = last_kept _ _ _ h in
    let ended = last_kept _ _ _ late.0 in
    let second = last_kept _ _ _ ended.0 in
    let first = unless_kept _ _ second.0 in
    let not_first = eqb-false s.section 0 (not_true _ first) in
    let not_second = eqb-false s.section 1 (not_true _ second.1) in
    record {
      shaped = elim_small s.section not_first not_second;
      early = leb-true s.section latest late.1;
    }
  where
    elim_small : (n : ℕ) → (n ≡ 0 → ⊥) → (n ≡ 1 → ⊥) → 2 ≤ n
    elim_small n a b = omega (arith, a, b)

pub header_kept : (s : Seen) (version : ℕ) → header_broken s.section version ≡ None → AllowedHeader s version
header_kept s version h =
    let known = last_kept _ _ _ h in
    let first = last_kept _ _ _ known.0 in
    record {
      first = eqb-true s.section 0 first.1;
      known = elim (or_either (version == 1) (version == 2) known.1) [
        | inl one ↦ inl (eqb-true version 1 one)
        | inr two ↦ inr (eqb-true version 2 two)
      ];
    }

radix_kept : (radices : List ℕ) → radix_broken radices ≡ None → AllByRecursion (λ k. (2 ≤ k) × (k ≤ 8)) radices
radix_kept [] h = tt
radix_kept (k ∷ ks) h =
    let both = or_kept (unless (nat_le 2 k && nat_le k 8) (rule.Radix k)) (radix_broken ks) h in
    let limits = and_both (nat_le 2 k) (nat_le k 8) (unless_kept _ _ both.0) in
    ((leb-true 2 k limits.0, leb-true k 8 limits.1), radix_kept ks both.1)

-- what a shape keeps
pub record Shaped (section : ℕ) (radices : Radices) (words : ℕ) : Type 0 where
  pub behind_header : section ≡ 1
  pub limits : AreRadices (radix_list radices)
  pub words_low : 1 ≤ words
  pub words_high : words ≤ 65536

pub shaped_kept : (section : ℕ) (radices : Radices) (words : ℕ) → shape_broken section radices words ≡ None → Shaped section radices words
shaped_kept section radices words h =
    let many = last_kept _ _ _ h in
    let limits = and_both (nat_le 1 words) (nat_le words 65536) many.1 in
    let shape = or_kept _ (radices_broken (radix_list radices)) many.0 in
    let tiles = last_kept _ _ _ shape.1 in
    let second = last_kept _ _ _ shape.0 in
    record {
      behind_header = eqb-true section 1 second.1;
      limits = record { each = radix_kept (radix_list radices) tiles.0; tiles = leb-true (product (radix_list radices)) 64 tiles.1 };
      words_low = leb-true 1 words limits.0;
      words_high = leb-true words 65536 limits.1;
    }

pub shape_kept : (s : Seen) (radices : Radices) (words : ℕ) → shape_broken s.section radices words ≡ None → AllowedShape s radices words
shape_kept s radices words h =
    let k = shaped_kept s.section radices words h in
    record { behind_header = k.behind_header; limits = k.limits; words_low = k.words_low; words_high = k.words_high }

-- what an address and its word keep
pub record Addressed (words least address value : ℕ) : Type 0 where
  pub rises : least ≤ address
  pub inside : address < words
  pub not_zero : 0 < value

pub word_kept : (words least address value : ℕ) → word_broken words least address value ≡ None → Addressed words least address value
word_kept words least address value h =
    let zero = last_kept _ _ _ h in
    let rises = last_kept _ _ _ zero.0 in
    record {
      rises = leb-true least address rises.1;
      inside = ltb-true address words (unless_kept _ _ rises.0);
      not_zero = ltb-true 0 value zero.1;
    }

pub init_kept : (s : Seen) (address value : ℕ) → init_broken s address value ≡ None → AllowedInit s address value
init_kept s address value h =
    let both = or_kept (place_broken s.section 3 kind.Init) (word_broken s.words (above_last s.inits) address value) h in
    let word = word_kept s.words (above_last s.inits) address value both.1 in
    record { section = place_kept s 3 kind.Init both.0; rises = word.rises; inside = word.inside; not_zero = word.not_zero }

pub behind_kept : (s : Seen) (latest : ℕ) (found : Kind) → behind_broken s latest found ≡ None → BehindEntries s latest
behind_kept s latest found h =
    let newer = last_kept _ _ _ h in
    record {
      section = place_kept s latest found newer.0;
      newer = λ two. not_or (s.version == 2) (has_newer s.entries) newer.1 (eq-eqb s.version 2 two);
    }

pub told_kept : (s : Seen) (end : ℕ) → left_untold s end ≡ None → ToldBelow s.told s.memory end
told_kept s end h k low high =
    eqb-true (slice_index s.memory k) 0
    (unless_kept (slice_index s.memory k == 0) _ (first_from-none (word_left s.memory) (above_last s.told) _ h k low (omega (arith, low, high))))

pub word_line_kept : (s : Seen) (address value : ℕ) → told_broken s address value ≡ None → AllowedWord s address value
word_line_kept s address value h =
    let is = last_kept _ _ _ h in
    let left = or_kept (behind_broken s 6 kind.Word <|> word_broken s.words (above_last s.told) address value) (left_untold s address) is.0 in
    let both = or_kept (behind_broken s 6 kind.Word) (word_broken s.words (above_last s.told) address value) left.0 in
    let word = word_kept s.words (above_last s.told) address value both.1 in
    record {
      section = behind_kept s 6 kind.Word both.0;
      rises = word.rises;
      inside = word.inside;
      is = eqb-true (slice_index s.memory address) value is.1;
      not_zero = word.not_zero;
      none_left = told_kept s address left.1;
    }
