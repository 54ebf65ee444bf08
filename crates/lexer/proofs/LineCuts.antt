use Rattle.std.proofs.Common.{◌≡◌, ◌≢◌, ◌==◌, ◌+◌, ◌-◌, ◌<◌, ℕ, Bool, false, not, List, [], ◌∷◌, length, take, drop, ap, ◌∙◌, refl, arith, rules}
use Rattle.std.specs.List.{position_or_len, slice_split, All, before_first, after_first}
use Rattle.std.specs.Str.Lines.{lines, lines_of_parts, strip_carriage_return}
use Rattle.std.proofs.lemmas.List.{take_rest}
use Rattle.std.proofs.lemmas.List.Splits.{slice_split_first, slice_split_none, length-slice_split}
use Rattle.std.proofs.lemmas.List.Sums.{fails_before_first, prefix_len-le-length}

abbrev pub is_feed : ℕ → Bool
is_feed b = b == 10

one_part : (text : List ℕ) → 0 < length text → lines_of_parts (text ∷ []) ≡ text ∷ []
one_part [] h = absurd (omega arith)
one_part (c ∷ cs) h = search rules

pub parts_more : (front : List ℕ) (parts : List (List ℕ)) → 0 < length parts → lines_of_parts (front ∷ parts) ≡ strip_carriage_return front ∷ lines_of_parts parts
parts_more front [] h = absurd (omega arith)
parts_more front (p ∷ ps) h = refl

-- a text with no line feed is one line, and nothing follows it
pub lines_none : (text : List ℕ) (i : ℕ) → i ≡ position_or_len is_feed text → i ≡ length text → 0 < length text
    → lines text ≡ text ∷ lines (take (length text - i) (drop i text))
lines_none text i first none some =
    let all : All (λ x. is_feed x ≡ false) text = λ k d h. fails_before_first is_feed text k d (omega arith) in
    let rest : length text - i ≡ 0 = omega arith in
    rw rest (ap lines_of_parts (slice_split_none is_feed text all) ∙ one_part text some)

-- a line ends at the first line feed
pub lines_some : (text : List ℕ) (i : ℕ) → i ≡ position_or_len is_feed text → i ≢ length text
    → lines text ≡ strip_carriage_return (take i text) ∷ lines (take (length text - (i + 1)) (drop (i + 1) text))
lines_some text i first more =
    let within : position_or_len is_feed text < length text = omega (arith, prefix_len-le-length (λ x. not (is_feed x)) text) in
    rw (take_rest text (i + 1), first)
    (ap lines_of_parts (slice_split_first is_feed text 0 within)
    ∙ parts_more (before_first is_feed text) (slice_split is_feed (after_first is_feed text))
    (omega (arith, length-slice_split is_feed (after_first is_feed text))))
