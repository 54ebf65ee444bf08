-- Words with a space between each two are cut into the same words, and lines into the same lines.
use Rattle.std.proofs.Common.{◌≡◌, ◌<◌, ◌-◌, ◌==◌, ℕ, Bool, true, false, not, List, [], ◌∷◌, ◌++◌, length, get_or, ap, refl, ◌∙◌, arith, rules, filter}
use Rattle.std.specs.Prelude.{nat_lt}
use Rattle.std.specs.List.{All, list_all, join_with_byte, slice_split}
use Rattle.std.specs.Str.Lines.{lines, lines_of_parts, strip_carriage_return}
use Rattle.std.proofs.lemmas.Bool.{ne_eqb, ltb-true}
use Rattle.std.proofs.lemmas.List.Elements.{All-nil, All-cons, All-head, All-tail, All-append, All-weaker, All-get_or}
use Rattle.std.proofs.lemmas.List.Splits.{slice_split_at, slice_split_none, length-slice_split}
use Rattle.std.proofs.lemmas.List.Sums.{AllPass-from_list_all}
use Rattle.lexer.specs.Words.{is_blank, words_of}

-- a word: at least one byte, and each above the space
pub record IsWord (word : List ℕ) : Type 0 where
  pub some : 0 < length word
  pub letters : All (λ b. 32 < b) word

letters-from : (word : List ℕ) → list_all (λ b. nat_lt 32 b) word ≡ true → All (λ b. 32 < b) word
letters-from word h =
    All-weaker (λ b. nat_lt 32 b ≡ true) (λ b. 32 < b) (λ b above. ltb-true 32 b above) word (AllPass-from_list_all (λ b. nat_lt 32 b) word h)

-- a word of which all bytes are seen to be so
pub word-from : (word : List ℕ) → 0 < length word → list_all (λ b. nat_lt 32 b) word ≡ true → IsWord word
word-from word some h = record { some = some; letters = letters-from word h }

letter_is_no_blank : (b : ℕ) → 32 < b → is_blank b ≡ false
letter_is_no_blank b h =
    let space : (b == 32) ≡ false = ne_eqb b 32 (λ e. absurd (omega (arith, e, h))) in
    let tab : (b == 9) ≡ false = ne_eqb b 9 (λ e. absurd (omega (arith, e, h))) in
    rw (space, tab)

no_blank : (word : List ℕ) → IsWord word → All (λ b. is_blank b ≡ false) word
no_blank word is = All-weaker (λ b. 32 < b) (λ b. is_blank b ≡ false) letter_is_no_blank word is.letters

-- a list of parts without its empty ones
abbrev full : List (List ℕ) → List (List ℕ)
full parts = filter (λ word. not (length word == 0)) parts

full-cons : (part : List ℕ) (parts : List (List ℕ)) → 0 < length part → full (part ∷ parts) ≡ part ∷ full parts
full-cons [] parts h = absurd (omega arith)
full-cons (c ∷ cs) parts h = search rules

pub words_of-join : (words : List (List ℕ)) → All IsWord words → words_of (join_with_byte 32 words) ≡ words
words_of-join [] h = refl
words_of-join (word ∷ []) h =
    let is : IsWord word = All-head IsWord word [] h in
    ap full (slice_split_none is_blank word (no_blank word is)) ∙ full-cons word [] is.some
words_of-join (word ∷ next ∷ words) h =
    let is : IsWord word = All-head IsWord word (next ∷ words) h in
    let more : List ℕ = join_with_byte 32 (next ∷ words) in
    ap full (slice_split_at is_blank word 32 more (no_blank word is) refl)
    ∙ full-cons word (slice_split is_blank more) is.some
    ∙ ap (λ (ws : List (List ℕ)). word ∷ ws) (words_of-join (next ∷ words) (All-tail IsWord word (next ∷ words) h))

printed_word : (word : List ℕ) → IsWord word → All (λ b. 31 < b) word
printed_word word is = All-weaker (λ b. 32 < b) (λ b. 31 < b) (λ b h. omega (arith, h)) word is.letters

-- no byte of a line is below the space
pub printed : (words : List (List ℕ)) → All IsWord words → All (λ b. 31 < b) (join_with_byte 32 words)
printed [] h = All-nil (λ b. 31 < b)
printed (word ∷ []) h = printed_word word (All-head IsWord word [] h)
printed (word ∷ next ∷ words) h =
    All-append (λ b. 31 < b) word (32 ∷ join_with_byte 32 (next ∷ words))
    (printed_word word (All-head IsWord word (next ∷ words) h))
    (All-cons (λ b. 31 < b) 32 (join_with_byte 32 (next ∷ words)) (omega arith) (printed (next ∷ words) (All-tail IsWord word (next ∷ words) h)))

abbrev is_feed : ℕ → Bool
is_feed b = b == 10

parts_more : (front : List ℕ) (parts : List (List ℕ)) → 0 < length parts → lines_of_parts (front ∷ parts) ≡ strip_carriage_return front ∷ lines_of_parts parts
parts_more front [] h = absurd (omega arith)
parts_more front (p ∷ ps) h = refl

strip_carriage_return-printed : (line : List ℕ) → All (λ b. 31 < b) line → strip_carriage_return line ≡ line
strip_carriage_return-printed [] h = refl
strip_carriage_return-printed (b ∷ bs) h =
    let last : ℕ = get_or (b ∷ bs) (length (b ∷ bs) - 1) 0 in
    let above : 31 < last = All-get_or (λ c. 31 < c) (b ∷ bs) (length (b ∷ bs) - 1) 0 (omega arith) h in
    let other : (last == 13) ≡ false = ne_eqb last 13 (λ e. absurd (omega (arith, e, above))) in
    rw other

-- a text begins with its first line
pub lines-ended : (line rest : List ℕ) → All (λ b. 31 < b) line → lines (line ++ 10 ∷ rest) ≡ line ∷ lines rest
lines-ended line rest h =
    let none : All (λ b. is_feed b ≡ false) line =
    All-weaker (λ b. 31 < b) (λ b. is_feed b ≡ false) (λ b above. ne_eqb b 10 (λ e. absurd (omega (arith, e, above)))) line h in
    ap lines_of_parts (slice_split_at is_feed line 10 rest none refl)
    ∙ parts_more line (slice_split is_feed rest) (omega (arith, length-slice_split is_feed rest))
    ∙ ap (λ (l : List ℕ). l ∷ lines rest) (strip_carriage_return-printed line h)
