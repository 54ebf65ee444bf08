-- The first word of a line, and the words after it.
use Rattle.std.proofs.Common.{◌≡◌, ◌==◌, ◌<◌, ◌≤◌, ◌+◌, ℕ, Bool, true, false, not, List, [], ◌∷◌, ◌++◌, length, take, drop, get_or, ap, sym, refl, ◌∙◌, arith}
use Rattle.std.proofs.Common.{rules, cond, inl, inr, one-add, append-nil, append_assoc, map}
use Rattle.std.specs.Prelude.{filter, slice_set}
use Rattle.std.specs.Borrow.{Bor}
use Rattle.std.specs.List.{position_or_len, slice_split, All, after_first}
use Rattle.std.proofs.lemmas.List.{drop_more, drop_all, take_all, take_at, take_more_set, map-append, length-take, length-drop, length-map}
use Rattle.std.proofs.lemmas.List.Splits.{slice_split_first, slice_split_none, slice_split-cons_yes}
use Rattle.std.proofs.lemmas.List.Sums.{fails_before_first, passes_at_first, prefix_len-le-length}
use Rattle.std.proofs.lemmas.Bool.{cases_eq}
use Rattle.lexer.specs.Words.{is_blank, words_of}

abbrev pub is_letter : ℕ → Bool
is_letter b = not (is_blank b)

-- a list of parts without its empty ones
abbrev pub full : List (List ℕ) → List (List ℕ)
full parts = filter (λ word. not (length word == 0)) parts

pub full-cons : (part : List ℕ) (parts : List (List ℕ)) → 0 < length part → full (part ∷ parts) ≡ part ∷ full parts
full-cons [] parts h = absurd (omega arith)
full-cons (c ∷ cs) parts h = search rules

-- a blank at the front changes nothing
pub words_of-blank : (b : ℕ) (line : List ℕ) → is_blank b ≡ true → words_of (b ∷ line) ≡ words_of line
words_of-blank b line h = ap full (slice_split-cons_yes is_blank b line h)

blanks_step : (b n : ℕ) (line : List ℕ) (v : Bool) → is_blank b ≡ v → words_of (drop n line) ≡ words_of line
    → words_of (drop (cond (not (not v)) (1 + n) 0) (b ∷ line)) ≡ words_of (b ∷ line)
blanks_step b n line true h same = rw one-add (same ∙ sym (words_of-blank b line h))
blanks_step b n line false h same = refl

-- nor do all blanks at the front
pub words_of-blanks : (line : List ℕ) → words_of (drop (position_or_len is_letter line) line) ≡ words_of line
words_of-blanks [] = refl
words_of-blanks (b ∷ line) = blanks_step b (position_or_len is_letter line) line (is_blank b) refl (words_of-blanks line)

-- a line without a blank is one word
word_alone : (line : List ℕ) → position_or_len is_blank line ≡ length line → 0 < length line → words_of line ≡ line ∷ words_of []
word_alone line whole some =
    let all : All (λ x. is_blank x ≡ false) line = λ k d h. fails_before_first is_blank line k d (omega arith) in
    ap full (slice_split_none is_blank line all) ∙ full-cons line [] some

word_and_more : (line : List ℕ) → position_or_len is_blank line < length line → 0 < position_or_len is_blank line →
    words_of line ≡ take (position_or_len is_blank line) line ∷ words_of (drop (position_or_len is_blank line) line)
word_and_more line more some =
    let i : ℕ = position_or_len is_blank line in
    let long : 0 < length (take i line) = omega (arith, length-take i line) in
    ap full (slice_split_first is_blank line 0 more)
    ∙ full-cons (take i line) (slice_split is_blank (after_first is_blank line)) long
    ∙ ap (λ rest. take i line ∷ rest)
    (sym (ap words_of (drop_more line i 0 more) ∙ words_of-blank (get_or line i 0) (drop (i + 1) line) (passes_at_first is_blank line 0 more)))

-- a line that begins with no blank begins with its first word
words_of-word : (line : List ℕ) → 0 < position_or_len is_blank line
    → words_of line ≡ take (position_or_len is_blank line) line ∷ words_of (drop (position_or_len is_blank line) line)
words_of-word line some =
    elim (cases_eq (position_or_len is_blank line) (length line)) [
      | inl whole ↦
          rw (whole, take_all (length line) line (omega arith), drop_all (length line) line (omega arith)) (word_alone line whole (omega arith))
      | inr other ↦ word_and_more line (omega (arith, prefix_len-le-length (λ x. not (is_blank x)) line)) some
    ]

letter_is_no_blank : (b : ℕ) (line : List ℕ) (v : Bool) → is_blank b ≡ v → not v ≡ true → 0 < position_or_len is_blank (b ∷ line)
letter_is_no_blank b line true h e = absurd (cc)
letter_is_no_blank b line false h e = rw h (omega arith)

-- after the blanks at its front a line begins with its first word
pub first_word : (line rest : List ℕ) (i j : ℕ) → i ≡ position_or_len is_letter line → rest ≡ drop i line → 0 < length rest → j ≡ position_or_len is_blank rest
    →
    words_of line ≡ take j rest ∷ words_of (drop j rest)
first_word line rest i j first is some last =
    let low : position_or_len is_letter line < length line = omega (arith, ap length is, length-drop i line) in
    let head : rest ≡ get_or line (position_or_len is_letter line) 0 ∷ drop (position_or_len is_letter line + 1) line =
    is ∙ ap (λ k. drop k line) first ∙ drop_more line (position_or_len is_letter line) 0 low in
    let letter : 0 < position_or_len is_blank rest =
    (rw head (letter_is_no_blank (get_or line (position_or_len is_letter line) 0) (drop (position_or_len is_letter line + 1) line)
    (is_blank (get_or line (position_or_len is_letter line) 0)) refl (passes_at_first is_letter line 0 low))) in
    sym (words_of-blanks line) ∙ ap words_of (sym (is ∙ ap (λ k. drop k line) first)) ∙ rw last (words_of-word rest letter)

-- a line of blanks alone has no word
pub no_word : (line rest : List ℕ) (i : ℕ) → i ≡ position_or_len is_letter line → rest ≡ drop i line → length rest ≡ 0 → words_of line ≡ []
no_word line [] i first is none = sym (words_of-blanks line) ∙ ap words_of (sym (is ∙ ap (λ k. drop k line) first))
no_word line (c ∷ cs) i first is none = absurd (omega arith)

-- what the words refer to
abbrev pub texts : List (Bor (List ℕ)) → List (List ℕ)
texts words = map (λ word. word.now) words

-- the array of words with one more word, and one word less in what follows
pub one_more_word : (words : List (Bor (List ℕ))) (count : ℕ) (word : Bor (List ℕ)) (more rest all : List (List ℕ)) →
    count < length words → more ≡ word.now ∷ rest → texts (take count words) ++ more ≡ all → texts (take (count + 1) (slice_set words count word)) ++ rest ≡ all
one_more_word words count word more rest all low is so_far =
    ap (λ ws. texts ws ++ rest) (take_more_set words count word low)
    ∙ ap (λ ts. ts ++ rest) (map-append (λ w. w.now) (take count words) (word ∷ []))
    ∙ append_assoc (texts (take count words)) (word.now ∷ []) rest
    ∙ ap (λ ts. texts (take count words) ++ ts) (sym is)
    ∙ so_far

-- seven words are the first seven
pub seven_words : (words : List (Bor (List ℕ))) (count : ℕ) (more all : List (List ℕ)) →
    length words ≡ 7 → count ≡ 7 → texts (take count words) ++ more ≡ all → texts (take count words) ≡ take 7 all
seven_words words count more all seven whole so_far =
    sym (ap (take 7) (sym so_far)
    ∙ take_at (texts (take count words)) more 7 (omega (arith, length-map (take count words) (λ w. w.now), length-take count words)))

-- with nothing more they are all
pub last_words : (words : List (Bor (List ℕ))) (count : ℕ) (more all : List (List ℕ)) →
    length words ≡ 7 → count ≤ 7 → more ≡ [] → texts (take count words) ++ more ≡ all → texts (take count words) ≡ take 7 all
last_words words count more all seven few none so_far =
    sym (ap (take 7) (sym so_far ∙ ap (λ ts. texts (take count words) ++ ts) none ∙ append-nil (texts (take count words)))
    ∙ take_all 7 (texts (take count words)) (omega (arith, length-map (take count words) (λ w. w.now), length-take count words)))
