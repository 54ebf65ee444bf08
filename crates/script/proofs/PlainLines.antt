-- A line whose words stand one space apart: its words, and what it says.
use Rattle.std.proofs.Common.{◌≡◌, ◌≢◌, ◌==◌, ◌&&◌, ◌+◌, ◌*◌, ◌-◌, ◌<◌, ◌≤◌, ◌^◌, ℕ, Bool, true, false, not, min, cond, List, [], ◌∷◌, ◌++◌, length, get_or, take, Some, None, Ok, Option, Result, ok_or, inl, inr, ap, sym, refl, ◌∙◌, arith, append_assoc, length-append}
use Rattle.std.specs.Prelude.{nat_le}
use Rattle.std.specs.List.{All, list_all, slice_split, position_or_len}
use Rattle.std.specs.Int.{IsInRange}
use Rattle.std.specs.Char.{is_ascii_digit, digit_value}
use Rattle.std.specs.Str.{all_ascii_digits}
use Rattle.std.specs.Str.Parse.{digits_value}
use Rattle.std.specs.Str.Lines.{lines, lines_of_parts, strip_carriage_return}
use Rattle.std.proofs.lemmas.List.Elements.{All-nil, All-cons, All-head, All-append}
use Rattle.std.proofs.lemmas.List.Sums.{AllPass-from_list_all}
use Rattle.std.proofs.lemmas.List.Splits.{slice_split_at, slice_split_none, length-slice_split}
use Rattle.std.proofs.lemmas.Bool.{cases_eq}
use Rattle.std.proofs.lemmas.Bool.Decides.{nat_tests}
use Rattle.std.proofs.lemmas.Str.{digit_value_digit}
use Rattle.torus.specs.declared.step.Step.{Step}
use Rattle.lexer.specs.Words.{is_blank, words_of, begins_comment}
use Rattle.lexer.specs.Numbers.{index_of, is_number}
use Rattle.lexer.proofs.LineCuts.{is_feed, parts_more, lines_none, lines_some}
use Rattle.lexer.proofs.WordCuts.{full, full-cons}
use Rattle.script.specs.declared.attempt.ChoiceWord.{ChoiceWord}
use Rattle.script.specs.declared.attempt.ChoiceWord.TheVariants.{Send, Take, Put, Credit, Serve, Done, Look}
use Rattle.script.specs.declared.attempt.Attempt.{Attempt}
use Rattle.lexer.specs.declared.refusal.Refusal.{Refusal}
use Rattle.lexer.specs.Outcome.{◌>>=◌, then_lines}
use Rattle.script.specs.declared.reason.TextReason.{TextReason}
use Rattle.script.specs.declared.reason.TextReason.TheVariants as reason
use Rattle.script.specs.Settings.{number_at}
use Rattle.script.specs.Steps.{attempt_of, a_choice, after_words, steps_from}
use Rattle.script.specs.Plain.{spelling, BeginsWithNumber, BeginsWithChoice, BeginsWithAttempt, after_attempt, first_line}
use Rattle.script.proofs.SevenWords.{steps_seven}

-- no byte of a word is a blank or ends a line, nor does a space end one
abbrev pub AreLetters : List ℕ → Type 0
AreLetters word = All (λ b. 48 ≤ b) word

letter_no_blank : (b : ℕ) → 48 ≤ b → is_blank b ≡ false
letter_no_blank b h = grind (arith, nat_tests)

no_feed : (b : ℕ) → 14 ≤ b → is_feed b ≡ false
no_feed b h = grind (arith, nat_tests)

-- the words of a line that begins with a word
words_more : (word rest : List ℕ) → 0 < length word → AreLetters word → words_of (word ++ 32 ∷ rest) ≡ word ∷ words_of rest
words_more word rest some letters =
    ap full (slice_split_at is_blank word 32 rest (λ k d h. letter_no_blank _ (letters k d h)) refl)
    ∙ full-cons word (slice_split is_blank rest) some

words_last : (word : List ℕ) → 0 < length word → AreLetters word → words_of word ≡ word ∷ []
words_last word some letters =
    ap full (slice_split_none is_blank word (λ k d h. letter_no_blank _ (letters k d h))) ∙ full-cons word [] some

-- a line without a carriage return keeps its last byte
no_return : (line : List ℕ) → 0 < length line → All (λ b. 14 ≤ b) line → strip_carriage_return line ≡ line
no_return line some high =
    let last : 14 ≤ get_or line (length line - 1) 0 = high (length line - 1) 0 (omega arith) in
    let other : (get_or line (length line - 1) 0 == 13) ≡ false = grind (arith, nat_tests) in
    rw other refl

-- a line ends at its line feed
line_first : (line rest : List ℕ) → 0 < length line → All (λ b. 14 ≤ b) line → lines (line ++ 10 ∷ rest) ≡ line ∷ lines rest
line_first line rest some high =
    ap lines_of_parts (slice_split_at is_feed line 10 rest (λ k d h. no_feed _ (high k d h)) refl)
    ∙ parts_more line (slice_split is_feed rest) (omega (arith, length-slice_split is_feed rest))
    ∙ ap (λ l. l ∷ lines rest) (no_return line some high)

-- digits are letters here
digit_is_high : (c : ℕ) (cs : List ℕ) (b : Bool) → is_ascii_digit c ≡ b → (b && all_ascii_digits cs) ≡ true → (48 ≤ c) × (all_ascii_digits cs ≡ true)
digit_is_high c cs true is h = (grind (arith, nat_tests), h)
digit_is_high c cs false is h = absurd (cc)

digits_are_letters : (word : List ℕ) → all_ascii_digits word ≡ true → AreLetters word
digits_are_letters [] h = All-nil (λ b. 48 ≤ b)
digits_are_letters (c ∷ cs) h =
    let both = digit_is_high c cs (is_ascii_digit c) refl h in
    All-cons (λ b. 48 ≤ b) c cs both.0 (digits_are_letters cs both.1)

if_some : (b : Bool) (v n : ℕ) → cond b (Some v) None ≡ Some n → b ≡ true
if_some true v n h = refl
if_some false v n h = absurd (cc)

right_true : (a b : Bool) → (a && b) ≡ true → b ≡ true
right_true true b h = h
right_true false b h = absurd (cc)

number_is_word : (word : List ℕ) (n : ℕ) → index_of word ≡ Some n → (0 < length word) × AreLetters word
number_is_word [] n h = absurd (cc)
number_is_word (c ∷ cs) n h = (
  omega arith,
  digits_are_letters (c ∷ cs) (right_true (not (length (c ∷ cs) == 0)) (all_ascii_digits (c ∷ cs))
      (if_some (is_number (c ∷ cs)) (min (digits_value 10 (c ∷ cs)) (2 ^ 31)) n h)),
)

letters_of : (word : List ℕ) → list_all (λ b. nat_le 48 b) word ≡ true → AreLetters word
letters_of word h = λ k d low. let passes : nat_le 48 (get_or word k d) ≡ true = AllPass-from_list_all (λ b. nat_le 48 b) word h k d low in grind (arith, nat_tests, passes)

spelled_is_word : (word : ChoiceWord) → (0 < length (spelling word)) × AreLetters (spelling word)
spelled_is_word Send = (omega arith, letters_of (spelling Send) refl)
spelled_is_word Take = (omega arith, letters_of (spelling Take) refl)
spelled_is_word Put = (omega arith, letters_of (spelling Put) refl)
spelled_is_word Credit = (omega arith, letters_of (spelling Credit) refl)
spelled_is_word Serve = (omega arith, letters_of (spelling Serve) refl)
spelled_is_word Done = (omega arith, letters_of (spelling Done) refl)
spelled_is_word Look = (omega arith, letters_of (spelling Look) refl)

spelled : (word : ChoiceWord) → a_choice (spelling word) ≡ Ok word
spelled Send = refl
spelled Take = refl
spelled Put = refl
spelled Credit = refl
spelled Serve = refl
spelled Done = refl
spelled Look = refl

number_if : (b : Bool) (v n most : ℕ) → b ≡ true → v ≡ n → n < most → cond b (Some (min v most)) None ≡ Some n
number_if true v n most e is low = ap Some (omega arith)
number_if false v n most e is low = absurd (cc)

-- digits that spell a small number
small_number : (word : List ℕ) (n : ℕ) → is_number word ≡ true → digits_value 10 word ≡ n → n < 2 ^ 31 → index_of word ≡ Some n
small_number word n digits value small = number_if (is_number word) (digits_value 10 word) n (2 ^ 31) digits value small

is_digit : (a : ℕ) → a ≤ 9 → is_ascii_digit (48 + a) ≡ true
is_digit a h = grind (arith, nat_tests)

digit_is : (a : ℕ) → a ≤ 9 → digit_value (48 + a) ≡ a
digit_is a h = let at : IsInRange 48 57 (48 + a) = (omega arith, omega arith) in omega (arith, digit_value_digit (48 + a) at)

pub one_digit : (text rest : List ℕ) (a : ℕ) → a ≤ 9 → text ≡ (48 + a) ∷ rest → BeginsWithNumber text a rest
one_digit text rest a ha is =
    ((48 + a) ∷ [], is, small_number ((48 + a) ∷ []) a (rw (is_digit a ha) refl) (rw (digit_is a ha) (omega arith)) (omega arith))

pub two_digits : (text more rest : List ℕ) (a b : ℕ) → a ≤ 9 → b ≤ 9 → text ≡ (48 + a) ∷ more → more ≡ (48 + b) ∷ rest
    → BeginsWithNumber text (10 * a + b) rest
two_digits text more rest a b ha hb is next = (
  (48 + a) ∷ (48 + b) ∷ [],
  is ∙ ap (λ l. (48 + a) ∷ l) next,
  small_number ((48 + a) ∷ (48 + b) ∷ []) (10 * a + b) (rw (is_digit a ha, is_digit b hb) refl) (rw (digit_is a ha, digit_is b hb) (omega arith)) (omega arith),
)

pub three_digits : (text more last rest : List ℕ) (a b c : ℕ) → a ≤ 9 → b ≤ 9 → c ≤ 9 → text ≡ (48 + a) ∷ more → more ≡ (48 + b) ∷ last → last ≡ (48 + c) ∷ rest
    → BeginsWithNumber text (100 * a + 10 * b + c) rest
three_digits text more last rest a b c ha hb hc is next after = (
  (48 + a) ∷ (48 + b) ∷ (48 + c) ∷ [],
  is ∙ ap (λ l. (48 + a) ∷ l) (next ∙ ap (λ l. (48 + b) ∷ l) after),
  small_number ((48 + a) ∷ (48 + b) ∷ (48 + c) ∷ []) (100 * a + 10 * b + c) (rw (is_digit a ha, is_digit b hb, is_digit c hc) refl)
      (rw (digit_is a ha, digit_is b hb, digit_is c hc) (omega arith)) (omega arith),
)

spelled_line : (digits : List ℕ) (n : ℕ) (word : ChoiceWord) → index_of digits ≡ Some n → attempt_of (digits ∷ spelling word ∷ []) ≡ Ok (record { agent = n; word = word; number = None })
spelled_line digits n word is = rw (is, spelled word) refl

numbered_line : (digits other : List ℕ) (n m : ℕ) (word : ChoiceWord) → index_of digits ≡ Some n → index_of other ≡ Some m
    → attempt_of (digits ∷ spelling word ∷ other ∷ []) ≡ Ok (record { agent = n; word = word; number = Some m })
numbered_line digits other n m word is last = rw (is, last, spelled word) refl

high : (word : List ℕ) → AreLetters word → All (λ b. 14 ≤ b) word
high word letters = λ k d h. omega (arith, letters k d h)

-- a line of an agent and a choice
pub line_of_two : (text next after last rest : List ℕ) (n : ℕ) (word : ChoiceWord) → BeginsWithNumber text n next → next ≡ 32 ∷ after → BeginsWithChoice after word last → last ≡ 10 ∷ rest
    → BeginsWithAttempt text (record { agent = n; word = word; number = None }) rest
line_of_two text next after last rest n word agent blank choice feed =
    let digits : List ℕ = agent.0 in
    let one = number_is_word digits n agent.2 in
    let two = spelled_is_word word in
    let line : List ℕ = digits ++ 32 ∷ spelling word in
    let quiet : All (λ b. 14 ≤ b) line =
    All-append (λ b. 14 ≤ b) digits (32 ∷ spelling word) (high digits one.1) (All-cons (λ b. 14 ≤ b) 32 (spelling word) (omega arith) (high (spelling word) two.1)) in
    let whole : text ≡ line ++ 10 ∷ rest = agent.1 ∙ ap (λ l. digits ++ l) (blank ∙ ap (λ l. 32 ∷ l) (choice ∙ ap (λ l. spelling word ++ l) feed)) ∙ sym (append_assoc digits (32 ∷ spelling word) (10 ∷ rest)) in
    let words : words_of line ≡ digits ∷ spelling word ∷ [] = words_more digits (spelling word) one.0 one.1 ∙ ap (λ ws. digits ∷ ws) (words_last (spelling word) two.0 two.1) in
    (line, ap lines whole ∙ line_first line rest (omega (arith, one.0, length-append digits (32 ∷ spelling word))) quiet, ap attempt_of words ∙ spelled_line digits n word agent.2)

-- a line of an agent, a choice and a number
pub line_of_three : (text next after last end close rest : List ℕ) (n m : ℕ) (word : ChoiceWord) → BeginsWithNumber text n next → next ≡ 32 ∷ after → BeginsWithChoice after word last → last ≡ 32 ∷ end
    → BeginsWithNumber end m close → close ≡ 10 ∷ rest → BeginsWithAttempt text (record { agent = n; word = word; number = Some m }) rest
line_of_three text next after last end close rest n m word agent blank choice space number feed =
    let digits : List ℕ = agent.0 in
    let other : List ℕ = number.0 in
    let one = number_is_word digits n agent.2 in
    let two = spelled_is_word word in
    let three = number_is_word other m number.2 in
    let tail : List ℕ = spelling word ++ 32 ∷ other in
    let line : List ℕ = digits ++ 32 ∷ tail in
    let quiet : All (λ b. 14 ≤ b) line =
    All-append (λ b. 14 ≤ b) digits (32 ∷ tail) (high digits one.1) (All-cons (λ b. 14 ≤ b) 32 tail (omega arith)
    (All-append (λ b. 14 ≤ b) (spelling word) (32 ∷ other) (high (spelling word) two.1) (All-cons (λ b. 14 ≤ b) 32 other (omega arith) (high other three.1)))) in
    let ending : last ≡ (32 ∷ other) ++ 10 ∷ rest = space ∙ ap (λ l. 32 ∷ l) (number.1 ∙ ap (λ l. other ++ l) feed) in
    let middle : after ≡ tail ++ 10 ∷ rest = choice ∙ ap (λ l. spelling word ++ l) ending ∙ sym (append_assoc (spelling word) (32 ∷ other) (10 ∷ rest)) in
    let whole : text ≡ line ++ 10 ∷ rest = agent.1 ∙ ap (λ l. digits ++ l) (blank ∙ ap (λ l. 32 ∷ l) middle) ∙ sym (append_assoc digits (32 ∷ tail) (10 ∷ rest)) in
    let words : words_of line ≡ digits ∷ spelling word ∷ other ∷ [] = words_more digits tail one.0 one.1
    ∙ ap (λ ws. digits ∷ ws) (words_more (spelling word) other two.0 two.1 ∙ ap (λ ws. spelling word ∷ ws) (words_last other three.0 three.1)) in
    (line, ap lines whole ∙ line_first line rest (omega (arith, one.0, length-append digits (32 ∷ tail))) quiet, ap attempt_of words ∙ numbered_line digits other n m word agent.2 number.2)

-- where a line says an attempt, its first word is a number, and so it's no comment
index_ok : {B : Type 0} (o : Option ℕ) (f : ℕ → Result B TextReason) (t : B) → (ok_or o (reason.NotNumber 0) >>= f) ≡ Ok t → (n : ℕ) × (o ≡ Some n)
index_ok (Some n) f t h = (n, refl)
index_ok None f t h = absurd (cc)

digit_first : (agent : List ℕ) (n : ℕ) → index_of agent ≡ Some n → begins_comment agent ≡ false
digit_first [] n h = refl
digit_first (c ∷ cs) n h =
    let low : 48 ≤ c = All-head (λ b. 48 ≤ b) c cs (number_is_word (c ∷ cs) n h).1 in
    grind (arith, nat_tests)

no_comment : (agent : List ℕ) (rest : List (List ℕ)) (t : Attempt) → attempt_of (agent ∷ rest) ≡ Ok t → begins_comment agent ≡ false
no_comment agent [] t h = absurd (cc)
no_comment agent (w ∷ []) t h =
    let found = index_ok (index_of agent) (λ a. a_choice w >>= λ c. Ok (record { agent = a; word = c; number = None })) t h in
    digit_first agent found.0 found.1
no_comment agent (w ∷ m ∷ []) t h =
    let found = index_ok (index_of agent) (λ a. a_choice w >>= λ c. number_at 2 m >>= λ n. Ok (record { agent = a; word = c; number = Some n })) t h in
    digit_first agent found.0 found.1
no_comment agent (w ∷ m ∷ other ∷ more) t h = absurd (cc)

attempt_words : (tiles dims : ℕ) (steps : List Step) (ws : List (List ℕ)) (t : Attempt) → attempt_of ws ≡ Ok t → after_words tiles dims steps ws ≡ after_attempt tiles dims steps t
attempt_words tiles dims steps [] t h = absurd (cc)
attempt_words tiles dims steps (agent ∷ rest) t h = rw (no_comment agent rest t h) (ap (λ r. r >>= after_attempt tiles dims steps) h)

first_is : (text line : List ℕ) (more : List (List ℕ)) → lines text ≡ line ∷ more → first_line text ≡ line
first_is text line more is = ap (λ ls. get_or ls 0 []) is

-- what the first line makes of the steps, where it says an attempt
pub said : (tiles dims : ℕ) (steps : List Step) (text rest : List ℕ) (t : Attempt) → BeginsWithAttempt text t rest
    → after_words tiles dims steps (words_of (first_line text)) ≡ after_attempt tiles dims steps t
said tiles dims steps text rest t begins =
    ap (λ line. after_words tiles dims steps (words_of line)) (first_is text begins.0 (lines rest) begins.1)
    ∙ attempt_words tiles dims steps (words_of begins.0) t begins.2

-- and where its words are read
pub said_by_words : (tiles dims : ℕ) (steps : List Step) (text line : List ℕ) (more ws : List (List ℕ)) → lines text ≡ line ∷ more → ws ≡ take 7 (words_of line)
    → after_words tiles dims steps (words_of (first_line text)) ≡ after_words tiles dims steps ws
said_by_words tiles dims steps text line more ws is seven =
    ap (λ l. after_words tiles dims steps (words_of l)) (first_is text line more is)
    ∙ sym (steps_seven tiles dims steps (words_of line))
    ∙ ap (after_words tiles dims steps) (sym seven)

-- the lines after the first one
pub after_first_line : (text line : List ℕ) (more : List (List ℕ)) → lines text ≡ line ∷ more → lines text ≡ first_line text ∷ more
after_first_line text line more is = is ∙ ap (λ l. l ∷ more) (sym (first_is text line more is))

-- a text that isn't empty has a line
pub some_line : (text : List ℕ) → 0 < length text → length (lines text) ≢ 0
some_line text some none =
    elim (cases_eq (position_or_len is_feed text) (length text)) [
      | inl whole ↦ absurd (omega (arith, none, ap length (lines_none text (position_or_len is_feed text) refl whole some)))
      | inr other ↦ absurd (omega (arith, none, ap length (lines_some text (position_or_len is_feed text) refl other)))
    ]

-- one more line of a steps text
pub steps_step : (tiles dims n : ℕ) (old new : List Step) (line : List ℕ) (rest after : List (List ℕ)) (all : Result (List Step) (Refusal TextReason)) →
    rest ≡ line ∷ after → after_words tiles dims old (words_of line) ≡ Ok new → steps_from tiles dims old n rest ≡ all → steps_from tiles dims new (n + 1) after ≡ all
steps_step tiles dims n old new line rest after all is made so_far =
    sym (ap (λ r. then_lines n r (λ next. steps_from tiles dims next (n + 1) after)) made)
    ∙ sym (ap (steps_from tiles dims old n) is)
    ∙ so_far
