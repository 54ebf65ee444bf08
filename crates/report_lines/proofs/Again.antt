-- What is spelled is read again.
use Rattle.std.proofs.Common.{◌≡◌, ◌≢◌, ◌<◌, ℕ, ◌+◌, ◌-◌, ◌*◌, ◌^◌, ◌/◌, ◌%◌, ◌==◌, zero, suc, nat_lt, true, false, List, [], ◌∷◌, ◌++◌, Option}
use Rattle.std.proofs.Common.{Some, None, IfSome, decimal, codes, refl, sym, ap, ◌∙◌, arith, append_assoc, lit<}
use Rattle.std.specs.Char.{is_ascii_digit}
use Rattle.std.proofs.lemmas.Bool.{eq-eqb, ne_eqb, lt-ltb}
use Rattle.std.proofs.lemmas.Bool.Decides.{nat_tests}
use Rattle.std.proofs.lemmas.Fmt.{decimal_digit, decimal_by_steps}
use Rattle.std.specs.Prelude.{All}
use Rattle.std.proofs.lemmas.List.Elements.{All-head}
use Rattle.packet.specs.declared.kinds.Op.{Op}
use Rattle.packet.specs.declared.kinds.Op.TheVariants.{Load, Store, Swap, Cas, Add, And, Or, Xor, Max, Min}
use Rattle.packet.specs.declared.kinds.Code.{Code}
use Rattle.packet.specs.declared.kinds.Code.TheVariants as code
use Rattle.packet.specs.declared.kinds.Reply.{Reply}
use Rattle.packet.specs.declared.kinds.Reply.TheVariants.{Old, Ok as Stored}
use Rattle.packet.specs.Names.{arity, code_word}
use Rattle.packet.specs.Reading.{op_with}
use Rattle.packet.proofs.Named.{named_by_its_word}
use Rattle.report_lines.specs.declared.line.EntryLine.{EntryLine}
use Rattle.report_lines.specs.declared.line.AnswerLine.{AnswerLine}
use Rattle.report_lines.specs.declared.line.OrderLine.{OrderLine}
use Rattle.report_lines.specs.declared.line.ReportLine.TheVariants.{Entry, Answer, Order}
use Rattle.report_lines.specs.Fits.{FitsEntry, FitsAnswer, FitsOrder, FitsOp, FitsReply}
use Rattle.report_lines.proofs.Operations.{word_ends}
use Rattle.report_lines.proofs.Spelled.{reply_then, event_then, pair_then, four_then, values_then, op_then, line_then}
use Rattle.report_lines.specs.Reading.{◌>>=◌, behind, digits_on, number_read_at, index_at, reply_read_at, event_at, pair_at, values_at, op_at}
use Rattle.report_lines.specs.Reading.{four_at, entry_at, answer_at, order_at}

-- values of 64 bits
abbrev FitsValues : List ℕ → Type 0
FitsValues values = All (λ value. value < 2 ^ 64) values

first_fits : (v : ℕ) (values : List ℕ) → FitsValues (v ∷ values) → v < 2 ^ 64
first_fits v values fits = All-head (λ value. value < 2 ^ 64) v values fits

second_fits : (v w : ℕ) (values : List ℕ) → FitsValues (v ∷ w ∷ values) → w < 2 ^ 64
second_fits v w values fits = fits 1 w (omega arith)

digit_true : (d : ℕ) → d < 10 → is_ascii_digit (48 + d) ≡ true
digit_true d small = grind (arith, nat_tests)

-- a number that is not 0 begins a reading of digits
begun : (end n : ℕ) → n < 2 ^ 64 → 0 < n → (rest : List ℕ) → number_read_at end (decimal n ++ rest) ≡ digits_on end n rest
unfolding number_read_at digits_on
begun end n small some =
    let P : ℕ → List ℕ → Type 0 = λ m ds. m < 2 ^ 64 → 0 < m → (t : List ℕ) → number_read_at end (ds ++ t) ≡ digits_on end m t in
    decimal_by_steps P
    (λ m low fits above t.
    let zero : ((48 + m) == 48) ≡ false = ne_eqb (48 + m) 48 (λ h. absurd (omega (arith, h, above))) in
    let digit : is_ascii_digit (48 + m) ≡ true = digit_true m low in
    let value : (48 + m) - 48 ≡ m = omega arith in
    rw (zero, digit, value))
    (λ m ds high before fits above t.
    let digit : is_ascii_digit (48 + m % 10) ≡ true = digit_true (m % 10) (omega arith) in
    let value : 10 * (m / 10) + ((48 + m % 10) - 48) ≡ m = omega arith in
    let test : nat_lt m (2 ^ 64) ≡ true = lt-ltb m (2 ^ 64) fits in
    let front : m / 10 < 2 ^ 64 = omega (arith, fits) in
    let more : 0 < m / 10 = omega (arith, high) in
    ap (number_read_at end) (append_assoc ds ((48 + m % 10) ∷ []) t) ∙ before front more ((48 + m % 10) ∷ t) ∙ rw (digit, value, test))
    n small small some

-- a number and its end
pub number_again : (end n : ℕ) (rest : List ℕ) → is_ascii_digit end ≡ false → n < 2 ^ 64 → number_read_at end (decimal n ++ end ∷ rest) ≡ Some (n, rest)
unfolding number_read_at digits_on behind
number_again end zero rest other small =
    let none : decimal 0 ≡ 48 ∷ [] = decimal_digit 0 (lit< tt) in
    let test : (end == end) ≡ true = eq-eqb end end refl in
    ap (λ (d : List ℕ). number_read_at end (d ++ end ∷ rest)) none ∙ rw test
number_again end (suc n) rest other small =
    let test : (end == end) ≡ true = eq-eqb end end refl in
    begun end (suc n) small (omega arith) (end ∷ rest) ∙ rw (other, test)

-- a number and another end
pub number_stops : (end stop n : ℕ) (rest : List ℕ) → is_ascii_digit stop ≡ false → stop ≢ end → n < 2 ^ 64
    → number_read_at end (decimal n ++ stop ∷ rest) ≡ None
unfolding number_read_at digits_on behind
number_stops end stop zero rest other apart small =
    let none : decimal 0 ≡ 48 ∷ [] = decimal_digit 0 (lit< tt) in
    let test : (stop == end) ≡ false = ne_eqb stop end apart in
    ap (λ (d : List ℕ). number_read_at end (d ++ stop ∷ rest)) none ∙ rw test
number_stops end stop (suc n) rest other apart small =
    let test : (stop == end) ≡ false = ne_eqb stop end apart in
    begun end (suc n) small (omega arith) (stop ∷ rest) ∙ rw (other, test)

pub index_again : (end n : ℕ) (rest : List ℕ) → is_ascii_digit end ≡ false → n < 2 ^ 32 → index_at end (decimal n ++ end ∷ rest) ≡ Some (n, rest)
unfolding index_at
index_again end n rest other small = rw (number_again end n rest other (omega (arith, small)), lt-ltb n (2 ^ 32) small)

pub index_stops : (end stop n : ℕ) (rest : List ℕ) → is_ascii_digit stop ≡ false → stop ≢ end → n < 2 ^ 32 → index_at end (decimal n ++ stop ∷ rest) ≡ None
unfolding index_at
index_stops end stop n rest other apart small = rw (number_stops end stop n rest other apart (omega (arith, small)))

false_true : false ≡ true → ⊥
false_true h = cc

-- no number begins a word
not_word : (b : ℕ) (word : List ℕ) (n : ℕ) (rest : List ℕ) → is_ascii_digit b ≡ false → n < 2 ^ 64 → behind (b ∷ word) (decimal n ++ rest) ≡ None
unfolding behind
not_word b word n rest other small =
    let P : ℕ → List ℕ → Type 0 = λ m ds. (t : List ℕ) → behind (b ∷ word) (ds ++ t) ≡ None in
    decimal_by_steps P
    (λ m low t.
    let apart : 48 + m ≢ b = λ h. false_true (sym other ∙ ap is_ascii_digit (sym h) ∙ digit_true m low) in
    let test : ((48 + m) == b) ≡ false = ne_eqb (48 + m) b apart in
    rw test)
    (λ m ds high before t. ap (behind (b ∷ word)) (append_assoc ds ((48 + m % 10) ∷ []) t) ∙ before ((48 + m % 10) ∷ t))
    n small rest

-- a word is read where no number stands
unread_reply : (word : ℕ) (rest : List ℕ) → word < 2 ^ 64 → reply_read_at (decimal word ++ 10 ∷ rest) ≡ Some (Old word, rest)
unfolding reply_read_at
unread_reply word rest small =
    let none : behind (codes "ok\n") (decimal word ++ 10 ∷ rest) ≡ None = not_word 111 (codes "k\n") word (10 ∷ rest) refl small in
    rw (none, number_again 10 word rest refl small)

unread_event : (n : ℕ) (rest : List ℕ) → n < 2 ^ 32 → event_at (decimal n ++ 10 ∷ rest) ≡ Some (Some n, rest)
unfolding event_at
unread_event n rest small =
    let none : behind (codes "-\n") (decimal n ++ 10 ∷ rest) ≡ None = not_word 45 (codes "\n") n (10 ∷ rest) refl (omega (arith, small)) in
    rw (none, index_again 10 n rest refl small)

reply_again : (r : Reply) (rest : List ℕ) → FitsReply r → reply_read_at (reply_then r rest) ≡ Some (r, rest)
unfolding reply_read_at behind
reply_again Stored rest fits = refl
reply_again (Old word) rest fits = unread_reply word rest fits

event_again : (e : Option ℕ) (rest : List ℕ) → IfSome e (λ n. n < 2 ^ 32) → event_at (event_then e rest) ≡ Some (e, rest)
unfolding event_at behind
event_again None rest fits = refl
event_again (Some n) rest fits = unread_event n rest fits

pub pair_again : (end a v : ℕ) (rest : List ℕ) → is_ascii_digit end ≡ false → a < 2 ^ 32 → v < 2 ^ 64 → pair_at end (pair_then end a v rest) ≡ Some (a, v, rest)
unfolding pair_at
pair_again end a v rest other small fits = rw (index_again 32 a (decimal v ++ end ∷ rest) refl small, number_again end v rest other fits)

-- values, each up to a space
one_again : (v : ℕ) (rest : List ℕ) → v < 2 ^ 64 → values_at 1 (values_then (v ∷ []) rest) ≡ Some (v, 0, rest)
unfolding values_at
one_again v rest fits = rw (number_again 32 v rest refl fits)

two_again : (v w : ℕ) (rest : List ℕ) → v < 2 ^ 64 → w < 2 ^ 64 → values_at 2 (values_then (v ∷ w ∷ []) rest) ≡ Some (v, w, rest)
unfolding values_at
two_again v w rest small fits = rw (number_again 32 v (decimal w ++ 32 ∷ rest) refl small, number_again 32 w rest refl fits)

-- an operation's word and its address, and then its values
begun_again : (c : Code) (a : ℕ) (text : List ℕ) → a < 2 ^ 32
    → op_at (code_word c ++ 32 ∷ (decimal a ++ 32 ∷ text)) ≡ (values_at (arity c) text >>= λ v. Some (op_with c v.0 v.1, a, v.2))
unfolding op_at
begun_again c a text small =
    let ends = word_ends c (decimal a ++ 32 ∷ text) in
    rw (ends.before, ends.after, named_by_its_word c, index_again 32 a text refl small)

valued_again : (c : Code) (a v : ℕ) (rest : List ℕ) → arity c ≡ 1 → a < 2 ^ 32 → FitsValues (v ∷ [])
    → op_at (code_word c ++ 32 ∷ (decimal a ++ 32 ∷ values_then (v ∷ []) rest)) ≡ Some (op_with c v 0, a, rest)
valued_again c a v rest one small fits =
    begun_again c a (values_then (v ∷ []) rest) small ∙ rw (one, one_again v rest (first_fits v [] fits))

op_again : (o : Op) (a : ℕ) (rest : List ℕ) → FitsOp o → a < 2 ^ 32 → op_at (op_then o a rest) ≡ Some (o, a, rest)
unfolding values_at
op_again Load a rest fits small = begun_again code.Load a rest small
op_again (Store v) a rest fits small = valued_again code.Store a v rest refl small fits
op_again (Swap v) a rest fits small = valued_again code.Swap a v rest refl small fits
op_again (Cas e n) a rest fits small =
    begun_again code.Cas a (values_then (e ∷ n ∷ []) rest) small
    ∙ rw (two_again e n rest (first_fits e (n ∷ []) fits) (second_fits e n [] fits))
op_again (Add v) a rest fits small = valued_again code.Add a v rest refl small fits
op_again (And v) a rest fits small = valued_again code.And a v rest refl small fits
op_again (Or v) a rest fits small = valued_again code.Or a v rest refl small fits
op_again (Xor v) a rest fits small = valued_again code.Xor a v rest refl small fits
op_again (Max v) a rest fits small = valued_again code.Max a v rest refl small fits
op_again (Min v) a rest fits small = valued_again code.Min a v rest refl small fits

-- four indexes behind a word that the text begins with
four_again : (word text : List ℕ) (a b c d : ℕ) (rest : List ℕ) → behind word text ≡ Some (four_then a b c d rest) → a < 2 ^ 32 → b < 2 ^ 32 → c < 2 ^ 32
    → d < 2 ^ 32 → four_at word text ≡ Some (a, b, c, d, rest)
unfolding four_at
four_again word text a b c d rest is small_a small_b small_c small_d =
    rw (
      is,
      index_again 32 a (decimal b ++ 32 ∷ (decimal c ++ 32 ∷ (decimal d ++ 32 ∷ rest))) refl small_a,
      index_again 32 b (decimal c ++ 32 ∷ (decimal d ++ 32 ∷ rest)) refl small_b,
      index_again 32 c (decimal d ++ 32 ∷ rest) refl small_c,
      index_again 32 d rest refl small_d,
    )

pub entry_again : (e : EntryLine) (rest : List ℕ) → FitsEntry e → entry_at (line_then (Entry e) rest) ≡ Some (Entry e, rest)
unfolding entry_at behind
entry_again e rest fits =
    let last : List ℕ = op_then e.op e.address (reply_then e.reply rest) in
    rw (
      four_again (codes "entry ") (line_then (Entry e) rest) e.bank e.place e.source e.tag last refl fits.bank fits.place fits.source fits.tag,
      op_again e.op e.address (reply_then e.reply rest) fits.op fits.address,
      reply_again e.reply rest fits.reply,
    )

pub answer_again : (a : AnswerLine) (rest : List ℕ) → FitsAnswer a → answer_at (line_then (Answer a) rest) ≡ Some (Answer a, rest)
unfolding answer_at behind
answer_again a rest fits =
    let last : List ℕ = reply_then a.reply rest in
    rw (
      four_again (codes "answer ") (line_then (Answer a) rest) a.processor a.index a.bank a.place last refl fits.processor fits.index fits.bank fits.place,
      reply_again a.reply rest fits.reply,
    )

pub order_again : (o : OrderLine) (rest : List ℕ) → FitsOrder o → order_at (line_then (Order o) rest) ≡ Some (Order o, rest)
unfolding order_at behind
order_again o rest fits =
    let last : List ℕ = event_then o.answered rest in
    rw (
      four_again (codes "order ") (line_then (Order o) rest) o.bank o.place o.issued o.served last refl fits.bank fits.place fits.issued fits.served,
      event_again o.answered rest fits.answered,
    )

-- radices that are all the same, and radices that are not
