-- Each answer line is of an entry that has none yet, and stands behind those of lesser indexes.
use Rattle.std.proofs.Common.{◌≡◌, ℕ, zero, suc, ◌+◌, ◌*◌, ◌<◌, ◌≤◌, ◌==◌, ◌&&◌, ◌||◌, false, List, [], ◌∷◌, ◌++◌, map, Option, Some, None, slice_get, refl}
use Rattle.std.proofs.Common.{sym, ap, subst, ◌∙◌, arith, append_assoc, ⊎_elim}
use Rattle.std.specs.List.{AllByRecursion}
use Rattle.std.specs.Option.{option_to_list}
use Rattle.std.proofs.lemmas.Bool.{cases_eq, eq-eqb, ne_eqb}
use Rattle.std.proofs.lemmas.List.{map-append}
use Rattle.report_lines.specs.Contents.{answer_row_of, index_count}
use Rattle.report_lines.specs.declared.parts.EntryRow.{EntryRow}
use Rattle.report_lines.specs.declared.parts.AnswerRow.{AnswerRow}
use Rattle.report_lines.specs.declared.line.EntryLine.{EntryLine}
use Rattle.report_lines.specs.declared.line.AnswerLine.{AnswerLine}
use Rattle.report_check.specs.Seen.{above_last, is_answered, key_of}
use Rattle.report_check.proofs.Pushes.{above_map_push}
use Rattle.report_check.specs.Facts.{rows_at, AreAnswers}
use Rattle.report_check.proofs.Answers.{AnswersNext, AllAnswerNext}
use Rattle.report_check.proofs.EntryLists.{entry_of, entry_list, entries_of}
use Rattle.report_check.proofs.EntryNext.{both_all, line_there}
use Rattle.report_check.proofs.AnswerLists.{answer_at, answer_list, indexed, found_there, index_count_within}

-- an answer line is of a row whose key is below a bound
record IsFrom (answers : List (List AnswerRow)) (bound : ℕ) (l : AnswerLine) : Type 0 where
  p : ℕ
  i : ℕ
  row : AnswerRow
  there : slice_get (rows_at answers p) i ≡ Some row
  bank : row.bank ≡ l.bank
  place : row.place ≡ l.place
  below : 4096 * p + row.index < bound

-- the answer lines that are done have keys below a bound
record AreDone (answers : List (List AnswerRow)) (bound : ℕ) (done : List AnswerLine) : Type 0 where
  rises : above_last (map key_of done) ≤ bound
  from : AllByRecursion (IsFrom answers bound) done

from_below : (answers : List (List AnswerRow)) (bound more : ℕ) (done : List AnswerLine) → bound ≤ more → AllByRecursion (IsFrom answers bound) done
    → AllByRecursion (IsFrom answers more) done
from_below answers bound more [] low from = tt
from_below answers bound more (l ∷ done) low from =
    let f = from.0 in (
      record { p = f.p; i = f.i; row = f.row; there = f.there; bank = f.bank; place = f.place; below = omega (arith, f.below, low) },
      from_below answers bound
          more done low from.1,
    )

done_below : (answers : List (List AnswerRow)) (bound more : ℕ) (done : List AnswerLine) → bound ≤ more → AreDone answers bound done → AreDone answers more done
done_below answers bound more done low d = record { rises = omega (arith, d.rises, low); from = from_below answers bound more done low d.from }

test_apart : (a b c d : ℕ) → (a ≡ b → c ≡ d → ⊥) → ((a == b) && (c == d)) ≡ false
test_apart a b c d apart =
    ⊎_elim
    (λ (same : a ≡ b). ap (λ x. x && (c == d)) (eq-eqb a b same) ∙ ne_eqb c d (apart same))
    (λ (other : a ≡ b → ⊥). ap (λ x. x && (c == d)) (ne_eqb a b other))
    (cases_eq a b)

same_row : (xs : List AnswerRow) (j k : ℕ) (x y : AnswerRow) → j ≡ k → slice_get xs j ≡ Some x → slice_get xs k ≡ Some y → x.index ≡ y.index
same_row xs j k x y same h i = let at = ap (slice_get xs) same in let is : x ≡ y = cc in ap (λ (r : AnswerRow). r.index) is

-- no line that is done names the entry of an answer that is not
fresh : (entries : List (List EntryRow)) (answers : List (List AnswerRow)) → AreAnswers entries answers → (p k : ℕ) (a : AnswerRow)
    → slice_get (rows_at answers p) k ≡ Some a → (done : List AnswerLine) → AllByRecursion (IsFrom answers (4096 * p + a.index)) done
    → is_answered done a.bank a.place ≡ false
fresh entries answers are p k a there [] from = refl
fresh entries answers are p k a there (l ∷ done) from =
    let f = from.0 in
    let apart : l.bank ≡ a.bank → l.place ≡ a.place → ⊥ = λ bank place.
    let same = are.apart f.p p f.i k f.row a f.there there (f.bank ∙ bank) (f.place ∙ place) in
    let of_p : slice_get (rows_at answers p) f.i ≡ Some f.row = ap (λ q. slice_get (rows_at answers q) f.i) (sym same.0) ∙ f.there in
    let index : f.row.index ≡ a.index = same_row (rows_at answers p) f.i k f.row a same.1 of_p there in
    let source : 4096 * f.p ≡ 4096 * p = ap (λ q. 4096 * q) same.0 in
    let below = f.below in
    omega (arith, below, index, source) in
    ap (λ b. b || is_answered done a.bank a.place) (test_apart l.bank a.bank l.place a.place apart) ∙ fresh entries answers are p k a there done from.1

answers_next : (entries : List (List EntryRow)) (answers : List (List AnswerRow)) → AreAnswers entries answers → (p k : ℕ) (a : AnswerRow)
    → slice_get (rows_at answers p) k ≡ Some a → (done : List AnswerLine) → AreDone answers (4096 * p + a.index) done
    → AnswersNext (entry_list 0 entries) done (answer_at p a)
answers_next entries answers are p k a there done d =
    let n = are.named p k a there in
    record {
      index = are.low p k a there;
      rises = d.rises;
      entry = entry_of a.bank (0 + a.place) n.entry;
      there = ap (λ (ls : List EntryLine). slice_get ls a.place) (entries_of a.bank entries)
          ∙ line_there a.bank 0 (rows_at entries a.bank) a.place n.entry n.there;
      source = n.source;
      reply = n.reply;
      once = fresh entries answers are p k a there done d.from;
    }

done_more : (answers : List (List AnswerRow)) (p k : ℕ) (a : AnswerRow) → slice_get (rows_at answers p) k ≡ Some a → (done : List AnswerLine)
    → AreDone answers (4096 * p + a.index) done → AreDone answers (4096 * p + (a.index + 1)) (done ++ answer_at p a ∷ [])
done_more answers p k a there done d =
    record {
      rises = let last = above_map_push key_of done (answer_at p a) in omega (arith, last);
      from = both_all (IsFrom answers (4096 * p + (a.index + 1))) done (answer_at p a ∷ [])
          (from_below answers (4096 * p + a.index) (4096 * p + (a.index + 1)) done (omega arith) d.from)
          (record { p = p; i = k; row = a; there = there; bank = refl; place = refl; below = omega arith }, tt);
    }

-- what follows goes on behind all lines that are done
abbrev Behind : List (List EntryRow) → List (List AnswerRow) → ℕ → List AnswerLine → Type 0
Behind entries answers bound rest = (all : List AnswerLine) → AreDone answers bound all → AllAnswerNext (entry_list 0 entries) all rest

one_next : (entries : List (List EntryRow)) (answers : List (List AnswerRow)) → AreAnswers entries answers
    → (p i : ℕ) (o : Option AnswerRow) (done rest : List AnswerLine)
    → ((a : AnswerRow) → o ≡ Some a → (k : ℕ) × (slice_get (rows_at answers p) k ≡ Some a) × (a.index ≡ i)) → AreDone answers (4096 * p + i) done
    → Behind entries answers (4096 * p + (i + 1)) rest
    → AllAnswerNext (entry_list 0 entries) done (map (answer_at p) (option_to_list o) ++ rest)
one_next entries answers are p i None done rest found d on = on done (done_below answers (4096 * p + i) (4096 * p + (i + 1)) done (omega arith) d)
one_next entries answers are p i (Some a) done rest found d on =
    let f = found a refl in
    let here : AreDone answers (4096 * p + a.index) done = subst (λ j. AreDone answers (4096 * p + j) done) (sym f.2) d in (
      answers_next entries answers are p f.0 a f.1 done here,
      on (done ++ answer_at p a ∷ [])
          (subst (λ j. AreDone answers (4096 * p + (j + 1)) (done ++ answer_at p a ∷ [])) f.2 (done_more answers p f.0 a f.1 done here)),
    )

processor_next : (entries : List (List EntryRow)) (answers : List (List AnswerRow)) → AreAnswers entries answers
    → (p i n : ℕ) (ans : List AnswerRow) (done rest : List AnswerLine)
    → ((k : ℕ) (a : AnswerRow) → slice_get ans k ≡ Some a → slice_get (rows_at answers p) k ≡ Some a) → AreDone answers (4096 * p + i) done
    → Behind entries answers (4096 * p + (i + n)) rest
    → AllAnswerNext (entry_list 0 entries) done (map (answer_at p) (indexed ans i n) ++ rest)
processor_next entries answers are p i zero ans done rest same d on =
    on done (done_below answers (4096 * p + i) (4096 * p + (i + 0)) done (omega arith) d)
processor_next entries answers are p i (suc n) ans done rest same d on =
    let first : List AnswerLine = map (answer_at p) (option_to_list (answer_row_of ans i)) in
    let more : List AnswerLine = map (answer_at p) (indexed ans (i + 1) n) in
    let split : first ++ (more ++ rest) ≡ map (answer_at p) (indexed ans i (suc n)) ++ rest =
    sym (append_assoc first more rest)
    ∙ ap (λ (ls : List AnswerLine). ls ++ rest) (sym (map-append (answer_at p) (option_to_list (answer_row_of ans i)) (indexed ans (i + 1) n))) in
    let count : i + suc n ≡ i + 1 + n = omega arith in
    subst (AllAnswerNext (entry_list 0 entries) done) split
    (one_next entries answers are p i (answer_row_of ans i) done (more ++ rest) (λ a found. let t = found_there ans i a found in (t.0, same t.0 a t.1, t.2)) d
    (λ all e. processor_next entries answers are p (i + 1) n ans all rest same e (subst (λ j. Behind entries answers (4096 * p + j) rest) count on)))

processors_next : (entries : List (List EntryRow)) (answers : List (List AnswerRow)) → AreAnswers entries answers
    → (p : ℕ) (ass : List (List AnswerRow)) (done : List AnswerLine)
    → ((i c k : ℕ) (a : AnswerRow) → c ≡ p + i → slice_get (rows_at ass i) k ≡ Some a → slice_get (rows_at answers c) k ≡ Some a)
    → AreDone answers (4096 * p) done
    → AllAnswerNext (entry_list 0 entries) done (answer_list p ass)
processors_next entries answers are p [] done same d = tt
processors_next entries answers are p (ans ∷ ass) done same d =
    let of_p : (k : ℕ) (a : AnswerRow) → slice_get ans k ≡ Some a → slice_get (rows_at answers p) k ≡ Some a = λ k a there. same 0 p k a (omega arith) there in
    let few : index_count ans ≤ 4096 = index_count_within 4096 ans (λ k a there. are.low p k a (of_p k a there)) in
    processor_next entries answers are p 0 (index_count ans) ans done (answer_list (p + 1) ass) of_p
    (done_below answers (4096 * p) (4096 * p + 0) done (omega arith) d)
    (λ all e. processors_next entries answers are (p + 1) ass all (λ i c k a is there. same (suc i) c k a (omega (arith, is)) there)
    (done_below answers (4096 * p + (0 + index_count ans)) (4096 * (p + 1)) all (omega (arith, few)) e))

-- the answer lines of all processors are so
pub all_next : (entries : List (List EntryRow)) (answers : List (List AnswerRow)) → AreAnswers entries answers
    → AllAnswerNext (entry_list 0 entries) [] (answer_list 0 answers)
all_next entries answers are =
    processors_next entries answers are 0 answers []
    (λ i c k a is there. let same : c ≡ i = omega (arith, is) in ap (λ q. slice_get (rows_at answers q) k) same ∙ there)
    (record { rises = omega arith; from = tt })
