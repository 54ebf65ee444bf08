-- The answer lines of the rows of the processors.
use Rattle.std.proofs.Common.{◌≡◌, ℕ, zero, suc, ◌+◌, ◌<◌, ◌≤◌, ◌==◌, cond, true, false, max, List, [], ◌∷◌, ◌++◌, map, flat_map, fold, Option, Some, None}
use Rattle.std.proofs.Common.{slice_get, refl, sym, ap, subst, ◌∙◌, arith, ⊎_elim}
use Rattle.std.specs.List.{AllByRecursion, enumerate_from, range_with_len}
use Rattle.std.specs.Option.{option_to_list}
use Rattle.std.proofs.lemmas.Bool.{cases_eq, eq-eqb, ne_eqb}
use Rattle.std.proofs.lemmas.List.{map-append}
use Rattle.report_lines.specs.Contents.{answer_line, answer_row_of, by_index, index_count}
use Rattle.report_lines.specs.declared.parts.AnswerRow.{AnswerRow}
use Rattle.report_lines.specs.declared.line.AnswerLine.{AnswerLine}
use Rattle.report_lines.specs.declared.line.ReportLine.{ReportLine}
use Rattle.report_lines.specs.declared.line.ReportLine.TheVariants.{Answer}
use Rattle.report_check.specs.Facts.{rows_at}
use Rattle.report_check.proofs.EntryNext.{both_all}

-- the line of an answer, and of those of the processors from a processor on
abbrev pub answer_at : ℕ → AnswerRow → AnswerLine
answer_at p a = record { processor = p; index = a.index; bank = a.bank; place = a.place; reply = a.reply }

abbrev pub answer_list : ℕ → List (List AnswerRow) → List AnswerLine
answer_list p [] = []
answer_list p (ans ∷ ass) = map (answer_at p) (by_index ans) ++ answer_list (p + 1) ass

-- the answers of so many indexes from an index on
abbrev pub indexed : List AnswerRow → ℕ → ℕ → List AnswerRow
indexed ans i n = flat_map (λ k. option_to_list (answer_row_of ans k)) (range_with_len i n)

lines_of_one : (p : ℕ) (ans : List AnswerRow) → map (answer_line p) ans ≡ map Answer (map (answer_at p) ans)
lines_of_one p [] = refl
lines_of_one p (a ∷ ans) = ap (λ (ls : List ReportLine). Answer (answer_at p a) ∷ ls) (lines_of_one p ans)

pub answer_lines_are : (p : ℕ) (ass : List (List AnswerRow))
    → flat_map (λ x. map (answer_line x.0) (by_index x.1)) (enumerate_from p ass) ≡ map Answer (answer_list p ass)
answer_lines_are p [] = refl
answer_lines_are p (ans ∷ ass) =
    ap (λ (ls : List ReportLine). map (answer_line p) (by_index ans) ++ ls) (answer_lines_are (p + 1) ass)
    ∙ ap (λ (ls : List ReportLine). ls ++ map Answer (answer_list (p + 1) ass)) (lines_of_one p (by_index ans))
    ∙ sym (map-append Answer (map (answer_at p) (by_index ans)) (answer_list (p + 1) ass))

-- the answer that is found of an index is there, and is of it
pub found_there : (ans : List AnswerRow) (i : ℕ) (a : AnswerRow) → answer_row_of ans i ≡ Some a → (k : ℕ) × (slice_get ans k ≡ Some a) × (a.index ≡ i)
found_there [] i a found = absurd (cc)
found_there (x ∷ ans) i a found =
    ⊎_elim
    (λ (same : x.index ≡ i).
    let test : (x.index == i) ≡ true = eq-eqb x.index i same in
    let is : Some x ≡ Some a = sym (ap (λ b. cond b (Some x) (answer_row_of ans i)) test) ∙ found in
    let here : x ≡ a = cc in
    (0, is, sym (ap (λ (y : AnswerRow). y.index) here) ∙ same))
    (λ other.
    let test : (x.index == i) ≡ false = ne_eqb x.index i other in
    let is : answer_row_of ans i ≡ Some a = sym (ap (λ b. cond b (Some x) (answer_row_of ans i)) test) ∙ found in
    let more = found_there ans i a is in
    (suc more.0, more.1, more.2))
    (cases_eq x.index i)

-- of an index that is there an answer is found
pub there_found : (ans : List AnswerRow) (k : ℕ) (a : AnswerRow) → slice_get ans k ≡ Some a → (c : AnswerRow) × (answer_row_of ans a.index ≡ Some c)
there_found [] k a there = absurd (cc)
there_found (x ∷ ans) zero a there =
    let same : x ≡ a = cc in
    (x, ap (λ b. cond b (Some x) (answer_row_of ans a.index)) (eq-eqb x.index a.index (ap (λ (y : AnswerRow). y.index) same)))
there_found (x ∷ ans) (suc k) a there =
    ⊎_elim
    (λ (same : x.index ≡ a.index). (x, ap (λ b. cond b (Some x) (answer_row_of ans a.index)) (eq-eqb x.index a.index same)))
    (λ other.
    let test : (x.index == a.index) ≡ false = ne_eqb x.index a.index other in
    let more = there_found ans k a there in
    (more.0, ap (λ b. cond b (Some x) (answer_row_of ans a.index)) test ∙ more.1))
    (cases_eq x.index a.index)

-- what holds of each row holds of its line
all_option : (P : AnswerLine → Type 0) (p : ℕ) (o : Option AnswerRow) → ((a : AnswerRow) → o ≡ Some a → P (answer_at p a))
    → AllByRecursion P (map (answer_at p) (option_to_list o))
all_option P p None each = tt
all_option P p (Some a) each = (each a refl, tt)

all_indexed : (P : AnswerLine → Type 0) (p i n : ℕ) (ans : List AnswerRow) → ((k : ℕ) (a : AnswerRow) → slice_get ans k ≡ Some a → P (answer_at p a))
    → AllByRecursion P (map (answer_at p) (indexed ans i n))
all_indexed P p i zero ans each = tt
all_indexed P p i (suc n) ans each =
    subst (AllByRecursion P) (sym (map-append (answer_at p) (option_to_list (answer_row_of ans i)) (indexed ans (i + 1) n)))
    (both_all P (map (answer_at p) (option_to_list (answer_row_of ans i))) (map (answer_at p) (indexed ans (i + 1) n))
    (all_option P p (answer_row_of ans i) (λ a found. let t = found_there ans i a found in each t.0 a t.1))
    (all_indexed P p (i + 1) n ans each))

pub all_answers : (P : AnswerLine → Type 0) (p : ℕ) (ass : List (List AnswerRow))
    → ((q i k : ℕ) (a : AnswerRow) → slice_get (rows_at ass i) k ≡ Some a → P (answer_at q a)) → AllByRecursion P (answer_list p ass)
all_answers P p [] each = tt
all_answers P p (ans ∷ ass) each =
    both_all P (map (answer_at p) (by_index ans)) (answer_list (p + 1) ass)
    (all_indexed P p 0 (index_count ans) ans (λ k a there. each p 0 k a there))
    (all_answers P (p + 1) ass (λ q i k a there. each q (suc i) k a there))

-- the count of indexes is not above a bound that all indexes are below
abbrev count_on : ℕ → AnswerRow → ℕ
count_on n a = max n (a.index + 1)

count_within : (d n : ℕ) (ans : List AnswerRow) → d ≤ n → ((k : ℕ) (a : AnswerRow) → slice_get ans k ≡ Some a → a.index < n) → fold count_on d ans ≤ n
count_within d n [] low each = low
count_within d n (a ∷ ans) low each =
    count_within (max d (a.index + 1)) n ans (omega (arith, low, each 0 a refl)) (λ k x there. each (suc k) x there)

pub index_count_within : (n : ℕ) (ans : List AnswerRow) → ((k : ℕ) (a : AnswerRow) → slice_get ans k ≡ Some a → a.index < n) → index_count ans ≤ n
index_count_within n ans each = count_within 0 n ans (omega arith) each
