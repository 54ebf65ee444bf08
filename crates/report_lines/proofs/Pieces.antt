-- The lines of what is left of a list.
use Rattle.std.proofs.Common.{◌≡◌, ◌≤◌, ◌==◌, ◌||◌, ℕ, zero, suc, ◌+◌, Bool, true, false, List, [], ◌∷◌, ◌++◌, length, drop, take, not, filter, map, flat_map, refl, sym, ap}
use Rattle.std.proofs.Common.{◌∙◌, append_assoc, arith, slice_get, slice_index_or}
use Rattle.std.specs.List.{enumerate_from, list_any}
use Rattle.std.specs.Option.{option_to_list}
use Rattle.std.proofs.lemmas.List.{append-nil, drop_all, map-append}
use Rattle.std.proofs.lemmas.List.Elements.{filter-append}
use Rattle.std.proofs.lemmas.List.Folds.{list_any-append}
use Rattle.report_lines.specs.declared.line.OrderLine.{OrderLine}
use Rattle.report_lines.specs.declared.line.ReportLine.{ReportLine}
use Rattle.report_lines.specs.declared.line.ReportLine.TheVariants.{Init, Word}
use Rattle.report_lines.specs.declared.parts.AnswerRow.{AnswerRow}
use Rattle.report_lines.specs.Contents.{answer_line, bank_lines_from, by_index, init_lines_from, order_lines, word_lines_from}

-- the number after another
next_number : (k : ℕ) → suc k ≡ k + 1
next_number k = omega arith

-- what is left of a list begins with the next element, where there is one
drop_suc : {X : Type 0} (xs : List X) (k : ℕ) → drop k xs ≡ option_to_list (slice_get xs k) ++ drop (suc k) xs
drop_suc [] zero = refl
drop_suc [] (suc k) = refl
drop_suc (x ∷ xs) zero = refl
drop_suc (x ∷ xs) (suc k) = drop_suc xs k

-- one element more of a list, where there is one
take_suc : {X : Type 0} (xs : List X) (k : ℕ) → take (suc k) xs ≡ take k xs ++ option_to_list (slice_get xs k)
take_suc [] zero = refl
take_suc [] (suc k) = refl
take_suc (x ∷ xs) zero = refl
take_suc (x ∷ xs) (suc k) = ap (λ ys. x ∷ ys) (take_suc xs k)

pub take_next : {X : Type 0} (xs : List X) (k : ℕ) → take (k + 1) xs ≡ take k xs ++ option_to_list (slice_get xs k)
take_next xs k = ap (λ n. take n xs) (sym (next_number k)) ∙ take_suc xs k

-- lines that are made of a list element by element, each with its number
pub record MadeOfEach {X : Type 0} (lines : ℕ → List X → List ReportLine) : Type 0 where
  pub none : (n : ℕ) → lines n [] ≡ []
  pub more : (n : ℕ) (x : X) (xs : List X) → lines n (x ∷ xs) ≡ lines n (x ∷ []) ++ lines (n + 1) xs

-- past the end there are no lines
no_lines : {X : Type 0} (lines : ℕ → List X → List ReportLine) → MadeOfEach lines → (n : ℕ) → lines n [] ≡ lines n [] ++ lines (n + 1) []
no_lines lines are n = sym (append-nil (lines n [])) ∙ ap (λ ls. lines n [] ++ ls) (sym (are.none (n + 1)))

each_suc : {X : Type 0} (lines : ℕ → List X → List ReportLine) → MadeOfEach lines → (n k : ℕ) (xs : List X)
    → lines n (drop k xs) ≡ lines n (option_to_list (slice_get xs k)) ++ lines (n + 1) (drop (suc k) xs)
each_suc lines are n zero [] = no_lines lines are n
each_suc lines are n (suc k) [] = no_lines lines are n
each_suc lines are n zero (x ∷ xs) = are.more n x xs
each_suc lines are n (suc k) (x ∷ xs) = each_suc lines are n k xs

-- the lines so far and those that are left, behind the lines of one element more
pub each_next : {X : Type 0} (lines : ℕ → List X → List ReportLine) → MadeOfEach lines → (before now whole : List ReportLine) (xs : List X) (k : ℕ)
    → now ≡ before ++ lines k (option_to_list (slice_get xs k)) → before ++ lines k (drop k xs) ≡ whole → now ++ lines (k + 1) (drop (k + 1) xs) ≡ whole
each_next lines are before now whole xs k is all =
    ap (λ ls. ls ++ lines (k + 1) (drop (k + 1) xs)) is
    ∙ append_assoc before (lines k (option_to_list (slice_get xs k))) (lines (k + 1) (drop (k + 1) xs))
    ∙ ap (λ ls. before ++ ls)
    (ap (λ n. lines k (option_to_list (slice_get xs k)) ++ lines (k + 1) (drop n xs)) (sym (next_number k)) ∙ sym (each_suc lines are k k xs))
    ∙ all

-- the lines so far are all, where none is left
pub each_end : {X : Type 0} (lines : ℕ → List X → List ReportLine) → MadeOfEach lines → (now whole : List ReportLine) (xs : List X) (k : ℕ) → length xs ≤ k
    → now ++ lines k (drop k xs) ≡ whole → now ≡ whole
each_end lines are now whole xs k past all =
    sym (append-nil now) ∙ ap (λ ls. now ++ ls) (sym (ap (lines k) (drop_all k xs past) ∙ are.none k)) ∙ all

-- whether a word, with its address, is not 0
abbrev is_set : ℕ × ℕ → Bool
is_set w = not (w.1 == 0)

pub inits_are : MadeOfEach init_lines_from
inits_are = record {
  none = λ n. refl;
  more = λ n w ws. ap (map (λ x. Init x.0 x.1)) (filter-append is_set ((n, w) ∷ []) (enumerate_from (n + 1) ws))
      ∙ map-append (λ x. Init x.0 x.1) (filter is_set ((n, w) ∷ [])) (filter is_set (enumerate_from (n + 1) ws));
}

pub words_are : MadeOfEach word_lines_from
words_are = record {
  none = λ n. refl;
  more = λ n w ws. ap (map (λ x. Word x.0 x.1)) (filter-append is_set ((n, w) ∷ []) (enumerate_from (n + 1) ws))
      ∙ map-append (λ x. Word x.0 x.1) (filter is_set ((n, w) ∷ [])) (filter is_set (enumerate_from (n + 1) ws));
}

pub bank_is : (bank : ℕ) → MadeOfEach (bank_lines_from bank)
bank_is bank = record { none = λ n. refl; more = λ n e es. refl }

-- the order lines, whichever number they begin with
abbrev pub order_from : ℕ → List OrderLine → List ReportLine
order_from n order = order_lines order

pub order_is : MadeOfEach order_from
order_is = record { none = λ n. refl; more = λ n o os. refl }

-- the lines of each bank, or of each processor, from a number on
abbrev pub pieces_from : {X : Type 0} → (ℕ → List X → List ReportLine) → ℕ → List (List X) → List ReportLine
pieces_from piece n xss = flat_map (λ x. piece x.0 x.1) (enumerate_from n xss)

pieces_suc : {X : Type 0} (piece : ℕ → List X → List ReportLine) → ((n : ℕ) → piece n [] ≡ []) → (n k : ℕ) (xss : List (List X))
    → pieces_from piece n (drop k xss) ≡ piece n (slice_index_or xss k []) ++ pieces_from piece (n + 1) (drop (suc k) xss)
pieces_suc piece none n zero [] = ap (λ ls. ls ++ []) (sym (none n))
pieces_suc piece none n (suc k) [] = ap (λ ls. ls ++ []) (sym (none n))
pieces_suc piece none n zero (xs ∷ xss) = refl
pieces_suc piece none n (suc k) (xs ∷ xss) = pieces_suc piece none n k xss

pub pieces_next : {X : Type 0} (piece : ℕ → List X → List ReportLine) → ((n : ℕ) → piece n [] ≡ []) → (before now whole : List ReportLine)
    (xss : List (List X)) (k : ℕ) → now ≡ before ++ piece k (slice_index_or xss k []) → before ++ pieces_from piece k (drop k xss) ≡ whole
    → now ++ pieces_from piece (k + 1) (drop (k + 1) xss) ≡ whole
pieces_next piece none before now whole xss k is all =
    ap (λ ls. ls ++ pieces_from piece (k + 1) (drop (k + 1) xss)) is
    ∙ append_assoc before (piece k (slice_index_or xss k [])) (pieces_from piece (k + 1) (drop (k + 1) xss))
    ∙ ap (λ ls. before ++ ls)
    (ap (λ n. piece k (slice_index_or xss k []) ++ pieces_from piece (k + 1) (drop n xss)) (sym (next_number k)) ∙ sym (pieces_suc piece none k k xss))
    ∙ all

pub pieces_end : {X : Type 0} (piece : ℕ → List X → List ReportLine) (now whole : List ReportLine) (xss : List (List X)) (k : ℕ) → length xss ≤ k
    → now ++ pieces_from piece k (drop k xss) ≡ whole → now ≡ whole
pieces_end piece now whole xss k past all =
    sym (append-nil now) ∙ ap (λ ls. now ++ ls) (sym (ap (pieces_from piece k) (drop_all k xss past))) ∙ all

-- whether some element that is left passes: the next one, or one behind it
any_next : {X : Type 0} (p : X → Bool) (xs : List X) (k : ℕ)
    → list_any p (drop k xs) ≡ (list_any p (option_to_list (slice_get xs k)) || list_any p (drop (k + 1) xs))
any_next p xs k =
    ap (list_any p) (drop_suc xs k) ∙ list_any-append p (option_to_list (slice_get xs k)) (drop (suc k) xs)
    ∙ ap (λ n. list_any p (option_to_list (slice_get xs k)) || list_any p (drop n xs)) (next_number k)

pub any_found : {X : Type 0} (p : X → Bool) (xs : List X) (k : ℕ) (whole : Bool) → list_any p (option_to_list (slice_get xs k)) ≡ true
    → list_any p (drop k xs) ≡ whole → true ≡ whole
any_found p xs k whole found all = sym (ap (λ b. b || list_any p (drop (k + 1) xs)) found) ∙ sym (any_next p xs k) ∙ all

pub any_passed : {X : Type 0} (p : X → Bool) (xs : List X) (k : ℕ) (whole : Bool) → list_any p (option_to_list (slice_get xs k)) ≡ false
    → list_any p (drop k xs) ≡ whole → list_any p (drop (k + 1) xs) ≡ whole
any_passed p xs k whole none all = sym (ap (λ b. b || list_any p (drop (k + 1) xs)) none) ∙ sym (any_next p xs k) ∙ all

-- no element is left that passes
pub any_end : {X : Type 0} (p : X → Bool) (xs : List X) (k : ℕ) (whole : Bool) → length xs ≤ k → list_any p (drop k xs) ≡ whole → false ≡ whole
any_end p xs k whole past all = sym (ap (list_any p) (drop_all k xs past)) ∙ all

-- whether some list passes: the next one, or one behind it, where no empty one does
some_suc : {X : Type 0} (p : List X → Bool) → p [] ≡ false → (xss : List (List X)) (k : ℕ)
    → list_any p (drop k xss) ≡ (p (slice_index_or xss k []) || list_any p (drop (suc k) xss))
some_suc p none [] zero = sym (ap (λ b. b || false) none)
some_suc p none [] (suc k) = sym (ap (λ b. b || false) none)
some_suc p none (xs ∷ xss) zero = refl
some_suc p none (xs ∷ xss) (suc k) = some_suc p none xss k

some_next : {X : Type 0} (p : List X → Bool) → p [] ≡ false → (xss : List (List X)) (k : ℕ)
    → list_any p (drop k xss) ≡ (p (slice_index_or xss k []) || list_any p (drop (k + 1) xss))
some_next p none xss k = some_suc p none xss k ∙ ap (λ n. p (slice_index_or xss k []) || list_any p (drop n xss)) (next_number k)

pub some_found : {X : Type 0} (p : List X → Bool) → p [] ≡ false → (xss : List (List X)) (k : ℕ) (whole : Bool) → p (slice_index_or xss k []) ≡ true
    → list_any p (drop k xss) ≡ whole → true ≡ whole
some_found p none xss k whole found all = sym (ap (λ b. b || list_any p (drop (k + 1) xss)) found) ∙ sym (some_next p none xss k) ∙ all

pub some_passed : {X : Type 0} (p : List X → Bool) → p [] ≡ false → (xss : List (List X)) (k : ℕ) (whole : Bool) → p (slice_index_or xss k []) ≡ false
    → list_any p (drop k xss) ≡ whole → list_any p (drop (k + 1) xss) ≡ whole
some_passed p none xss k whole not_this all = sym (ap (λ b. b || list_any p (drop (k + 1) xss)) not_this) ∙ sym (some_next p none xss k) ∙ all

-- the lines of the answers of one processor
abbrev pub answers_piece : ℕ → List AnswerRow → List ReportLine
answers_piece processor answers = map (answer_line processor) (by_index answers)
