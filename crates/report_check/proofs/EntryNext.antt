-- Each entry line is the next of its bank, and what holds of each row holds of its line.
use Rattle.std.proofs.Common.{◌≡◌, ℕ, zero, suc, ◌+◌, ◌≤◌, ◌==◌, List, [], ◌∷◌, ◌++◌, length, fold, Some, slice_get, refl, sym, ap, subst, ◌∙◌, arith}
use Rattle.std.proofs.Common.{append_assoc}
use Rattle.std.specs.List.{AllByRecursion}
use Rattle.std.proofs.lemmas.List.{append-nil, length_push}
use Rattle.std.proofs.lemmas.List.Elements.{filter-append}
use Rattle.std.proofs.lemmas.List.Sums.{fold_push, fold-append}
use Rattle.report_lines.specs.declared.parts.EntryRow.{EntryRow}
use Rattle.report_lines.specs.declared.line.EntryLine.{EntryLine}
use Rattle.report_check.specs.Seen.{entries_at, last_bank}
use Rattle.report_check.proofs.Banks.{entries_at_here}
use Rattle.report_check.specs.Facts.{rows_at}
use Rattle.report_check.proofs.Entries.{AreNext}
use Rattle.report_check.proofs.EntryLists.{entry_of, bank_list, entry_list, bank_other}

abbrev bank_in : ℕ → EntryLine → ℕ
bank_in b e = e.bank

next_append : (done xs ys : List EntryLine) → AreNext done xs → AreNext (done ++ xs) ys → AreNext done (xs ++ ys)
next_append done [] ys front behind = subst (λ d. AreNext d ys) (append-nil done) behind
next_append done (x ∷ xs) ys front behind =
    (front.0, front.1, next_append (done ++ x ∷ []) xs ys front.2 (subst (λ d. AreNext d ys) (sym (append_assoc done (x ∷ []) xs)) behind))

bank_next : (b k : ℕ) (done : List EntryLine) (es : List EntryRow) → last_bank done ≤ b → k ≡ length (entries_at done b) → AreNext done (bank_list b k es)
bank_next b k done [] low at = tt
bank_next b k done (e ∷ es) low at =
    let line : EntryLine = entry_of b k e in
    let last : last_bank (done ++ line ∷ []) ≡ b = fold_push bank_in 0 done line in
    let more : length (entries_at (done ++ line ∷ []) b) ≡ length (entries_at done b) + 1 =
    ap length (entries_at_here done line) ∙ length_push (entries_at done b) line in
    (low, at, bank_next b (k + 1) (done ++ line ∷ []) es (omega (arith, last)) (omega (arith, at, more)))

last_within : (d b k : ℕ) (es : List EntryRow) → d ≤ b → fold bank_in d (bank_list b k es) ≤ b
last_within d b k [] low = low
last_within d b k (e ∷ es) low = last_within b b (k + 1) es (omega arith)

pub entries_next : (b : ℕ) (done : List EntryLine) (ess : List (List EntryRow)) → last_bank done ≤ b → ((c : ℕ) → b ≤ c → entries_at done c ≡ [])
    → AreNext done (entry_list b ess)
entries_next b done [] low none = tt
entries_next b done (es ∷ ess) low none =
    let here : List EntryLine = bank_list b 0 es in
    let last : last_bank (done ++ here) ≡ fold bank_in (last_bank done) here = fold-append bank_in 0 done here in
    let within : fold bank_in (last_bank done) here ≤ b = last_within (last_bank done) b 0 es low in
    next_append done here (entry_list (b + 1) ess)
    (bank_next b 0 done es low (sym (ap length (none b (omega arith)))))
    (entries_next (b + 1) (done ++ here) ess (omega (arith, last, within))
    (λ c high. filter-append (λ (e : EntryLine). e.bank == c) done here
    ∙ ap (λ (ls : List EntryLine). ls ++ entries_at here c) (none c (omega (arith, high)))
    ∙ bank_other b c 0 es (λ same. omega (arith, same, high))))

pub both_all : {X : Type 0} (P : X → Type 0) (xs ys : List X) → AllByRecursion P xs → AllByRecursion P ys → AllByRecursion P (xs ++ ys)
both_all P [] ys a b = b
both_all P (x ∷ xs) ys a b = (a.0, both_all P xs ys a.1 b)

bank_all : (P : EntryLine → Type 0) (b k : ℕ) (es : List EntryRow) → ((place j : ℕ) (e : EntryRow) → slice_get es place ≡ Some e → P (entry_of b j e))
    → AllByRecursion P (bank_list b k es)
bank_all P b k [] each = tt
bank_all P b k (e ∷ es) each = (each 0 k e refl, bank_all P b (k + 1) es (λ place j x there. each (suc place) j x there))

pub entries_all : (P : EntryLine → Type 0) (b : ℕ) (ess : List (List EntryRow))
    → ((c i place j : ℕ) (e : EntryRow) → c ≡ b + i → slice_get (rows_at ess i) place ≡ Some e → P (entry_of c j e)) → AllByRecursion P (entry_list b ess)
entries_all P b [] each = tt
entries_all P b (es ∷ ess) each =
    both_all P (bank_list b 0 es) (entry_list (b + 1) ess)
    (bank_all P b 0 es (λ place j e there. each b 0 place j e (omega arith) there))
    (entries_all P (b + 1) ess (λ c i place j e is there. each c (suc i) place j e (omega (arith, is)) there))

-- the line of a row
pub line_there : (b j : ℕ) (es : List EntryRow) (k : ℕ) (e : EntryRow) → slice_get es k ≡ Some e → slice_get (bank_list b j es) k ≡ Some (entry_of b (j + k) e)
line_there b j [] k e there = cc
line_there b j (x ∷ es) zero e there =
    let same : x ≡ e = cc in
    let at : j ≡ j + 0 = omega arith in
    ap (λ y. Some (entry_of b j y)) same ∙ ap (λ i. Some (entry_of b i e)) at
line_there b j (x ∷ es) (suc k) e there =
    let at : j + 1 + k ≡ j + suc k = omega arith in
    line_there b (j + 1) es k e there ∙ ap (λ i. Some (entry_of b i e)) at
