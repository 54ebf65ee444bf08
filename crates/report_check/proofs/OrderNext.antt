-- Each order line is that of the next entry of its bank, with new numbers.
use Rattle.std.proofs.Common.{◌≡◌, ◌⊎◌, inl, inr, ℕ, zero, suc, ◌+◌, ◌<◌, ◌≤◌, ◌==◌, ◌||◌, Bool, true, false, List, [], ◌∷◌, ◌++◌, length, map, flat_map}
use Rattle.std.proofs.Common.{fold, take, Option, Some, None, IfSome, slice_get, refl, sym, ap, subst, ◌∙◌, arith, append_assoc, ⊎_elim}
use Rattle.std.specs.Prelude.{count_by, is_some}
use Rattle.std.specs.List.{list_any}
use Rattle.std.specs.Option.{option_to_list}
use Rattle.std.proofs.lemmas.Bool.{cases_lt, eq-eqb, eqb-true, ne_eqb}
use Rattle.std.proofs.lemmas.List.Folds.{list_any-append}
use Rattle.std.proofs.lemmas.List.Sums.{length-filter}
use Rattle.std.proofs.lemmas.Option.{slice_get_within}
use Rattle.report_lines.specs.declared.parts.EntryRow.{EntryRow}
use Rattle.report_lines.specs.declared.parts.AnswerRow.{AnswerRow}
use Rattle.report_lines.specs.declared.line.OrderLine.{OrderLine}
use Rattle.report_check.specs.Seen.{entries_at, events_in, is_answered, is_named, orders_at}
use Rattle.report_check.specs.Facts.{rows_at, AreAnswers, AreOrdered, AreNumbered, AnswersAreTold, HasAnswer, HasNumber, IsOrdered}
use Rattle.report_check.proofs.GoodOrders.{AllOrderOn, IsFresh, OrdersOn}
use Rattle.report_check.proofs.EntryLists.{entry_list, entries_of, length-bank_list}
use Rattle.report_check.proofs.AnswerLists.{answer_list}
use Rattle.report_check.proofs.GoodAnswers.{told_has, has_told}
use Rattle.report_check.proofs.Counts.{count_at, last_at}

-- a list behind others
there_behind : {X : Type 0} (done os : List X) (o : X) → slice_get (done ++ o ∷ os) (length done) ≡ Some o
there_behind [] os o = refl
there_behind (x ∷ done) os o = there_behind done os o

there_front : {X : Type 0} (done os : List X) (j : ℕ) (x : X) → slice_get done j ≡ Some x → slice_get (done ++ os) j ≡ Some x
there_front [] os j x there = cc
there_front (y ∷ done) os zero x there = there
there_front (y ∷ done) os (suc j) x there = there_front done os j x there

taken_front : {X : Type 0} (done os : List X) → take (length done) (done ++ os) ≡ done
taken_front [] [] = refl
taken_front [] (o ∷ os) = refl
taken_front {X} (x ∷ done) os = ap (λ (xs : List X). x ∷ xs) (taken_front done os)

-- how many entries a bank has, in lines and in rows
pub entry_count : (bank : ℕ) (ess : List (List EntryRow)) → length (entries_at (entry_list 0 ess) bank) ≡ length (rows_at ess bank)
entry_count bank ess = ap length (entries_of bank ess) ∙ length-bank_list bank 0 (rows_at ess bank)

-- a line says that its entry has an answer exactly where it has
none_false : (b : Bool) → (b ≡ true → ⊥) → false ≡ b
none_false true none = absurd (none refl)
none_false false none = refl

told_answer : (entries : List (List EntryRow)) (answers : List (List AnswerRow)) → AreAnswers entries answers → (bank place : ℕ) (number : Option ℕ)
    → ((event : ℕ) → number ≡ Some event → HasAnswer answers bank place) → (number ≡ None → HasAnswer answers bank place → ⊥)
    → is_some number ≡ is_answered (answer_list 0 answers) bank place
told_answer entries answers are bank place None some none = none_false _ (λ is. none refl (told_has answers bank place is))
told_answer entries answers are bank place (Some event) some none = sym (has_told entries answers are bank place (some event refl))

-- numbers that are below another
served_below : (d n : ℕ) (os : List OrderLine) → d ≤ n → ((j : ℕ) (x : OrderLine) → slice_get os j ≡ Some x → x.served < n)
    → fold (λ _ k. k + 1) d (map (λ x. x.served) os) ≤ n
served_below d n [] low below = low
served_below d n (o ∷ os) low below = served_below (o.served + 1) n os (omega (arith, below 0 o refl)) (λ j x there. below (suc j) x there)

-- a number that a line does not have
not_numbered : (answered : Option ℕ) (event : ℕ) → (answered ≡ Some event → ⊥) → list_any (λ n. n == event) (option_to_list answered) ≡ false
not_numbered None event none = refl
not_numbered (Some n) event none = ap (λ b. b || false) (ne_eqb n event (λ same. none (ap Some same)))

not_in : (o : OrderLine) (event : ℕ) → (HasNumber o event → ⊥) → list_any (λ n. n == event) (events_in o) ≡ false
not_in o event none =
    ap (λ b. b || ((o.served == event) || list_any (λ n. n == event) (option_to_list o.answered))) (ne_eqb o.issued event (λ same. none (inl same)))
    ∙ ap (λ b. b || list_any (λ n. n == event) (option_to_list o.answered)) (ne_eqb o.served event (λ same. none (inr (inl same))))
    ∙ not_numbered o.answered event (λ same. none (inr (inr same)))

not_named : (os : List OrderLine) (event : ℕ) → ((j : ℕ) (x : OrderLine) → slice_get os j ≡ Some x → HasNumber x event → ⊥) → is_named os event ≡ false
not_named [] event none = refl
not_named (o ∷ os) event none =
    list_any-append (λ n. n == event) (events_in o) (flat_map events_in os)
    ∙ ap (λ b. b || is_named os event) (not_in o event (none 0 o refl))
    ∙ not_named os event (λ j x there. none (suc j) x there)

-- a line's number is new behind the lines before it
fresh : (order done : List OrderLine) (k event : ℕ) (o : OrderLine) → AreNumbered order → slice_get order k ≡ Some o → HasNumber o event
    → ((j : ℕ) (x : OrderLine) → slice_get done j ≡ Some x → (j < k) × (slice_get order j ≡ Some x)) → IsFresh done event
fresh order done k event o numbered there is before =
    record {
      low = numbered.low k event o there is;
      high = numbered.high k event o there is;
      new = not_named done event (λ j x at has.
          let b = before j x at in
          let same : j ≡ k = numbered.distinct j k event x o b.1 there has is in
          let less = b.0 in
          omega (arith, same, less));
    }

if_some : (answered : Option ℕ) (P : ℕ → Type 0) → ((n : ℕ) → answered ≡ Some n → P n) → IfSome answered P
if_some None P each = tt
if_some (Some n) P each = each n refl

one_on : (entries : List (List EntryRow)) (answers : List (List AnswerRow)) (order done : List OrderLine) (k : ℕ) (o : OrderLine) → AreAnswers entries answers
    → AreOrdered entries order → AreNumbered order → AnswersAreTold answers order → slice_get order k ≡ Some o → take k order ≡ done
    → ((j : ℕ) (x : OrderLine) → slice_get done j ≡ Some x → (j < k) × (slice_get order j ≡ Some x))
    → OrdersOn (entry_list 0 entries) (answer_list 0 answers) done o
one_on entries answers order done k o are ordered numbered told there front before =
    let inside = ordered.named k o there in
    record {
      there = omega (arith, inside, entry_count o.bank entries);
      next = ordered.turn k o there ∙ ap (count_by (λ x. x.bank == o.bank)) front ∙ sym (length-filter (λ (x : OrderLine). x.bank == o.bank) done);
      answered = told_answer entries answers are o.bank o.place o.answered (λ event is. told.answered k event o there is) (λ is. told.unanswered k o there is);
      rises = served_below 0 o.served done (omega arith) (λ j x at. let b = before j x at in ordered.rising j k x o b.0 b.1 there);
      issue = fresh order done k o.issued o numbered there (inl refl) before;
      service = fresh order done k o.served o numbered there (inr (inl refl)) before;
      issued_first = numbered.issued_first k o there;
      answer = if_some o.answered (λ n. (o.served < n) × IsFresh done n)
          (λ n is. (numbered.answered_last k n o there is, fresh order done k n o numbered there (inr (inr is)) before));
    }

pub all_on : (entries : List (List EntryRow)) (answers : List (List AnswerRow)) (order done os : List OrderLine) → AreAnswers entries answers
    → AreOrdered entries order → AreNumbered order → AnswersAreTold answers order → done ++ os ≡ order
    → AllOrderOn (entry_list 0 entries) (answer_list 0 answers) done os
all_on entries answers order done [] are ordered numbered told is = tt
all_on entries answers order done (o ∷ os) are ordered numbered told is = (
  one_on entries answers order done (length done) o are ordered numbered told
      (ap (λ (xs : List OrderLine). slice_get xs (length done)) (sym is) ∙ there_behind done os o)
      (ap (take (length done)) (sym is) ∙ taken_front done (o ∷ os))
      (λ j x at. (slice_get_within done j x at, ap (λ (xs : List OrderLine). slice_get xs j) (sym is) ∙ there_front done (o ∷ os) j x at)),
  all_on entries answers order (done ++ o ∷ []) os are ordered numbered told (append_assoc done (o ∷ []) os ∙ is),
)

-- a bank's line stands behind as many as its place says
same_turn : (entries : List (List EntryRow)) (order : List OrderLine) → AreOrdered entries order → (k : ℕ) (o : OrderLine) (bank : ℕ)
    → slice_get order k ≡ Some o → o.bank ≡ bank → o.place ≡ count_by (λ x. x.bank == bank) (take k order)
same_turn entries order ordered k o bank there same = ordered.turn k o there ∙ ap (λ b. count_by (λ (x : OrderLine). x.bank == b) (take k order)) same

-- a bank has no more lines than entries, and no fewer
at_most : (entries : List (List EntryRow)) (order : List OrderLine) → AreOrdered entries order → (bank : ℕ)
    → count_by (λ x. x.bank == bank) order ≤ length (rows_at entries bank)
at_most entries order ordered bank =
    let test : OrderLine → Bool = λ x. x.bank == bank in
    ⊎_elim
    (λ (some : 0 < count_by test order).
    let l = last_at test order some in
    let same : l.1.bank ≡ bank = eqb-true l.1.bank bank l.3 in
    let turn = same_turn entries order ordered l.0 l.1 bank l.2 same in
    let inside : l.1.place < length (rows_at entries bank) = subst (λ b. l.1.place < length (rows_at entries b)) same (ordered.named l.0 l.1 l.2) in
    let last = l.4 in
    omega (arith, turn, inside, last))
    (λ (none : count_by test order ≤ 0). omega (arith, none))
    (cases_lt 0 (count_by test order))

at_least : (entries : List (List EntryRow)) (order : List OrderLine) → AreOrdered entries order
    → ((bank place : ℕ) → place < length (rows_at entries bank) → IsOrdered order bank place) → (bank n : ℕ) → n ≤ length (rows_at entries bank)
    → n ≤ count_by (λ x. x.bank == bank) order
at_least entries order ordered every bank zero few = omega arith
at_least entries order ordered every bank (suc n) few =
    let o = every bank n (omega (arith, few)) in
    let turn = same_turn entries order ordered o.0 o.1 bank o.2 o.3 in
    let counted = count_at (λ (x : OrderLine). x.bank == bank) order o.0 o.1 o.2 (eq-eqb o.1.bank bank o.3) in
    let place = o.4 in
    omega (arith, turn, counted, place)

count_whole : (entries : List (List EntryRow)) (order : List OrderLine) → AreOrdered entries order
    → ((bank place : ℕ) → place < length (rows_at entries bank) → IsOrdered order bank place) → (bank : ℕ)
    → count_by (λ x. x.bank == bank) order ≡ length (rows_at entries bank)
count_whole entries order ordered every bank =
    let most = at_most entries order ordered bank in
    let least = at_least entries order ordered every bank (length (rows_at entries bank)) (omega arith) in
    omega (arith, most, least)

-- the order is whole
pub whole : (entries : List (List EntryRow)) (order : List OrderLine) → AreOrdered entries order
    → (order ≡ []) ⊎ ((bank : ℕ) → length (orders_at order bank) ≡ length (entries_at (entry_list 0 entries) bank))
whole entries order ordered =
    ⊎_elim
    (λ none. inl none)
    (λ every. inr (λ bank. length-filter (λ (x : OrderLine). x.bank == bank) order ∙ count_whole entries order ordered every bank
    ∙ sym (entry_count bank entries)))
    ordered.every
