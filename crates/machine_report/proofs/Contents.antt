-- What a machine shows are the contents of a good report.
use Rattle.std.proofs.Common.{◌≡◌, ℕ, ◌<◌, ◌≤◌, ◌==◌, List, length, map, take, Option, Some, None, slice_get, refl, sym, ap, subst, ◌∙◌, arith, inr, ⊎_elim}
use Rattle.std.specs.Prelude.{count_by}
use Rattle.std.specs.List.{flat_map}
use Rattle.std.proofs.lemmas.List.{length-map}
use Rattle.std.proofs.lemmas.Option.{slice_get_within}
use Rattle.packet.specs.declared.kinds.Operation.{Operation}
use Rattle.packet.specs.Memory.{memory_after, replies}
use Rattle.home_bank.specs.declared.entry.Entry.{Entry}
use Rattle.one_order.specs.declared.answer.Answer.{Answer}
use Rattle.one_order.specs.declared.ordered.Ordered.{Ordered}
use Rattle.one_order.specs.Observed.{Observed, list_at, total, HasIssued}
use Rattle.one_order.specs.Consequences.{AnswersAreNumbered, AnswersNameEntries, AreEventNumbers, EntryStands, EventKind, Issue, NameEntries, ReplaysByBank}
use Rattle.home_bank.specs.MemoryReplay.{entry_operation}
use Rattle.one_order.specs.Consequences.{Response, Service, event_number}
use Rattle.one_order.proofs.Lists.{within_length}
use Rattle.report_lines.specs.declared.line.OrderLine.{OrderLine}
use Rattle.report_lines.specs.declared.parts.EntryRow.{EntryRow}
use Rattle.report_lines.specs.declared.parts.AnswerRow.{AnswerRow}
use Rattle.report_check.specs.Facts.{operation_in, rows_at, AnswersAreTold, AreAnswers, AreEntries, AreNumbered, AreOrdered, HasAnswer, HasNumber, NamesRow}
use Rattle.report_check.specs.Facts.{StandsIn}
use Rattle.machine_report.specs.Report.{answer_row, entry_row, order_line}
use Rattle.machine_report.proofs.Mapped.{all_count, all_rows, count_rows, element_at, element_of, map_twice, row_at, row_count, row_of}

abbrev entry_rows : Observed → List (List EntryRow)
entry_rows s = map (map entry_row) s.entries

abbrev answer_rows : Observed → List (List AnswerRow)
answer_rows s = map (map answer_row) s.answers

operations_are : (s : Observed) → map operation_in (flat_map (λ es. es) (entry_rows s)) ≡ map entry_operation (flat_map (λ es. es) s.entries)
operations_are s = ap (map operation_in) (all_rows entry_row s.entries)
    ∙ map_twice entry_row operation_in entry_operation (λ e. refl) (flat_map (λ es. es) s.entries)

replies_are : (s : Observed)
    → map (λ (e : EntryRow). e.reply) (flat_map (λ es. es) (entry_rows s)) ≡ map (λ (e : Entry). e.reply) (flat_map (λ es. es) s.entries)
replies_are s = ap (map (λ (e : EntryRow). e.reply)) (all_rows entry_row s.entries)
    ∙ map_twice entry_row (λ (e : EntryRow). e.reply) (λ (e : Entry). e.reply) (λ e. refl) (flat_map (λ es. es) s.entries)

pub entered : (tiles tags : ℕ) (opening : List ℕ) (s : Observed) → tags ≤ 16 → total s.entries ≤ 65536
    → ((b place : ℕ) (e : Entry) → slice_get (list_at s.entries b) place ≡ Some e → EntryStands tiles tags (length opening) b e) → ReplaysByBank opening s
    → AreEntries tiles opening (entry_rows s) s.memory
entered tiles tags opening s few_tags few stands replay =
    record {
      stand = λ b place row there.
          let e = element_at entry_row s.entries b place row there in
          let h = stands b place e.0 e.1 in
          subst (StandsIn tiles (length opening) b) e.2
          (record { bank = h.bank; source = h.source; tag = omega (arith, h.tagged, few_tags); address = h.address; home = h.home });
      few =
          let rows = ap length (all_rows entry_row s.entries) in
          let same = length-map (flat_map (λ es. es) s.entries) entry_row in
          let count = all_count s.entries in
          omega (arith, few, rows, same, count);
      told = ap (λ (os : List Operation). replies os opening) (operations_are s) ∙ replay.told ∙ sym (replies_are s);
      left = ap (λ (os : List Operation). memory_after os opening) (operations_are s) ∙ replay.left;
    }

-- answers
same_index : (a : Answer) (r : AnswerRow) → answer_row a ≡ r → a.index ≡ r.index
same_index a r is = ap (λ (x : AnswerRow). x.index) is

same_bank : (a : Answer) (r : AnswerRow) → answer_row a ≡ r → a.bank ≡ r.bank
same_bank a r is = ap (λ (x : AnswerRow). x.bank) is

same_place : (a : Answer) (r : AnswerRow) → answer_row a ≡ r → a.place ≡ r.place
same_place a r is = ap (λ (x : AnswerRow). x.place) is

pub answered : (s : Observed) → AnswersNameEntries s → ((p i : ℕ) → HasIssued s p i → i < 4096) → AreAnswers (entry_rows s) (answer_rows s)
answered s are low =
    record {
      named = λ p i r there.
          let a = element_at answer_row s.answers p i r there in
          let n = are.named p i a.0 a.1 in
          subst (NamesRow (entry_rows s) p) a.2
          (record { entry = entry_row n.entry; there = row_at entry_row s.entries a.0.bank a.0.place n.entry n.there; source = n.source; reply = n.reply });
      low = λ p i r there.
          let a = element_at answer_row s.answers p i r there in
          let n = are.named p i a.0 a.1 in
          let below = low p a.0.index (slice_get_within (list_at s.issued p) a.0.index (entry_operation n.entry) n.operation) in
          let same = same_index a.0 r a.2 in
          omega (arith, below, same);
      once = λ p i j r q there also same.
          let a = element_at answer_row s.answers p i r there in
          let b = element_at answer_row s.answers p j q also in
          are.once p i j a.0 b.0 a.1 b.1 (same_index a.0 r a.2 ∙ same ∙ sym (same_index b.0 q b.2));
      apart = λ p q i j r u there also bank place.
          let a = element_at answer_row s.answers p i r there in
          let b = element_at answer_row s.answers q j u also in
          are.apart p q i j a.0 b.0 a.1 b.1 (same_bank a.0 r a.2 ∙ bank ∙ sym (same_bank b.0 u b.2))
          (same_place a.0 r a.2 ∙ place ∙ sym (same_place b.0 u b.2));
    }

-- the order
pub ordered : (s : Observed) (rows : List Ordered) (n : ℕ) → NameEntries s rows → AreEventNumbers n rows → AreOrdered (entry_rows s) (map order_line rows)
ordered s rows n names numbers =
    record {
      named = λ k o there.
          let r = element_of order_line rows k o there in
          let h = names.named k r.0 r.1 in
          let inside = slice_get_within (list_at s.entries r.0.bank) r.0.place h.entry h.there in
          let count = row_count entry_row s.entries r.0.bank in
          let P : OrderLine → Type 0 = λ x. x.place < length (rows_at (entry_rows s) x.bank) in
          subst P r.2 (omega (arith, inside, count));
      turn = λ k o there.
          let r = element_of order_line rows k o there in
          let P : OrderLine → Type 0 = λ x. x.place ≡ count_by (λ y. y.bank == x.bank) (take k (map order_line rows)) in
          subst P r.2 (names.places k r.0 r.1 ∙ sym (count_rows order_line (λ y. y.bank == r.0.bank) k rows));
      rising = λ j k x y less there also.
          let a = element_of order_line rows j x there in
          let b = element_of order_line rows k y also in
          let lower = ap (λ (z : OrderLine). z.served) a.2 in
          let higher = ap (λ (z : OrderLine). z.served) b.2 in
          let rises = numbers.rising j k a.0 b.0 less a.1 b.1 in
          omega (arith, lower, higher, rises);
      every = inr (λ bank place inside.
          let count = row_count entry_row s.entries bank in
          let e = within_length (list_at s.entries bank) place (omega (arith, inside, count)) in
          let r = names.every bank place e.0 e.1 in
          (r.0, order_line r.1, row_of order_line rows r.0 r.1 r.2, r.3, r.4));
    }

-- the number of an order line is that of an event of its row
event_of : (r : Ordered) (o : OrderLine) (event : ℕ) → order_line r ≡ o → HasNumber o event → (kind : EventKind) × (event_number r kind ≡ Some event)
event_of r o event is has =
    let P : OrderLine → Type 0 = λ x. HasNumber x event in
    let here : HasNumber (order_line r) event = subst P (sym is) has in
    ⊎_elim (λ same. (Issue, ap Some same)) (λ later. ⊎_elim (λ same. (Service, ap Some same)) (λ same. (Response, same)) later) here

pub numbered : (rows : List Ordered) (n : ℕ) → n ≤ 196608 → AreEventNumbers n rows → AreNumbered (map order_line rows)
numbered rows n few numbers =
    record {
      issued_first = λ k o there.
          let r = element_of order_line rows k o there in
          let P : OrderLine → Type 0 = λ x. x.issued < x.served in
          subst P r.2 (numbers.issued_first k r.0 r.1);
      answered_last = λ k event o there is.
          let r = element_of order_line rows k o there in
          let served = ap (λ (x : OrderLine). x.served) r.2 in
          let last = numbers.answered_last k event r.0 r.1 (ap (λ (x : OrderLine). x.answered) r.2 ∙ is) in
          omega (arith, served, last);
      distinct = λ j k event x y there also has too.
          let a = element_of order_line rows j x there in
          let b = element_of order_line rows k y also in
          let d = event_of a.0 x event a.2 has in
          let e = event_of b.0 y event b.2 too in
          (numbers.distinct j k event a.0 b.0 d.0 e.0 a.1 b.1 d.1 e.1).0;
      low = λ k event o there has.
          let r = element_of order_line rows k o there in
          let e = event_of r.0 o event r.2 has in
          omega (arith, numbers.low k event r.0 e.0 r.1 e.1);
      high = λ k event o there has.
          let r = element_of order_line rows k o there in
          let e = event_of r.0 o event r.2 has in
          omega (arith, few, numbers.high k event r.0 e.0 r.1 e.1);
    }

-- an answer of an entry
has_answer : (s : Observed) (p i : ℕ) (a : Answer) (bank place : ℕ) → slice_get (list_at s.answers p) i ≡ Some a → a.bank ≡ bank → a.place ≡ place
    → HasAnswer (answer_rows s) bank place
has_answer s p i a bank place there same also = (p, i, answer_row a, row_at answer_row s.answers p i a there, same, also)

pub told : (s : Observed) (rows : List Ordered) → AnswersAreNumbered s rows → AnswersAreTold (answer_rows s) (map order_line rows)
told s rows are =
    record {
      answered = λ k event o there is.
          let r = element_of order_line rows k o there in
          let a = are.answered k event r.0 r.1 (ap (λ (x : OrderLine). x.answered) r.2 ∙ is) in
          let P : OrderLine → Type 0 = λ x. HasAnswer (answer_rows s) x.bank x.place in
          subst P r.2 (has_answer s r.0.source a.0 a.1 r.0.bank r.0.place a.2 a.4 a.5);
      unanswered = λ k o there none has.
          let r = element_of order_line rows k o there in
          let a = element_at answer_row s.answers has.0 has.1 has.2 has.3 in
          are.unanswered k has.0 has.1 r.0 a.0 r.1 (ap (λ (x : OrderLine). x.answered) r.2 ∙ none) a.1
          (same_bank a.0 has.2 a.2 ∙ has.4 ∙ sym (ap (λ (x : OrderLine). x.bank) r.2))
          (same_place a.0 has.2 a.2 ∙ has.5 ∙ sym (ap (λ (x : OrderLine). x.place) r.2));
    }

-- where no row is without an answer, each entry has one
pub complete : (s : Observed) (rows : List Ordered) → NameEntries s rows → AnswersAreNumbered s rows
    → ((k : ℕ) (row : Ordered) → slice_get rows k ≡ Some row → row.answered ≡ None → ⊥) → (bank place : ℕ) → place < length (rows_at (entry_rows s) bank)
    → HasAnswer (answer_rows s) bank place
complete s rows names are none bank place inside =
    let count = row_count entry_row s.entries bank in
    let e = within_length (list_at s.entries bank) place (omega (arith, inside, count)) in
    let r = names.every bank place e.0 e.1 in
    by_answer s rows are r.0 r.1 bank place r.1.answered refl r.2 (none r.0 r.1 r.2) r.3 r.4
  where
    by_answer : (s : Observed) (rows : List Ordered) → AnswersAreNumbered s rows → (k : ℕ) (row : Ordered) (bank place : ℕ) (number : Option ℕ)
        → row.answered ≡ number → slice_get rows k ≡ Some row → (row.answered ≡ None → ⊥) → row.bank ≡ bank → row.place ≡ place
        → HasAnswer (answer_rows s) bank place
    by_answer s rows are k row bank place None is there none same also = absurd (none is)
    by_answer s rows are k row bank place (Some event) is there none same also =
        let a = are.answered k event row there is in
        has_answer s row.source a.0 a.1 bank place a.2 (a.4 ∙ same) (a.5 ∙ also)
