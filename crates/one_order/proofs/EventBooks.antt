-- The book after each event.
use Rattle.std.proofs.Common.{◌≡◌, ◌≢◌, ⊎_elim, ℕ, zero, suc, ◌+◌, ◌<◌, ◌==◌, cond, List, [], ◌∷◌, ◌++◌, length, take, Option, Some, None, refl, sym, ◌∙◌, ap}
use Rattle.std.proofs.Common.{subst, arith, slice_get, slice_set, slice_index, slice_index_or}
use Rattle.std.proofs.lemmas.Bool.{cases_eq}
use Rattle.std.proofs.lemmas.List.{length-replicate}
use Rattle.std.proofs.lemmas.Option.{slice_get_within, same_Some, get_or_from_slice_get}
use Rattle.torus.specs.declared.step.Tag.{Tag}
use Rattle.packet.specs.declared.kinds.Operation.{Operation}
use Rattle.home_bank.specs.declared.entry.Entry.{Entry}
use Rattle.one_order.specs.declared.answer.Answer.{Answer}
use Rattle.one_order.specs.declared.ordered.Ordered.{Ordered}
use Rattle.one_order.specs.Observed.{Observed, Run, list_at, event_count}
use Rattle.one_order.specs.Order.{LinearizationPoint, home, count_at}
use Rattle.one_order.specs.Rows.{AreIssueNumbers, AreRowsOf, IsIssueNumber}
use Rattle.one_order.specs.Events.{Event, Nothing, Issued, Served, Answered, push_at, happens, order_after, IsHistory, MayHappen, event_entry}
use Rattle.one_order.proofs.Lists.{push_at_cases, length-push_at, length_list_at_push, get_append_left, get_push, within_length, get_set_same, get_set_other}
use Rattle.one_order.proofs.Lists.{list_at_none}
use Rattle.one_order.proofs.Account.{home_within}
use Rattle.one_order.proofs.History.{shorter, account}
use Rattle.one_order.proofs.Numbers.{count_next, count_none, size}
use Rattle.one_order.proofs.Naming.{one_point}
use Rattle.one_order.proofs.OrderRows.{rows_none, rows_nothing, rows_issued, rows_served, rows_answered}
use Rattle.one_order.proofs.IssueNumbers.{issue_numbers_issued, issue_numbers_kept}
use Rattle.one_order.proofs.IssueNumbers.{issue_numbers_none, one_order}
use Rattle.one_order.specs.OneOrder.{HasOneOrder}
use Rattle.one_order.specs.EventBook.{EventBook, noted_issue, noted_service, noted_answer, new_row, row_at, no_row, answered_row, first_book}
use Rattle.one_order.specs.EventBook.{noted_event, book_of}

-- the book says of the first n steps of a run what happened in them: the count of events, the numbers of the issues, and where the row of each service stands
-- (this project's own format)
pub record IsBookOf (run : Run) (n : ℕ) (l : EventBook) : Type 0 where
  pub events : l.events ≡ event_count (run n)
  pub issues : AreIssueNumbers run n l.issues
  pub banks : length l.positions ≡ length (run n).entries
  pub service_counts : (b : ℕ) → length (list_at l.positions b) ≡ length (list_at (run n).entries b)
  pub positions : (b place k : ℕ) → slice_get (list_at l.positions b) place ≡ Some k →
      (row : Ordered) × (slice_get l.rows k ≡ Some row) × (row.bank ≡ b) × (row.place ≡ place)

-- the rows and the book, after n steps
pub record Kept (tiles : ℕ) (run : Run) (event : ℕ → Event) (n : ℕ) (l : EventBook) : Type 0 where
  pub rows : AreRowsOf tiles run n (order_after event n) l.rows
  pub book : IsBookOf run n l

pub kept_nothing : (tiles tags : ℕ) (opening : List ℕ) (run : Run) (event : ℕ → Event) (n : ℕ) (l : EventBook) → IsHistory tiles tags opening run event (suc n)
    → event n ≡ Nothing → Kept tiles run event n l → Kept tiles run event (suc n) l
kept_nothing tiles tags opening run event n l h is k =
    let next : run (suc n) ≡ run n = h.each n (omega arith) ∙ ap (happens tiles (run n)) is in
    record {
      rows = rows_nothing tiles tags opening run event n h is l.rows k.rows;
      book = record {
        events = k.book.events ∙ ap event_count (sym next);
        issues = issue_numbers_kept tiles run n (event n) (h.each n (omega arith)) (ap (λ e. (happens tiles (run n) e).issued) is) l.issues k.book.issues;
        banks = k.book.banks ∙ ap (λ (s : Observed). length s.entries) (sym next);
        service_counts = λ b. k.book.service_counts b ∙ ap (λ (s : Observed). length (list_at s.entries b)) (sym next);
        positions = k.book.positions;
      };
    }

counted : (tiles tags : ℕ) (opening : List ℕ) (run : Run) (event : ℕ → Event) (n : ℕ) (l : EventBook) (e : Event)
    → IsHistory tiles tags opening run event (suc n)
    → event n ≡ e → size e ≡ 1 → Kept tiles run event n l → l.events + 1 ≡ event_count (run (suc n))
counted tiles tags opening run event n l e h is one k =
    let c = count_next tiles tags opening run event n h in
    let s : size (event n) ≡ 1 = ap size is ∙ one in
    let old = k.book.events in
    omega arith

pub kept_issued : (tiles tags : ℕ) (opening : List ℕ) (run : Run) (event : ℕ → Event) (n : ℕ) (l : EventBook) (p : ℕ) (o : Operation)
    → IsHistory tiles tags opening run event (suc n)
    → event n ≡ Issued p o → Kept tiles run event n l → Kept tiles run event (suc n) (noted_issue p l)
kept_issued tiles tags opening run event n l p o h is k =
    let next : run (suc n) ≡ happens tiles (run n) (Issued p o) = h.each n (omega arith) ∙ ap (happens tiles (run n)) is in
    let count = counted tiles tags opening run event n l (Issued p o) h is refl k in
    record {
      rows = rows_issued tiles tags opening run event n h p o is l.rows k.rows;
      book = record {
        events = count;
        issues = subst (λ (m : ℕ). AreIssueNumbers run (suc n) (push_at l.issues p m)) (sym count)
            (issue_numbers_issued tiles tags opening run event n h p o is l.issues k.book.issues);
        banks = k.book.banks ∙ ap (λ (s : Observed). length s.entries) (sym next);
        service_counts = λ b. k.book.service_counts b ∙ ap (λ (s : Observed). length (list_at s.entries b)) (sym next);
        positions = k.book.positions;
      };
    }

pub kept_served : (tiles tags : ℕ) (opening : List ℕ) (run : Run) (event : ℕ → Event) (n : ℕ) (l : EventBook) (p i : ℕ) (tag : Tag) (o : Operation)
    → IsHistory tiles tags opening run event (suc n)
    → event n ≡ Served p i tag o → Kept tiles run event n l → Kept tiles run event (suc n) (noted_service (home tiles o) p i l)
kept_served tiles tags opening run event n l p i tag o h is k =
    let b : ℕ = home tiles o in
    let s : Observed = run n in
    let order = order_after event n in
    let acc = account tiles tags opening run event n (shorter tiles tags opening run event n h) in
    let may : MayHappen tiles tags opening s order (Served p i tag o) = subst (MayHappen tiles tags opening s order) is (h.may n (omega arith)) in
    let next : run (suc n) ≡ happens tiles s (Served p i tag o) = h.each n (omega arith) ∙ ap (happens tiles s) is in
    let count = counted tiles tags opening run event n l (Served p i tag o) h is refl k in
    let row : Ordered = new_row b p i l in
    let b_in : b < tiles = home_within tiles tags (length opening) s p i o acc.shown may.issued in
    let in_entries : b < length s.entries = subst (λ (m : ℕ). b < m) (sym acc.shown.banks) b_in in
    let in_positions : b < length l.positions = subst (λ (m : ℕ). b < m) (sym k.book.banks) in_entries in
    let issued_here : i < length (list_at l.issues p) =
    subst (λ (m : ℕ). i < m) (sym (k.book.issues.count p)) (slice_get_within (list_at s.issued p) i o may.issued) in
    let number = within_length (list_at l.issues p) i issued_here in
    let read : slice_index (list_at l.issues p) i ≡ number.0 = get_or_from_slice_get (list_at l.issues p) i number.0 0 number.1 in
    let issue : IsIssueNumber run p i row.issued = subst (λ (m : ℕ). IsIssueNumber run p i m) (sym read) (k.book.issues.each p i number.0 number.1) in
    let entry : Entry = event_entry p tag o s.memory in
    record {
      rows = rows_served tiles tags opening run event n h p i tag o is l.rows row k.rows refl refl refl (k.book.service_counts b) issue count refl;
      book = record {
        events = count;
        issues = issue_numbers_kept tiles run n (event n) (h.each n (omega arith)) (ap (λ e. (happens tiles s e).issued) is) l.issues k.book.issues;
        banks = length-push_at l.positions b (length l.rows)
            ∙ (k.book.banks ∙ (sym (length-push_at s.entries b entry) ∙ ap (λ (x : Observed). length x.entries) (sym next)));
        service_counts = λ c. length_list_at_push l.positions b (length l.rows) c in_positions ∙ (ap (λ m. m + cond (b == c) 1 0) (k.book.service_counts c)
            ∙ (sym (length_list_at_push s.entries b entry c in_entries) ∙ ap (λ (x : Observed). length (list_at x.entries c)) (sym next)));
        positions = λ c place j there. ⊎_elim
            (λ (old : slice_get (list_at l.positions c) place ≡ Some j). let was = k.book.positions c place j old in
            (was.0, get_append_left l.rows (row ∷ []) j was.0 was.1, was.2, was.3))
            (λ (new : (c ≡ b) × (place ≡ length (list_at l.positions b)) × (length l.rows ≡ j)).
            (row, ap (slice_get (l.rows ++ row ∷ [])) (sym new.2) ∙ get_push l.rows row, sym new.0, sym new.1))
            (push_at_cases l.positions b (length l.rows) c place j there);
      };
    }

pub kept_answered : (tiles tags : ℕ) (opening : List ℕ) (run : Run) (event : ℕ → Event) (n : ℕ) (l : EventBook) (p : ℕ) (a : Answer)
    → IsHistory tiles tags opening run event (suc n)
    → event n ≡ Answered p a → Kept tiles run event n l → Kept tiles run event (suc n) (noted_answer a.bank a.place l)
kept_answered tiles tags opening run event n l p a h is k =
    let s : Observed = run n in
    let order = order_after event n in
    let acc = account tiles tags opening run event n (shorter tiles tags opening run event n h) in
    let may : MayHappen tiles tags opening s order (Answered p a) = subst (MayHappen tiles tags opening s order) is (h.may n (omega arith)) in
    let next : run (suc n) ≡ happens tiles s (Answered p a) = h.each n (omega arith) ∙ ap (happens tiles s) is in
    let count = counted tiles tags opening run event n l (Answered p a) h is refl k in
    let tells = may.tells in
    -- the service stands in the bank's list
    let entry = acc.entries tells.k tells.point tells.there in
    let place_is : count_at tiles (home tiles tells.point.operation) (take tells.k order) ≡ a.place =
    sym (tells.place ∙ ap (λ c. count_at tiles c (take tells.k order)) tells.bank) in
    let in_entries : a.place < length (list_at s.entries a.bank) =
    subst (λ (c : ℕ). a.place < length (list_at s.entries c)) (sym tells.bank)
    (subst (λ (m : ℕ). m < length (list_at s.entries (home tiles tells.point.operation))) place_is
    (slice_get_within (list_at s.entries (home tiles tells.point.operation)) _ entry.entry entry.there)) in
    let at = within_length (list_at l.positions a.bank) a.place (subst (λ (m : ℕ). a.place < m) (sym (k.book.service_counts a.bank)) in_entries) in
    let read : row_at a.bank a.place l ≡ at.0 = get_or_from_slice_get (list_at l.positions a.bank) a.place at.0 0 at.1 in
    let found = k.book.positions a.bank a.place at.0 at.1 in
    let was : Ordered = found.0 in
    -- its row is the one that stands there
    let rows_count = k.rows.count in
    let point = within_length order at.0 (let w = slice_get_within l.rows at.0 was found.1 in omega arith) in
    let row = k.rows.each at.0 point.0 was point.1 found.1 in
    let home_here : home tiles point.0.operation ≡ a.bank = sym row.bank ∙ found.2 in
    let home_there : home tiles tells.point.operation ≡ a.bank = sym tells.bank in
    let same_place : count_at tiles a.bank (take at.0 order) ≡ count_at tiles a.bank (take tells.k order) =
    sym (ap (λ c. count_at tiles c (take at.0 order)) home_here) ∙ (sym row.place ∙ (found.3 ∙ tells.place)) in
    let one : at.0 ≡ tells.k = one_point tiles order at.0 tells.k a.bank point.0 tells.point point.1 tells.there home_here home_there same_place in
    let point_is : point.0 ≡ tells.point = same_Some _ _ (sym point.1 ∙ (ap (slice_get order) one ∙ tells.there)) in
    let source : was.source ≡ p = row.source ∙ (ap (λ (x : LinearizationPoint). x.source) point_is ∙ tells.source) in
    let index : was.index ≡ a.index = row.index ∙ (ap (λ (x : LinearizationPoint). x.index) point_is ∙ tells.index) in
    let there : slice_index_or l.rows (row_at a.bank a.place l) no_row ≡ was =
    ap (λ m. slice_index_or l.rows m no_row) read ∙ get_or_from_slice_get l.rows at.0 was no_row found.1 in
    let now : Ordered = answered_row was (event_count (run (suc n))) in
    let rows_are : (noted_answer a.bank a.place l).rows ≡ slice_set l.rows at.0 now =
    ap (λ m. slice_set l.rows m (answered_row (slice_index_or l.rows m no_row) (l.events + 1))) read
    ∙ (ap (λ r. slice_set l.rows at.0 (answered_row r (l.events + 1))) (get_or_from_slice_get l.rows at.0 was no_row found.1)
    ∙ ap (λ m. slice_set l.rows at.0 (answered_row was m)) count) in
    let at_in = slice_get_within l.rows at.0 was found.1 in
    record {
      rows = subst (AreRowsOf tiles run (suc n) (order_after event (suc n))) (sym rows_are)
          (rows_answered tiles tags opening run event n h p a is l.rows at.0 was k.rows found.1 source index);
      book = record {
        events = count;
        issues = issue_numbers_kept tiles run n (event n) (h.each n (omega arith)) (ap (λ e. (happens tiles s e).issued) is) l.issues k.book.issues;
        banks = k.book.banks ∙ ap (λ (x : Observed). length x.entries) (sym next);
        service_counts = λ b. k.book.service_counts b ∙ ap (λ (x : Observed). length (list_at x.entries b)) (sym next);
        positions = λ b place j old.
            let before = k.book.positions b place j old in
            subst (λ (rs : List Ordered). (r : Ordered) × (slice_get rs j ≡ Some r) × (r.bank ≡ b) × (r.place ≡ place)) (sym rows_are)
            (⊎_elim
            (λ (same : j ≡ at.0).
            let e : was ≡ before.0 = same_Some _ _ (sym found.1 ∙ (ap (slice_get l.rows) (sym same) ∙ before.1)) in (
              now,
              ap (slice_get (slice_set l.rows at.0 now)) same ∙ get_set_same l.rows at.0 now at_in,
              ap (λ (r : Ordered). r.bank) e
                  ∙ before.2,
              ap (λ (r : Ordered). r.place) e ∙ before.3,
            ))
            (λ (other : j ≢ at.0). (before.0, get_set_other l.rows at.0 j now other ∙ before.1, before.2, before.3))
            (cases_eq j at.0));
      };
    }

-- before the first step the book is empty
pub kept_none : (tiles tags : ℕ) (opening : List ℕ) (run : Run) (event : ℕ → Event) → IsHistory tiles tags opening run event 0
    → Kept tiles run event 0 (first_book tiles)
kept_none tiles tags opening run event h = record {
  rows = rows_none tiles run event;
  book = record {
    events = sym (ap event_count h.start ∙ count_none tiles opening);
    issues = issue_numbers_none tiles tags opening run event h;
    banks = length-replicate tiles [] ∙ (sym (length-replicate tiles []) ∙ ap (λ (s : Observed). length s.entries) (sym h.start));
    service_counts = λ b. ap length (list_at_none {A = ℕ} tiles b)
        ∙ (sym (ap length (list_at_none {A = Entry} tiles b)) ∙ ap (λ (s : Observed). length (list_at s.entries b)) (sym h.start));
    positions = λ b place k h. let e : ◌≡◌ {A = Option ℕ} None (Some k) = sym (ap (λ xs. slice_get xs place) (list_at_none {A = ℕ} tiles b)) ∙ h in cc;
  };
}

kept_event : (tiles tags : ℕ) (opening : List ℕ) (run : Run) (event : ℕ → Event) (n : ℕ) (l : EventBook) (e : Event)
    → IsHistory tiles tags opening run event (suc n)
    → event n ≡ e → Kept tiles run event n l → Kept tiles run event (suc n) (noted_event tiles l e)
kept_event tiles tags opening run event n l Nothing h is k = kept_nothing tiles tags opening run event n l h is k
kept_event tiles tags opening run event n l (Issued p o) h is k = kept_issued tiles tags opening run event n l p o h is k
kept_event tiles tags opening run event n l (Served p i tag o) h is k = kept_served tiles tags opening run event n l p i tag o h is k
kept_event tiles tags opening run event n l (Answered p a) h is k = kept_answered tiles tags opening run event n l p a h is k

-- the book of a history
pub kept : (tiles tags : ℕ) (opening : List ℕ) (run : Run) (event : ℕ → Event) (n : ℕ) → IsHistory tiles tags opening run event n
    → Kept tiles run event n (book_of tiles event n)
kept tiles tags opening run event zero h = kept_none tiles tags opening run event h
kept tiles tags opening run event (suc n) h =
    kept_event tiles tags opening run event n (book_of tiles event n) (event n) h refl
    (kept tiles tags opening run event n (shorter tiles tags opening run event n h))

-- and its rows tell the one legal order
pub order_of_book : (tiles tags : ℕ) (opening : List ℕ) (run : Run) (event : ℕ → Event) (n : ℕ) → IsHistory tiles tags opening run event n
    → HasOneOrder tiles tags opening run n (book_of tiles event n).rows
order_of_book tiles tags opening run event n h =
    one_order tiles tags opening run event n (book_of tiles event n).rows h (kept tiles tags opening run event n h).rows
