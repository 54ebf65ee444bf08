-- The count of events, step by step; and that what a history shows only grows.
use Rattle.std.proofs.Common.{◌≡◌, ℕ, suc, ◌+◌, ◌<◌, ◌≤◌, List, length, Some, refl, sym, ◌∙◌, ap, subst, arith, slice_get}
use Rattle.packet.specs.declared.kinds.Operation.{Operation}
use Rattle.torus.specs.declared.step.Tag.{Tag}
use Rattle.home_bank.specs.declared.entry.Entry.{Entry}
use Rattle.one_order.specs.declared.answer.Answer.{Answer}
use Rattle.one_order.specs.Observed.{Observed, Run, list_at, total, event_count}
use Rattle.one_order.specs.Order.{LinearizationPoint, home}
use Rattle.one_order.specs.Growth.{OnlyGrows}
use Rattle.one_order.specs.Events.{Event, Nothing, Issued, Served, Answered, event_entry, happens, nothing_yet, order_after, MayHappen, IsHistory}
use Rattle.one_order.proofs.Lists.{push_at_keeps, total_push, total_none, list_within}
use Rattle.one_order.proofs.Account.{Account, home_within}
use Rattle.one_order.proofs.History.{shorter, account}

-- how many events an event is
abbrev pub size : Event → ℕ
size Nothing = 0
size (Issued p o) = 1
size (Served p i tag o) = 1
size (Answered p a) = 1

pub size_within : (e : Event) → size e ≤ 1
size_within Nothing = omega arith
size_within (Issued p o) = omega arith
size_within (Served p i tag o) = omega arith
size_within (Answered p a) = omega arith

-- an answer's processor is one of the machine's
pub answerer_within : (tiles tags : ℕ) (opening : List ℕ) (s : Observed) (order : List LinearizationPoint) (p : ℕ) (a : Answer)
    → Account tiles tags opening s order → MayHappen tiles tags opening s order (Answered p a) → p < length s.answers
answerer_within tiles tags opening s order p a acc may =
    let x : LinearizationPoint = may.tells.point in
    let issued = list_within s.issued x.source x.index x.operation (acc.issued may.tells.k x may.tells.there) in
    let is : x.source ≡ p = may.tells.source in
    omega (arith, acc.shown.processors, acc.shown.answerers, issued, is)

-- a bank that serves is one of the machine's
pub server_within : (tiles tags : ℕ) (opening : List ℕ) (s : Observed) (order : List LinearizationPoint) (p i : ℕ) (tag : Tag) (o : Operation)
    → Account tiles tags opening s order → MayHappen tiles tags opening s order (Served p i tag o) → home tiles o < length s.entries
server_within tiles tags opening s order p i tag o acc may =
    subst (λ (n : ℕ). home tiles o < n) (sym acc.shown.banks) (home_within tiles tags (length opening) s p i o acc.shown may.issued)

-- an event makes the count one more
pub count_step : (tiles tags : ℕ) (opening : List ℕ) (s : Observed) (order : List LinearizationPoint) (e : Event)
    → Account tiles tags opening s order → MayHappen tiles tags opening s order e → event_count (happens tiles s e) ≡ event_count s + size e
count_step tiles tags opening s order Nothing acc may = omega arith
count_step tiles tags opening s order (Issued p o) acc may =
    let h : p < length s.issued = subst (λ (n : ℕ). p < n) (sym acc.shown.processors) may.source in omega (arith, total_push s.issued p o h)
count_step tiles tags opening s order (Served p i tag o) acc may =
    let h = server_within tiles tags opening s order p i tag o acc may in omega (arith, total_push s.entries (home tiles o) (event_entry p tag o s.memory) h)
count_step tiles tags opening s order (Answered p a) acc may =
    let h = answerer_within tiles tags opening s order p a acc may in omega (arith, total_push s.answers p a h)

-- so that a core can keep the count
pub count_next : (tiles tags : ℕ) (opening : List ℕ) (run : Run) (event : ℕ → Event) (n : ℕ) → IsHistory tiles tags opening run event (suc n)
    → event_count (run (suc n)) ≡ event_count (run n) + size (event n)
count_next tiles tags opening run event n h =
    ap event_count (h.each n (omega arith))
    ∙ count_step tiles tags opening (run n) (order_after event n) (event n)
    (account tiles tags opening run event n (shorter tiles tags opening run event n h)) (h.may n (omega arith))

pub count_none : (tiles : ℕ) (opening : List ℕ) → event_count (nothing_yet tiles opening) ≡ 0
count_none tiles opening = omega (arith, total_none Operation tiles, total_none Entry tiles, total_none Answer tiles)

pub issues_kept : (tiles : ℕ) (s : Observed) (e : Event) (p i : ℕ) (o : Operation) → slice_get (list_at s.issued p) i ≡ Some o
    → slice_get (list_at (happens tiles s e).issued p) i ≡ Some o
issues_kept tiles s Nothing p i o h = h
issues_kept tiles s (Issued q x) p i o h = push_at_keeps s.issued q x p i o h
issues_kept tiles s (Served q j tag x) p i o h = h
issues_kept tiles s (Answered q a) p i o h = h

pub answers_kept : (tiles : ℕ) (s : Observed) (e : Event) (p i : ℕ) (a : Answer) → slice_get (list_at s.answers p) i ≡ Some a
    → slice_get (list_at (happens tiles s e).answers p) i ≡ Some a
answers_kept tiles s Nothing p i a h = h
answers_kept tiles s (Issued q x) p i a h = h
answers_kept tiles s (Served q j tag x) p i a h = h
answers_kept tiles s (Answered q c) p i a h = push_at_keeps s.answers q c p i a h

pub entries_kept : (tiles : ℕ) (s : Observed) (e : Event) (b place : ℕ) (x : Entry) → slice_get (list_at s.entries b) place ≡ Some x
    → slice_get (list_at (happens tiles s e).entries b) place ≡ Some x
entries_kept tiles s Nothing b place x h = h
entries_kept tiles s (Issued q o) b place x h = h
entries_kept tiles s (Served q j tag o) b place x h = push_at_keeps s.entries (home tiles o) (event_entry q tag o s.memory) b place x h
entries_kept tiles s (Answered q a) b place x h = h

-- an event that adds no entry leaves the words
words_kept : (tiles tags : ℕ) (opening : List ℕ) (s : Observed) (order : List LinearizationPoint) (e : Event)
    → Account tiles tags opening s order → MayHappen tiles tags opening s order e → total (happens tiles s e).entries ≡ total s.entries
    → (happens tiles s e).memory ≡ s.memory
words_kept tiles tags opening s order Nothing acc may same = refl
words_kept tiles tags opening s order (Issued p o) acc may same = refl
words_kept tiles tags opening s order (Served p i tag o) acc may same =
    let h = server_within tiles tags opening s order p i tag o acc may in
    absurd (omega (arith, same, total_push s.entries (home tiles o) (event_entry p tag o s.memory) h))
words_kept tiles tags opening s order (Answered p a) acc may same = refl

-- What a history shows only grows, by an event a step at most.
pub only_grows : (tiles tags : ℕ) (opening : List ℕ) (run : Run) (event : ℕ → Event) (n : ℕ) → IsHistory tiles tags opening run event n
    → OnlyGrows opening run n
only_grows tiles tags opening run event n h =
    let up_to : (k : ℕ) → k < n → IsHistory tiles tags opening run event (suc k) =
    λ k l. record { start = h.start; each = λ j i. h.each j (omega arith); may = λ j i. h.may j (omega arith) } in
    record {
      empty = ap event_count h.start ∙ count_none tiles opening;
      words = ap (λ (s : Observed). s.memory) h.start;
      issues_stay = λ k p i o l there. subst (λ (s : Observed). slice_get (list_at s.issued p) i ≡ Some o) (sym (h.each k l))
          (issues_kept tiles (run k) (event k) p i o there);
      answers_stay = λ k p i a l there. subst (λ (s : Observed). slice_get (list_at s.answers p) i ≡ Some a) (sym (h.each k l))
          (answers_kept tiles (run k) (event k) p i a there);
      entries_stay = λ k b place e l there. subst (λ (s : Observed). slice_get (list_at s.entries b) place ≡ Some e) (sym (h.each k l))
          (entries_kept tiles (run k) (event k) b place e there);
      one = λ k l. omega (arith, count_next tiles tags opening run event k (up_to k l), size_within (event k));
      words_stay = λ k l same.
          let earlier = shorter tiles tags opening run event k (up_to k l) in
          ap (λ (s : Observed). s.memory) (h.each k l)
          ∙ words_kept tiles tags opening (run k) (order_after event k) (event k) (account tiles tags opening run event k earlier) (h.may k l)
          (ap (λ (s : Observed). total s.entries) (sym (h.each k l)) ∙ same);
    }
