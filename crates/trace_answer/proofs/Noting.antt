-- What is noted of events.
use Rattle.std.proofs.Common.{◌≡◌, ◌≢◌, ⊎_elim, ℕ, ◌+◌, ◌<◌, ◌≤◌, List, length, replicate, Some, None, sym, ◌∙◌, ap, arith, subst, slice_get}
use Rattle.std.proofs.Common.{get_or-set_same, get_or-set_other}
use Rattle.std.specs.Prelude.{nat_lt, slice_set}
use Rattle.std.proofs.lemmas.Bool.{cases_eq, cases_lt, cond-true, lt-ltb}
use Rattle.std.proofs.lemmas.List.{length-set, length-replicate, get_or-replicate, get_or_past}
use Rattle.packet.specs.declared.kinds.Reply.{Reply}
use Rattle.trace_laws.specs.declared.event.Call.{Call}
use Rattle.trace_laws.specs.declared.event.Event.{Event}
use Rattle.trace_laws.specs.declared.event.Event.TheVariants.{Issue, Answer}
use Rattle.trace_laws.specs.Traces.{IsTrace, TraceIssuesAt, TraceAnswersAt}
use Rattle.trace_answer.specs.declared.times.Times.{Times}
use Rattle.trace_answer.specs.Times.{AreTimesBelow, time_of, with_time, times_noted}

abbrev no_time : Times
no_time = record { issued = 0; answered = None }

-- none is noted at first
pub none_of : (n id : ℕ) → time_of (replicate n no_time) id ≡ no_time
none_of n id = ⊎_elim
    (λ (l : id < n). get_or-replicate n id no_time no_time l)
    (λ (g : n ≤ id). get_or_past (replicate n no_time) id no_time (omega (arith, length-replicate {A = Times} n no_time)))
    (cases_lt id n)

pub none_noted : (events : List Event) (n : ℕ) → AreTimesBelow events 0 n (replicate n no_time)
none_noted events n = record {
  sized = length-replicate {A = Times} n no_time;
  issued = λ i c l. absurd (omega arith);
  answered = λ i id reply l. absurd (omega arith);
  only = λ i id h. absurd (let e : None ≡ Some i = sym (ap (λ (u : Times). u.answered) (none_of n id)) ∙ h in cc);
  low = λ id. let e = ap (λ (u : Times). u.issued) (none_of n id) in omega arith;
}

-- one time more
with_is : (times : List Times) (id : ℕ) (u : Times) → id < length times → with_time times id u ≡ slice_set times id u
with_is times id u l = cond-true (nat_lt id (length times)) (slice_set times id u) times (lt-ltb id (length times) l)

time_here : (times : List Times) (id : ℕ) (u : Times) → id < length times → time_of (with_time times id u) id ≡ u
time_here times id u l = ap (λ (us : List Times). time_of us id) (with_is times id u l) ∙ get_or-set_same times id u no_time l

time_other : (times : List Times) (id other : ℕ) (u : Times) → id < length times → other ≢ id → time_of (with_time times id u) other ≡ time_of times other
time_other times id other u l n = ap (λ (us : List Times). time_of us other) (with_is times id u l) ∙ get_or-set_other times id other u no_time n

count_with : (times : List Times) (id : ℕ) (u : Times) → id < length times → length (with_time times id u) ≡ length times
count_with times id u l = ap length (with_is times id u l) ∙ length-set times id u

-- what is so of an operation's time, and of those of the others
here_or_other : (P : Times → Type 0) (times : List Times) (id other : ℕ) (u : Times) → id < length times → (other ≡ id → P u)
    → (other ≢ id → P (time_of times other))
    → P (time_of (with_time times id u) other)
here_or_other P times id other u l h k = ⊎_elim
    (λ (e : other ≡ id).
    subst P (sym (ap (time_of (with_time times id u)) e ∙ time_here times id u l)) (h e))
    (λ (n : other ≢ id). subst P (sym (time_other times id other u l n)) (k n))
    (cases_eq other id)

issue_noted : (words : ℕ) (events : List Event) (i n : ℕ) (times : List Times) (c : Call) → IsTrace words events → TraceIssuesAt events i c → c.id < n
    → AreTimesBelow events i n times → AreTimesBelow events (i + 1) n (times_noted times i (Issue c))
issue_noted words events i n times c trace is counted old =
    let u : Times = record (time_of times c.id) { issued = i } in
    let inside : c.id < length times = (let e = old.sized in omega arith) in
    record {
      sized = count_with times c.id u inside ∙ old.sized;
      issued = λ j d l h. ⊎_elim
          (λ (same : j ≡ i).
          let e : Some (Issue d) ≡ Some (Issue c) = sym h ∙ (ap (slice_get events) same ∙ is) in
          let who : d.id ≡ c.id = ap (λ (x : Call). x.id) (let k : d ≡ c = cc in k) in
          ap (λ (x : ℕ). (time_of (with_time times c.id u) x).issued) who ∙ (ap (λ (x : Times). x.issued) (time_here times c.id u inside) ∙ sym same))
          (λ (other : j ≢ i).
          let before : j < i = omega arith in
          let less : d.id < c.id = trace.rising j i d c before h is in
          ap (λ (x : Times). x.issued) (time_other times c.id d.id u inside (λ e. absurd (omega arith))) ∙ old.issued j d before h)
          (cases_eq j i);
      answered = λ j id reply l h. ⊎_elim
          (λ (same : j ≡ i). absurd (let e : Some (Answer id reply) ≡ Some (Issue c) = sym h ∙ (ap (slice_get events) same ∙ is) in cc))
          (λ (other : j ≢ i).
          let there : (time_of times id).answered ≡ Some j = old.answered j id reply (omega arith) h in
          here_or_other (λ (x : Times). x.answered ≡ Some j) times c.id id u inside
          (λ e. ap (λ (k : ℕ). (time_of times k).answered) (sym e) ∙ there) (λ _. there))
          (cases_eq j i);
      only = λ j id h.
          let was : (time_of times id).answered ≡ Some j =
          here_or_other (λ (x : Times). x.answered ≡ Some j → (time_of times id).answered ≡ Some j) times c.id id u inside
          (λ e g. ap (λ (k : ℕ). (time_of times k).answered) e ∙ g) (λ _ g. g) h in
          let a = old.only j id was in
          let l : j < i = a.0 in
          (omega arith, a.1, a.2);
      low = λ id. here_or_other (λ (x : Times). x.issued ≤ i + 1) times c.id id u inside (λ e. omega arith) (λ n. let l = old.low id in omega arith);
    }

answer_noted : (words : ℕ) (events : List Event) (i n id : ℕ) (reply : Reply) (times : List Times) → IsTrace words events
    → TraceAnswersAt events i id reply → id < n
    → AreTimesBelow events i n times → AreTimesBelow events (i + 1) n (times_noted times i (Answer id reply))
answer_noted words events i n id reply times trace is counted old =
    let u : Times = record (time_of times id) { answered = Some i } in
    let inside : id < length times = (let e = old.sized in omega arith) in
    record {
      sized = count_with times id u inside ∙ old.sized;
      issued = λ j d l h. ⊎_elim
          (λ (same : j ≡ i). absurd (let e : Some (Issue d) ≡ Some (Answer id reply) = sym h ∙ (ap (slice_get events) same ∙ is) in cc))
          (λ (other : j ≢ i).
          let there : (time_of times d.id).issued ≡ j = old.issued j d (omega arith) h in
          here_or_other (λ (x : Times). x.issued ≡ j) times id d.id u inside
          (λ e. ap (λ (k : ℕ). (time_of times k).issued) (sym e) ∙ there) (λ _. there))
          (cases_eq j i);
      answered = λ j who r l h. ⊎_elim
          (λ (same : j ≡ i).
          let e : Some (Answer who r) ≡ Some (Answer id reply) = sym h ∙ (ap (slice_get events) same ∙ is) in
          let one : who ≡ id = cc in
          ap (λ (x : ℕ). (time_of (with_time times id u) x).answered) one
          ∙ (ap (λ (x : Times). x.answered) (time_here times id u inside) ∙ ap (λ (x : ℕ). Some x) (sym same)))
          (λ (other : j ≢ i).
          ap (λ (x : Times). x.answered) (time_other times id who u inside
          (λ e. other (trace.once j i id r reply (subst (λ (k : ℕ). TraceAnswersAt events j k r) e h) is)))
          ∙ old.answered j who r (omega arith) h)
          (cases_eq j i);
      only = λ j who. here_or_other (λ (x : Times). x.answered ≡ Some j → (j < i + 1) × (r : Reply) × TraceAnswersAt events j who r) times id who u inside
          (λ e h.
          let at : i ≡ j = cc in (
            omega arith,
            reply,
            subst (λ (k : ℕ). TraceAnswersAt events k who reply) at (subst (λ (k : ℕ). TraceAnswersAt events i k reply) (sym e) is),
          ))
          (λ n h. let a = old.only j who h in let l : j < i = a.0 in (omega arith, a.1, a.2));
      low = λ who. here_or_other (λ (x : Times). x.issued ≤ i + 1) times id who u inside
          (λ e. let l = old.low id in omega arith) (λ n. let l = old.low who in omega arith);
    }

-- one event more
pub event_noted : (words : ℕ) (events : List Event) (i n : ℕ) (times : List Times) (e : Event) → IsTrace words events
    → ((j : ℕ) (c : Call) → TraceIssuesAt events j c → c.id < n) → slice_get events i ≡ Some e
    → AreTimesBelow events i n times → AreTimesBelow events (i + 1) n (times_noted times i e)
event_noted words events i n times (Issue c) trace counted is old = issue_noted words events i n times c trace is (counted i c is) old
event_noted words events i n times (Answer id reply) trace counted is old =
    let w = trace.issued i id reply is in
    let low : w.1.id < n = counted w.0 w.1 w.4 in
    let same : w.1.id ≡ id = w.3 in
    answer_noted words events i n id reply times trace is (omega arith) old
