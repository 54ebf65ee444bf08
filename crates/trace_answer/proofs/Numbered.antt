-- The numbers of the events of a report.
use Rattle.std.proofs.Common.{◌≡◌, ◌⊎◌, inl, inr, ⊎_elim, ℕ, ◌+◌, ◌<◌, ◌≤◌, List, length, map, Option, Some, None, refl, sym, ◌∙◌, ap, arith, slice_get, subst}
use Rattle.std.specs.Prelude.{count_by, option_map, slice_index_or}
use Rattle.std.proofs.lemmas.Bool.{cases_lt}
use Rattle.std.proofs.lemmas.List.{length-map}
use Rattle.std.proofs.lemmas.List.Sums.{count_by-le-length}
use Rattle.std.proofs.lemmas.Option.{same_Some, slice_get_within, slice_get-get_or}
use Rattle.packet.specs.declared.kinds.Reply.{Reply}
use Rattle.report_lines.specs.declared.line.OrderLine.{OrderLine}
use Rattle.report_check.specs.Facts.{HasNumber, AreNumbered}
use Rattle.trace_laws.specs.declared.event.Call.{Call}
use Rattle.trace_laws.specs.declared.event.Event.{Event}
use Rattle.trace_laws.specs.declared.event.Event.TheVariants.{Issue, Answer}
use Rattle.trace_laws.specs.Traces.{TraceIssuesAt, TraceAnswersAt}
use Rattle.trace_text.specs.Traced.{TraceSpec}
use Rattle.trace_answer.specs.declared.times.Times.{Times}
use Rattle.trace_answer.specs.Times.{time_of}
use Rattle.trace_answer.specs.Numbers.{issues_of, waits_of, number_behind, service_number}
use Rattle.trace_answer.specs.Services.{call_at, service_of, services_told}
use Rattle.trace_answer.specs.Contents.{service_line}
use Rattle.trace_answer.proofs.Lists.{image_at, mapped_at, mapped_of}
use Rattle.trace_answer.proofs.Given.{Given, call_there, issue_there, once}
use Rattle.trace_answer.proofs.Waiting.{length-waits, waits_rise, waits_behind, waits_for, within, count_front, count_back, count_more}

abbrev issue_of : List Times → List Call → ℕ → ℕ
issue_of times order x = (time_of times (call_at order x).id).issued

abbrev wait_of : List Times → List Call → ℕ → ℕ
wait_of times order x = slice_index_or (waits_of times order) x 0

issue_in : (times : List Times) (order : List Call) (x : ℕ) → x < length order → slice_get (issues_of times order) x ≡ Some (issue_of times order x)
issue_in times order x l = mapped_of (λ (c : Call). (time_of times c.id).issued) order x (call_at order x) (call_there order x l)

pub waits_count : (times : List Times) (order : List Call) → length (waits_of times order) ≡ length order
waits_count times order = length-waits 0 (issues_of times order) ∙ length-map order (λ (c : Call). (time_of times c.id).issued)

pub wait_there : (times : List Times) (order : List Call) (x : ℕ) → x < length order → slice_get (waits_of times order) x ≡ Some (wait_of times order x)
wait_there times order x l = slice_get-get_or (waits_of times order) x 0 (omega (arith, l, waits_count times order))

-- a service waits for its issue
wait_behind : (times : List Times) (order : List Call) (x : ℕ) → x < length order → issue_of times order x < wait_of times order x
wait_behind times order x l =
    waits_behind 0 (issues_of times order) x (issue_of times order x) (wait_of times order x) (issue_in times order x l) (wait_there times order x l)

-- for nothing behind an issue up to there
pub record Latest (times : List Times) (order : List Call) (x : ℕ) : Type 0 where
  pub y : ℕ
  pub low : y ≤ x
  pub is : wait_of times order x ≡ issue_of times order y + 1

pub latest : (times : List Times) (order : List Call) (x : ℕ) → x < length order → Latest times order x
latest times order x l = ⊎_elim
    (λ (none : wait_of times order x ≡ 0). absurd (let b = wait_behind times order x l in omega arith))
    (λ r.
    let low : r.0 ≤ x = r.2 in
    let same : issue_of times order r.0 ≡ r.1 =
    same_Some (issue_of times order r.0) r.1 (sym (issue_in times order r.0 (omega arith)) ∙ r.3) in
    let e : wait_of times order x ≡ r.1 + 1 = r.4 in
    record { y = r.0; low = low; is = omega arith })
    (waits_for 0 (issues_of times order) x (wait_of times order x) (wait_there times order x l))

pub wait_low : (t : TraceSpec) (tiles : ℕ) (times : List Times) (order : List Call) → Given t tiles times order → (x : ℕ) → x < length order
    → wait_of times order x ≤ length t.events
wait_low t tiles times order g x l =
    let last = latest times order x l in
    let low : last.y ≤ x = last.low in
    let is : wait_of times order x ≡ issue_of times order last.y + 1 = last.is in
    let inside = slice_get_within t.events (issue_of times order last.y) (Issue (call_at order last.y)) (issue_there t tiles times order g last.y (omega arith)) in
    omega arith

-- an event is behind the services that wait for no more, and before the others
event_behind : (times : List Times) (order : List Call) (x i : ℕ) → x < length order → wait_of times order x ≤ i
    → service_number (waits_of times order) x < number_behind (waits_of times order) i
event_behind times order x i l low =
    let more : x < count_by (within i) (waits_of times order) =
    count_front (waits_of times order) i x (wait_of times order x) (waits_rise 0 (issues_of times order)) (wait_there times order x l) low in
    omega arith

event_before : (times : List Times) (order : List Call) (x i : ℕ) → x < length order → i < wait_of times order x
    → number_behind (waits_of times order) i < service_number (waits_of times order) x
event_before times order x i l less =
    let few : count_by (within i) (waits_of times order) ≤ x =
    count_back (waits_of times order) i x (wait_of times order x) (waits_rise 0 (issues_of times order)) (wait_there times order x l) less in
    omega arith

-- an operation is issued, then served
pub issued_first : (times : List Times) (order : List Call) (x : ℕ) → x < length order
    → number_behind (waits_of times order) (issue_of times order x) < service_number (waits_of times order) x
issued_first times order x l = event_before times order x (issue_of times order x) l (wait_behind times order x l)

not_both : (t : TraceSpec) (c : Call) (i id : ℕ) (reply : Reply) → TraceIssuesAt t.events i c → TraceAnswersAt t.events i id reply → ⊥
not_both t c i id reply h a = let e : Some (Issue c) ≡ Some (Answer id reply) = sym h ∙ a in cc

-- then answered
answer_later : (t : TraceSpec) (tiles : ℕ) (times : List Times) (order : List Call) → Given t tiles times order → (x y j : ℕ) (reply : Reply) → x < length order
    → y ≤ x → TraceAnswersAt t.events j (call_at order x).id reply → issue_of times order y < j
answer_later t tiles times order g x y j reply l m a =
    let below : y < length order = omega arith in
    let issue = issue_there t tiles times order g y below in
    ⊎_elim
    (λ (less : issue_of times order y < j). less)
    (λ (more : j ≤ issue_of times order y). ⊎_elim
    (λ (before : j < issue_of times order y).
    let late : x < y =
    g.explains.real_time j (issue_of times order y) x y (call_at order x) (call_at order y) reply before a issue (call_there order x l)
    (call_there order y below) in
    absurd (omega arith))
    (λ (after : issue_of times order y ≤ j).
    let same : issue_of times order y ≡ j = omega arith in
    absurd (not_both t (call_at order y) j (call_at order x).id reply (subst (λ (k : ℕ). TraceIssuesAt t.events k (call_at order y)) same issue) a))
    (cases_lt j (issue_of times order y)))
    (cases_lt (issue_of times order y) j)

pub answered_last : (t : TraceSpec) (tiles : ℕ) (times : List Times) (order : List Call) → Given t tiles times order → (x j : ℕ) → x < length order
    → (time_of times (call_at order x).id).answered ≡ Some j → service_number (waits_of times order) x < number_behind (waits_of times order) j
answered_last t tiles times order g x j l h =
    let a = g.told.only j (call_at order x).id h in
    let last = latest times order x l in
    let low : last.y ≤ x = last.low in
    let is : wait_of times order x ≡ issue_of times order last.y + 1 = last.is in
    let late : issue_of times order last.y < j = answer_later t tiles times order g x last.y j a.1 l low a.2 in
    event_behind times order x j l (omega arith)

-- services rise, and so do events
pub services_rise : (times : List Times) (order : List Call) (x y : ℕ) → y < length order → x < y
    → service_number (waits_of times order) x < service_number (waits_of times order) y
services_rise times order x y l less =
    let low : wait_of times order x ≤ wait_of times order y =
    waits_rise 0 (issues_of times order) x y (wait_of times order x) (wait_of times order y) (omega arith) (wait_there times order x (omega arith))
    (wait_there times order y l) in
    omega arith

same_event : (waits : List ℕ) (i j : ℕ) → number_behind waits i ≡ number_behind waits j → i ≡ j
same_event waits i j h = ⊎_elim
    (λ (less : i < j).
    let more : count_by (within i) waits ≤ count_by (within j) waits = count_more waits i j (omega arith) in absurd (omega arith))
    (λ (ge : j ≤ i). ⊎_elim
    (λ (less : j < i).
    let more : count_by (within j) waits ≤ count_by (within i) waits = count_more waits j i (omega arith) in absurd (omega arith))
    (λ (le : i ≤ j). omega arith)
    (cases_lt j i))
    (cases_lt i j)

same_service : (times : List Times) (order : List Call) (x y : ℕ) → x < length order → y < length order
    → service_number (waits_of times order) x ≡ service_number (waits_of times order) y → x ≡ y
same_service times order x y l m h = ⊎_elim
    (λ (less : x < y). absurd (let r = services_rise times order x y m less in omega arith))
    (λ (ge : y ≤ x). ⊎_elim
    (λ (less : y < x). absurd (let r = services_rise times order y x l less in omega arith))
    (λ (le : x ≤ y). omega arith)
    (cases_lt y x))
    (cases_lt x y)

never_same : (times : List Times) (order : List Call) (x i : ℕ) → x < length order
    → number_behind (waits_of times order) i ≡ service_number (waits_of times order) x → ⊥
never_same times order x i l h = ⊎_elim
    (λ (less : i < wait_of times order x). let r = event_before times order x i l less in omega arith)
    (λ (more : wait_of times order x ≤ i). let r = event_behind times order x i l more in omega arith)
    (cases_lt i (wait_of times order x))

-- which operation an event is of
abbrev id_of : Event → ℕ
id_of (Issue c) = c.id
id_of (Answer id reply) = id

-- a number is one of an event of the operation in the trace, or of its service
abbrev Tells : TraceSpec → List Times → List Call → ℕ → ℕ → Type 0
Tells t times order x n =
    ((i : ℕ) × (e : Event) × (slice_get t.events i ≡ Some e) × (id_of e ≡ (call_at order x).id) × (number_behind (waits_of times order) i ≡ n))
    ⊎ (service_number (waits_of times order) x ≡ n)

option_mapped : (f : ℕ → ℕ) (o : Option ℕ) (y : ℕ) → option_map f o ≡ Some y → (x : ℕ) × (o ≡ Some x) × (f x ≡ y)
option_mapped f None y h = absurd (cc)
option_mapped f (Some x) y h = (x, refl, same_Some (f x) y h)

tells : (t : TraceSpec) (tiles : ℕ) (times : List Times) (order : List Call) → Given t tiles times order → (x n : ℕ) → x < length order
    → HasNumber (service_line (service_of t tiles times order x)) n → Tells t times order x n
tells t tiles times order g x n l h = ⊎_elim
    (λ issued. inl (issue_of times order x, Issue (call_at order x), issue_there t tiles times order g x l, refl, issued))
    (λ others. ⊎_elim
    (λ served. inr served)
    (λ answered.
    let m = option_mapped (number_behind (waits_of times order)) (time_of times (call_at order x).id).answered n answered in
    let a = g.told.only m.0 (call_at order x).id m.1 in
    inl (m.0, Answer (call_at order x).id a.1, a.2, refl, m.2))
    others)
    h

distinct : (t : TraceSpec) (tiles : ℕ) (times : List Times) (order : List Call) → Given t tiles times order → (x y n : ℕ) → x < length order → y < length order
    → Tells t times order x n → Tells t times order y n → x ≡ y
distinct t tiles times order g x y n l m h k = ⊎_elim
    (λ a. ⊎_elim
    (λ b.
    let at : a.0 ≡ b.0 = same_event (waits_of times order) a.0 b.0 (a.4 ∙ sym b.4) in
    let same : a.1 ≡ b.1 = same_Some a.1 b.1 (sym a.2 ∙ (ap (slice_get t.events) at ∙ b.2)) in
    once t tiles times order g x y l m (sym a.3 ∙ (ap id_of same ∙ b.3)))
    (λ b. absurd (never_same times order y a.0 m (a.4 ∙ sym b)))
    k)
    (λ a. ⊎_elim
    (λ b. absurd (never_same times order x b.0 l (b.4 ∙ sym a)))
    (λ b. same_service times order x y l m (a ∙ sym b))
    k)
    h

low : (t : TraceSpec) (times : List Times) (order : List Call) (x n : ℕ) → Tells t times order x n → 1 ≤ n
low t times order x n h = ⊎_elim (λ a. let e = a.4 in omega arith) (λ b. omega arith) h

high : (t : TraceSpec) (tiles : ℕ) (times : List Times) (order : List Call) → Given t tiles times order → (x n : ℕ) → x < length order → Tells t times order x n
    → n ≤ 196608
high t tiles times order g x n l h =
    let few : length t.events + length order ≤ 196608 = g.fit.events in
    ⊎_elim
    (λ a.
    let e : number_behind (waits_of times order) a.0 ≡ n = a.4 in
    let inside = slice_get_within t.events a.0 a.1 a.2 in
    let count : count_by (within a.0) (waits_of times order) ≤ length (waits_of times order) = count_by-le-length (within a.0) (waits_of times order) in
    omega (arith, waits_count times order))
    (λ (b : service_number (waits_of times order) x ≡ n). let w = wait_low t tiles times order g x l in omega arith)
    h

-- an order line is one of a service
pub line_at : (t : TraceSpec) (tiles : ℕ) (times : List Times) (order : List Call) (k : ℕ) (o : OrderLine)
    → slice_get (map service_line (services_told t tiles times order)) k ≡ Some o
    → (k < length order) × (service_line (service_of t tiles times order k) ≡ o)
line_at t tiles times order k o h =
    let m = mapped_at service_line (services_told t tiles times order) k o h in
    let a = image_at (service_of t tiles times order) (length order) k m.0 m.1 in
    (a.0, ap service_line a.1 ∙ m.2)

pub numbered : (t : TraceSpec) (tiles : ℕ) (times : List Times) (order : List Call) → Given t tiles times order
    → AreNumbered (map service_line (services_told t tiles times order))
numbered t tiles times order g =
    let has : (k n : ℕ) (o : OrderLine) → slice_get (map service_line (services_told t tiles times order)) k ≡ Some o → HasNumber o n
    → Tells t times order k n =
    λ k n o h is.
    let a = line_at t tiles times order k o h in
    tells t tiles times order g k n a.0 (subst (λ (p : OrderLine). HasNumber p n) (sym a.1) is) in
    record {
      issued_first = λ k o h.
          let a = line_at t tiles times order k o h in
          subst (λ (p : OrderLine). p.issued < p.served) a.1 (issued_first times order k a.0);
      answered_last = λ k n o h is.
          let a = line_at t tiles times order k o h in
          let told : option_map (number_behind (waits_of times order)) (time_of times (call_at order k).id).answered ≡ Some n =
          ap (λ (p : OrderLine). p.answered) a.1 ∙ is in
          let m = option_mapped (number_behind (waits_of times order)) (time_of times (call_at order k).id).answered n told in
          let late = answered_last t tiles times order g k m.0 a.0 m.1 in
          subst (λ (p : OrderLine). p.served < n) a.1
          (subst (λ (e : ℕ). service_number (waits_of times order) k < e) m.2 late);
      distinct = λ j k n x y hx hy nx ny.
          distinct t tiles times order g j k n (line_at t tiles times order j x hx).0 (line_at t tiles times order k y hy).0 (has j n x hx nx) (has k n y hy ny);
      low = λ k n o h is. low t times order k n (has k n o h is);
      high = λ k n o h is. high t tiles times order g k n (line_at t tiles times order k o h).0 (has k n o h is);
    }
