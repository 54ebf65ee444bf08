-- An order that passes each look explains the trace.
use Rattle.std.proofs.Common.{◌≡◌, ◌≢◌, ⊎_elim, ℕ, zero, suc, ◌+◌, ◌<◌, ◌≤◌, List, [], ◌∷◌, ◌++◌, length, Some, refl, sym, ◌∙◌, ap, subst, arith, slice_get, take, add-one, length-append}
use Rattle.std.proofs.lemmas.Bool.{cases_eq}
use Rattle.std.proofs.lemmas.List.{map_push}
use Rattle.std.proofs.lemmas.Option.{same_Some}
use Rattle.packet.specs.declared.kinds.Reply.{Reply}
use Rattle.packet.specs.declared.kinds.Operation.{Operation}
use Rattle.packet.specs.Memory.{memory_after_one, replies, reply_of_one}
use Rattle.packet.proofs.Folds.{replies-append}
use Rattle.trace_laws.specs.declared.event.Call.{Call}
use Rattle.trace_laws.specs.declared.event.Event.{Event}
use Rattle.trace_laws.specs.declared.event.Event.TheVariants.{Answer}
use Rattle.trace_laws.specs.Traces.{IsTrace, TraceIssuesAt}
use Rattle.trace_laws.specs.Orders.{IsOrder, memory_of, operations_of}
use Rattle.trace_laws.proofs.Issues.{one_issue}
use Rattle.trace_laws.proofs.Lists.{get_push_cases, get_within, take_push}
use Rattle.trace_laws.proofs.Memory.{memory_push}
use Rattle.trace_guess.specs.Explained.{AreIssued, StandsBelow, AreBelow, AreHeights, AreAllBelow, IsBehindAnswered}

pub issued_more : (events : List Event) (issues : List ℕ) (old new : List Call) (i : ℕ) (call : Call)
    → slice_get issues (length old) ≡ Some i → TraceIssuesAt events i call → new ≡ old ++ call ∷ []
    → AreIssued events issues old → AreIssued events issues new
issued_more events issues old new i call at is grown was x c h =
    ⊎_elim {C = (j : ℕ) × (slice_get issues x ≡ Some j) × TraceIssuesAt events j c}
    (λ (l : slice_get old x ≡ Some c). was x c l)
    (λ (r : (x ≡ length old) × (call ≡ c)).
    (i, ap (slice_get issues) r.0 ∙ at, subst (λ (d : Call). TraceIssuesAt events i d) r.1 is))
    (get_push_cases old call x c (subst (λ (cs : List Call). slice_get cs x ≡ Some c) grown h))

pub size_more : {A : Type 0} (old new : List A) (x : A) (k : ℕ) → length old ≡ k → new ≡ old ++ x ∷ []
    → length new ≡ k + 1
size_more old new x k size grown =
    let same = ap length grown in omega (arith, same, length-append old (x ∷ []), size)

-- one operation more takes effect
pub words_more : (opening words new : List ℕ) (order : List Call) (k : ℕ) (call : Call)
    → slice_get order k ≡ Some call → new ≡ memory_after_one call.operation words
    → words ≡ memory_of opening (take k order) → new ≡ memory_of opening (take (k + 1) order)
words_more opening words new order k call at made was =
    made ∙ (ap (memory_after_one call.operation) was
    ∙ (sym (memory_push opening (take k order) call)
    ∙ (ap (memory_of opening) (sym (take_push order k call at))
    ∙ ap (λ (n : ℕ). memory_of opening (take n order)) (sym (add-one k)))))

-- and replies
pub told_more : (opening words : List ℕ) (order : List Call) (k : ℕ) (call : Call) (told new : List Reply)
    (reply : Reply) → slice_get order k ≡ Some call → reply ≡ reply_of_one call.operation words
    → words ≡ memory_of opening (take k order) → told ≡ replies (operations_of (take k order)) opening
    → new ≡ told ++ reply ∷ [] → new ≡ replies (operations_of (take (k + 1) order)) opening
told_more opening words order k call told new reply at made was so_far grown =
    let os : List Operation = operations_of (take k order) in
    grown ∙ (ap (λ (rs : List Reply). rs ++ reply ∷ []) so_far
    ∙ (ap (λ (r : Reply). replies os opening ++ r ∷ []) (made ∙ ap (reply_of_one call.operation) was)
    ∙ (sym (replies-append os (call.operation ∷ []) opening)
    ∙ (ap (λ (ps : List Operation). replies ps opening) (sym (map_push (λ (d : Call). d.operation) (take k order) call))
    ∙ (ap (λ (cs : List Call). replies (operations_of cs) opening) (sym (take_push order k call at))
    ∙ ap (λ (n : ℕ). replies (operations_of (take n order)) opening) (sym (add-one k)))))))

pub below_more : (events : List Event) (order : List Call) (told : List Reply) (k h new : ℕ) (event : Event)
    → slice_get events k ≡ Some event → h ≤ new
    → ((id : ℕ) (reply : Reply) → event ≡ Answer id reply → StandsBelow order told id reply new)
    → AreBelow events order told k h → AreBelow events order told (k + 1) new
below_more events order told k h new event at rises now was i id reply l answers =
    ⊎_elim {C = StandsBelow order told id reply new}
    (λ (same : i ≡ k).
    now id reply (same_Some event (Answer id reply) (sym at ∙ (ap (slice_get events) (sym same) ∙ answers))))
    (λ (other : i ≢ k).
    let s = was i id reply (omega arith) answers in
    let low : s.0 < h = s.1 in
    (s.0, omega (arith, low, rises), s.2))
    (cases_eq i k)

pub below_all : (events : List Event) (order : List Call) (told : List Reply) (k h : ℕ) → length events ≤ k
    → AreBelow events order told k h → AreAllBelow events order told
below_all events order told k h l was = (h, λ i id reply m answers. was i id reply (omega arith) answers)

pub heights_more : (events : List Event) (order : List Call) (told : List Reply) (old new : List ℕ) (k h : ℕ)
    → length old ≡ k → new ≡ old ++ h ∷ [] → AreBelow events order told k h
    → AreHeights events order told old → AreHeights events order told new
heights_more events order told old new k h size grown below was j g at =
    ⊎_elim {C = AreBelow events order told j g}
    (λ (l : slice_get old j ≡ Some g). was j g l)
    (λ (r : (j ≡ length old) × (h ≡ g)).
    subst (λ (n : ℕ). AreBelow events order told n g) (sym (r.0 ∙ size))
    (subst (λ (n : ℕ). AreBelow events order told k n) r.1 below))
    (get_push_cases old h j g (subst (λ (hs : List ℕ). slice_get hs j ≡ Some g) grown at))

-- the reply at a place is that of the memory before it
reply_at : (order : List Call) (m : List ℕ) (x : ℕ) (c : Call) (reply : Reply) → slice_get order x ≡ Some c
    → slice_get (replies (operations_of order) m) x ≡ Some reply
    → reply ≡ reply_of_one c.operation (memory_of m (take x order))
reply_at [] m x c reply h g = cc
reply_at (p ∷ order) m zero c reply h g =
    let a : p ≡ c = same_Some p c h in
    let b : reply_of_one p.operation m ≡ reply = same_Some (reply_of_one p.operation m) reply g in
    sym b ∙ ap (λ (q : Call). reply_of_one q.operation m) a
reply_at (p ∷ order) m (suc x) c reply h g = reply_at order (memory_after_one p.operation m) x c reply h g

-- an operation has one place
one_place : (words : ℕ) (events : List Event) (issues heights places : List ℕ) (order : List Call)
    → IsTrace words events → AreIssued events issues order
    → ((x i : ℕ) → slice_get issues x ≡ Some i → IsBehindAnswered heights places x i)
    → (x y : ℕ) (c d : Call) → slice_get order x ≡ Some c → slice_get order y ≡ Some d → c.id ≡ d.id → x ≡ y
one_place words events issues heights places order t issued behind x y c d h g e =
    let a = issued x c h in
    let b = issued y d g in
    let same : a.0 ≡ b.0 = one_issue words events t a.0 b.0 c d a.2 b.2 e in
    let p : slice_get places a.0 ≡ Some x = (behind x a.0 a.1).place in
    let q : slice_get places b.0 ≡ Some y = (behind y b.0 b.1).place in
    same_Some x y (sym p ∙ (ap (slice_get places) same ∙ q))

pub order_explains : (opening : List ℕ) (events : List Event) (issues heights places : List ℕ) (order : List Call)
    (told : List Reply) → IsTrace (length opening) events → AreIssued events issues order
    → told ≡ replies (operations_of order) opening → AreHeights events order told heights
    → AreAllBelow events order told
    → ((x i : ℕ) → slice_get issues x ≡ Some i → IsBehindAnswered heights places x i) → IsOrder opening events order
order_explains opening events issues heights places order told t issued is below all behind =
    let one = one_place (length opening) events issues heights places order t issued behind in
    record {
      once = λ x y c d h g e. one x y c d h g e;
      issued = λ x c h. let a = issued x c h in (a.0, a.2);
      answered = λ i id reply h.
          let s = all.1 i id reply (get_within events i (Answer id reply) h) h in
          (s.0, s.2.call, s.2.there, s.2.number);
      real_time = λ i j x y c d reply l h g u v.
          let a = issued y d v in
          let same : a.0 ≡ j = one_issue (length opening) events t a.0 j d d a.2 g refl in
          let b = behind y a.0 a.1 in
          let s = below a.0 b.height b.there i c.id reply (omega (arith, l, same)) h in
          let p : s.0 ≡ x = one s.0 x s.2.call c s.2.there u s.2.number in
          let low : s.0 < b.height = s.1 in
          omega (arith, low, b.low, p);
      replies = λ i x c reply h g.
          let s = all.1 i c.id reply (get_within events i (Answer c.id reply) g) g in
          let p : s.0 ≡ x = one s.0 x s.2.call c s.2.there h s.2.number in
          reply_at order opening x c reply h
          (subst (λ (rs : List Reply). slice_get rs x ≡ Some reply) is (ap (slice_get told) (sym p) ∙ s.2.answer));
    }
