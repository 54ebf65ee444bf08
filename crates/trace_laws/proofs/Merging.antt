-- One order for each word, merged into one order of all.
use Rattle.std.proofs.Common.{◌≡◌, ◌≢◌, ◌⊎◌, ⊎_elim, ℕ, zero, suc, ◌+◌, ◌<◌, ◌≤◌, List, [], ◌∷◌, ◌++◌, length, Some, None, refl, sym, ◌∙◌, ap}
use Rattle.std.proofs.Common.{subst, arith, slice_get, take, get_or}
use Rattle.std.proofs.lemmas.Bool.{cases_eq, cases_lt}
use Rattle.packet.specs.declared.kinds.Reply.{Reply}
use Rattle.packet.specs.Memory.{new_word, reply_to, reply_of_one}
use Rattle.trace_laws.specs.declared.event.Call.{Call}
use Rattle.trace_laws.specs.declared.event.Event.{Event}
use Rattle.trace_laws.specs.declared.event.Event.TheVariants.{Issue, Answer}
use Rattle.trace_laws.specs.Traces.{IsTrace, TraceIssuesAt, TraceAnswersAt, IsUnanswered}
use Rattle.trace_laws.specs.Orders.{IsOn, IsLinearizable, memory_of}
use Rattle.trace_laws.specs.Legal.{Legal}
use Rattle.trace_laws.specs.Locality.{IsOrderOn, IsLinearizableOn}
use Rattle.trace_laws.proofs.Lists.{get_push, within_length, get_within, take_push}
use Rattle.trace_laws.proofs.Issues.{one_call, on_push}
use Rattle.trace_laws.proofs.Legal.{legal_none, legal_issue, legal_answer, legal_effect, legal_all, push_on}
use Rattle.trace_laws.proofs.Memory.{word_changed, word_kept}
use Rattle.trace_laws.proofs.WordOrders.{word_of}
use Rattle.trace_laws.proofs.Fronts.{with_front, front_same, front_other}

-- each word has its order
abbrev HaveOrders : List ℕ → List Event → (ℕ → List Call) → Type 0
HaveOrders opening trace orders = (w : ℕ) → w < length opening → IsOrderOn w opening trace (orders w)

-- Before event k the first operations of each word's order are in the one order, and they alone; each word is as its
-- own order leaves it, and what is left of the orders isn't answered yet.
record IsMerged (opening : List ℕ) (trace : List Event) (orders : ℕ → List Call) (k : ℕ) (fronts : ℕ → ℕ)
    (order : List Call) : Type 0 where
  pub legal : Legal opening trace k order
  pub words : (w : ℕ) → w < length opening
      → word_of opening w order ≡ word_of opening w (take (fronts w) (orders w))
  pub taken : (w x : ℕ) (c : Call) → w < length opening → x < fronts w → slice_get (orders w) x ≡ Some c
      → IsOn order c.id
  pub left : (w x : ℕ) (c : Call) → w < length opening → fronts w ≤ x → slice_get (orders w) x ≡ Some c
      → IsOn order c.id → ⊥
  pub later : (w x : ℕ) (c : Call) → w < length opening → fronts w ≤ x → slice_get (orders w) x ≡ Some c
      → IsUnanswered trace k c.id

merged_none : (opening : List ℕ) (trace : List Event) (orders : ℕ → List Call)
    → IsMerged opening trace orders 0 (λ w. 0) []
merged_none opening trace orders = record {
  legal = legal_none opening trace;
  words = λ w l. refl;
  taken = λ w x c l less h. absurd (omega arith);
  left = λ w x c l less h on. let e : None ≡ Some on.1 = on.2 in cc;
  later = λ w x c l less h i reply answer. omega arith;
}

-- the next operation of a word's order takes effect
merged_effect : (opening : List ℕ) (trace : List Event) → IsTrace (length opening) trace
    → (orders : ℕ → List Call)
    → HaveOrders opening trace orders → (k : ℕ) (fronts : ℕ → ℕ) (order : List Call)
    → IsMerged opening trace orders k fronts order
    → (w : ℕ) → w < length opening → (d : Call) → slice_get (orders w) (fronts w) ≡ Some d → (i : ℕ) → i < k
    → TraceIssuesAt trace i d
    → IsMerged opening trace orders k (with_front fronts w (suc (fronts w))) (order ++ d ∷ [])
merged_effect opening trace t orders all k fronts order m w inside d at i early issue = record {
  legal = legal_effect (length opening) opening trace t k order d i early issue
      (m.later w n d inside (omega arith) at)
      (m.left w n d inside (omega arith) at)
      (λ j reply h. own.replies j n d reply at h ∙ found)
      m.legal;
  words = λ v l. ⊎_elim {C = word_of opening v (order ++ d ∷ []) ≡ word_of opening v (take (next v) (orders v))}
      (λ (e : v ≡ w). changed v e l)
      (λ (ne : v ≢ w). word_kept opening order d v (λ e. ne (e ∙ here))
      ∙ (m.words v l ∙ ap (λ (p : ℕ). word_of opening v (take p (orders v)))
      (sym (front_other fronts w (suc n) v ne))))
      (cases_eq v w);
  taken = λ v x c l less h. ⊎_elim {C = IsOn (order ++ d ∷ []) c.id}
      (λ (e : v ≡ w). one_more v x c e l (subst (λ (p : ℕ). x < p) (front_same fronts w (suc n) v e) less) h)
      (λ (ne : v ≢ w). on_push order d c.id
      (m.taken v x c l (subst (λ (p : ℕ). x < p) (front_other fronts w (suc n) v ne) less) h))
      (cases_eq v w);
  left = λ v x c l less h on. ⊎_elim {C = ⊥}
      (λ (e : v ≡ w). still_left v x c e l (subst (λ (p : ℕ). p ≤ x) (front_same fronts w (suc n) v e) less) h on)
      (λ (ne : v ≢ w). m.left v x c l (subst (λ (p : ℕ). p ≤ x) (front_other fronts w (suc n) v ne) less) h
      (push_on order d c.id on (λ same. ne (of_one_word v x c l h same))))
      (cases_eq v w);
  later = λ v x c l less h. ⊎_elim {C = IsUnanswered trace k c.id}
      (λ (e : v ≡ w).
      let more : suc n ≤ x = subst (λ (p : ℕ). p ≤ x) (front_same fronts w (suc n) v e) less in
      let f : fronts v ≡ n = ap fronts e in
      m.later v x c l (omega arith) h)
      (λ (ne : v ≢ w). m.later v x c l (subst (λ (p : ℕ). p ≤ x) (front_other fronts w (suc n) v ne) less) h)
      (cases_eq v w);
}
  where
    n : ℕ
    n = fronts w

    next : ℕ → ℕ
    next = with_front fronts w (suc (fronts w))

    own : IsOrderOn w opening trace (orders w)
    own = all w inside

    here : d.operation.address ≡ w
    here = (all w inside).here (fronts w) d at

    found : reply_of_one d.operation (memory_of opening (take (fronts w) (orders w))) ≡ reply_of_one d.operation
        (memory_of opening order)
    found =
        ap (λ (v : ℕ). reply_to d.operation.op (get_or (memory_of opening (take (fronts w) (orders w))) v 0)) here
        ∙ (ap (λ (v : ℕ). reply_to d.operation.op v) (sym (m.words w inside))
        ∙ ap (λ (v : ℕ). reply_to d.operation.op (get_or (memory_of opening order) v 0)) (sym here))

    changed : (v : ℕ) → v ≡ w → v < length opening
        → word_of opening v (order ++ d ∷ []) ≡ word_of opening v
        (take (with_front fronts w (suc (fronts w)) v) (orders v))
    changed v e l =
        let there : slice_get (orders v) (fronts v) ≡ Some d = ap (λ (u : ℕ). slice_get (orders u) (fronts u)) e
        ∙ at in
        let on : d.operation.address ≡ v = here ∙ sym e in
        let f : suc (fronts v) ≡ with_front fronts w (suc (fronts w)) v = ap (λ (u : ℕ). suc (fronts u)) e ∙ sym
        (front_same fronts w (suc (fronts w)) v e) in
        word_changed opening order d v on l
        ∙ (ap (λ (u : ℕ). new_word d.operation.op u) (m.words v l)
        ∙ (sym (word_changed opening (take (fronts v) (orders v)) d v on l)
        ∙ (ap (λ (q : List Call). word_of opening v q) (sym (take_push (orders v) (fronts v) d there))
        ∙ ap (λ (p : ℕ). word_of opening v (take p (orders v))) f)))

    one_more : (v x : ℕ) (c : Call) → v ≡ w → v < length opening → x < suc (fronts w)
        → slice_get (orders v) x ≡ Some c → IsOn (order ++ d ∷ []) c.id
    one_more v x c e l less h = ⊎_elim {C = IsOn (order ++ d ∷ []) c.id}
        (λ (same : x ≡ fronts w).
        let there : slice_get (orders w) (fronts w) ≡ Some c = ap (λ (u : ℕ). slice_get (orders w) u) (sym same) ∙
        (ap (λ (u : ℕ). slice_get (orders u) x) (sym e) ∙ h) in
        let one : d ≡ c = cc in
        (length order, d, get_push order d, ap (λ (f : Call). f.id) one))
        (λ (ne : x ≢ fronts w).
        let f : fronts v ≡ fronts w = ap fronts e in
        on_push order d c.id (m.taken v x c l (omega arith) h))
        (cases_eq x (fronts w))

    still_left : (v x : ℕ) (c : Call) → v ≡ w → v < length opening → suc (fronts w) ≤ x
        → slice_get (orders v) x ≡ Some c → IsOn (order ++ d ∷ []) c.id → ⊥
    still_left v x c e l less h on =
        let f : fronts v ≡ fronts w = ap fronts e in
        let there : slice_get (orders w) x ≡ Some c = ap (λ (u : ℕ). slice_get (orders u) x) (sym e) ∙ h in
        m.left v x c l (omega arith) h
        (push_on order d c.id on
        (λ same. let place = (all w inside).once (fronts w) x d c at there same in omega arith))

    of_one_word : (v x : ℕ) (c : Call) → v < length opening → slice_get (orders v) x ≡ Some c → d.id ≡ c.id
        → v ≡ w
    of_one_word v x c l h same =
        let j = (all v l).issued x c h in
        let one = one_call (length opening) trace t i j.0 d c issue j.1 same in
        sym ((all v l).here x c h) ∙ (ap (λ (f : Call). f.operation.address) (sym one) ∙ here)

-- what stands in a word's order up to what is answered at event k was issued before
issued_early : (w : ℕ) (opening : List ℕ) (trace : List Event) (order : List Call)
    → IsOrderOn w opening trace order
    → (k : ℕ) (a : Call) (reply : Reply) → TraceAnswersAt trace k a.id reply → (x : ℕ)
    → slice_get order x ≡ Some a
    → (n : ℕ) (d : Call) → n ≤ x → slice_get order n ≡ Some d → (i : ℕ) × (i < k) × TraceIssuesAt trace i d
issued_early w opening trace order o k a reply now x at n d l h =
    let issue = o.issued n d h in
    let i = issue.0 in
    let ne : i ≢ k = λ e.
    let there : slice_get trace i ≡ Some (Answer a.id reply) = ap (λ (j : ℕ). slice_get trace j) e ∙ now in
    let also : slice_get trace i ≡ Some (Issue d) = issue.1 in
    cc in
    ⊎_elim {C = (j : ℕ) × (j < k) × TraceIssuesAt trace j d}
    (λ (early : i < k). (i, early, issue.1))
    (λ (late : k ≤ i). absurd
    (let wrong = o.real_time k i x n a d reply (omega arith) now issue.1 at h in omega arith))
    (cases_lt i k)

-- a merge before event k
abbrev Merged : List ℕ → List Event → (ℕ → List Call) → ℕ → Type 0
Merged opening trace orders k = (fronts : ℕ → ℕ) × (order : List Call) × IsMerged opening trace orders k fronts order

-- the operations of a word's order take effect up to one that is answered next
merged_up_to : (opening : List ℕ) (trace : List Event) → IsTrace (length opening) trace
    → (orders : ℕ → List Call)
    → HaveOrders opening trace orders → (k : ℕ) (w : ℕ) → w < length opening → (a : Call) (reply : Reply)
    → TraceAnswersAt trace k a.id reply
    → (x : ℕ) → slice_get (orders w) x ≡ Some a → (fuel : ℕ) (fronts : ℕ → ℕ) (order : List Call)
    → suc x ≤ fronts w + fuel
    → IsMerged opening trace orders k fronts order
    → (later : ℕ → ℕ) × (longer : List Call) × (x < later w) × IsMerged opening trace orders k later longer
merged_up_to opening trace t orders all k w inside a reply now x at zero fronts order enough m =
    (fronts, order, (omega arith), m)
merged_up_to opening trace t orders all k w inside a reply now x at (suc fuel) fronts order enough m =
    ⊎_elim {C = (later : ℕ → ℕ) × (longer : List Call) × (x < later w) × IsMerged opening trace orders k later longer}
    (λ (done : x < fronts w). (fronts, order, done, m))
    (λ (more : fronts w ≤ x).
    let short = get_within (orders w) x a at in
    let d = within_length (orders w) (fronts w) (omega arith) in
    let issue = issued_early w opening trace (orders w) (all w inside) k a reply now x at (fronts w) d.0 more d.1 in
    let f = front_same fronts w (suc (fronts w)) w refl in
    merged_up_to opening trace t orders all k w inside a reply now x at fuel (with_front fronts w (suc (fronts w)))
    (order ++ d.0 ∷ [])
    (omega arith)
    (merged_effect opening trace t orders all k fronts order m w inside d.0 d.1 issue.0 issue.1 issue.2))
    (cases_lt x (fronts w))

-- an operation is issued
merged_issue : (opening : List ℕ) (trace : List Event) (orders : ℕ → List Call) (k : ℕ) (b : Call)
    → TraceIssuesAt trace k b
    → Merged opening trace orders k → Merged opening trace orders (suc k)
merged_issue opening trace orders k b now (fronts, order, m) = (
  fronts,
  order,
  record {
    legal = legal_issue opening trace k order b now m.legal;
    words = m.words;
    taken = m.taken;
    left = m.left;
    later = λ w x c l less h i reply answer.
        let late = m.later w x c l less h i reply answer in
        let ne : i ≢ k = λ e.
        let there : slice_get trace k ≡ Some (Answer c.id reply) = ap (λ (j : ℕ). slice_get trace j) (sym e)
        ∙ answer in
        let also : slice_get trace k ≡ Some (Issue b) = now in
        cc in
        omega arith;
  },
)

-- an operation of the order is answered
merged_answer : (opening : List ℕ) (trace : List Event) (orders : ℕ → List Call) (k id : ℕ) (reply : Reply)
    → TraceAnswersAt trace k id reply
    → (fronts : ℕ → ℕ) (order : List Call) → IsOn order id → IsMerged opening trace orders k fronts order
    → Merged opening trace orders (suc k)
merged_answer opening trace orders k id reply now fronts order on m = (
  fronts,
  order,
  record {
    legal = legal_answer opening trace k order id reply now on m.legal;
    words = m.words;
    taken = m.taken;
    left = m.left;
    later = λ w x c l less h i told answer.
        let late = m.later w x c l less h i told answer in
        let ne : i ≢ k = λ e.
        let there : slice_get trace k ≡ Some (Answer c.id told) = ap (λ (j : ℕ). slice_get trace j) (sym e)
        ∙ answer in
        let also : slice_get trace k ≡ Some (Answer id reply) = now in
        let same : id ≡ c.id = cc in
        m.left w x c l less h (on.0, on.1, on.2, on.3 ∙ same) in
        omega arith;
  },
)

-- the next event happens
merged_event : (opening : List ℕ) (trace : List Event) → IsTrace (length opening) trace
    → (orders : ℕ → List Call)
    → HaveOrders opening trace orders → (k : ℕ) → Merged opening trace orders k → (event : Event)
    → slice_get trace k ≡ Some event
    → Merged opening trace orders (suc k)
merged_event opening trace t orders all k m (Issue b) now = merged_issue opening trace orders k b now m
merged_event opening trace t orders all k m (Answer id reply) now =
    let issue = t.issued k id reply now in
    let a : Call = issue.1 in
    let w = a.operation.address in
    let inside : w < length opening = t.inside issue.0 a issue.4 in
    let told : TraceAnswersAt trace k a.id reply = subst (λ (v : ℕ). TraceAnswersAt trace k v reply) (sym issue.3) now in
    let on : IsOn (orders w) a.id = (all w inside).answered issue.0 k a reply issue.4 refl told in
    let c : Call = on.1 in
    let answer : TraceAnswersAt trace k c.id reply = subst (λ (v : ℕ). TraceAnswersAt trace k v reply) (sym on.3) told in
    let r = merged_up_to opening trace t orders all k w inside c reply answer on.0 on.2 (suc on.0) m.0 m.1
    (omega arith) m.2 in
    let there : IsOn r.1 c.id = r.3.taken w on.0 c inside r.2 on.2 in
    let same : c.id ≡ id = on.3 ∙ issue.3 in
    merged_answer opening trace orders k id reply now r.0 r.1 (subst (λ (v : ℕ). IsOn r.1 v) same there) r.3

merged_all : (opening : List ℕ) (trace : List Event) → IsTrace (length opening) trace → (orders : ℕ → List Call)
    → HaveOrders opening trace orders → (k : ℕ) → k ≤ length trace → Merged opening trace orders k
merged_all opening trace t orders all zero l = ((λ w. 0), [], merged_none opening trace orders)
merged_all opening trace t orders all (suc k) l =
    let event = within_length trace k (omega arith) in
    merged_event opening trace t orders all k (merged_all opening trace t orders all k (omega arith)) event.0 event.1

-- where each word has an order, they all have one
pub one_order : (opening : List ℕ) (trace : List Event) → IsTrace (length opening) trace
    → ((w : ℕ) → w < length opening → IsLinearizableOn w opening trace) → IsLinearizable opening trace
one_order opening trace t each =
    let m = merged_all opening trace t (λ w. (chosen w).0) (λ w l. (chosen w).1 l) (length trace) (omega arith) in
    (m.1, legal_all opening trace (length trace) m.1 (omega arith) m.2.legal)
  where
    chosen : (w : ℕ) → (order : List Call) × (w < length opening → IsOrderOn w opening trace order)
    chosen w = ⊎_elim {C = (order : List Call) × (w < length opening → IsOrderOn w opening trace order)}
        (λ (l : w < length opening). ((each w l).0, λ again. (each w l).1))
        (λ (g : length opening ≤ w). ([], λ l. absurd (omega arith)))
        (cases_lt w (length opening))
