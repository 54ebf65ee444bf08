-- What an operation finds is among the values that are reached.
use Rattle.std.proofs.Common.{◌≡◌, ◌≢◌, inl, inr, ⊎_elim, ℕ, zero, suc, ◌+◌, ◌<◌, ◌≤◌, List, length, Some, refl, sym, ◌∙◌, ap, subst, arith, slice_get, get_or}
use Rattle.std.proofs.Common.{take}
use Rattle.std.specs.Prelude.{Contains}
use Rattle.std.proofs.lemmas.Bool.{cases_eq, cases_lt}
use Rattle.packet.specs.declared.kinds.Op.{Op}
use Rattle.packet.specs.declared.kinds.Op.TheVariants.{Load, Store, Swap, Cas, Add, And, Or, Xor, Max, Min}
use Rattle.packet.specs.declared.kinds.Reply.{Reply}
use Rattle.packet.specs.declared.kinds.Reply.TheVariants.{Old}
use Rattle.packet.specs.Memory.{new_word, reply_to}
use Rattle.trace_laws.specs.declared.event.Call.{Call}
use Rattle.trace_laws.specs.declared.event.Event.{Event}
use Rattle.trace_laws.specs.Traces.{IsTrace, TraceIssuesAt, TraceAnswersAt, IsUnanswered}
use Rattle.trace_laws.specs.Orders.{IsOn, IsOrder, memory_of}
use Rattle.trace_laws.proofs.Lists.{within_length, get_within, take_push}
use Rattle.trace_laws.proofs.Issues.{one_issue, one_call}
use Rattle.trace_laws.proofs.Memory.{word_changed, word_kept}
use Rattle.trace_text.specs.Allowed.{answered_so, IsAllowed}
use Rattle.trace_text.proofs.Allowing.{issue_before, issue_kept, answer_kept, answer_last}
use Rattle.trace_why.specs.declared.calls.CallAt.{CallAt}
use Rattle.trace_why.specs.Calls.{IsOpenOnWord, AreOpenOn, IsAnsweredOn, IsOver}
use Rattle.trace_why.specs.Values.{left_word, AreLeftBetween, IsStart, IsReachedIn}
use Rattle.trace_why.proofs.Places.{IsIn, in_contains, contains_in, without, length-without, in_without, without_in, answered_or_not}

-- what a reply tells of the word that was found
left_is : (op : Op) (reply : Reply) (u : ℕ) → reply ≡ reply_to op u → left_word op reply ≡ new_word op u
left_is Load reply u e = ap (left_word Load) e
left_is (Store v) reply u e = ap (left_word (Store v)) e
left_is (Swap v) reply u e = ap (left_word (Swap v)) e
left_is (Cas x y) reply u e = ap (left_word (Cas x y)) e
left_is (Add v) reply u e = ap (left_word (Add v)) e
left_is (And v) reply u e = ap (left_word (And v)) e
left_is (Or v) reply u e = ap (left_word (Or v)) e
left_is (Xor v) reply u e = ap (left_word (Xor v)) e
left_is (Max v) reply u e = ap (left_word (Max v)) e
left_is (Min v) reply u e = ap (left_word (Min v)) e

old_is : (op : Op) (v u : ℕ) → Old v ≡ reply_to op u → v ≡ u
old_is Load v u e = cc
old_is (Store w) v u e = absurd (cc)
old_is (Swap w) v u e = cc
old_is (Cas x y) v u e = cc
old_is (Add w) v u e = cc
old_is (And w) v u e = cc
old_is (Or w) v u e = cc
old_is (Xor w) v u e = cc
old_is (Max w) v u e = cc
old_is (Min w) v u e = cc

-- a value that is there is reached
reached_base : (values : List ℕ) (calls : List CallAt) (n v : ℕ) → Contains values v → IsReachedIn values calls n v
reached_base values calls zero v h = h
reached_base values calls (suc n) v h = inl (reached_base values calls n v h)

-- the word after so many operations of an order
abbrev word_at : List ℕ → List Call → ℕ → ℕ → ℕ
word_at opening order w y = get_or (memory_of opening (take y order)) w 0

step_other : (opening : List ℕ) (order : List Call) (w y : ℕ) (d : Call) → slice_get order y ≡ Some d → w ≢ d.operation.address
    → word_at opening order w (suc y) ≡ word_at opening order w y
step_other opening order w y d h ne =
    ap (λ (cs : List Call). get_or (memory_of opening cs) w 0) (take_push order y d h)
    ∙ word_kept opening (take y order) d w ne

step_here : (opening : List ℕ) (order : List Call) (w y : ℕ) (d : Call) → slice_get order y ≡ Some d → d.operation.address ≡ w → w < length opening
    → word_at opening order w (suc y) ≡ new_word d.operation.op (word_at opening order w y)
step_here opening order w y d h here low =
    ap (λ (cs : List Call). get_or (memory_of opening cs) w 0) (take_push order y d h)
    ∙ word_changed opening (take y order) d w here low

-- an order explains the answer of another value to an operation at event k
pub record Answering (opening : List ℕ) (trace : List Event) (k v : ℕ) (issue : CallAt) (from : ℕ) (base : List ℕ) (pending : List CallAt)
    (order : List Call) : Type 0 where
  pub t : IsTrace (length opening) trace
  pub told : Reply
  pub on : IsAnsweredOn trace k issue.call.operation.address issue told
  pub low : issue.call.operation.address < length opening
  pub starts : IsStart opening trace issue.call.operation.address issue.event base from
  pub left : AreLeftBetween trace from k issue.call.operation.address base
  pub opens : AreOpenOn trace k issue.call.operation.address pending
  pub is : IsOrder opening (answered_so trace k issue.call.id (Old v)) order

-- the place of an operation that is answered before event k
placed : (opening : List ℕ) (trace : List Event) (k v : ℕ) (issue : CallAt) (order : List Call) → IsTrace (length opening) trace
    → IsOrder opening (answered_so trace k issue.call.id (Old v)) order → (c : CallAt) → TraceIssuesAt trace c.event c.call
    → IsOn order c.call.id → (x : ℕ) × (slice_get order x ≡ Some c.call)
placed opening trace k v issue order t is c at on =
    let was = is.issued on.0 on.1 on.2 in
    let here = issue_before trace k issue.call.id (Old v) was.0 on.1 was.1 in
    let same : on.1 ≡ c.call = one_call (length opening) trace t was.0 c.event on.1 c.call here.1 at on.3 in
    (on.0, subst (λ (d : Call). slice_get order on.0 ≡ Some d) same on.2)

-- a place from which on the operations of the order tell all that counts
record Begun (opening : List ℕ) (trace : List Event) (k v : ℕ) (issue : CallAt) (from : ℕ) (base : List ℕ) (order : List Call) (x : ℕ) : Type 0 where
  pub at : ℕ
  pub early : at ≤ x
  pub word : Contains base (word_at opening order issue.call.operation.address at)
  pub late : (i y : ℕ) (d : Call) (reply : Reply) → at ≤ y → slice_get order y ≡ Some d → i < k → TraceAnswersAt trace i d.id reply → from ≤ i

-- what an operation of the order left, which is answered before event k
left_here : (opening : List ℕ) (trace : List Event) (k v : ℕ) (issue : CallAt) (from : ℕ) (base : List ℕ) (pending : List CallAt) (order : List Call)
    → Answering opening trace k v issue from base pending order → (y i j : ℕ) (d : Call) (reply : Reply) → slice_get order y ≡ Some d
    → d.operation.address ≡ issue.call.operation.address → from ≤ i → i < k → TraceAnswersAt trace i d.id reply → TraceIssuesAt trace j d
    → Contains base (word_at opening order issue.call.operation.address (suc y))
left_here opening trace k v issue from base pending order f y i j d reply h here late low at issued =
    let w = issue.call.operation.address in
    let before = f.t.issued i d.id reply at in
    let same : before.0 ≡ j = one_issue (length opening) trace f.t before.0 j before.1 d before.4 issued before.3 in
    let early : j < i = subst (λ (n : ℕ). n < i) same before.2 in
    let on : IsAnsweredOn trace i w (record { event = j; call = d }) reply = record { answer = at; issue = issued; early = early; here = here } in
    let there = f.left i (record { event = j; call = d }) reply late low on in
    let told : reply ≡ reply_to d.operation.op (get_or (memory_of opening (take y order)) d.operation.address 0) =
    f.is.replies i y d reply h (answer_kept trace k issue.call.id (Old v) i d.id reply low at) in
    let found : reply ≡ reply_to d.operation.op (word_at opening order w y) =
    subst (λ (a : ℕ). reply ≡ reply_to d.operation.op (get_or (memory_of opening (take y order)) a 0)) here told in
    subst (λ (u : ℕ). Contains base u)
    (left_is d.operation.op reply (word_at opening order w y) found ∙ sym (step_here opening order w y d h here f.low)) there

begun : (opening : List ℕ) (trace : List Event) (k v : ℕ) (issue : CallAt) (from : ℕ) (base : List ℕ) (pending : List CallAt) (order : List Call)
    → Answering opening trace k v issue from base pending order → (x : ℕ) → slice_get order x ≡ Some issue.call
    → Begun opening trace k v issue from base order x
begun opening trace k v issue from base pending order f x h =
    let w = issue.call.operation.address in
    ⊎_elim {C = Begun opening trace k v issue from base order x}
    (λ (s : (from ≡ 0) × Contains base (get_or opening w 0)). record {
      at = 0;
      early = omega arith;
      word = s.1;
      late = λ i y d reply l g m a. let e = s.0 in omega arith;
    })
    (λ (s : (c : CallAt) × IsOver trace issue.event w c × (c.event ≡ from)).
    let c = s.0 in
    let over = s.1 in
    let i = over.0 in
    let reply = over.1 in
    let before = over.2 in
    let on = over.3 in
    let sooner = f.on.early in
    let first = on.early in
    let low : i < k = omega arith in
    let answer = answer_kept trace k issue.call.id (Old v) i c.call.id reply low on.answer in
    let z = placed opening trace k v issue order f.t f.is c on.issue (f.is.answered i c.call.id reply answer) in
    let ahead : z.0 < x =
    f.is.real_time i issue.event z.0 x c.call issue.call reply before answer
    (issue_kept trace k issue.call.id (Old v) issue.event issue.call f.on.early f.on.issue) z.1 h in
    let e = s.2 in
    record {
      at = suc z.0;
      early = omega arith;
      word = left_here opening trace k v issue from base pending order f z.0 i c.event c.call reply z.1 on.here (omega arith) low on.answer on.issue;
      late = λ n y d told l g m a. ⊎_elim {C = from ≤ n}
          (λ (wrong : n < from).
          let behind = f.is.real_time n c.event y z.0 d c.call told (omega arith)
          (answer_kept trace k issue.call.id (Old v) n d.id told m a)
          (issue_kept trace k issue.call.id (Old v) c.event c.call (omega arith) on.issue) g z.1 in omega arith)
          (λ right. right)
          (cases_lt n from);
    })
    f.starts

-- an order reaches its words: by operations that are answered, and by some of those that are open
reaches : (opening : List ℕ) (trace : List Event) (k v : ℕ) (issue : CallAt) (from : ℕ) (base : List ℕ) (pending : List CallAt) (order : List Call)
    → Answering opening trace k v issue from base pending order → (x : ℕ) → slice_get order x ≡ Some issue.call
    → (b : Begun opening trace k v issue from base order x) → (m y : ℕ) → y ≡ b.at + m → y ≤ x → (some : List CallAt)
    → ((c : CallAt) → IsIn some c → Contains pending c)
    → ((p : ℕ) (c : CallAt) → p < y → b.at ≤ p → slice_get order p ≡ Some c.call → IsOpenOnWord trace k issue.call.operation.address c → IsIn some c)
    → IsReachedIn base pending (length some) (word_at opening order issue.call.operation.address y)
reaches opening trace k v issue from base pending order f x h b zero y e below some sub has =
    let same : y ≡ b.at = omega arith in
    reached_base base pending (length some) _
    (subst (λ (n : ℕ). Contains base (word_at opening order issue.call.operation.address n)) (sym same) b.word)
reaches opening trace k v issue from base pending order f x h b (suc m) y e below some sub has =
    let w = issue.call.operation.address in
    let p : ℕ = b.at + m in
    let next : y ≡ suc p = omega arith in
    let inside = get_within order x issue.call h in
    let there = within_length order p (omega arith) in
    let d = there.0 in
    let was = f.is.issued p d there.1 in
    let issued = issue_before trace k issue.call.id (Old v) was.0 d was.1 in
    let R : ℕ → Type 0 = λ u. IsReachedIn base pending (length some) u in
    ⊎_elim {C = IsReachedIn base pending (length some) (word_at opening order w y)}
    (λ (here : d.operation.address ≡ w). ⊎_elim {C = IsReachedIn base pending (length some) (word_at opening order w y)}
    (λ (a : (i : ℕ) × (reply : Reply) × (i < k) × TraceAnswersAt trace i d.id reply).
    subst (λ (n : ℕ). IsReachedIn base pending (length some) (word_at opening order w n)) (sym next)
    (reached_base base pending (length some) _
    (left_here opening trace k v issue from base pending order f p a.0 was.0 d a.1 there.1 here
    (b.late a.0 p d a.1 (omega arith) there.1 a.2 a.3) a.2 a.3 issued.1)))
    (λ (u : IsUnanswered trace k d.id).
    let c : CallAt = record { event = was.0; call = d } in
    let still : IsOpenOnWord trace k w c = record { early = issued.0; issue = issued.1; here = here; unanswered = u } in
    let spot = has p c (omega arith) (omega arith) there.1 still in
    let shorter = length-without some spot.0 c spot.1 in
    let before : IsReachedIn base pending (length (without some spot.0)) (word_at opening order w p) =
    reaches opening trace k v issue from base pending order f x h b m p refl (omega arith) (without some spot.0)
    (λ o i. sub o (without_in some spot.0 o i))
    (λ q o l late g pend.
    in_without some spot.0 c o spot.1
    (λ (same : c ≡ o).
    let twice : p ≡ q = f.is.once p q d o.call there.1 g (ap (λ (z : CallAt). z.call.id) same) in omega arith)
    (has q o (omega arith) late g pend)) in
    let reached : IsReachedIn base pending (suc (length (without some spot.0))) (new_word d.operation.op (word_at opening order w p)) =
    inr (word_at opening order w p, c, before, sub c spot, refl) in
    let word : new_word d.operation.op (word_at opening order w p) ≡ word_at opening order w y =
    sym (step_here opening order w p d there.1 here f.low) ∙ ap (word_at opening order w) (sym next) in
    subst (λ (n : ℕ). IsReachedIn base pending n (word_at opening order w y)) shorter
    (subst (λ (u : ℕ). IsReachedIn base pending (suc (length (without some spot.0))) u) word reached))
    (answered_or_not trace k d.id))
    (λ (other : d.operation.address ≢ w).
    let word : word_at opening order w p ≡ word_at opening order w y =
    sym (step_other opening order w p d there.1 (λ same. other (sym same))) ∙ ap (word_at opening order w) (sym next) in
    subst (λ (u : ℕ). IsReachedIn base pending (length some) u) word
    (reaches opening trace k v issue from base pending order f x h b m p refl (omega arith) some sub
    (λ q o l late g pend. has q o (omega arith) late g pend)))
    (cases_eq d.operation.address w)

-- a value that an answer may tell is reached
pub allowed_reached : (opening : List ℕ) (trace : List Event) (k v : ℕ) (issue : CallAt) (from : ℕ) (base : List ℕ) (pending : List CallAt)
    → IsTrace (length opening) trace → (told : Reply) → IsAnsweredOn trace k issue.call.operation.address issue told
    → IsStart opening trace issue.call.operation.address issue.event base from
    → AreLeftBetween trace from k issue.call.operation.address base → AreOpenOn trace k issue.call.operation.address pending
    → IsAllowed opening trace k issue.call.id (Old v) → IsReachedIn base pending (length pending) v
allowed_reached opening trace k v issue from base pending t told on starts left opens is =
    let w = issue.call.operation.address in
    let order = is.0 in
    let f : Answering opening trace k v issue from base pending order = record {
      t = t;
      told = told;
      on = on;
      low = t.inside issue.event issue.call on.issue;
      starts = starts;
      left = left;
      opens = opens;
      is = is.1;
    } in
    let last = answer_last trace k issue.call.id (Old v) told on.answer in
    let x = placed opening trace k v issue order t is.1 issue on.issue (is.1.answered k issue.call.id (Old v) last) in
    let b = begun opening trace k v issue from base pending order f x.0 x.1 in
    let early = b.early in
    let way = reach_gap b.at x.0 early in
    let found : v ≡ word_at opening order w x.0 = old_is issue.call.operation.op v (word_at opening order w x.0)
    (is.1.replies k x.0 issue.call (Old v) x.1 last) in
    subst (λ (u : ℕ). IsReachedIn base pending (length pending) u) (sym found)
    (reaches opening trace k v issue from base pending order f x.0 x.1 b way.0 x.0 way.1 (omega arith) pending
    (λ c i. in_contains pending c i)
    (λ p c l late g pend. contains_in pending c (opens.all c pend)))
  where
    reach_gap : (a x : ℕ) → a ≤ x → (m : ℕ) × (x ≡ a + m)
    reach_gap zero x l = (x, omega arith)
    reach_gap (suc a) zero l = absurd (omega arith)
    reach_gap (suc a) (suc x) l = let r = reach_gap a x (omega arith) in (r.0, let e = r.1 in omega arith)

-- where the words begin, with more values
pub start_kept : (opening : List ℕ) (trace : List Event) (w n : ℕ) (old new : List ℕ) (from : ℕ) → ((v : ℕ) → Contains old v → Contains new v)
    → IsStart opening trace w n old from → IsStart opening trace w n new from
start_kept opening trace w n old new from keeps s = ⊎_elim {C = IsStart opening trace w n new from}
    (λ (a : (from ≡ 0) × Contains old (get_or opening w 0)). inl (a.0, keeps (get_or opening w 0) a.1))
    (λ (b : (c : CallAt) × IsOver trace n w c × (c.event ≡ from)). inr b)
    s
