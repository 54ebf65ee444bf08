-- A zone holds during one stretch of an order.
use Rattle.std.proofs.Common.{◌≡◌, ◌≢◌, ⊎_elim, ℕ, zero, suc, Bool, true, false, ◌+◌, ◌-◌, ◌<◌, ◌≤◌, List, length, Some, refl, sym, ◌∙◌, ap, arith, slice_get, slice_index, take, get_or}
use Rattle.std.proofs.lemmas.Bool.{cases_eq, cases_lt, cases_Bool}
use Rattle.std.proofs.lemmas.List.{take_all}
use Rattle.packet.specs.Memory.{new_word, reply_to}
use Rattle.trace_laws.specs.declared.event.Call.{Call}
use Rattle.trace_laws.specs.declared.event.Event.{Event}
use Rattle.trace_laws.specs.Orders.{IsOrder, memory_of}
use Rattle.trace_laws.proofs.Lists.{within_length, take_push}
use Rattle.trace_laws.proofs.Memory.{word_changed, word_kept}
use Rattle.trace_laws.proofs.WordOrders.{word_of}
use Rattle.trace_zones.specs.Zones.{MayHaveFound, MayEnter, IsZone}

-- word w when n operations of the order have taken effect
abbrev pub word_at : List ℕ → ℕ → List Call → ℕ → ℕ
word_at opening w order n = word_of opening w (take n order)

-- what an operation finds at its place it may have found
pub finds_there : (opening : List ℕ) (trace : List Event) (order : List Call) → IsOrder opening trace order
    → (w x : ℕ) (c : Call) → slice_get order x ≡ Some c → c.operation.address ≡ w
    → MayHaveFound trace c (word_at opening w order x)
finds_there opening trace order o w x c at here = λ i reply answer. o.replies i x c reply at answer
    ∙ ap (λ (v : ℕ). reply_to c.operation.op (get_or (memory_of opening (take x order)) v 0)) here

-- and what it leaves
pub leaves_there : (opening : List ℕ) (order : List Call) (w x : ℕ) (c : Call) → w < length opening
    → slice_get order x ≡ Some c → c.operation.address ≡ w
    → word_at opening w order (suc x) ≡ new_word c.operation.op (word_at opening w order x)
leaves_there opening order w x c l at here =
    ap (λ (q : List Call). word_of opening w q) (take_push order x c at)
    ∙ word_changed opening (take x order) c w here l

-- an operation enters the set between two places
abbrev pub Enters : List ℕ → List Event → ℕ → (ℕ → Bool) → List Call → ℕ → ℕ → Type 0
Enters opening trace w set order m n = (x : ℕ) × (c : Call) × (m ≤ x) × (x < n) × (slice_get order x ≡ Some c)
    × MayEnter trace w set c × (set (word_at opening w order (suc x)) ≡ true)

false_true : {A : Type 0} (b : Bool) → b ≡ false → b ≡ true → A
false_true b out inner = absurd (cc)

-- one step
step : (opening : List ℕ) (trace : List Event) (order : List Call) → IsOrder opening trace order
    → (w : ℕ) → w < length opening → (set : ℕ → Bool) (x : ℕ) → set (word_at opening w order x) ≡ false
    → set (word_at opening w order (suc x)) ≡ true
    → (c : Call) × (slice_get order x ≡ Some c) × MayEnter trace w set c
step opening trace order o w l set x out inner = ⊎_elim {C = (c : Call) × (slice_get order x ≡ Some c) × MayEnter trace w set c}
    (λ (more : x < length order).
    let there = within_length order x more in
    let c : Call = there.0 in
    let at : slice_get order x ≡ Some c = there.1 in
    ⊎_elim {C = (c : Call) × (slice_get order x ≡ Some c) × MayEnter trace w set c}
    (λ (here : c.operation.address ≡ w). (
      c,
      at,
      (
        here,
        (
          word_at opening w order x,
          finds_there opening trace order o w x c at here,
          out,
          ap set (sym (leaves_there opening order w x c l at here)) ∙ inner,
        ),
      ),
    ))
    (λ (other : c.operation.address ≢ w). false_true (set (word_at opening w order x)) out
    (ap set (sym (ap (λ (q : List Call). word_of opening w q) (take_push order x c at)
    ∙ word_kept opening (take x order) c w (λ e. other (sym e)))) ∙ inner))
    (cases_eq c.operation.address w))
    (λ (none : length order ≤ x). false_true (set (word_at opening w order x)) out
    (ap (λ (q : List Call). set (word_of opening w q)) (take_all x order none
    ∙ sym (take_all (suc x) order (omega arith))) ∙ inner))
    (cases_lt x (length order))

-- what is outside first and inside later was entered between
pub entered : (opening : List ℕ) (trace : List Event) (order : List Call) → IsOrder opening trace order
    → (w : ℕ) → w < length opening → (set : ℕ → Bool) (m k n : ℕ) → n ≡ k + m
    → set (word_at opening w order m) ≡ false → set (word_at opening w order n) ≡ true
    → Enters opening trace w set order m n
entered opening trace order o w l set m zero n e out inner = false_true (set (word_at opening w order m)) out
    (ap (λ (i : ℕ). set (word_at opening w order i)) (let f : m ≡ n = omega arith in f) ∙ inner)
entered opening trace order o w l set m (suc k) n e out inner = ⊎_elim {C = Enters opening trace w set order m n}
    (λ (inside : set (word_at opening w order (k + m)) ≡ true).
    let r = entered opening trace order o w l set m k (k + m) refl out inside in
    let less = r.3 in
    (r.0, r.1, r.2, (omega arith), r.4, r.5, r.6))
    (λ (outside : set (word_at opening w order (k + m)) ≡ false).
    let there = ap (λ (i : ℕ). set (word_at opening w order i)) (let f : suc (k + m) ≡ n = omega arith in f) ∙ inner in
    let s = step opening trace order o w l set (k + m) outside there in
    (k + m, s.0, (omega arith), (omega arith), s.1, s.2, there))
    (cases_Bool (set (word_at opening w order (k + m))))

-- between two places
pub entered_between : (opening : List ℕ) (trace : List Event) (order : List Call) → IsOrder opening trace order
    → (w : ℕ) → w < length opening → (set : ℕ → Bool) (m n : ℕ) → m ≤ n
    → set (word_at opening w order m) ≡ false → set (word_at opening w order n) ≡ true
    → Enters opening trace w set order m n
entered_between opening trace order o w l set m n le out inner =
    entered opening trace order o w l set m (n - m) n (omega arith) out inner

-- a zone that was left isn't entered again
pub one_stretch : (opening : List ℕ) (trace : List Event) (order : List Call) → IsOrder opening trace order
    → (w : ℕ) → w < length opening → (set : ℕ → Bool) → IsZone (slice_index opening w) trace w set
    → (p q r : ℕ) → p ≤ q → q ≤ r → set (word_at opening w order p) ≡ true
    → set (word_at opening w order q) ≡ false → set (word_at opening w order r) ≡ true → ⊥
one_stretch opening trace order o w l set z p q r pq qr first then last =
    let late = entered_between opening trace order o w l set q r qr then last in
    let issue = o.issued late.0 late.1 late.4 in
    ⊎_elim {C = ⊥}
    (λ (there : set (word_at opening w order 0) ≡ true). z.none there issue.0 late.1 issue.1 late.5)
    (λ (outside : set (word_at opening w order 0) ≡ false).
    let early = entered_between opening trace order o w l set 0 p (omega arith) outside first in
    let issued = o.issued early.0 early.1 early.4 in
    let same = z.one issued.0 issue.0 early.1 late.1 issued.1 issue.1 early.5 late.5 in
    let place = o.once early.0 late.0 early.1 late.1 early.4 late.4 same in
    let less = early.3 in
    let more = late.2 in
    omega arith)
    (cases_Bool (set (word_at opening w order 0)))
