-- Operations with their places, and the sources that they keep.
use Rattle.std.proofs.Common.{◌≡◌, ℕ, ◌<◌, List, length, sym, ap, subst, ◌∙◌}
use Rattle.memory_models.specs.declared.kinds.Kind.{Kind}
use Rattle.memory_models.specs.declared.kinds.Operation.{Operation}
use Rattle.memory_models.specs.Order.{IsMemoryOrder}
use Rattle.model_values.specs.declared.question.Unordered.{Unordered}
use Rattle.model_values.specs.Known.{AgreesWith, AreSettled}
use Rattle.model_values.specs.Placed.{ArePlacedBy, IsSame, KeepsSource, ListsWrites, count_below, place_by, writes_at}
use Rattle.model_values.specs.Unordered.{IsToldAt, IsPlacing, IsOrderOf}
use Rattle.model_values.proofs.Settled.{settled_is}

pub same_of : (ops : List Operation) (sources table : List ℕ) (level : ℕ) (placed : List Operation) → ArePlacedBy ops sources table level placed
    → (x : ℕ) → x < length ops → IsSame ops placed x
same_of ops sources table level placed by x low =
    let at = by.each x low in
    record {
      processor = ap (λ (o : Operation). o.processor) at;
      kind = ap (λ (o : Operation). o.kind) at;
      word = ap (λ (o : Operation). o.word) at;
      fence = λ fence. ap (λ (o : Operation). o.place) at ∙ ap (λ (k : Kind). place_by ops sources table level x k) fence;
    }

pub told_of : (ops : List Operation) (sources : List ℕ) (placed : List Operation) (writes : List ℕ) (x : ℕ) → IsSame ops placed x
    → KeepsSource ops sources placed writes x → IsToldAt ops sources placed writes x
told_of ops sources placed writes x same keeps = record {
  processor = same.processor;
  kind = same.kind;
  word = same.word;
  read = keeps.read;
  next = keeps.next;
  fence = same.fence;
}

pub told_to : (ops : List Operation) (sources : List ℕ) (placed : List Operation) (writes : List ℕ) (x : ℕ)
    → IsToldAt ops sources placed writes x → KeepsSource ops sources placed writes x
told_to ops sources placed writes x told = record { read = told.read; next = told.next }

-- where the places by what is known keep not all sources, or no order is one with them, no order explains the trace
pub no_placing : (q : Unordered) (table : List ℕ) (level : ℕ) (mine : List Operation) (written : List ℕ)
    → AreSettled q.operations.now table level → ArePlacedBy q.operations.now q.sources.now table level mine
    → ((others : List ℕ) → ListsWrites mine (count_below (writes_at q.operations.now) (length q.operations.now)) others → written ≡ others)
    → (IsPlacing q.operations.now q.sources.now q.words q.openings q.closing mine written → ⊥)
    → (turn : ℕ → ℕ) → IsOrderOf q turn → AgreesWith table (length q.operations.now) level turn → ⊥
no_placing q table level mine written settled placed listed not turn order agrees =
    not (settled_is q.rules.now q.operations.now q.sources.now q.words q.openings q.closing turn table level order agrees settled mine written placed listed).0

pub no_order : (q : Unordered) (table : List ℕ) (level : ℕ) (mine : List Operation) (written : List ℕ)
    → AreSettled q.operations.now table level → ArePlacedBy q.operations.now q.sources.now table level mine
    → ((others : List ℕ) → ListsWrites mine (count_below (writes_at q.operations.now) (length q.operations.now)) others → written ≡ others)
    → ((turn : ℕ → ℕ) → IsMemoryOrder q.rules.now mine written turn → ⊥)
    → (turn : ℕ → ℕ) → IsOrderOf q turn → AgreesWith table (length q.operations.now) level turn → ⊥
no_order q table level mine written settled placed listed not turn order agrees =
    not turn (settled_is q.rules.now q.operations.now q.sources.now q.words q.openings q.closing turn table level order agrees settled mine written placed listed).1

-- no order agrees with a table, where the lists that were judged are its operations and its writes
pub leaf_placing : (q : Unordered) (table : List ℕ) (level : ℕ) (mine : List Operation) (written : List ℕ) (m0 m1 : List Operation) (w1 : List ℕ) (count : ℕ)
    → m0 ≡ mine → count ≡ count_below (writes_at q.operations.now) (length q.operations.now) → m1 ≡ mine → w1 ≡ written
    → AreSettled q.operations.now table level → ArePlacedBy q.operations.now q.sources.now table level mine
    → ((others : List ℕ) → ListsWrites m0 count others → written ≡ others)
    → (IsPlacing q.operations.now q.sources.now q.words q.openings q.closing m1 w1 → ⊥)
    → (turn : ℕ → ℕ) → IsOrderOf q turn → AgreesWith table (length q.operations.now) level turn → ⊥
leaf_placing q table level mine written m0 m1 w1 count e0 ec e1 ew settled placed listed not =
    no_placing q table level mine written settled placed
    (λ others ls. listed others (subst (λ m. ListsWrites m count others) (sym e0) (subst (λ k. ListsWrites mine k others) (sym ec) ls)))
    (λ p. not (subst (λ m. IsPlacing q.operations.now q.sources.now q.words q.openings q.closing m w1) (sym e1)
    (subst (λ ws. IsPlacing q.operations.now q.sources.now q.words q.openings q.closing mine ws) (sym ew) p)))

pub leaf_order : (q : Unordered) (table : List ℕ) (level : ℕ) (mine : List Operation) (written : List ℕ) (m0 m1 : List Operation) (w1 : List ℕ) (count : ℕ)
    → m0 ≡ mine → count ≡ count_below (writes_at q.operations.now) (length q.operations.now) → m1 ≡ mine → w1 ≡ written
    → AreSettled q.operations.now table level → ArePlacedBy q.operations.now q.sources.now table level mine
    → ((others : List ℕ) → ListsWrites m0 count others → written ≡ others)
    → ((turn : ℕ → ℕ) → IsMemoryOrder q.rules.now m1 w1 turn → ⊥)
    → (turn : ℕ → ℕ) → IsOrderOf q turn → AgreesWith table (length q.operations.now) level turn → ⊥
leaf_order q table level mine written m0 m1 w1 count e0 ec e1 ew settled placed listed not =
    no_order q table level mine written settled placed
    (λ others ls. listed others (subst (λ m. ListsWrites m count others) (sym e0) (subst (λ k. ListsWrites mine k others) (sym ec) ls)))
    (λ turn o. not turn (subst (λ m. IsMemoryOrder q.rules.now m w1 turn) (sym e1) (subst (λ ws. IsMemoryOrder q.rules.now mine ws turn) (sym ew) o)))
