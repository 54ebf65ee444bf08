-- The arcs are exact: they rise in each order that explains the trace, and where they rise, there is one.
use Rattle.std.proofs.Common.{◌≡◌, inl, inr, ℕ, zero, suc, ◌+◌, ◌-◌, ◌<◌, true, List, [], ◌∷◌, length, refl, sym, ◌∙◌, ap, subst, arith}
use Rattle.std.specs.Prelude.{slice_index}
use Rattle.std.proofs.lemmas.Bool.{cases_lt}
use Rattle.rising.specs.declared.edge.Edge.{Edge}
use Rattle.rising.specs.Graph.{edge_at, RisesOnEdges, EdgesAreWithin}
use Rattle.rising.specs.Found.{IsEdgeCycle}
use Rattle.rising.proofs.Ranks.{no_rise}
use Rattle.memory_models.specs.declared.kinds.Kind.{Kind}
use Rattle.memory_models.specs.declared.kinds.Kind.TheVariants.{Load, Store, Atomic, Fence}
use Rattle.memory_models.specs.declared.kinds.Operation.{Operation}
use Rattle.memory_models.specs.declared.kinds.Why.{Why}
use Rattle.memory_models.specs.declared.kinds.Why.TheVariants.{Program, Read, Overwritten, Stale}
use Rattle.memory_models.specs.Trace.{is_write, uses_word, operation_at, IsMemoryTrace}
use Rattle.memory_models.specs.Order.{IsMemoryOrder, KeepsOrder}
use Rattle.memory_models.specs.Arcs.{IsWhy, IsArc, AreArcs, ExtendsEdges}
use Rattle.memory_models.proofs.Lasts.{to_write}
use Rattle.memory_models.proofs.Exact.{AllRise, is_order, arcs_rise}
use Rattle.weak_models.specs.declared.notes.Note.{Note}
use Rattle.weak_models.specs.declared.notes.Dependency.{Dependency}
use Rattle.weak_models.specs.declared.verdict.Reason.{Reason}
use Rattle.weak_models.specs.declared.verdict.Reason.TheVariants as why
use Rattle.weak_models.specs.declared.verdict.ReasonedStep.{ReasonedStep}
use Rattle.weak_models.specs.declared.verdict.PreservedRule.TheVariants as by
use Rattle.weak_models.specs.Preserved.{IsPreserved, IsPreservedBy}
use Rattle.weak_models.specs.Order.{IsRvwmo, IsBehindPair, ArePairsAtomic}
use Rattle.weak_models.specs.Arcs.{IsReason, IsRvwmoArc, AreRvwmoArcs, AreWordArcs, AreOtherArcs, RisesByProgram, RisesOverPairs, reasoned_at, AreReasoned}
use Rattle.weak_models.specs.Verdict.{AreAround}
use Rattle.weak_models.specs.Around.{AreStepsAround}

write_uses : (kind : Kind) → is_write kind ≡ true → uses_word kind ≡ true
write_uses Load e = cc
write_uses Store e = refl
write_uses Atomic e = refl
write_uses Fence e = cc

-- two writes of a processor on one word are kept by the first rule
pub writes_are_preserved : (notes : List Note) (dependencies : List Dependency) (ops : List Operation) (writes : List ℕ) (x y : ℕ)
    → KeepsOrder [] ops x y → IsPreservedBy notes dependencies ops writes x y by.SameWordStore
writes_are_preserved notes dependencies ops writes x y (inl k) = let none = k.1 in absurd (omega arith)
writes_are_preserved notes dependencies ops writes x y (inr a) =
    let first = to_write (operation_at ops x).kind a.from in
    let second = to_write (operation_at ops y).kind a.to in
    record {
      own = a.own;
      first = write_uses (operation_at ops x).kind first;
      second = write_uses (operation_at ops y).kind second;
      keeps = record { store = second; word = a.key };
    }

-- an arc that every model has is one of this model
pub word_reason : (notes : List Note) (dependencies : List Dependency) (ops : List Operation) (writes : List ℕ) (x y : ℕ) (w : Why)
    → IsWhy [] ops writes x y w → (r : Reason) × IsReason notes dependencies ops writes x y r
word_reason notes dependencies ops writes x y Program is =
    (why.Preserved by.SameWordStore, writes_are_preserved notes dependencies ops writes x y is)
word_reason notes dependencies ops writes x y Read is = (why.Read, is)
word_reason notes dependencies ops writes x y Overwritten is = (why.Overwritten, is)
word_reason notes dependencies ops writes x y Stale is = (why.Stale, is)

pub word_arcs_are : (notes : List Note) (dependencies : List Dependency) (ops : List Operation) (writes : List ℕ) (edges : List Edge)
    → AreArcs [] ops writes edges → AreRvwmoArcs notes dependencies ops writes edges
word_arcs_are notes dependencies ops writes edges are = record {
  each = λ k low. (let a = are.each k low in
      let r = word_reason notes dependencies ops writes (edge_at edges k).from (edge_at edges k).to a.why a.is in
      record { from = a.from; to = a.to; why = r.0; is = r.1 });
}

-- and one that isn't preserved program order, nor the atomicity axiom's, is one that every model has
pub other_arc : (notes : List Note) (dependencies : List Dependency) (ops : List Operation) (writes : List ℕ) (x y : ℕ)
    → IsRvwmoArc notes dependencies ops writes x y → (IsPreserved notes dependencies ops writes x y → ⊥)
    → (IsBehindPair notes ops x y → ⊥) → IsArc [] ops writes x y
other_arc notes dependencies ops writes x y a kept pair = by_reason a.why a.is
  where
    by_reason : (r : Reason) → IsReason notes dependencies ops writes x y r → IsArc [] ops writes x y
    by_reason (why.Preserved rule) is = absurd (kept (rule, is))
    by_reason why.Read is = record { from = a.from; to = a.to; why = Read; is = is }
    by_reason why.Overwritten is = record { from = a.from; to = a.to; why = Overwritten; is = is }
    by_reason why.Stale is = record { from = a.from; to = a.to; why = Stale; is = is }
    by_reason why.Atomicity is = absurd (pair is)

-- an order of the model is one of the model that keeps nothing but writes on one word
pub without_rules : (notes : List Note) (dependencies : List Dependency) (ops : List Operation) (writes : List ℕ) (turn : ℕ → ℕ)
    → IsRvwmo notes dependencies ops writes turn → IsMemoryOrder [] ops writes turn
without_rules notes dependencies ops writes turn o = record {
  apart = o.order.apart;
  program = λ x y low kept. o.order.program x y low (by.SameWordStore, writes_are_preserved notes dependencies ops writes x y kept);
  word_order = o.order.word_order;
  source = o.order.source;
  newest = o.order.newest;
}

abbrev one_edge : ℕ → ℕ → List Edge
one_edge x y = (record { from = x; to = y }) ∷ []

one_arc : (ops : List Operation) (writes : List ℕ) (x y : ℕ) → IsArc [] ops writes x y → (k : ℕ) → k < 1
    → IsArc [] ops writes (edge_at (one_edge x y) k).from (edge_at (one_edge x y) k).to
one_arc ops writes x y a k low =
    let e : Edge = record { from = x; to = y } in
    let zero_is : 0 ≡ k = omega arith in
    subst (λ z. IsArc [] ops writes (edge_at (one_edge x y) z).from (edge_at (one_edge x y) z).to) zero_is a

arc_rises : (words : ℕ) (ops : List Operation) (writes : List ℕ) (turn : ℕ → ℕ) (x y : ℕ) → IsMemoryTrace words ops writes
    → IsMemoryOrder [] ops writes turn → IsArc [] ops writes x y → turn x < turn y
arc_rises words ops writes turn x y t o a =
    arcs_rise words [] ops writes (one_edge x y) turn t (record { each = λ k low. one_arc ops writes x y a k low }) o 0 (omega arith)

reason_rises : (words : ℕ) (notes : List Note) (dependencies : List Dependency) (ops : List Operation) (writes : List ℕ) (turn : ℕ → ℕ) (x y : ℕ)
    (r : Reason) → IsMemoryTrace words ops writes → IsRvwmo notes dependencies ops writes turn → x < length ops → y < length ops
    → IsReason notes dependencies ops writes x y r → turn x < turn y
reason_rises words notes dependencies ops writes turn x y (why.Preserved rule) t o low high is = o.order.program x y high (rule, is)
reason_rises words notes dependencies ops writes turn x y why.Read t o low high is =
    arc_rises words ops writes turn x y t (without_rules notes dependencies ops writes turn o) (record { from = low; to = high; why = Read; is = is })
reason_rises words notes dependencies ops writes turn x y why.Overwritten t o low high is =
    arc_rises words ops writes turn x y t (without_rules notes dependencies ops writes turn o) (record { from = low; to = high; why = Overwritten; is = is })
reason_rises words notes dependencies ops writes turn x y why.Stale t o low high is =
    arc_rises words ops writes turn x y t (without_rules notes dependencies ops writes turn o) (record { from = low; to = high; why = Stale; is = is })
reason_rises words notes dependencies ops writes turn x y why.Atomicity t o low high is = o.atomic x y low high is

pub arcs_within : (notes : List Note) (dependencies : List Dependency) (ops : List Operation) (writes : List ℕ) (edges : List Edge)
    → AreRvwmoArcs notes dependencies ops writes edges → EdgesAreWithin (length ops) edges
arcs_within notes dependencies ops writes edges are = record { from = λ k l. (are.each k l).from; to = λ k l. (are.each k l).to }

-- numbers that rise along the arcs of words keep each word's order and what loads read
pub words_order : (words : ℕ) (ops : List Operation) (writes : List ℕ) (edges : List Edge) (number : ℕ → ℕ) → IsMemoryTrace words ops writes
    → AreWordArcs ops writes edges → RisesOnEdges edges number → ((x y : ℕ) → x < length ops → y < length ops → number x ≡ number y → x ≡ y)
    → IsMemoryOrder [] ops writes number
words_order words ops writes edges number t are up apart =
    let all : AllRise [] ops writes edges = record {
      each = λ k l. absurd (omega arith);
      own = are.own;
      stale = are.stale;
      word = are.word;
    } in is_order words [] ops writes edges number t all up apart

-- numbers that rise along the arcs of pairs, too, keep pairs atomic
pairs_atomic : (words : ℕ) (notes : List Note) (ops : List Operation) (writes : List ℕ) (edges : List Edge) (number : ℕ → ℕ)
    → IsMemoryTrace words ops writes → IsMemoryOrder [] ops writes number → RisesOverPairs notes ops (length ops) edges → RisesOnEdges edges number
    → ArePairsAtomic notes ops number
pairs_atomic words notes ops writes edges number t o pairs up w z low high is =
    let found = pairs number up w z low high is in
    let s : ℕ = found.0 in
    let f = found.1 in
    let rises : number w < number s = found.2 in
    let no_later = f.first z high is in
    let at : (operation_at ops s).word ≡ (operation_at ops z).word = f.is.one.word ∙ sym is.one.word in
    elim (cases_lt (operation_at ops s).place (operation_at ops z).place) [
      | inl less ↦ (let rest = o.word_order s z f.low high f.is.write is.write (record { first = f.is.one.first; second = is.one.first; word = at }) less in
          omega (arith, rises, rest))
      | inr other ↦ (let same : (operation_at ops s).place ≡ (operation_at ops z).place = omega arith in
          let one : s ≡ z = sym (t.written s f.low f.is.write) ∙ (ap (slice_index writes) same ∙ t.written z high is.write) in
          subst (λ v. number w < number v) one rises)
    ]

-- with preserved program order they are an order that explains the trace
pub rvwmo_of : (words : ℕ) (notes : List Note) (dependencies : List Dependency) (ops : List Operation) (writes : List ℕ) (edges : List Edge)
    (number : ℕ → ℕ) → IsMemoryTrace words ops writes → IsMemoryOrder [] ops writes number → RisesOverPairs notes ops (length ops) edges
    → RisesOnEdges edges number → ((x y : ℕ) → y < length ops → IsPreserved notes dependencies ops writes x y → number x < number y)
    → IsRvwmo notes dependencies ops writes number
rvwmo_of words notes dependencies ops writes edges number t o pairs up program = record {
  order = record { apart = o.apart; program = program; word_order = o.word_order; source = o.source; newest = o.newest };
  atomic = pairs_atomic words notes ops writes edges number t o pairs up;
}

-- turns that rise along the arcs of all pairs that preserved program order keeps are an order that explains the trace
pub is_rvwmo : (words : ℕ) (notes : List Note) (dependencies : List Dependency) (ops : List Operation) (writes : List ℕ) (arcs edges : List Edge)
    (number : ℕ → ℕ) → IsMemoryTrace words ops writes → AreOtherArcs notes ops writes arcs → ExtendsEdges arcs edges
    → RisesByProgram notes dependencies ops writes (length ops) edges
    → RisesOnEdges edges number → ((x y : ℕ) → x < length ops → y < length ops → number x ≡ number y → x ≡ y)
    → IsRvwmo notes dependencies ops writes number
is_rvwmo words notes dependencies ops writes arcs edges number t are more program up apart =
    let rise = more number up in
    rvwmo_of words notes dependencies ops writes arcs number t (words_order words ops writes are.first number t are.words (are.more number rise) apart) are.pairs rise
    (program number up)

-- no order explains the trace
pub no_rvwmo : (words : ℕ) (notes : List Note) (dependencies : List Dependency) (ops : List Operation) (writes : List ℕ) (edges : List Edge)
    (cycle : List ℕ) → IsMemoryTrace words ops writes → AreRvwmoArcs notes dependencies ops writes edges → IsEdgeCycle edges cycle
    → (turn : ℕ → ℕ) → IsRvwmo notes dependencies ops writes turn → ⊥
no_rvwmo words notes dependencies ops writes edges cycle t are c turn o =
    no_rise edges cycle c turn (λ k low. (let a = are.each k low in
    reason_rises words notes dependencies ops writes turn (edge_at edges k).from (edge_at edges k).to a.why t o a.from a.to a.is))

-- steps around a circle lead around
pub led_around : (notes : List Note) (dependencies : List Dependency) (ops : List Operation) (writes circle : List ℕ) (steps : List ReasonedStep)
    → AreStepsAround notes dependencies ops writes circle steps → AreAround notes dependencies ops writes steps
led_around notes dependencies ops writes circle steps s =
    let size = s.size in
    let some = s.some in
    let last_is : length circle - 1 ≡ length steps - 1 = omega arith in
    record {
      some = omega arith;
      each = λ k l. (s.each k (omega arith)).is.is;
      joined = λ k l. (s.each k (omega arith)).next (omega arith) ∙ sym (s.each (k + 1) (omega arith)).from;
      last = subst (λ z. (reasoned_at steps z).to ≡ (reasoned_at steps 0).from) last_is
          ((s.each (length circle - 1) (omega arith)).last (omega arith) ∙ sym (s.each 0 (omega arith)).from);
    }

-- nor where steps lead around a circle, each for its reason
pub no_order_around : (words : ℕ) (notes : List Note) (dependencies : List Dependency) (ops : List Operation) (writes circle : List ℕ)
    (steps : List ReasonedStep) → IsMemoryTrace words ops writes → AreStepsAround notes dependencies ops writes circle steps
    → (turn : ℕ → ℕ) → IsRvwmo notes dependencies ops writes turn → ⊥
no_order_around words notes dependencies ops writes circle steps t s turn o =
    let some = s.some in
    let size = s.size in
    let a = led_around notes dependencies ops writes circle steps s in
    let back = ap turn a.last in
    let rises = reach (length steps - 1) (omega arith) in
    omega (arith, back, rises)
  where
    goes : (k : ℕ) → k < length steps → turn (reasoned_at steps k).from < turn (reasoned_at steps k).to
    goes k low =
        let r = (s.each k (subst (λ n. k < n) s.size low)).is in
        reason_rises words notes dependencies ops writes turn (reasoned_at steps k).from (reasoned_at steps k).to (reasoned_at steps k).why t o r.from r.to r.is

    reach : (k : ℕ) → k < length steps → turn (reasoned_at steps 0).from < turn (reasoned_at steps k).to
    reach zero low = goes 0 low
    reach (suc k) low =
        let before = reach k (omega (arith, low)) in
        let joined = ap turn ((led_around notes dependencies ops writes circle steps s).joined k (omega (arith, low))) in
        let next = goes (suc k) low in
        let one : suc k ≡ k + 1 = omega arith in
        let same = ap (λ z. turn (reasoned_at steps z).from) one in
        omega (arith, before, joined, next, same)

-- a cycle's steps lead around
pub around : (notes : List Note) (dependencies : List Dependency) (ops : List Operation) (writes : List ℕ) (edges : List Edge) (cycle : List ℕ)
    (steps : List ReasonedStep) → IsEdgeCycle edges cycle → AreReasoned notes dependencies ops writes edges cycle steps
    → AreAround notes dependencies ops writes steps
around notes dependencies ops writes edges cycle steps c s =
    let size = s.size in
    let some = c.some in
    let last_is : length cycle - 1 ≡ length steps - 1 = omega arith in
    record {
      some = omega arith;
      each = λ k l. (s.each k (omega arith)).is;
      joined = λ k l. (s.each k (omega arith)).to ∙ ((c.each k (omega arith)).joined ∙ sym (s.each (k + 1) (omega arith)).from);
      last = subst (λ z. (reasoned_at steps z).to ≡ (reasoned_at steps 0).from) last_is
          ((s.each (length cycle - 1) (omega arith)).to ∙ (c.last.joined ∙ sym (s.each 0 (omega arith)).from));
    }
