-- The arcs are exact: they rise in each order that explains the trace, and where they rise, there is one.
use Rattle.std.proofs.Common.{◌≡◌, ◌⊎◌, inl, inr, ℕ, zero, suc, ◌+◌, ◌-◌, ◌<◌, true, List, length, refl, sym, ◌∙◌, ap, subst, arith}
use Rattle.std.specs.Prelude.{slice_index}
use Rattle.std.proofs.lemmas.Bool.{cases_lt, cases_eq}
use Rattle.rising.specs.declared.edge.Edge.{Edge}
use Rattle.rising.specs.Graph.{edge_at, RisesOnEdges, EdgesAreWithin}
use Rattle.rising.specs.Found.{IsEdgeCycle}
use Rattle.rising.proofs.Ranks.{no_rise}
use Rattle.memory_models.specs.declared.kinds.Kind.{Kind}
use Rattle.memory_models.specs.declared.kinds.Kind.TheVariants.{Load, Store, Atomic, Fence}
use Rattle.memory_models.specs.declared.kinds.Operation.{Operation}
use Rattle.memory_models.specs.declared.kinds.Rule.{Rule}
use Rattle.memory_models.specs.declared.kinds.Step.{Step}
use Rattle.memory_models.specs.declared.kinds.Why.{Why}
use Rattle.memory_models.specs.declared.kinds.Why.TheVariants.{Program, Read, Overwritten, Stale}
use Rattle.memory_models.specs.Trace.{is_load, is_write, uses_word, operation_at, writes_rule, IsOwn, IsMemoryTrace}
use Rattle.memory_models.specs.Order.{IsMemoryOrder}
use Rattle.memory_models.specs.Arcs.{IsWhy, IsArc, AreArcs, IsOverwritten, RisesByRule, RisesByRules, RisesByWords, RisesOverStale, AreSteps}
use Rattle.memory_models.specs.Verdict.{step_at, AreAround}
use Rattle.memory_models.proofs.Lasts.{from_write}
use Rattle.memory_models.proofs.Orders.{load_uses}

write_uses : (kind : Kind) → is_write kind ≡ true → uses_word kind ≡ true
write_uses Load e = cc
write_uses Store e = refl
write_uses Atomic e = refl
write_uses Fence e = cc

write_or_load : (kind : Kind) → uses_word kind ≡ true → (is_load kind ≡ true) ⊎ (is_write kind ≡ true)
write_or_load Load e = inl refl
write_or_load Store e = inr refl
write_or_load Atomic e = inr refl
write_or_load Fence e = cc

-- a cycle's places are edges
pub cycle_inside : (edges : List Edge) (cycle : List ℕ) → IsEdgeCycle edges cycle → (k : ℕ) → k < length cycle
    → slice_index cycle k < length edges
cycle_inside edges cycle c k low = elim (cases_lt (k + 1) (length cycle)) [
  | inl less ↦ (c.each k less).first
  | inr last ↦ (let same : length cycle - 1 ≡ k = omega arith in subst (λ z. slice_index cycle z < length edges) same c.last.first)
]

-- the operation that comes next in a word's order is a write at the next place
next_is : (words : ℕ) (ops : List Operation) (writes : List ℕ) (x y : ℕ) → IsMemoryTrace words ops writes → IsOverwritten ops writes x y
    → (is_write (operation_at ops y).kind ≡ true) × ((operation_at ops y).place ≡ (operation_at ops x).place + 1)
next_is words ops writes x y t o = (
  subst (λ z. is_write (operation_at ops z).kind ≡ true) o.next (t.writes_are ((operation_at ops x).place + 1) o.more),
  ap (λ z. (operation_at ops z).place) (sym o.next) ∙ t.places ((operation_at ops x).place + 1) o.more,
)

-- a reason rises in each order
why_rises : (words : ℕ) (rules : List Rule) (ops : List Operation) (writes : List ℕ) (turn : ℕ → ℕ) (x y : ℕ) (why : Why)
    → IsMemoryTrace words ops writes → IsMemoryOrder rules ops writes turn → x < length ops → y < length ops
    → IsWhy rules ops writes x y why → turn x < turn y
why_rises words rules ops writes turn x y Program t o low high is = o.program x y high is
why_rises words rules ops writes turn x y Read t o low high is =
    elim (o.source y high is.load) [
      | inl less ↦ subst (λ z. turn z < turn y) is.source less
      | inr own ↦ absurd (is.other (subst (λ z. IsOwn ops z y) is.source own))
    ]
why_rises words rules ops writes turn x y Overwritten t o low high is =
    let next = next_is words ops writes x y t is in
    let at = next.1 in
    elim (write_or_load (operation_at ops x).kind is.uses) [
      | inl load ↦ (o.newest x y low high load next.0 (record { first = is.uses; second = write_uses (operation_at ops y).kind next.0; word = sym is.word }) (omega arith)).0
      | inr write ↦ o.word_order x y low high write next.0 (record { first = is.uses; second = write_uses (operation_at ops y).kind next.0; word = sym is.word }) (omega arith)
    ]
why_rises words rules ops writes turn x y Stale t o low high is =
    absurd ((o.newest y x high low is.load is.write
    (record { first = load_uses (operation_at ops y).kind is.load; second = write_uses (operation_at ops x).kind is.write; word = sym is.word }) is.older).1 is.own)

pub arcs_rise : (words : ℕ) (rules : List Rule) (ops : List Operation) (writes : List ℕ) (edges : List Edge) (turn : ℕ → ℕ)
    → IsMemoryTrace words ops writes → AreArcs rules ops writes edges → IsMemoryOrder rules ops writes turn → RisesOnEdges edges turn
arcs_rise words rules ops writes edges turn t are o k low =
    let a = are.each k low in
    why_rises words rules ops writes turn (edge_at edges k).from (edge_at edges k).to a.why t o a.from a.to a.is

pub arcs_within : (rules : List Rule) (ops : List Operation) (writes : List ℕ) (edges : List Edge) → AreArcs rules ops writes edges
    → EdgesAreWithin (length ops) edges
arcs_within rules ops writes edges are = record { from = λ k l. (are.each k l).from; to = λ k l. (are.each k l).to }

-- where numbers rise from one place of a word's order to the next
next_up : (words : ℕ) (ops : List Operation) (writes : List ℕ) (edges : List Edge) (number : ℕ → ℕ) → IsMemoryTrace words ops writes
    → RisesByWords ops writes (length ops) edges → RisesOnEdges edges number → (p : ℕ) → p + 1 < length writes
    → (operation_at ops (slice_index writes p)).word ≡ (operation_at ops (slice_index writes (p + 1))).word
    → number (slice_index writes p) < number (slice_index writes (p + 1))
next_up words ops writes edges number t by up p low same =
    let x : ℕ = slice_index writes p in
    let y : ℕ = slice_index writes (p + 1) in
    let place : (operation_at ops x).place ≡ p = t.places p (omega arith) in
    let more : (operation_at ops x).place + 1 ≡ p + 1 = ap (λ z. z + 1) place in
    let inside : x < length ops = t.low p (omega arith) in
    by number up x y inside (t.low (p + 1) low) (inr (
      inside,
      record {
        uses = write_uses (operation_at ops x).kind (t.writes_are p (omega arith));
        more = omega arith;
        next = ap (slice_index writes) more;
        word = sym same;
      },
    ))

-- they rise along it
along : (words : ℕ) (ops : List Operation) (writes : List ℕ) (edges : List Edge) (number : ℕ → ℕ) → IsMemoryTrace words ops writes
    → RisesByWords ops writes (length ops) edges → RisesOnEdges edges number → (n p q : ℕ) → q ≡ p + n + 1 → q < length writes
    → (operation_at ops (slice_index writes p)).word ≡ (operation_at ops (slice_index writes q)).word
    → number (slice_index writes p) < number (slice_index writes q)
along words ops writes edges number t by up zero p q e low same =
    let one : q ≡ p + 1 = omega arith in
    subst (λ z. number (slice_index writes p) < number (slice_index writes z)) (sym one)
    (next_up words ops writes edges number t by up p (omega arith)
    (subst (λ z. (operation_at ops (slice_index writes p)).word ≡ (operation_at ops (slice_index writes z)).word) one same))
along words ops writes edges number t by up (suc n) p q e low same =
    let mid : ℕ = p + n + 1 in
    let one : q ≡ mid + 1 = omega arith in
    let a = t.ordered p mid (omega arith) (omega arith) in
    let b = t.ordered mid q (omega arith) low in
    let first : (operation_at ops (slice_index writes p)).word ≡ (operation_at ops (slice_index writes mid)).word = omega arith in
    let second : (operation_at ops (slice_index writes mid)).word ≡ (operation_at ops (slice_index writes q)).word = omega arith in
    let before = along words ops writes edges number t by up n p mid refl (omega arith) first in
    let step = next_up words ops writes edges number t by up mid (omega arith)
    (subst (λ z. (operation_at ops (slice_index writes mid)).word ≡ (operation_at ops (slice_index writes z)).word) one second) in
    let there : number (slice_index writes mid) < number (slice_index writes q) =
    subst (λ z. number (slice_index writes mid) < number (slice_index writes z)) (sym one) step in
    omega (arith, before, there)

-- so writes on one word rise in its order
writes_rise : (words : ℕ) (ops : List Operation) (writes : List ℕ) (edges : List Edge) (number : ℕ → ℕ) → IsMemoryTrace words ops writes
    → RisesByWords ops writes (length ops) edges → RisesOnEdges edges number → (x y : ℕ) → x < length ops → y < length ops
    → is_write (operation_at ops x).kind ≡ true → is_write (operation_at ops y).kind ≡ true → (operation_at ops x).word ≡ (operation_at ops y).word
    → (operation_at ops x).place < (operation_at ops y).place → number x < number y
writes_rise words ops writes edges number t by up x y low high first second word less =
    let p : ℕ = (operation_at ops x).place in
    let q : ℕ = (operation_at ops y).place in
    let here : slice_index writes p ≡ x = t.written x low first in
    let there : slice_index writes q ≡ y = t.written y high second in
    let inside = t.place y high (write_uses (operation_at ops y).kind second) in
    let same : (operation_at ops (slice_index writes p)).word ≡ (operation_at ops (slice_index writes q)).word =
    ap (λ z. (operation_at ops z).word) here ∙ (word ∙ ap (λ z. (operation_at ops z).word) (sym there)) in
    let one = along words ops writes edges number t by up (q - p - 1) p q (omega arith) inside same in
    subst (λ z. number z < number y) here (subst (λ z. number (slice_index writes p) < number z) there one)

-- and loads come before all later writes
load_rises : (words : ℕ) (ops : List Operation) (writes : List ℕ) (edges : List Edge) (number : ℕ → ℕ) → IsMemoryTrace words ops writes
    → RisesByWords ops writes (length ops) edges → RisesOnEdges edges number → (x w : ℕ) → x < length ops → w < length ops
    → is_load (operation_at ops x).kind ≡ true → is_write (operation_at ops w).kind ≡ true → (operation_at ops x).word ≡ (operation_at ops w).word
    → (operation_at ops x).place < (operation_at ops w).place → number x < number w
load_rises words ops writes edges number t by up x w low high load write word less =
    let p : ℕ = (operation_at ops x).place in
    let q : ℕ = (operation_at ops w).place in
    let uses = load_uses (operation_at ops x).kind load in
    let inside = t.place w high (write_uses (operation_at ops w).kind write) in
    let y : ℕ = slice_index writes (p + 1) in
    let source : (operation_at ops (slice_index writes p)).word ≡ (operation_at ops x).word = t.source x low uses in
    let there : slice_index writes q ≡ w = t.written w high write in
    let there_word : (operation_at ops (slice_index writes q)).word ≡ (operation_at ops w).word = ap (λ z. (operation_at ops z).word) there in
    let a = t.ordered p (p + 1) (omega arith) (omega arith) in
    let b = t.ordered (p + 1) q (omega arith) inside in
    let y_word : (operation_at ops y).word ≡ (operation_at ops x).word = omega arith in
    let y_low : y < length ops = t.low (p + 1) (omega arith) in
    let step : number x < number y = by number up x y low y_low (inr (low, record { uses = uses; more = omega arith; next = refl; word = y_word })) in
    let y_write = t.writes_are (p + 1) (omega arith) in
    let y_place : (operation_at ops y).place ≡ p + 1 = t.places (p + 1) (omega arith) in
    elim (cases_eq (p + 1) q) [
      | inl same ↦ (let one : y ≡ w = ap (slice_index writes) same ∙ there in subst (λ z. number x < number z) one step)
      | inr other ↦ (let rest = writes_rise words ops writes edges number t by up y w y_low high y_write write (y_word ∙ word) (omega arith) in omega (arith, step, rest))
    ]

-- all that the arcs ask of numbers
pub record AllRise (rules : List Rule) (ops : List Operation) (writes : List ℕ) (edges : List Edge) : Type 0 where
  pub each : RisesByRules rules (length rules) ops edges
  pub own : RisesByRule writes_rule ops (length ops) edges
  pub stale : RisesOverStale ops (length ops) edges
  pub word : RisesByWords ops writes (length ops) edges

-- numbers that rise are an order that explains the trace
pub is_order : (words : ℕ) (rules : List Rule) (ops : List Operation) (writes : List ℕ) (edges : List Edge) (number : ℕ → ℕ)
    → IsMemoryTrace words ops writes → AllRise rules ops writes edges → RisesOnEdges edges number
    → ((x y : ℕ) → x < length ops → y < length ops → number x ≡ number y → x ≡ y)
    → IsMemoryOrder rules ops writes number
is_order words rules ops writes edges number t all up apart = record {
  apart = apart;
  program = λ x y low kept. elim kept [
    | inl rule ↦ all.each rule.0 rule.1 number up x y low rule.2
    | inr own ↦ all.own number up x y low own
  ];
  word_order = λ x y low high first second one less.
      writes_rise words ops writes edges number t all.word up x y low high first second one.word less;
  source = λ x low load. (let s : ℕ = slice_index writes (operation_at ops x).place in
      let inside = t.place x low (load_uses (operation_at ops x).kind load) in
      elim (is_own s x) [
        | inl own ↦ inr own
        | inr other ↦ inl (all.word number up s x (t.low (operation_at ops x).place inside) low (inl (low, record { load = load; source = refl; other = other })))
      ]);
  newest = λ x w low high load write one less. (
    load_rises words ops writes edges number t all.word up x w low high load write one.word less,
    λ own. stale x w low high load write one.word less own,
  );
}
  where
    is_own : (s x : ℕ) → IsOwn ops s x ⊎ (IsOwn ops s x → ⊥)
    is_own s x = elim (cases_eq (operation_at ops s).processor (operation_at ops x).processor) [
      | inl same ↦ elim (cases_lt s x) [
        | inl less ↦ inl (record { processor = same; before = less })
        | inr more ↦ inr (λ own. let l = own.before in absurd (omega arith))
      ]
      | inr other ↦ inr (λ own. other own.processor)
    ]

    stale : (x w : ℕ) → x < length ops → w < length ops → is_load (operation_at ops x).kind ≡ true → is_write (operation_at ops w).kind ≡ true
        → (operation_at ops x).word ≡ (operation_at ops w).word → (operation_at ops x).place < (operation_at ops w).place → IsOwn ops w x → ⊥
    stale x w low high load write word less own =
        let seen = all.stale number up w x low load write own (sym word) in
        let b : ℕ = seen.write in
        let first = own.before in
        let before = seen.own.before in
        let behind = seen.behind in
        let b_low : b < length ops = omega arith in
        let later : number x < number w = load_rises words ops writes edges number t all.word up x w low high load write word less in
        elim (cases_eq w b) [
          | inl same ↦ (let up_to = seen.rises (subst (λ z. (operation_at ops x).place < (operation_at ops z).place) same less) in
              let back : number w ≡ number b = ap number same in
              absurd (omega (arith, up_to, later, back)))
          | inr other ↦ (let kept : number w < number b = all.own number up w b b_low (record {
            own = record { processor = own.processor ∙ sym seen.own.processor; before = omega arith };
            from = from_write (operation_at ops w).kind write;
            to = from_write (operation_at ops b).kind seen.is;
            key = sym word ∙ sym seen.word;
          }) in
              elim (cases_lt (operation_at ops w).place (operation_at ops b).place) [
                | inl more ↦ (let up_to = seen.rises (omega arith) in absurd (omega (arith, up_to, later, kept)))
                | inr less_or ↦ elim (cases_eq (operation_at ops w).place (operation_at ops b).place) [
                  | inl same ↦ (let one : w ≡ b = sym (t.written w high write) ∙ (ap (slice_index writes) same ∙ t.written b b_low seen.is) in absurd (other one))
                  | inr apart_too ↦ (let down = writes_rise words ops writes edges number t all.word up b w b_low high seen.is write (seen.word ∙ word) (omega arith) in
                      absurd (omega (arith, down, kept)))
                ]
              ])
        ]

-- a cycle's steps lead around
pub around : (rules : List Rule) (ops : List Operation) (writes : List ℕ) (edges : List Edge) (cycle : List ℕ) (steps : List Step)
    → AreArcs rules ops writes edges → IsEdgeCycle edges cycle → AreSteps edges cycle steps → AreAround rules ops writes steps
around rules ops writes edges cycle steps are c s =
    let size = s.size in
    let some = c.some in
    let at : (k : ℕ) → k < length cycle → step_at steps k
    ≡ record { from = (edge_at edges (slice_index cycle k)).from; to = (edge_at edges (slice_index cycle k)).to } = s.each in
    let last_is : length cycle - 1 ≡ length steps - 1 = omega arith in
    record {
      some = omega arith;
      each = λ k l. subst (λ (z : Step). IsArc rules ops writes z.from z.to) (sym (at k (omega arith))) (are.each (slice_index cycle k) (inside k (omega arith)));
      joined = λ k l. ap (λ (z : Step). z.to) (at k (omega arith)) ∙ ((c.each k (omega arith)).joined ∙ ap (λ (z : Step). z.from) (sym (at (k + 1) (omega arith))));
      last = subst (λ z. (step_at steps z).to ≡ (step_at steps 0).from) last_is
          (ap (λ (z : Step). z.to) (at (length cycle - 1) (omega arith)) ∙ (c.last.joined ∙ ap (λ (z : Step). z.from) (sym (at 0 (omega arith)))));
    }
  where
    inside : (k : ℕ) → k < length cycle → slice_index cycle k < length edges
    inside k l = cycle_inside edges cycle c k l

-- no order explains the trace
pub no_order : (words : ℕ) (rules : List Rule) (ops : List Operation) (writes : List ℕ) (edges : List Edge) (cycle : List ℕ)
    → IsMemoryTrace words ops writes → AreArcs rules ops writes edges → IsEdgeCycle edges cycle → (turn : ℕ → ℕ)
    → IsMemoryOrder rules ops writes turn → ⊥
no_order words rules ops writes edges cycle t are c turn o = no_rise edges cycle c turn (arcs_rise words rules ops writes edges turn t are o)
