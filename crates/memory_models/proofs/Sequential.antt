-- Where all program order is kept, an order of the model is one memory's, and the other way round.
use Rattle.std.proofs.Common.{◌≡◌, inl, inr, ℕ, zero, suc, ◌<◌, true, List, refl, sym, ◌∙◌, ap, arith}
use Rattle.std.specs.Prelude.{slice_index}
use Rattle.std.proofs.lemmas.Bool.{cases_lt, cases_eq}
use Rattle.memory_models.specs.declared.kinds.Kind.{Kind}
use Rattle.memory_models.specs.declared.kinds.Kind.TheVariants.{Load, Store, Atomic, Fence}
use Rattle.memory_models.specs.declared.kinds.Operation.{Operation}
use Rattle.memory_models.specs.Trace.{has, operation_at, IsOwn, IsMemoryTrace, source_at}
use Rattle.memory_models.specs.Order.{KeepsOrder, IsMemoryOrder}
use Rattle.memory_models.specs.Models.{sequential}
use Rattle.memory_models.specs.Machines.{IsSequential}
use Rattle.memory_models.proofs.Runs.{source_is, both_on}

is_all : (k : Kind) → has (record { load = true; store = true; atomic = true; fence = true }) k ≡ true
is_all Load = refl
is_all Store = refl
is_all Atomic = refl
is_all Fence = refl

sc_keeps : (ops : List Operation) (x y : ℕ) → IsOwn ops x y → KeepsOrder sequential ops x y
sc_keeps ops x y own = inl (0, omega arith, record { own = own; from = is_all (operation_at ops x).kind; to = is_all (operation_at ops y).kind; key = refl })

sc_kept : (ops : List Operation) (x y : ℕ) → KeepsOrder sequential ops x y → IsOwn ops x y
sc_kept ops x y (inl (zero, low, a)) = a.own
sc_kept ops x y (inl (suc k, low, a)) = absurd (omega arith)
sc_kept ops x y (inr a) = a.own

pub order_is_sequential : (words : ℕ) (ops : List Operation) (writes : List ℕ) (turn : ℕ → ℕ) → IsMemoryTrace words ops writes
    → IsMemoryOrder sequential ops writes turn → IsSequential ops writes turn
order_is_sequential words ops writes turn t o = record {
  apart = o.apart;
  program = λ x y low own. o.program x y low (sc_keeps ops x y own);
  word_order = o.word_order;
  read = λ x low load. elim (o.source x low load) [
    | inl less ↦ less
    | inr own ↦ o.program (source_at ops writes x) x low (sc_keeps ops (source_at ops writes x) x own)
  ];
  last = λ x w low high load write one less. (let s = source_is words ops writes x t low load in
      let src : ℕ = source_at ops writes x in
      let place = s.place in
      elim (cases_lt (operation_at ops x).place (operation_at ops w).place) [
        | inl more ↦ (let up = (o.newest x w low high load write one more).0 in absurd (omega (arith, up, less)))
        | inr no_more ↦ elim (cases_eq (operation_at ops w).place (operation_at ops src).place) [
          | inl same ↦ inl (sym (t.written w high write) ∙ (ap (slice_index writes) same ∙ t.written src s.low s.write))
          | inr other ↦ inr (o.word_order w src high s.low write s.write (both_on ops w src write s.write (sym one.word ∙ sym s.word))
              (omega (arith, no_more, other, place)))
        ]
      ]);
}

pub sequential_is_order : (words : ℕ) (ops : List Operation) (writes : List ℕ) (turn : ℕ → ℕ) → IsMemoryTrace words ops writes
    → IsSequential ops writes turn → IsMemoryOrder sequential ops writes turn
sequential_is_order words ops writes turn t q = record {
  apart = q.apart;
  program = λ x y low kept. q.program x y low (sc_kept ops x y kept);
  word_order = q.word_order;
  source = λ x low load. inl (q.read x low load);
  newest = λ x w low high load write one less. (let s = source_is words ops writes x t low load in
      let src : ℕ = source_at ops writes x in
      let place = s.place in
      let up = q.word_order src w s.low high s.write write (both_on ops src w s.write write (s.word ∙ one.word)) (omega (arith, place, less)) in
      let after : turn x < turn w = elim (cases_lt (turn w) (turn x)) [
        | inl before ↦ elim (q.last x w low high load write one before) [
          | inl same ↦ (let bad : (operation_at ops w).place ≡ (operation_at ops src).place = ap (λ z. (operation_at ops z).place) same in absurd (omega (arith, bad, place, less)))
          | inr down ↦ absurd (omega (arith, down, up))
        ]
        | inr no_less ↦ elim (cases_eq (turn x) (turn w)) [
          | inl same ↦ (let one_op : x ≡ w = q.apart x w low high same in
              let bad : (operation_at ops x).place ≡ (operation_at ops w).place = ap (λ z. (operation_at ops z).place) one_op in absurd (omega (arith, bad, less)))
          | inr other ↦ omega (arith, no_less, other)
        ]
      ] in
      (after, λ own. (let before = q.program w x low own in absurd (omega (arith, before, after)))));
}
