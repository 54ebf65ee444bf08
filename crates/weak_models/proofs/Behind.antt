-- The first write behind what a load reserved read.
use Rattle.std.proofs.Common.{◌≡◌, inl, inr, ℕ, ◌<◌, List, length, sym, ap, subst, arith}
use Rattle.std.specs.Prelude.{slice_index}
use Rattle.std.proofs.lemmas.Bool.{cases_lt}
use Rattle.memory_models.specs.declared.kinds.Operation.{Operation}
use Rattle.memory_models.specs.Trace.{operation_at, IsMemoryTrace}
use Rattle.weak_models.specs.declared.notes.Note.{Note}
use Rattle.weak_models.specs.Order.{IsBehindPair}
use Rattle.weak_models.specs.Arcs.{IsFirstBehind}

-- where none of the first writes is behind a pair, and the next one is on a later word, none is
pub none_later : (words : ℕ) (notes : List Note) (ops : List Operation) (writes : List ℕ) (w p : ℕ) → IsMemoryTrace words ops writes
    → ((q : ℕ) → q < p → IsBehindPair notes ops w (slice_index writes q) → ⊥)
    → (p < length writes → (operation_at ops w).word < (operation_at ops (slice_index writes p)).word)
    → (z : ℕ) → z < length ops → IsBehindPair notes ops w z → ⊥
none_later words notes ops writes w p t none later z low b =
    let is : slice_index writes (operation_at ops z).place ≡ z = t.written z low b.write in
    let high : (operation_at ops z).place < length writes = t.place z low b.one.first in
    elim (cases_lt (operation_at ops z).place p) [
      | inl less ↦ none (operation_at ops z).place less (subst (IsBehindPair notes ops w) (sym is) b)
      | inr more ↦ (let ordered = t.ordered p (operation_at ops z).place more high in
          let behind = later (omega (arith, more, high)) in
          let same = ap (λ x. (operation_at ops x).word) is in
          let one = b.one.word in
          omega (arith, ordered, behind, same, one))
    ]

-- the next one is the first behind it, if it is behind it
pub first_is : (words : ℕ) (notes : List Note) (ops : List Operation) (writes : List ℕ) (w p : ℕ) → IsMemoryTrace words ops writes
    → ((q : ℕ) → q < p → IsBehindPair notes ops w (slice_index writes q) → ⊥)
    → p < length writes → IsBehindPair notes ops w (slice_index writes p) → IsFirstBehind notes ops w (slice_index writes p)
first_is words notes ops writes w p t none high is = record {
  low = t.low p high;
  is = is;
  first = λ z low b. (let at : slice_index writes (operation_at ops z).place ≡ z = t.written z low b.write in
      let here = t.places p high in
      elim (cases_lt (operation_at ops z).place p) [
        | inl less ↦ absurd (none (operation_at ops z).place less (subst (IsBehindPair notes ops w) (sym at) b))
        | inr more ↦ omega (arith, more, here)
      ]);
}
