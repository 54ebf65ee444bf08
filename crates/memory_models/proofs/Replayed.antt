-- What operations find in their turns on one memory, and in runs with buffers of stores.
use Rattle.std.proofs.Common.{◌≡◌, inl, inr, ℕ, ◌<◌, true, List, length, refl, sym, ◌∙◌, arith}
use Rattle.std.specs.Prelude.{slice_index}
use Rattle.memory_models.specs.declared.kinds.Operation.{Operation}
use Rattle.memory_models.specs.Trace.{is_load, operation_at, source_at, IsMemoryTrace}
use Rattle.memory_models.specs.Machines.{IsSequential, IsBuffered, effect_at}
use Rattle.memory_models.specs.Values.{AreInTurns, IsValued, FindsWrite, word_in_turn}
use Rattle.memory_models.proofs.RunBy.{IsRunBy}
use Rattle.memory_models.proofs.Runs.{both_on, source_is, load_takes}
use Rattle.memory_models.proofs.Orders.{load_uses}
use Rattle.memory_models.proofs.Valued.{IsLaid, IsLastWrite, finds_last, finds_next}

-- on one memory each operation finds what it finds by its word's order
pub sequential_finds : (words : ℕ) (ops : List Operation) (writes : List ℕ) (turn : ℕ → ℕ) (order : List ℕ) (makes : ℕ → ℕ → ℕ) (found opening : ℕ → ℕ)
    → IsMemoryTrace words ops writes → IsSequential ops writes turn → AreInTurns ops turn order → IsValued ops writes makes found
    → (k : ℕ) → k < length order → FindsWrite ops writes (slice_index order k)
    → word_in_turn ops makes opening order k ≡ found (slice_index order k)
sequential_finds words ops writes turn order makes found opening t q turns valued k low finds = elim finds [
  | inr next ↦ finds_next words ops writes turn order makes found opening laid k next.0 low next.1
  | inl load ↦ finds_last words ops writes turn order makes found opening laid k (source_at ops writes x) low (source load)
      ∙ sym (valued.reads x x_low load)
]
  where
    x : ℕ
    x = slice_index order k

    x_low : x < length ops
    x_low = turns.low k low

    laid : IsLaid words ops writes turn order makes found
    laid = record { is_trace = t; keeps = record { in_order = q.word_order }; turns = turns; valued = valued }

    source : is_load (operation_at ops x).kind ≡ true → IsLastWrite ops turn x (source_at ops writes x)
    source load = (let s = source_is words ops writes x t x_low load in
        let uses = load_uses (operation_at ops x).kind load in
        record {
          low = s.low;
          write = s.write;
          word = s.word;
          less = q.read x x_low load;
          last = λ w high write word less. q.last x w x_low high load write
              (record { first = uses; second = (both_on ops w w write write refl).first; word = sym word }) less;
        })

-- in a run with buffers a write that isn't its word's first finds what it finds by its word's order, and so does a load
-- that finds no store in its buffer
pub buffers_find : (Keeps : ℕ → ℕ → Type 0) (words : ℕ) (ops : List Operation) (writes : List ℕ) (made left : ℕ → ℕ) (order : List ℕ) (makes : ℕ → ℕ → ℕ) (found opening : ℕ → ℕ)
    → IsMemoryTrace words ops writes → IsRunBy Keeps ops writes made left → AreInTurns ops (effect_at ops made left) order → IsValued ops writes makes found
    → (k : ℕ) → k < length order → FindsWrite ops writes (slice_index order k)
    → ((s : ℕ) → is_load (operation_at ops (slice_index order k)).kind ≡ true → IsBuffered ops made left s (slice_index order k) → ⊥)
    → word_in_turn ops makes opening order k ≡ found (slice_index order k)
buffers_find Keeps words ops writes made left order makes found opening t run turns valued k low finds none = elim finds [
  | inr next ↦ finds_next words ops writes turn order makes found opening laid k next.0 low next.1
  | inl load ↦ finds_last words ops writes turn order makes found opening laid k (source_at ops writes x) low (source load)
      ∙ sym (valued.reads x x_low load)
]
  where
    x : ℕ
    x = slice_index order k

    turn : ℕ → ℕ
    turn = effect_at ops made left

    x_low : x < length ops
    x_low = turns.low k low

    laid : IsLaid words ops writes turn order makes found
    laid = record { is_trace = t; keeps = record { in_order = run.word_order }; turns = turns; valued = valued }

    source : is_load (operation_at ops x).kind ≡ true → IsLastWrite ops turn x (source_at ops writes x)
    source load = (let s = source_is words ops writes x t x_low load in
        let uses = load_uses (operation_at ops x).kind load in
        let e = load_takes ops made left x load in
        let first = run.read x x_low load (λ r b. none r load b) in
        record {
          low = s.low;
          write = s.write;
          word = s.word;
          less = omega (arith, first, e);
          last = λ w high write word less. run.last x w x_low high load (λ r b. none r load b) write
              (record { first = uses; second = (both_on ops w w write write refl).first; word = sym word }) (omega (arith, less, e));
        })
