-- Under one memory's order, the last write before a write is the one before it in the word's order: so atomics read
-- what stands at the place before theirs.
use Rattle.std.proofs.Common.{◌≡◌, ◌⊎◌, inl, inr, ℕ, ◌+◌, ◌<◌, true, List, length, refl, sym, ◌∙◌, ap, arith}
use Rattle.std.specs.Prelude.{slice_index}
use Rattle.std.proofs.lemmas.Bool.{cases_lt, cases_eq}
use Rattle.memory_models.specs.declared.kinds.Operation.{Operation}
use Rattle.memory_models.specs.Trace.{is_write, operation_at, AreOnOne, IsMemoryTrace}
use Rattle.memory_models.proofs.Runs.{both_on}

-- an order keeps each word's order of writes
pub record KeepsWrites (ops : List Operation) (turn : ℕ → ℕ) : Type 0 where
  pub in_order : (x y : ℕ) → x < length ops → y < length ops → is_write (operation_at ops x).kind ≡ true
      → is_write (operation_at ops y).kind ≡ true → AreOnOne ops x y
      → (operation_at ops x).place < (operation_at ops y).place → turn x < turn y

pub write_before : (words : ℕ) (ops : List Operation) (writes : List ℕ) (turn : ℕ → ℕ) → IsMemoryTrace words ops writes → KeepsWrites ops turn
    → (x p : ℕ) → x < length ops → is_write (operation_at ops x).kind ≡ true → p + 1 ≡ (operation_at ops x).place
    → (operation_at ops (slice_index writes p)).word ≡ (operation_at ops x).word
    → (turn (slice_index writes p) < turn x)
    × ((w : ℕ) → w < length ops → is_write (operation_at ops w).kind ≡ true → AreOnOne ops x w → turn w < turn x
    → (w ≡ slice_index writes p) ⊎ (turn w < turn (slice_index writes p)))
write_before words ops writes turn t q x p low write place word =
    let uses = (both_on ops x x write write refl).first in
    let inside = t.place x low uses in
    let b : ℕ = slice_index writes p in
    let b_low = t.low p (omega arith) in
    let b_write = t.writes_are p (omega arith) in
    let b_place : (operation_at ops b).place ≡ p = t.places p (omega arith) in (
      q.in_order b x b_low low b_write write (both_on ops b x b_write write word) (omega arith),
      λ w high is one less. elim (cases_lt (operation_at ops w).place (operation_at ops b).place) [
        | inl before ↦ inr (q.in_order w b high b_low is b_write (both_on ops w b is b_write (sym one.word ∙ sym word)) before)
        | inr not_before ↦ elim (cases_eq (operation_at ops w).place (operation_at ops b).place) [
          | inl same ↦ inl (sym (t.written w high is) ∙ (ap (slice_index writes) same ∙ t.written b b_low b_write))
          | inr after ↦ elim (cases_eq (operation_at ops w).place (operation_at ops x).place) [
            | inl at ↦ (let one_op : w ≡ x = sym (t.written w high is) ∙ (ap (slice_index writes) at ∙ t.written x low write) in
                let bad : turn w ≡ turn x = ap turn one_op in absurd (omega (arith, bad, less)))
            | inr further ↦ (let up = q.in_order x w low high write is one (omega (arith, not_before, after, further, b_place, place)) in absurd (omega (arith, up, less)))
          ]
        ]
      ],
    )
