-- The answer on a trace that gives the words that its operations left and found.
use Rattle.std.specs.Prelude.{◌≡◌, ◌⊎◌, ℕ, List, Option, Some, length}
use Rattle.std.specs.Prelude.{slice_index}
use Rattle.rising.specs.Found.{IsPermutationBelow}
use Rattle.memory_models.specs.declared.kinds.Operation.{Operation}
use Rattle.memory_models.specs.declared.kinds.Rule.{Rule}
use Rattle.memory_models.specs.Order.{IsMemoryOrder}
use Rattle.model_values.specs.declared.question.Explanation.{Explanation}
use Rattle.model_values.specs.declared.question.OrderVerdict.{OrderVerdict}
use Rattle.model_values.specs.declared.question.OrderVerdict.TheVariants.{Obeys, Breaks, Undecided}
use Rattle.model_values.specs.declared.question.Unordered.{Unordered}
use Rattle.model_values.specs.declared.valued.Valued.{Valued}
use Rattle.model_values.specs.Choices.{CutsOffChoices}
use Rattle.model_values.specs.Searches.{IsCutOff}
use Rattle.model_values.specs.Unordered.{IsPlacing}
use Rattle.model_values.specs.Values.{IsValuedPlacing}

-- an order of each word's writes that gives the words, and turns by which the trace obeys the model
pub record ExplainsValues {A : Type 0} (rules : List Rule) (v : Valued) (e : Explanation A) : Type 0
  where
    pub turns : IsPermutationBelow (length v.operations.now) e.turns.items
    pub is : IsValuedPlacing v e.operations.items e.writes.items
    pub order : IsMemoryOrder rules e.operations.items e.writes.items (slice_index e.turns.items)

-- no order of each word's writes gives the words, with an order of all operations by the model
abbrev pub BreaksValues : List Rule → Valued → Type 0
BreaksValues rules v = (placed : List Operation) (writes : List ℕ) (turn : ℕ → ℕ)
    → IsValuedPlacing v placed writes → IsMemoryOrder rules placed writes turn → ⊥

-- the search was cut off. Its question has sources with which the orders of each word's writes are
-- those that give the words
pub record CutsOffValues (rules : List Rule) (v : Valued) (nodes : Option ℕ) : Type 0 where
  pub question : Unordered
  pub asked : question.rules.now ≡ rules
  pub same : (placed : List Operation) (writes : List ℕ)
      → (IsValuedPlacing v placed writes
      → IsPlacing question.operations.now question.sources.now question.words question.openings
      question.closing placed writes)
      × (IsPlacing question.operations.now question.sources.now question.words question.openings
      question.closing placed writes
      → IsValuedPlacing v placed writes)
  pub cut : IsCutOff question nodes

-- the answer: an order that explains what was found; or that none does; or a search was cut off, for
-- orders with the sources that the words show, or for sources
abbrev pub IsJudgedOn : {A : Type 0} → List Rule → Valued → ℕ → OrderVerdict A → Type 0
IsJudgedOn rules v nodes (Obeys e) = ExplainsValues rules v e
IsJudgedOn rules v nodes Breaks = BreaksValues rules v
IsJudgedOn rules v nodes Undecided =
    CutsOffValues rules v (Some nodes) ⊎ CutsOffChoices rules v nodes
