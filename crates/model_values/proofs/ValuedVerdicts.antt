-- The answer on sources is one on the words that were left and found.
use Rattle.std.proofs.Common.{◌≡◌, inl, ℕ, List, length, sym, subst}
use Rattle.std.specs.Prelude.{IfOk, Result, Ok, Err, Some, slice_index}
use Rattle.rising.specs.Found.{IsPermutationBelow}
use Rattle.memory_models.specs.declared.kinds.Operation.{Operation}
use Rattle.memory_models.specs.declared.kinds.Rule.{Rule}
use Rattle.memory_models.specs.Order.{IsMemoryOrder}
use Rattle.model_values.specs.declared.question.OrderVerdict.{OrderVerdict}
use Rattle.model_values.specs.declared.question.OrderVerdict.TheVariants.{Obeys, Breaks, Undecided}
use Rattle.model_values.specs.declared.question.Unordered.{Unordered}
use Rattle.model_values.specs.declared.valued.Valued.{Valued}
use Rattle.model_values.specs.Answers.{IsOrderVerdict}
use Rattle.model_values.specs.Unordered.{IsPlacing}
use Rattle.model_values.specs.Values.{IsValuedPlacing}
use Rattle.model_values.specs.ValuedVerdict.{IsJudgedOn}

-- the orders of a question are those that give the words
abbrev pub AsksValues : Valued → Unordered → Type 0
AsksValues v q = (placed : List Operation) (writes : List ℕ)
    → (IsValuedPlacing v placed writes → IsPlacing q.operations.now q.sources.now q.words q.openings q.closing placed writes)
    × (IsPlacing q.operations.now q.sources.now q.words q.openings q.closing placed writes → IsValuedPlacing v placed writes)

pub judged_values : {A : Type 0} (rules : List Rule) (v : Valued) (q : Unordered) (nodes : ℕ) (verdict : OrderVerdict A) → q.rules.now ≡ rules
    → q.operations.now ≡ v.operations.now → AsksValues v q → IsOrderVerdict q (Some nodes) verdict → IsJudgedOn rules v nodes verdict
judged_values rules v q nodes (Obeys e) same ops asks is = record {
  turns = subst (λ (z : List Operation). IsPermutationBelow (length z) e.turns.items) ops is.turns;
  is = (asks e.operations.items e.writes.items).1 is.is;
  order = subst (λ (z : List Rule). IsMemoryOrder z e.operations.items e.writes.items (slice_index e.turns.items)) same is.order;
}
judged_values rules v q nodes Breaks same ops asks is = λ placed writes turn valued order. is turn (record {
  placed = placed;
  writes = writes;
  is = (asks placed writes).0 valued;
  order = subst (λ (z : List Rule). IsMemoryOrder z placed writes turn) (sym same) order;
})
judged_values rules v q nodes Undecided same ops asks is = inl (record { question = q; asked = same; same = asks; cut = is })

pub judged_ok : {A E : Type 0} (rules : List Rule) (v : Valued) (q : Unordered) (nodes : ℕ) (r : Result (OrderVerdict A) E) → q.rules.now ≡ rules
    → q.operations.now ≡ v.operations.now → AsksValues v q → IfOk r (IsOrderVerdict q (Some nodes)) → IfOk r (IsJudgedOn rules v nodes)
judged_ok rules v q nodes (Ok verdict) same ops asks is = judged_values rules v q nodes verdict same ops asks is
judged_ok rules v q nodes (Err e) same ops asks is = tt
