-- Answers and the places of their operations.
use Rattle.std.specs.Prelude.{◌≡◌, ℕ, ◌+◌, ◌≤◌, List, Some, slice_get}
use Rattle.one_order.specs.declared.answer.Answer.{Answer}

-- an answer is to one of the operations that stand up to 16 places behind its own in the order of issue, or to an
-- earlier one: a processor has at most 16 tags, and each operation that is out holds one (this project's own limit)
abbrev pub AreNear : List Answer → Type 0
AreNear answers = (k : ℕ) (a : Answer) → slice_get answers k ≡ Some a → a.index ≤ k + 16
