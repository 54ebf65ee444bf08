-- Operations and replies by their numbers, as C knows them (this project's own format).
use Rattle.std.specs.Prelude.{ℕ, List, [], ◌∷◌, Option, slice_get}
use Rattle.packet.specs.declared.kinds.Op.{Op}
use Rattle.packet.specs.declared.kinds.Op.TheVariants.{Load, Store, Swap, Cas, Add, And, Or, Xor}
use Rattle.packet.specs.declared.kinds.Op.TheVariants.{Max, Min}
use Rattle.packet.specs.declared.kinds.Reply.{Reply}
use Rattle.packet.specs.declared.kinds.Reply.TheVariants.{Ok as Stored, Old}

-- the operations that bring these values, as many of them as each takes, from 0
abbrev pub operations : ℕ → ℕ → List Op
operations first second =
    Load ∷ Store first ∷ Swap first ∷ Cas first second ∷ Add first ∷ And first ∷ Or first
    ∷ Xor first ∷ Max first ∷ Min first ∷ []

-- the operation that has a number
abbrev pub op_numbered : ℕ → ℕ → ℕ → Option Op
op_numbered number first second = slice_get (operations first second) number

-- the reply that is `ok`, or an old word
abbrev pub reply_numbered : ℕ → ℕ → Option Reply
reply_numbered has_old old = slice_get (Stored ∷ Old old ∷ []) has_old

-- the number by which C knows an operation
abbrev pub operation_number : Op → ℕ
operation_number Load = 0
operation_number (Store value) = 1
operation_number (Swap value) = 2
operation_number (Cas expected new) = 3
operation_number (Add value) = 4
operation_number (And value) = 5
operation_number (Or value) = 6
operation_number (Xor value) = 7
operation_number (Max value) = 8
operation_number (Min value) = 9

-- the first value that an operation brings, or 0
abbrev pub first_value : Op → ℕ
first_value Load = 0
first_value (Store value) = value
first_value (Swap value) = value
first_value (Cas expected new) = expected
first_value (Add value) = value
first_value (And value) = value
first_value (Or value) = value
first_value (Xor value) = value
first_value (Max value) = value
first_value (Min value) = value

-- the second value of a compare-and-swap, or 0
abbrev pub second_value : Op → ℕ
second_value (Cas expected new) = new
second_value _ = 0

-- whether a reply is an old word
abbrev pub has_old : Reply → ℕ
has_old Stored = 0
has_old (Old word) = 1

-- the old word of a reply, or 0
abbrev pub word_before : Reply → ℕ
word_before Stored = 0
word_before (Old word) = word
