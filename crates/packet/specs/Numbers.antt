-- Operations and replies by numbers, as flits, records and rows have them (this project's own
-- format).
use Rattle.std.specs.Prelude.{ℕ, List, [], ◌∷◌, Option, option_map, slice_get}
use Rattle.packet.specs.declared.kinds.Code.{Code}
use Rattle.packet.specs.declared.kinds.Code.TheVariants as code
use Rattle.packet.specs.declared.kinds.Op.{Op}
use Rattle.packet.specs.declared.kinds.Reply.{Reply}
use Rattle.packet.specs.declared.kinds.Reply.TheVariants.{Old, Ok as Stored}
use Rattle.packet.specs.Kinds.{op_with}

-- the number of an operation
abbrev pub code_number : Code → ℕ
code_number code.Load = 0
code_number code.Store = 1
code_number code.Swap = 2
code_number code.Cas = 3
code_number code.Add = 4
code_number code.And = 5
code_number code.Or = 6
code_number code.Xor = 7
code_number code.Max = 8
code_number code.Min = 9

-- every operation, in the order of the numbers
abbrev pub every_code : List Code
every_code = code.Load ∷ code.Store ∷ code.Swap ∷ code.Cas ∷ code.Add ∷ code.And ∷ code.Or
    ∷ code.Xor ∷ code.Max ∷ code.Min ∷ []

-- the operation of a number; none above the last
abbrev pub code_of_number : ℕ → Option Code
code_of_number number = slice_get every_code number

-- the operation of a number that brings these values, as many of them as it takes; none above the
-- last
abbrev pub op_of_number : ℕ → ℕ → ℕ → Option Op
op_of_number number first second = option_map (λ c. op_with c first second) (code_of_number number)

-- the number of a reply
abbrev pub reply_number : Reply → ℕ
reply_number Stored = 0
reply_number (Old w) = 1

-- the reply of a number, an old word being this one; none above the last
abbrev pub reply_of_number : ℕ → ℕ → Option Reply
reply_of_number number word = slice_get (Stored ∷ Old word ∷ []) number
