-- An operation's name, and the replies that go with it.
use Rattle.std.specs.Prelude.{◌≡◌, ℕ, Bool, true, false}
use Rattle.packet.specs.declared.kinds.Op.{Op}
use Rattle.packet.specs.declared.kinds.Op.TheVariants.{Load, Store, Swap, Cas, Add, And, Or, Xor, Max, Min}
use Rattle.packet.specs.declared.kinds.Code.{Code}
use Rattle.packet.specs.declared.kinds.Code.TheVariants as code
use Rattle.packet.specs.declared.kinds.Reply.{Reply}
use Rattle.packet.specs.declared.kinds.Reply.TheVariants.{Old, Ok as Stored}

-- the operation's name without its values (this project's own format)
abbrev pub code_of : Op → Code
code_of Load = code.Load
code_of (Store v) = code.Store
code_of (Swap v) = code.Swap
code_of (Cas e n) = code.Cas
code_of (Add v) = code.Add
code_of (And v) = code.And
code_of (Or v) = code.Or
code_of (Xor v) = code.Xor
code_of (Max v) = code.Max
code_of (Min v) = code.Min

-- the operation of this name that brings these values, as many of them as it takes (this project's
-- own format)
abbrev pub op_with : Code → ℕ → ℕ → Op
op_with code.Load v w = Load
op_with code.Store v w = Store v
op_with code.Swap v w = Swap v
op_with code.Cas v w = Cas v w
op_with code.Add v w = Add v
op_with code.And v w = And v
op_with code.Or v w = Or v
op_with code.Xor v w = Xor v
op_with code.Max v w = Max v
op_with code.Min v w = Min v

-- whether an operation is a store
abbrev pub is_store : Code → Bool
is_store code.Store = true
is_store _ = false

-- whether a reply is `ok`
abbrev pub is_stored : Reply → Bool
is_stored Stored = true
is_stored (Old w) = false

-- `ok` is the reply to a store, and to no other operation (this project's own format)
abbrev pub IsReplyOf : Code → Reply → Type 0
IsReplyOf code reply = is_stored reply ≡ is_store code
