-- How long an operation of the order is.
use Rattle.std.proofs.Common.{◌+◌, ◌*◌, ◌≤◌, length, arith}
use Rattle.packet.specs.declared.kinds.Op.{Op}
use Rattle.packet.specs.declared.kinds.Op.TheVariants.{Load, Store, Swap, Cas, Add, And, Or, Xor, Max, Min}
use Rattle.packet.specs.Kinds.{code_of}
use Rattle.packet.specs.Names.{code_word}
use Rattle.packet.specs.Spelling.{values_of_op}

-- its name and its values are short
pub short : (op : Op) → length (code_word (code_of op)) + 21 * length (values_of_op op) ≤ 45
short Load = omega arith
short (Store v) = omega arith
short (Swap v) = omega arith
short (Cas v w) = omega arith
short (Add v) = omega arith
short (And v) = omega arith
short (Or v) = omega arith
short (Xor v) = omega arith
short (Max v) = omega arith
short (Min v) = omega arith
