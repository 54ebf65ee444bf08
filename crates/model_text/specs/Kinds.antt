-- What an operation of a log is to a memory model.
use Rattle.packet.specs.declared.kinds.Op.{Op}
use Rattle.packet.specs.declared.kinds.Op.TheVariants as op
use Rattle.memory_models.specs.declared.kinds.Kind.{Kind}
use Rattle.memory_models.specs.declared.kinds.Kind.TheVariants.{Load, Store, Atomic}

-- a load reads its word, a store writes it, and every other operation does both at once: a `cas`
-- that fails writes the word that it found
abbrev pub kind_of_op : Op → Kind
kind_of_op op.Load = Load
kind_of_op (op.Store v) = Store
kind_of_op (op.Swap v) = Atomic
kind_of_op (op.Cas e n) = Atomic
kind_of_op (op.Add v) = Atomic
kind_of_op (op.And v) = Atomic
kind_of_op (op.Or v) = Atomic
kind_of_op (op.Xor v) = Atomic
kind_of_op (op.Max v) = Atomic
kind_of_op (op.Min v) = Atomic
