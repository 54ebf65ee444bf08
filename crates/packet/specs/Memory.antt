-- One sequential memory of 64-bit words.
use Rattle.std.specs.Prelude.{ℕ, ◌+◌, ◌%◌, ◌^◌, ◌==◌, min, max, bit_and, bit_or, bit_xor, if◌then◌else◌, List, []}
use Rattle.std.specs.Prelude.{◌∷◌, slice_index, slice_set}
use Rattle.packet.specs.declared.kinds.Op.{Op}
use Rattle.packet.specs.declared.kinds.Op.TheVariants.{Load, Store, Swap, Cas, Add, And, Or, Xor, Max, Min}
use Rattle.packet.specs.declared.kinds.Reply.{Reply}
use Rattle.packet.specs.declared.kinds.Reply.TheVariants.{Old, Ok as Stored}
use Rattle.packet.specs.declared.kinds.Operation.{Operation}

-- the word that an operation leaves where it found w, modulo 2^64 (Herlihy and Wing, TOPLAS 12(3),
-- 1990:
-- the sequential specification of an object)
abbrev pub new_word : Op → ℕ → ℕ
new_word Load w = w
new_word (Store v) w = v
new_word (Swap v) w = v
new_word (Cas e n) w = if w == e then n else w
new_word (Add v) w = (w + v) % 2 ^ 64
new_word (And v) w = bit_and w v
new_word (Or v) w = bit_or w v
new_word (Xor v) w = bit_xor w v
new_word (Max v) w = max w v
new_word (Min v) w = min w v

-- what an operation replies that found w (Herlihy and Wing: the sequential specification of an
-- object)
abbrev pub reply_to : Op → ℕ → Reply
reply_to Load w = Old w
reply_to (Store v) w = Stored
reply_to (Swap v) w = Old w
reply_to (Cas e n) w = Old w
reply_to (Add v) w = Old w
reply_to (And v) w = Old w
reply_to (Or v) w = Old w
reply_to (Xor v) w = Old w
reply_to (Max v) w = Old w
reply_to (Min v) w = Old w

-- a memory is the list of its words by address; the memory that one operation leaves
abbrev pub memory_after_one : Operation → List ℕ → List ℕ
memory_after_one o m = slice_set m o.address (new_word o.op (slice_index m o.address))

-- the reply to one operation
abbrev pub reply_of_one : Operation → List ℕ → Reply
reply_of_one o m = reply_to o.op (slice_index m o.address)

-- the memory that a list of operations leaves, one after the other (Herlihy and Wing: a sequential
-- history)
abbrev pub memory_after : List Operation → List ℕ → List ℕ
memory_after [] m = m
memory_after (o ∷ os) m = memory_after os (memory_after_one o m)

-- the reply to each operation of the list (Herlihy and Wing: a sequential history)
abbrev pub replies : List Operation → List ℕ → List Reply
replies [] m = []
replies (o ∷ os) m = reply_of_one o m ∷ replies os (memory_after_one o m)
