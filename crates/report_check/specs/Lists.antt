-- What of the lines so far a rule names (this project's own format).
use Rattle.std.specs.Prelude.{ℕ, ◌+◌, ◌==◌, Bool, true, false, zero, suc, Option, Some, None}
use Rattle.packet.specs.declared.kinds.Reply.{Reply}
use Rattle.packet.specs.declared.kinds.Reply.TheVariants.{Old, Ok as Stored}

-- whether two replies are the same
abbrev pub same_reply : Reply → Reply → Bool
same_reply Stored Stored = true
same_reply Stored (Old word) = false
same_reply (Old word) Stored = false
same_reply (Old word) (Old other) = word == other

-- the first of two that are found
abbrev pub first_or : {X : Type 0} → Option X → Option X → Option X
first_or None later = later
first_or (Some x) later = Some x

-- the first that is found for so many numbers, one after the other
abbrev pub first_from : {X : Type 0} → (ℕ → Option X) → ℕ → ℕ → Option X
first_from at n zero = None
first_from at n (suc left) = first_or (at n) (first_from at (n + 1) left)
