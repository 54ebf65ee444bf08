-- What is known of the reply to an operation.
use Rattle.std.specs.Prelude.{◌≡◌, ℕ, Option, None, Some}
use Rattle.packet.specs.declared.kinds.Op.{Op}
use Rattle.packet.specs.Memory.{reply_to}
use Rattle.trace_zones.specs.declared.told.Told.{Told}

-- as far as it is told, the operation may have found word u
abbrev pub FitsTold : Op → Option Told → ℕ → Type 0
FitsTold op None u = Unit {0}
FitsTold op (Some t) u = t.reply ≡ reply_to op u
