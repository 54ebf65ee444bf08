-- What becomes of the record of a dialogue's machine, and what is loaded in the machine's place (this
-- project's own format).
use Rattle.std.specs.Prelude.{◌≡◌, ◌⊎◌, ℕ, ◌/◌, List, [], ◌∷◌, ◌++◌, codes, length}
use Rattle.std.specs.Prelude.{Option, Some, None, Ok, Err}
use Rattle.std.specs.String.{string_bytes}
use Rattle.hex.specs.Hex.{decode_of, encode_lower}
use Rattle.hex.specs.declared.error.FromHexError.{FromHexError}
use Rattle.hex.specs.declared.error.FromHexError.TheVariants.{InvalidHexCharacter, OddLength, InvalidStringLength, OutOfMemory}
use Rattle.torus.specs.declared.fault.Fault.TheVariants as fault
use Rattle.machine_record.specs.declared.restoring.Unrestored.{Unrestored}
use Rattle.machine_record.specs.declared.restoring.Unrestored.TheVariants as why
use Rattle.machine_record.specs.Bytes.{record_bytes}
use Rattle.machine_record.specs.Calls.{IsRestored, IsUnrestored}
use Rattle.machine_record.specs.Machine.{Recorded}
use Rattle.machine_record.specs.Recording.{Recording}
use Rattle.command_live.specs.declared.told.Told.{Told as ToldLine}
use Rattle.command_live.specs.declared.told.Told.TheVariants as reply
use Rattle.command_live.specs.declared.said.Said.{Said}
use Rattle.command_live.specs.declared.said.Said.TheVariants.{Told, Report, Lines}

-- hexadecimal digits, two for each byte, of the bytes that make a machine
pub record AreDigitsOf (digits : List ℕ) (v : Recorded) : Type 0 where
  pub bytes : List ℕ
  pub spelled : decode_of digits ≡ Ok bytes
  pub makes : IsRestored bytes v

-- the digits of a record, behind its keyword
abbrev pub saved_line : Recording → List ℕ
saved_line r = codes "saved " ++ encode_lower (record_bytes r) ++ 10 ∷ []

-- it is this text
abbrev pub IsTheText : {A : Type 0} → List ℕ → Said A → Type 0
IsTheText text (Lines lines) = string_bytes lines ≡ text
IsTheText text (Told told) = ⊥
IsTheText text (Report report) = ⊥

-- the line of a machine's record, whose digits load this machine
pub record TellsRecord {A : Type 0} (v : Recorded) (r : Recording) (said : Said A) : Type 0 where
  pub line : IsTheText (saved_line r) said
  pub back : AreDigitsOf (encode_lower (record_bytes r)) v

-- the answer is the machine's record, or that it has none
abbrev pub TellsKept : {A : Type 0} → Recorded → Option Recording → Said A → Type 0
TellsKept v None said = said ≡ Told reply.NoRecord
TellsKept v (Some r) said = TellsRecord v r said

-- the answer is the machine's record, or that it has none, or that memory was refused
abbrev pub SavesKept : {A : Type 0} → Recorded → Said A → Type 0
SavesKept v said = TellsKept v v.kept said ⊎ (said ≡ Told (reply.Refused fault.Memory))

-- the answer to so many digits that spell no bytes: the place of the first byte that they don't spell
abbrev pub told_unspelled : ℕ → FromHexError → ToldLine
told_unspelled count (InvalidHexCharacter digit place) = reply.BadByte (place / 2)
told_unspelled count OddLength = reply.BadByte (count / 2)
told_unspelled count InvalidStringLength = reply.BadByte (count / 2)
told_unspelled count OutOfMemory = reply.Refused fault.Memory

-- the answer to bytes that make no machine
abbrev pub told_unrestored : Unrestored → ToldLine
told_unrestored why.Memory = reply.Refused fault.Memory
told_unrestored (why.At place) = reply.BadByte place
told_unrestored (why.Action number) = reply.BadAction number
told_unrestored (why.Text found) = reply.BadText found

-- digits spell no bytes
pub record AreNoDigits (digits : List ℕ) (told : ToldLine) : Type 0 where
  pub error : FromHexError
  pub unspelled : decode_of digits ≡ Err error
  pub answer : told ≡ told_unspelled (length digits) error

-- digits spell bytes that make no machine
pub record MakeNoMachine (digits : List ℕ) (told : ToldLine) : Type 0 where
  pub bytes : List ℕ
  pub spelled : decode_of digits ≡ Ok bytes
  pub reason : Unrestored
  pub unmade : IsUnrestored bytes reason
  pub answer : told ≡ told_unrestored reason

-- why digits load no machine: they spell no bytes, these make none, or memory was refused
abbrev pub LoadNothing : List ℕ → ToldLine → Type 0
LoadNothing digits told =
    AreNoDigits digits told ⊎ MakeNoMachine digits told ⊎ (told ≡ reply.Refused fault.Memory)

-- the machine of the digits stands in the place of the old one, or that stays as it was
abbrev pub LoadsRecord : List ℕ → Recorded → Recorded → ToldLine → Type 0
LoadsRecord digits old new told =
    (AreDigitsOf digits new × (told ≡ reply.Loaded))
    ⊎ ((new ≡ old) × LoadNothing digits told)
