-- Bytes of a record of which one is changed (this project's own format).
use Rattle.std.specs.Prelude.{◌≡◌, ◌≢◌, ℕ, ◌<◌, true, List, length, slice_index, Ok}
use Rattle.machine_record.specs.Reading.{is_sealed, record_in_bytes}
use Rattle.machine_record.specs.Recording.{Recording}

-- bytes of a record with its checksum
pub record IsSealedRecord (bs : List ℕ) : Type 0 where
  pub kept : Recording
  pub read : record_in_bytes bs ≡ Ok kept
  pub sealed : is_sealed bs ≡ true
  pub bytes : (at : ℕ) → slice_index bs at < 256

-- another byte for the one at a place
pub record IsOtherByte (bs : List ℕ) (at byte : ℕ) : Type 0 where
  pub there : at < length bs
  pub small : byte < 256
  pub other : slice_index bs at ≢ byte

-- bytes that are no record's
abbrev pub AreNoRecord : List ℕ → Type 0
AreNoRecord bs = (kept : Recording) → record_in_bytes bs ≢ Ok kept
