-- The record that bytes are (this project's own format).
use Rattle.std.specs.Prelude.{ℕ, zero, suc, ◌+◌, ◌-◌, ◌*◌, ◌==◌, ◌&&◌, Bool, not, nat_le, nat_lt, min, List, [], ◌∷◌, length, take, drop}
use Rattle.std.specs.Prelude.{slice_index, Result, Ok, Err, if◌then◌else◌}
use Rattle.std.specs.Int.{w32, w64, from_le_bytes}
use Rattle.machine_record.specs.declared.row.LineRow.{LineRow}
use Rattle.machine_record.specs.Recording.{Recording}
use Rattle.machine_record.specs.Bytes.{the_first_version, the_mark, the_version}
use Rattle.machine_record.specs.Checksum.{checksum}

-- the number of 4 bytes that stands at a place, and of 8
abbrev pub half_in_bytes : List ℕ → ℕ → ℕ
half_in_bytes bs at = from_le_bytes w32
    (slice_index bs at ∷ slice_index bs (at + 1) ∷ slice_index bs (at + 2)
    ∷ slice_index bs (at + 3) ∷ [])

abbrev pub number_in_bytes : List ℕ → ℕ → ℕ
number_in_bytes bs at = from_le_bytes w64
    (slice_index bs at ∷ slice_index bs (at + 1) ∷ slice_index bs (at + 2)
    ∷ slice_index bs (at + 3) ∷ slice_index bs (at + 4) ∷ slice_index bs (at + 5)
    ∷ slice_index bs (at + 6) ∷ slice_index bs (at + 7) ∷ [])

-- the line that stands at a place
abbrev pub row_in_bytes : List ℕ → ℕ → LineRow
row_in_bytes bs at = record {
  processor = half_in_bytes bs at;
  operation = half_in_bytes bs (at + 4);
  address = half_in_bytes bs (at + 8);
  lasts = half_in_bytes bs (at + 12);
  first = number_in_bytes bs (at + 16);
  second = number_in_bytes bs (at + 24);
}

-- so many lines from a place on, and so many actions
abbrev pub rows_from : List ℕ → ℕ → ℕ → List LineRow
rows_from bs at zero = []
rows_from bs at (suc n) = row_in_bytes bs at ∷ rows_from bs (at + 32) n

abbrev pub actions_from : List ℕ → ℕ → ℕ → List ℕ
actions_from bs at zero = []
actions_from bs at (suc n) = half_in_bytes bs at ∷ actions_from bs (at + 4) n

-- the place of the lines, and that of the actions, of texts of these lengths and so many lines
abbrev pub rows_place : ℕ → ℕ → ℕ
rows_place machine scripts = 48 + machine + scripts

abbrev pub actions_place : ℕ → ℕ → ℕ → ℕ
actions_place machine scripts rows = 48 + machine + scripts + 32 * rows

-- how many bytes a record with such a head has
abbrev pub bytes_asked : ℕ → ℕ → ℕ → ℕ → ℕ
bytes_asked machine scripts rows actions =
    48 + machine + scripts + 32 * rows + 4 * actions

-- the record of bytes whose head says these lengths and numbers
abbrev pub record_sized : List ℕ → ℕ → ℕ → ℕ → ℕ → Recording
record_sized bs machine scripts rows actions = record {
  machine = take machine (drop 48 bs);
  scripts = take scripts (drop (48 + machine) bs);
  rows = rows_from bs (rows_place machine scripts) rows;
  actions = actions_from bs (actions_place machine scripts rows) actions;
}

-- the record of bytes whose head says these lengths and numbers; or, where there are more or fewer
-- bytes than these ask for, the place where one of the two ends
abbrev pub record_headed : List ℕ → ℕ → ℕ → ℕ → ℕ → Result Recording ℕ
record_headed bs machine scripts rows actions =
    if bytes_asked machine scripts rows actions == length bs
    then Ok (record_sized bs machine scripts rows actions)
    else Err (min (bytes_asked machine scripts rows actions) (length bs))

-- the record of bytes without a checksum, of this version, or the place of what is no record's: their end,
-- where a head is cut; a mark or a version that is another; or where they end too early or too late
abbrev pub body_in_bytes : ℕ → List ℕ → Result Recording ℕ
body_in_bytes version bs =
    if nat_lt (length bs) 48 then Err (length bs)
    else (if not (number_in_bytes bs 0 == the_mark) then Err 0
    else (if not (number_in_bytes bs 8 == version) then Err 8
    else record_headed bs (number_in_bytes bs 16) (number_in_bytes bs 24) (number_in_bytes bs 32) (number_in_bytes bs 40)))

-- bytes say that a checksum stands behind them
abbrev pub is_sealed : List ℕ → Bool
is_sealed bs = nat_le 16 (length bs) && (number_in_bytes bs 8 == the_version)

-- the record of bytes, of which the last eight, from a place on, are the checksum of those before them; or
-- that place, where they aren't
abbrev pub unsealed : List ℕ → ℕ → Result Recording ℕ
unsealed bs at =
    if number_in_bytes bs at == checksum (take at bs) then body_in_bytes the_version (take at bs)
    else Err at

-- the record of bytes, with a checksum or of the first version, or the place of what is no record's
abbrev pub record_in_bytes : List ℕ → Result Recording ℕ
record_in_bytes bs =
    if is_sealed bs then unsealed bs (length bs - 8) else body_in_bytes the_first_version bs
