-- The bytes of a record (this project's own format).
use Rattle.std.specs.Prelude.{ℕ, List, ◌++◌, length, flat_map}
use Rattle.std.specs.Int.{w32, w64, to_le_bytes}
use Rattle.machine_record.specs.declared.row.LineRow.{LineRow}
use Rattle.machine_record.specs.Recording.{Recording}
use Rattle.machine_record.specs.Checksum.{checksum}

-- a number of 8 bytes, and of 4, the least first
abbrev pub number_bytes : ℕ → List ℕ
number_bytes n = to_le_bytes w64 n

abbrev pub half_bytes : ℕ → List ℕ
half_bytes n = to_le_bytes w32 n

-- what a record begins with: these are the bytes `torusmem`
abbrev pub the_mark : ℕ
the_mark = 7882827065441021812

-- the version of the format, and that of records without a checksum
abbrev pub the_version : ℕ
the_version = 2

abbrev pub the_first_version : ℕ
the_first_version = 1

-- the head of a record: the mark, the version, how many bytes the texts have, and how many lines and
-- actions there are
abbrev pub head_bytes : Recording → List ℕ
head_bytes r =
    number_bytes the_mark ++ number_bytes the_version
    ++ number_bytes (length r.machine) ++ number_bytes (length r.scripts)
    ++ number_bytes (length r.rows) ++ number_bytes (length r.actions)

-- a line, of 32 bytes
abbrev pub row_bytes : LineRow → List ℕ
row_bytes row =
    half_bytes row.processor ++ half_bytes row.operation ++ half_bytes row.address
    ++ half_bytes row.lasts ++ number_bytes row.first ++ number_bytes row.second

-- what a record has before its checksum: its head, the two texts, the lines and the actions
abbrev pub body_bytes : Recording → List ℕ
body_bytes r =
    head_bytes r ++ r.machine ++ r.scripts ++ flat_map row_bytes r.rows
    ++ flat_map half_bytes r.actions

-- bytes, and their checksum behind them
abbrev pub sealed : List ℕ → List ℕ
sealed body = body ++ number_bytes (checksum body)

-- the bytes of a record
abbrev pub record_bytes : Recording → List ℕ
record_bytes r = sealed (body_bytes r)
