-- A record of what is done to a machine, as contracts see it.
use Rattle.std.specs.Prelude.{ℕ, List, []}
use Rattle.machine_record.specs.declared.row.LineRow.{LineRow}

-- the bytes of the two texts that the machine was loaded from, the lines that its processors were
-- handed since, and the numbers of what was done to it, in order (this project's own format)
pub record Recording : Type 0 where
  pub machine : List ℕ
  pub scripts : List ℕ
  pub rows : List LineRow
  pub actions : List ℕ

-- for how many lines and how many actions a record has room, with those that it has
pub record Room : Type 0 where
  pub rows : ℕ
  pub actions : ℕ

-- room for none
abbrev pub no_room : Room
no_room = record { rows = 0; actions = 0 }

-- a record of two texts, before anything is done
abbrev pub fresh_record : List ℕ → List ℕ → Recording
fresh_record machine scripts =
    record { machine = machine; scripts = scripts; rows = []; actions = [] }
