-- What a record's fields stand for.
use Rattle.std.specs.Prelude.{Option, Some, None, vec_capacity}
use Rattle.machine_record.specs.declared.record.Record.{Record}
use Rattle.machine_record.specs.Recording.{Recording, Room, no_room}

abbrev pub recording_of : {A : Type 0} → Record A → Recording
recording_of r = record {
  machine = r.machine.items;
  scripts = r.scripts.items;
  rows = r.rows.items;
  actions = r.actions.items;
}

-- the room of a record, where one is kept; else none
abbrev pub room_of : {A : Type 0} → Option (Record A) → Room
room_of None = no_room
room_of (Some r) = record { rows = vec_capacity r.rows; actions = vec_capacity r.actions }
