-- What a recorded machine's fields stand for, and what is true of them.
use Rattle.std.specs.Prelude.{◌≡◌, ℕ, Option, Some, None, option_map}
use Rattle.script_lines.specs.declared.line.Line.{Line as ScriptLine}
use Rattle.machine_asked.specs.Asked.{Asked}
use Rattle.machine_record.specs.declared.recorded.RecordedMachine.TheInside.{Inside}
use Rattle.machine_record.specs.declared.action.Action.{Action}
use Rattle.machine_record.specs.declared.record.Record.{Record}
use Rattle.machine_record.specs.Machine.{KeepsAction, KeepsRow, Recorded}
use Rattle.machine_record.specs.Recording.{Recording}
use Rattle.machine_record.specs.Recorded.{recording_of, room_of}
use Rattle.machine_record.specs.Replay.{made_by}

abbrev pub recorded_of : {A : Type 0} → Inside A → Recorded
recorded_of a = record {
  asked = a.machine;
  kept = option_map recording_of a.kept;
  room = room_of a.kept;
}

-- the record, if there is one, makes this machine
abbrev pub RecordMakes : Option Recording → Asked → Type 0
RecordMakes None v = Unit {0}
RecordMakes (Some r) v = made_by r ≡ Some v

abbrev pub IsRecorded : {A : Type 0} → Inside A → Type 0
IsRecorded a = RecordMakes (option_map recording_of a.kept) a.machine

-- what is kept by what a machine keeps, as contracts see it
abbrev pub KeepsWithin : {A : Type 0} → Action → Option (Record A) → Option (Record A) → Type 0
KeepsWithin a old new =
    KeepsAction a (option_map recording_of old) (room_of old) (option_map recording_of new)
    (room_of new)

abbrev pub KeepsRowWithin : {A : Type 0} → ℕ → ScriptLine → Option (Record A) → Option (Record A)
    → Type 0
KeepsRowWithin p line old new =
    KeepsRow p line (option_map recording_of old) (room_of old) (option_map recording_of new)
    (room_of new)
