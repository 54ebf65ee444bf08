-- A machine that keeps a record, as contracts see it.
use Rattle.std.specs.Prelude.{◌≡◌, ◌⊎◌, ◌<◌, ◌≤◌, ℕ, true, false, [], ◌∷◌, ◌++◌, length, Option, None}
use Rattle.std.specs.Prelude.{IfSome, option_map}
use Rattle.torus.specs.declared.step.Step.{Step}
use Rattle.torus.specs.declared.step.Stepped.{Stepped}
use Rattle.torus.specs.declared.step.Stepped.TheVariants.{Moved, Idle}
use Rattle.script_lines.specs.declared.line.Line.{Line as ScriptLine}
use Rattle.machine_asked.specs.Asked.{Asked}
use Rattle.machine_record.specs.declared.action.Action.{Action}
use Rattle.machine_record.specs.declared.action.Action.TheVariants.{Move, Line}
use Rattle.machine_record.specs.Action.{action_number, actions_with, is_narrow, joined_last}
use Rattle.machine_record.specs.Row.{row_of_line}
use Rattle.machine_record.specs.Recording.{Recording, Room}

-- a machine, the record of what was done to it, where it keeps one, and the room of that record
pub record Recorded : Type 0 where
  pub asked : Asked
  pub kept : Option Recording
  pub room : Room

-- two machines are alike and have one record; only the room may be another
pub record AreAlikeMachines (v w : Recorded) : Type 0 where
  pub asked : v.asked ≡ w.asked
  pub kept : v.kept ≡ w.kept

-- a record with one action more
abbrev pub with_action : Action → Recording → Recording
with_action a r = record {
  machine = r.machine;
  scripts = r.scripts;
  rows = r.rows;
  actions = actions_with r.actions a;
}

-- a record once a processor is handed a line
abbrev pub with_row : ℕ → ScriptLine → Recording → Recording
with_row p line r = record {
  machine = r.machine;
  scripts = r.scripts;
  rows = r.rows ++ row_of_line p line ∷ [];
  actions = r.actions ++ action_number (Line (length r.rows)) ∷ [];
}

-- no less room than there was
pub record HasNoLessRoom (old new : Room) : Type 0 where
  pub rows : old.rows ≤ new.rows
  pub actions : old.actions ≤ new.actions

-- an action can't be joined to the last of a record, whose room has no place for one more
abbrev pub HasNoPlace : Action → Room → Recording → Type 0
HasNoPlace a room r = (joined_last r.actions a ≡ None) × (room.actions ≤ length r.actions)

-- why a record ends at an action: no number names it, or there is no place for it
abbrev pub EndsAtAction : Action → Option Recording → Room → Type 0
EndsAtAction a old room = (is_narrow a ≡ false) ⊎ IfSome old (HasNoPlace a room)

-- An action is kept: the record has it more. Or the record ends there: nothing is left of it.
abbrev pub KeepsAction : Action → Option Recording → Room → Option Recording → Room → Type 0
KeepsAction a old room new after =
    ((is_narrow a ≡ true) × (new ≡ option_map (with_action a) old)
    × HasNoLessRoom room after)
    ⊎ (EndsAtAction a old room × (new ≡ None))

-- why a record ends at a line: no number names one more, or its room had no place for one more
abbrev pub EndsAtLine : Option Recording → Room → Type 0
EndsAtLine old room = IfSome old (λ r. (268435456 ≤ length r.rows) ⊎ (room.rows ≤ length r.rows)
    ⊎ (room.actions ≤ length r.actions))

-- there is a number for a line more
abbrev pub HasLineNumber : Option Recording → Type 0
HasLineNumber kept = IfSome kept (λ r. length r.rows < 268435456)

-- A line that processor p was handed is kept, or the record ends there.
abbrev pub KeepsRow : ℕ → ScriptLine → Option Recording → Room → Option Recording → Room → Type 0
KeepsRow p line old room new after =
    (HasLineNumber old × (new ≡ option_map (with_row p line) old) × HasNoLessRoom room after)
    ⊎ (EndsAtLine old room × (new ≡ None))

-- a machine keeps an action in its record, where it keeps one, or the record ends there
abbrev pub KeepsRecord : Action → Recorded → Recorded → Type 0
KeepsRecord a old new = KeepsAction a old.kept old.room new.kept new.room

abbrev pub KeepsLine : ℕ → ScriptLine → Recorded → Recorded → Type 0
KeepsLine p line old new = KeepsRow p line old.kept old.room new.kept new.room

-- the record is as it was
pub record KeepsNothing (old new : Recorded) : Type 0 where
  pub kept : new.kept ≡ old.kept
  pub room : new.room ≡ old.room

-- a move is kept; an attempt that doesn't move leaves the record as it was
abbrev pub KeepsStep : Step → Stepped → Recorded → Recorded → Type 0
KeepsStep attempt Moved old new = KeepsRecord (Move attempt) old new
KeepsStep attempt Idle old new = KeepsNothing old new
