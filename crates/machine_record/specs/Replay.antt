-- The machine that a record makes.
use Rattle.std.specs.Prelude.{ℕ, zero, suc, List, [], ◌∷◌, Option, Some, None, Result, Ok, Err, map}
use Rattle.std.specs.Prelude.{option_and_then, slice_get}
use Rattle.std.specs.Str.Lines.{lines}
use Rattle.torus.specs.declared.fault.Fault.{Fault}
use Rattle.torus.specs.declared.step.Step.{Step}
use Rattle.torus.specs.declared.step.Stepped.{Stepped}
use Rattle.torus.specs.declared.step.Stepped.TheVariants.{Moved, Idle}
use Rattle.lexer.specs.declared.fault.LineFault.{LineFault}
use Rattle.script_lines.specs.declared.line.Line.{Line as ScriptLine}
use Rattle.machine_parts.specs.Core.{Load, step}
use Rattle.machine_parts.specs.Handed.{handed, refused}
use Rattle.machine_parts.specs.Machine.{built_to, core_after, core_after_load, core_next, machine_told}
use Rattle.machine_core.specs.Loading.{load_by}
use Rattle.machine_core.specs.Rounds.{rounds_of}
use Rattle.machine_core.specs.Clocked.{clocked_round, clocked_rounds}
use Rattle.fair_rounds.specs.Guard.{usual_guard}
use Rattle.machine_asked.specs.Asked.{Asked, asked_in, fair_rounds_made, has_spin, spins_with}
use Rattle.machine_record.specs.declared.action.Action.{Action}
use Rattle.machine_record.specs.declared.action.Action.TheVariants.{Move, Rounds, Line, Clocked, ClockedRounds, FairRounds, Turned}
use Rattle.machine_record.specs.declared.row.LineRow.{LineRow}
use Rattle.machine_record.specs.Action.{action_of, turn_behind}
use Rattle.machine_record.specs.Row.{line_of_row}
use Rattle.machine_record.specs.Recording.{Recording}

-- a machine that a load is loaded to, before any step
abbrev pub loaded : Load → Asked
loaded l = record {
  core = core_after_load l [];
  spins = map has_spin l.scripts;
  guard = usual_guard (core_after_load l []);
}

-- what comes of an attempt, where it moves
abbrev pub if_moved : Stepped → Asked → Option Asked
if_moved Moved v = Some v
if_moved Idle v = None

-- the machine after a move; None where the choice isn't enabled
abbrev pub machine_moved : Asked → Step → Option Asked
machine_moved v attempt =
    if_moved (machine_told (step (built_to v.core) v.core.state attempt))
    (asked_in v (core_next v.core attempt))

-- the machine after so many rounds
abbrev pub rounds_made : Asked → ℕ → Asked
rounds_made v count = asked_in v (core_after v.core (rounds_of v.core.shape count))

-- the machine after a clocked round of a turn, and after so many with the turns from 0 on
abbrev pub clocked_made : Asked → ℕ → Asked
clocked_made v turn = asked_in v (core_after v.core (clocked_round v.core turn))

abbrev pub clocked_rounds_made : Asked → ℕ → Asked
clocked_rounds_made v count = asked_in v (core_after v.core (clocked_rounds v.core count))

-- the machine after so many clocked rounds in a row, the first of a turn
abbrev pub turned_made : Asked → ℕ → ℕ → Asked
turned_made v first zero = v
turned_made v first (suc k) = clocked_made (turned_made v first k) (turn_behind first k)

-- the machine whose processor p is handed a line, whatever the line
abbrev pub with_line : Asked → ℕ → ScriptLine → Asked
with_line v p line =
    record { core = handed v.core p line; spins = spins_with v.spins p line; guard = v.guard }

-- a machine that was handed a line, unless there is a fault for which the line is refused
abbrev pub if_taken : Option Fault → Asked → Option Asked
if_taken None v = Some v
if_taken (Some why) v = None

-- the machine once it is handed the line of a row; None where that is no line, or it refuses the line
abbrev pub row_handed : Asked → LineRow → Option Asked
row_handed v row =
    option_and_then (λ line. if_taken (refused v.core row.processor line) (with_line v row.processor line))
    (line_of_row row)

-- the machine after an action, of a record with these lines; None where it can't be done
abbrev pub acted : List LineRow → Asked → Action → Option Asked
acted rows v (Move attempt) = machine_moved v attempt
acted rows v (Rounds count) = Some (rounds_made v count)
acted rows v (Line number) = option_and_then (row_handed v) (slice_get rows number)
acted rows v (Clocked turn) = Some (clocked_made v turn)
acted rows v (ClockedRounds count) = Some (clocked_rounds_made v count)
acted rows v (FairRounds count) = Some (fair_rounds_made v count)
acted rows v (Turned turns) = Some (turned_made v turns.first turns.count)

-- the machine after the action of a number
abbrev pub acted_by : List LineRow → Asked → ℕ → Option Asked
acted_by rows v number = option_and_then (acted rows v) (action_of number)

-- the machine after the actions of these numbers, each of which can be done where it comes
abbrev pub replayed : List LineRow → Asked → List ℕ → Option Asked
replayed rows v [] = Some v
replayed rows v (number ∷ numbers) =
    option_and_then (λ w. replayed rows w numbers) (acted_by rows v number)

-- the machine that a record's texts are loaded to, after its actions
abbrev pub replayed_from : Recording → Result Load LineFault → Option Asked
replayed_from r (Err e) = None
replayed_from r (Ok l) = replayed r.rows (loaded l) r.actions

-- the machine that a record makes, if it makes one
abbrev pub made_by : Recording → Option Asked
made_by r = replayed_from r (load_by (lines r.machine) (lines r.scripts))
