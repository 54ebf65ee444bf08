-- What an output took of a schedule (this project's own format).
use Rattle.std.specs.Prelude.{ℕ, List, [], ◌∷◌, map, Option, Some, None, Result, Ok, Err}
use Rattle.torus.specs.declared.step.Step.{Step}
use Rattle.command_schedule.specs.declared.line.ScheduleLine.{ScheduleLine}
use Rattle.command_schedule.specs.declared.line.ScheduleLine.TheVariants.{Move}
use Rattle.command_schedule.specs.Schedule.{round_lines}
use Rattle.program_fault.specs.Done.{Output, TookAll, TookFront}

-- the whole of a text was taken, or, where that failed, a beginning of it
abbrev pub Took : {A E : Type 0} → List ℕ → Output → Output → Result A E → Type 0
Took text old new (Ok x) = TookAll old new text
Took text old new (Err e) = TookFront old new text

-- the lines of moves, those of a round of a number behind its heading
abbrev pub headed : Option ℕ → List Step → List ScheduleLine
headed None steps = map Move steps
headed (Some number) steps = round_lines number steps

-- the heading that is still to put behind moves: none behind the first
abbrev pub heading_behind : Option ℕ → List Step → Option ℕ
heading_behind heading [] = heading
heading_behind heading (step ∷ steps) = None
