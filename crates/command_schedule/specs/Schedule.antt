-- The lines of a schedule, and the moves that they name (this project's own format).
use Rattle.std.specs.Prelude.{◌≡◌, ℕ, ◌+◌, ◌*◌, ◌%◌, ◌<◌, ◌^◌, true, Bool, List, [], ◌∷◌, ◌++◌, map}
use Rattle.torus.specs.declared.step.Step.{Step}
use Rattle.torus.specs.Choices.{has_choice}
use Rattle.torus.specs.Shape.{Shape, tiles_of, dims_of}
use Rattle.command_schedule.specs.declared.line.ScheduleLine.{ScheduleLine}
use Rattle.command_schedule.specs.declared.line.ScheduleLine.TheVariants.{Round, Move, End}

-- the lines of a round: its heading and its moves; none where there is no move
abbrev pub round_lines : ℕ → List Step → List ScheduleLine
round_lines number [] = []
round_lines number (step ∷ steps) = Round number ∷ Move step ∷ map Move steps

-- the lines of rounds, of which the first has this number
abbrev pub lines_of_rounds : ℕ → List (List Step) → List ScheduleLine
lines_of_rounds number [] = []
lines_of_rounds number (steps ∷ rounds) = round_lines number steps ++ lines_of_rounds (number + 1) rounds

-- the schedule of rounds, of which the first is round 1; the last line says whether every script is
-- finished
abbrev pub schedule_of : List (List Step) → Bool → List ScheduleLine
schedule_of rounds finished = lines_of_rounds 1 rounds ++ End finished ∷ []

-- the schedule of moves that are in no rounds
abbrev pub moves_schedule : List Step → Bool → List ScheduleLine
moves_schedule steps finished = map Move steps ++ End finished ∷ []

-- the move of a line, ahead of others
abbrev pub with_move : ScheduleLine → List Step → List Step
with_move (Round number) steps = steps
with_move (Move step) steps = step ∷ steps
with_move (End finished) steps = steps

-- the moves among lines, in their order
abbrev pub moves_among : List ScheduleLine → List Step
moves_among [] = []
moves_among (line ∷ lines) = with_move line (moves_among lines)

-- a torus has the agent, and the agent the choice, whose router has 8 n + 2 inputs and as many
-- outputs
pub record IsStepOf (s : Shape) (step : Step) : Type 0 where
  pub agent : step.agent < 3 * tiles_of s
  pub choice : has_choice (8 * dims_of s + 2) (step.agent % 3) step.choice ≡ true

-- a line's move is one of a torus, and its number is one of 64 bits
abbrev pub IsOfTorus : Shape → ScheduleLine → Type 0
IsOfTorus s (Round number) = number < 2 ^ 64
IsOfTorus s (Move step) = IsStepOf s step
IsOfTorus s (End finished) = Unit {0}
