-- Moves that are drawn (this project's own format).
use Rattle.std.specs.Prelude.{◌≡◌, ℕ, zero, suc, ◌≤◌, ◌%◌, Bool, true, false, List, [], ◌∷◌, filter, length, Result, Ok}
use Rattle.std.specs.Prelude.{Option, Some, None, IfSome, is_some, slice_get, unwrap_or}
use Rattle.torus.specs.declared.step.Step.{Step}
use Rattle.lexer.specs.declared.fault.LineFault.{LineFault}
use Rattle.one_order.specs.Load.{Load}
use Rattle.core_laws.specs.Core.{step, round}
use Rattle.core_laws.specs.ProgressMoves.{most_moves}
use Rattle.core_laws.specs.Machine.{Core, built_to, core_next, core_after_load, all_finished}
use Rattle.core_laws.specs.MachineMoves.{AreMoves}
use Rattle.rand_xoshiro.specs.SplitMix64.{mix_u64}
use Rattle.command_schedule.specs.Line.{text_of}
use Rattle.command_schedule.specs.Schedule.{moves_schedule}
use Rattle.program_fault.specs.declared.fault.ProgramFault.{ProgramFault}
use Rattle.program_fault.specs.Done.{Does, Output}
use Rattle.program_fault.specs.Outcome.{IsTextsFault}
use Rattle.command_schedule.specs.Schedules.{TellsRun}

-- the attempts of a list that are enabled in a machine now
abbrev pub enabled_now : Core → List Step → List Step
enabled_now c attempts = filter (λ attempt. is_some (step (built_to c) c.state attempt)) attempts

-- the one whose index is a word modulo their number; None where there is none
abbrev pub drawn_of : List Step → ℕ → Option Step
drawn_of [] word = None
drawn_of (first ∷ rest) word = slice_get (first ∷ rest) (word % length (first ∷ rest))

-- a move ahead of those that follow it; none where there is no move
abbrev pub move_then : Option Step → (Step → List Step) → List Step
move_then None rest = []
move_then (Some attempt) rest = attempt ∷ rest attempt

-- no move where every script is finished
abbrev pub unless_finished : Bool → List Step → List Step
unless_finished true moves = []
unless_finished false moves = moves

-- the moves from a machine that are drawn until every script is finished, at most so many, from the
-- generator's state on: each is drawn among the attempts of a round that are enabled, by the word
-- that SplitMix64 gives (Steele, Lea and Flood, OOPSLA 2014)
abbrev pub drawn_moves : ℕ → ℕ → Core → List Step
drawn_moves zero state c = []
drawn_moves (suc most) state c = unless_finished (all_finished c.state)
    (move_then (drawn_of (enabled_now c (round c.shape)) (mix_u64 state).0)
    (λ attempt. drawn_moves most (mix_u64 state).1 (core_next c attempt)))

-- A text has the moves that are drawn from a load by a seed, until every script is finished or so
-- many are made, where a most is given. Each of them is a move.
pub record IsDrawnText (asked : Result Load LineFault) (seed : ℕ) (most : Option ℕ)
    (finished : Bool) (text : List ℕ) : Type 0 where
  pub load : Load
  pub read : asked ≡ Ok load
  pub steps : List Step
  pub drawn : steps
      ≡ drawn_moves (unwrap_or most (most_moves load)) seed (core_after_load load [])
  pub moves : AreMoves load steps
  pub few : IfSome most (λ n. length steps ≤ n)
  pub unfinished : finished ≡ false → most ≡ Some (length steps)
  pub is : text ≡ text_of (moves_schedule steps finished)
  pub run : TellsRun load steps finished text

-- the drawn moves were printed
abbrev pub PrintsDrawn : Result Load LineFault → ℕ → Option ℕ → Output → Output
    → Result Bool ProgramFault → Type 0
PrintsDrawn asked seed most = Does (IsDrawnText asked seed most) (IsTextsFault asked)
