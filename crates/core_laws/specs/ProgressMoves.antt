-- What can move in a state of the core, when all scripts are finished, and how many moves a run has
-- made and has left.
use Rattle.std.specs.Prelude.{◌≡◌, ℕ, ◌+◌, ◌-◌, ◌*◌, Bool, List, take, Option, Some}
use Rattle.std.specs.List.{list_all}
use Rattle.torus.specs.Shape.{tiles_of}
use Rattle.torus.specs.declared.step.Step.{Step}
use Rattle.script_lines.specs.Lines.{total_count}
use Rattle.one_order.specs.Following.{is_finished}
use Rattle.core_laws.specs.Tile.{Design}
use Rattle.core_laws.specs.Core.{Load, State, design_of, first_state, step, round}
use Rattle.core_laws.specs.Rounds.{first_enabled, moves_in}

-- the first step, in the order of a round, that is enabled in a state (this project's own format)
abbrev pub enabled_step : Design → State → Option Step
enabled_step d s = first_enabled (step d) s (round d.shape)

-- a state is live: some step of a round is enabled in it (this project's own format)
abbrev pub IsLive : Design → State → Type 0
IsLive d s = (attempt : Step) × (enabled_step d s ≡ Some attempt)

-- whether every script is finished: no line is left, no spin is open, and all is answered (this
-- project's own format)
abbrev pub tiles_finished : State → Bool
tiles_finished s = list_all (λ t. is_finished t.processor.operations.following) s.tiles

-- the moves that a list of attempts makes: how many of them are enabled where they come
abbrev pub moves_made : Load → List Step → ℕ
moves_made l attempts = moves_in (step (design_of l)) (first_state l) attempts

-- The most moves that a run can make: 241 for each operation that the scripts allow, and 2 for each
-- tile. An operation takes put, take and credit of at most 5 flits and of 3 flits back, on at most
-- 10 channels each way, and one service; a processor reports once and sees once that all have (this
-- project's own format).
abbrev pub most_moves : Load → ℕ
most_moves l = 241 * total_count l.scripts + 2 * tiles_of l.shape

-- the moves left after the first n attempts
abbrev pub moves_left : Load → List Step → ℕ → ℕ
moves_left l attempts n = most_moves l - moves_made l (take n attempts)
