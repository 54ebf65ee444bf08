-- Worked lines of schedules, against the definitions.
use Rattle.std.proofs.Common.{◌≡◌, ℕ, true, [], ◌∷◌, refl, arith}
use Rattle.torus.specs.declared.step.Step.{Step}
use Rattle.torus.specs.declared.step.Choice.TheVariants.{Send}
use Rattle.command_schedule.specs.declared.line.ScheduleLine.TheVariants.{Round, Move, End}
use Rattle.command_schedule.specs.Schedule.{round_lines, schedule_of, IsStepOf}

abbrev step : ℕ → Step
step agent = record { agent = agent; choice = Send }

-- a round is its heading and all of its moves
round_of_two : round_lines 3 (step 0 ∷ step 3 ∷ []) ≡ Round 3 ∷ Move (step 0) ∷ Move (step 3) ∷ []
round_of_two = refl

-- the rounds of a schedule are numbered from 1
two_rounds : schedule_of ((step 0 ∷ []) ∷ (step 3 ∷ []) ∷ []) true
    ≡ Round 1 ∷ Move (step 0) ∷ Round 2 ∷ Move (step 3) ∷ End true ∷ []
two_rounds = refl

-- two tiles have the agents 0 to 5
agent_5_is_there : IsStepOf (record { radices = 2 ∷ []; datelines = 1 ∷ [] }) (step 5)
agent_5_is_there = record { agent = omega arith; choice = refl }

no_agent_6 : IsStepOf (record { radices = 2 ∷ []; datelines = 1 ∷ [] }) (step 6) → ⊥
no_agent_6 h = absurd (omega (arith, h.agent))
