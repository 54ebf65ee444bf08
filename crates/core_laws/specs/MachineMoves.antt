-- The moves of a list of steps, from a load and from a machine.
use Rattle.std.specs.Prelude.{◌≡◌, List, ◌∷◌, ◌++◌}
use Rattle.torus.specs.declared.step.Step.{Step}
use Rattle.core_laws.specs.Rounds.{IsEnabled}
use Rattle.core_laws.specs.Core.{Load, design_of, first_state, step, after}
use Rattle.core_laws.specs.Machine.{Core, built_to, core_after}
use Rattle.core_laws.specs.Enabled.{enabled_of}

-- of a list of steps from a load, those that are moves: each is enabled where it comes
abbrev pub moves_of : Load → List Step → List Step
moves_of l steps = enabled_of (step (design_of l)) (first_state l) steps

-- and from a machine
abbrev pub moves_from : Core → List Step → List Step
moves_from c steps = enabled_of (step (built_to c)) c.state steps

-- each of these steps from a load is a move
abbrev pub AreMoves : Load → List Step → Type 0
AreMoves l steps = (before : List Step) (attempt : Step) (behind : List Step)
    → steps ≡ before ++ attempt ∷ behind
    → IsEnabled (step (design_of l)) (after l before) attempt

-- and from a machine
abbrev pub AreMovesFrom : Core → List Step → Type 0
AreMovesFrom c steps = (before : List Step) (attempt : Step) (behind : List Step)
    → steps ≡ before ++ attempt ∷ behind
    → IsEnabled (step (built_to c)) (core_after c before).state attempt
