-- Attempts of a list, one after the other.
use Rattle.std.proofs.Common.{◌≡◌, ◌+◌, List, ◌∷◌, Option, Some, None, ◌∙◌, ap}
use Rattle.std.specs.List.{cons_option}
use Rattle.torus.specs.declared.step.Step.{Step}
use Rattle.core_laws.specs.Rounds.{moves_in}
use Rattle.core_laws.specs.Core.{Load, step}
use Rattle.core_laws.specs.Machine.{Core, IsAfter, built_to, core_after, core_next}
use Rattle.core_laws.proofs.Moves.{left_after}
use Rattle.torusmem_c.specs.declared.stepping.AttemptRecord.{AttemptRecord}
use Rattle.torusmem_c.specs.Choices.{attempt_named}
use Rattle.torusmem_c.specs.Steps.{steps_named}

-- what names a step is made, and what names none is left out
pub named_first : (c : Core) (x : AttemptRecord) (xs : List AttemptRecord) (s : Step)
    → attempt_named x.agent x.choice x.number ≡ Some s → core_after c (steps_named (x ∷ xs)) ≡ core_after (core_next c s) (steps_named xs)
named_first c x xs s is = ap (λ (o : Option Step). core_after c (cons_option o (steps_named xs))) is

pub unnamed_first : (c : Core) (x : AttemptRecord) (xs : List AttemptRecord)
    → attempt_named x.agent x.choice x.number ≡ None → core_after c (steps_named (x ∷ xs)) ≡ core_after c (steps_named xs)
unnamed_first c x xs is = ap (λ (o : Option Step). core_after c (cons_option o (steps_named xs))) is

-- the moves that are left fall by those that are made
pub falls : (l : Load) (c new : Core) (before steps : List Step) → IsAfter l c before → new ≡ core_after c steps
    → new.moves_left + moves_in (step (built_to c)) c.state steps ≡ c.moves_left
falls l c new before steps h is = ap (λ (x : Core). x.moves_left + moves_in (step (built_to c)) c.state steps) is ∙ left_after l c before h steps
