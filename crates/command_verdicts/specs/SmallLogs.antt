-- What is printed of a log of which a small part is asked for, where a memory model doesn't explain it.
use Rattle.std.specs.Prelude.{◌≡◌, ℕ, List, [], Option, Some, None, Result}
use Rattle.program_fault.specs.declared.fault.ProgramFault.{ProgramFault}
use Rattle.program_fault.specs.Done.{Does, Output}
use Rattle.model_answer.specs.declared.answer.Answer.{Answer}
use Rattle.model_answer.specs.declared.answer.Options.{Options}
use Rattle.model_answer.specs.declared.model.AskedModel.{AskedModel}
use Rattle.model_answer.specs.Answer.{IsAnswerTo, IsWrongIn, weakest_told}
use Rattle.command_verdicts.specs.declared.model.Modelled.{Modelled}
use Rattle.command_verdicts.specs.declared.model.Modelled.TheVariants.{Obeys, WithoutFences, Wrong}
use Rattle.command_verdicts.specs.declared.model.Modelled.TheVariants.{OtherShape, OtherOperation}
use Rattle.command_verdicts.specs.Modelled.{IsLogFault}

-- the text of an answer, where no model is broken
abbrev pub text_unless : Option AskedModel → List ℕ → List ℕ
text_unless None text = text
text_unless (Some model) text = []

-- what is printed of what a log is judged to be: the answer, where it tells a no of no model; nothing
-- where a small part will follow, or a reply isn't due
abbrev pub IsUnbroken : (A : Type 0) → List (List ℕ) → Options → Modelled → List ℕ → Type 0
IsUnbroken A lines options (Obeys obeys weak) text =
    (answer : Answer A) × IsAnswerTo lines options answer × (obeys ≡ answer.obeys)
    × (weak ≡ answer.weak) × (text ≡ text_unless (weakest_told obeys weak) answer.text.items)
IsUnbroken A lines options (WithoutFences obeys weak) text = ⊥
IsUnbroken A lines options (OtherShape line) text = ⊥
IsUnbroken A lines options (OtherOperation line p passed) text = ⊥
IsUnbroken A lines options (Wrong wrong) text = IsWrongIn lines wrong × (text ≡ [])

-- this was printed
abbrev pub PrintsUnbroken : (A : Type 0) → List (List ℕ) → Options → Output → Output
    → Result Modelled ProgramFault → Type 0
PrintsUnbroken A lines options = Does (IsUnbroken A lines options) (IsLogFault lines)
