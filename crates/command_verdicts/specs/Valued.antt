-- What the command prints that judges a log by its replies alone (this project's own format).
use Rattle.std.specs.Prelude.{◌≡◌, ℕ, List, [], Result, Err}
use Rattle.lexer.specs.Faults.{by_fault}
use Rattle.model_text.specs.Reasons.{log_fault_of}
use Rattle.model_answer.specs.declared.model.MemoryModel.{MemoryModel}
use Rattle.model_replies.specs.declared.answer.NoValueAnswer.TheVariants as none
use Rattle.model_replies.specs.declared.answer.ValueAnswer.{ValueAnswer}
use Rattle.model_replies.specs.declared.answer.ValueOptions.{ValueOptions}
use Rattle.model_replies.specs.declared.decision.Decision.{Decision}
use Rattle.model_replies.specs.declared.decision.Decision.TheVariants.{Obeys, Breaks, Undecided, NotTold}
use Rattle.model_replies.specs.Answers.{IsUnaskedIn, IsValueAnswerTo}
use Rattle.model_replies.specs.Judged.{decision_on}
use Rattle.model_replies.specs.Reading.{values_of}
use Rattle.program_fault.specs.declared.fault.ProgramFault.{ProgramFault}
use Rattle.program_fault.specs.declared.fault.ProgramFault.TheVariants as program
use Rattle.program_fault.specs.Done.{Does, Output}
use Rattle.command_verdicts.specs.declared.values.Decided.{Decided}
use Rattle.command_verdicts.specs.declared.values.Decided.TheVariants.{Models, Unwritten, Lost}

-- what is printed of what a log is judged to be: the answer with these decisions, or, where no model
-- is asked, nothing
abbrev pub IsDecided : (A : Type 0) → List (List ℕ) → ValueOptions → Decided → List ℕ → Type 0
IsDecided A lines options (Models all) text =
    (answer : ValueAnswer A) × IsValueAnswerTo lines options answer × (all ≡ answer.decisions)
    × (text ≡ answer.text.items)
IsDecided A lines options (Unwritten a) text = IsUnaskedIn lines (none.Unwritten a) × (text ≡ [])
IsDecided A lines options (Lost a b) text = IsUnaskedIn lines (none.Lost a b) × (text ≡ [])

-- the log text has this as its first fault
abbrev pub IsValuesFault : List (List ℕ) → ProgramFault → Type 0
IsValuesFault lines (program.Line found) = by_fault log_fault_of (values_of lines) ≡ Err found
IsValuesFault lines _ = ⊥

-- the decisions on a log were printed
abbrev pub PrintsDecisions : (A : Type 0) → List (List ℕ) → ValueOptions → Output → Output
    → Result Decided ProgramFault → Type 0
PrintsDecisions A lines options = Does (IsDecided A lines options) (IsValuesFault lines)

-- the status that the program ends with, by the decision on a model
abbrev pub decision_status : Decision → ℕ
decision_status Obeys = 0
decision_status Breaks = 1
decision_status Undecided = 5
decision_status NotTold = 5

abbrev pub decided_status : Decided → MemoryModel → ℕ
decided_status (Models all) model = decision_status (decision_on model all)
decided_status (Unwritten a) model = 1
decided_status (Lost a b) model = 1
