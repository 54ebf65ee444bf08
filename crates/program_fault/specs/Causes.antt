-- Why texts have a fault (this project's own format).
use Rattle.std.specs.Prelude.{ℕ, List, Bool, true, false, Option, Some, None, codes}
use Rattle.torus.specs.declared.fault.Fault.TheVariants as fault
use Rattle.program_fault.specs.declared.fault.ProgramFault.{ProgramFault}
use Rattle.program_fault.specs.declared.fault.ProgramFault.TheVariants as program
use Rattle.program_fault.specs.declared.telling.Cause.{Cause}
use Rattle.program_fault.specs.declared.telling.Cause.TheVariants.{Sentence, Behind}

-- a fault may be that of a line of a text: memory may have been refused while one was read
abbrev pub is_of_texts : ProgramFault → Bool
is_of_texts (program.Line found) = true
is_of_texts (program.Fault fault.Memory) = true
is_of_texts _ = false

-- why texts have a fault, by the sentence on the first of them that has one: where none has, and
-- memory was refused, that was behind them
abbrev pub cause_of : {S : Type 0} → ProgramFault → Option S → Option (Cause S)
cause_of fault (Some sentence) = Some (Sentence sentence)
cause_of (program.Fault fault.Memory) None = Some Behind
cause_of _ None = None

-- what is printed of it, by what is printed of a sentence
abbrev pub cause_text : {S : Type 0} → (S → Option (List ℕ)) → Cause S → Option (List ℕ)
cause_text text (Sentence sentence) = text sentence
cause_text text Behind =
    Some (codes "a request for memory was refused behind the texts, which have no fault")
