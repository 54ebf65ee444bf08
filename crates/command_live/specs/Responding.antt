-- What a line of a dialogue comes to: what the machine does for it, and what the output takes (this
-- project's own format).
use Rattle.std.specs.Prelude.{◌≡◌, ℕ, List, length, Bool, true, false, Result, Ok, Err}
use Rattle.lexer.specs.Words.{first_words}
use Rattle.machine_record.specs.Machine.{Recorded}
use Rattle.program_fault.specs.Done.{Output, TookAll, TookFront}
use Rattle.command_live.specs.declared.command.Command.{Command}
use Rattle.command_live.specs.declared.command.Command.TheVariants as command
use Rattle.command_live.specs.Command.{command_of, second_in}
use Rattle.command_live.specs.declared.said.Said.{Said}
use Rattle.command_live.specs.Said.{said_text}
use Rattle.command_live.specs.Obeying.{Obeys}

-- what a line asks for of a machine
abbrev pub asked_by : List ℕ → Recorded → Command
asked_by line v =
    command_of v.asked.core.shape (length v.asked.core.opening) (first_words line)

-- the dialogue goes on behind whatever is asked for but its end
abbrev pub goes_on : Command → Bool
goes_on command.Quit = false
goes_on c = true

-- the machine does what a line asks for, and the text of what is answered, or a beginning of it, is
-- taken
pub record DoesRequest (A : Type 0) (takes : Output → Output → List ℕ → Type 0) (line : List ℕ)
    (old new : Recorded) (before after : Output) : Type 0 where
  pub said : Said A
  pub obeys : Obeys (asked_by line old) (second_in (first_words line)) old new said
  pub text : takes before after (said_text said)

-- a line has come, and whether the dialogue goes on; or the output failed
abbrev pub Responds : {E : Type 0} → (A : Type 0) → List ℕ → Recorded → Recorded → Output → Output
    → Result Bool E → Type 0
Responds A line old new before after (Ok on) =
    DoesRequest A TookAll line old new before after × (on ≡ goes_on (asked_by line old))
Responds A line old new before after (Err e) = DoesRequest A TookFront line old new before after
