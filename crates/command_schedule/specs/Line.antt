-- What each line of a schedule spells (this project's own format).
use Rattle.std.specs.Prelude.{ℕ, List, [], ◌∷◌, ◌++◌, true, false, codes, decimal}
use Rattle.std.specs.List.{flat_map}
use Rattle.lexer.specs.Joined.{line_of_words}
use Rattle.torus.specs.declared.step.Step.{Step}
use Rattle.torus.specs.declared.step.Choice.{Choice}
use Rattle.torus.specs.declared.step.Choice.TheVariants.{Send, Take, TakeFrom, Put, Credit}
use Rattle.torus.specs.declared.step.Choice.TheVariants.{CreditOf, Serve, Done, Look}
use Rattle.command_schedule.specs.declared.line.ScheduleLine.{ScheduleLine}
use Rattle.command_schedule.specs.declared.line.ScheduleLine.TheVariants.{Round, Move, End}

-- the word for a choice, and the number of the input or output if it has one
abbrev pub choice_words : Choice → List (List ℕ)
choice_words Send = codes "send" ∷ []
choice_words Take = codes "take" ∷ []
choice_words (TakeFrom input) = codes "take" ∷ decimal input ∷ []
choice_words (Put input) = codes "put" ∷ decimal input ∷ []
choice_words Credit = codes "credit" ∷ []
choice_words (CreditOf output) = codes "credit" ∷ decimal output ∷ []
choice_words Serve = codes "serve" ∷ []
choice_words Done = codes "done" ∷ []
choice_words Look = codes "look" ∷ []

-- the agent, and its choice
abbrev pub step_words : Step → List (List ℕ)
step_words step = decimal step.agent ∷ choice_words step.choice

-- the words of a line; that of a round and the last one begin with `#`, as comments do
abbrev pub schedule_words : ScheduleLine → List (List ℕ)
schedule_words (Round number) = codes "#" ∷ codes "round" ∷ decimal number ∷ []
schedule_words (Move step) = step_words step
schedule_words (End true) = codes "#" ∷ codes "finished" ∷ []
schedule_words (End false) = codes "#" ∷ codes "stopped" ∷ []

-- the bytes of a line: its words with one space between each two, and a line feed
abbrev pub line_text : ScheduleLine → List ℕ
line_text line = line_of_words (schedule_words line)

-- the bytes of lines, one after another
abbrev pub text_of : List ScheduleLine → List ℕ
text_of lines = flat_map line_text lines
