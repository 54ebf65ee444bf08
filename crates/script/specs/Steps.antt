-- The steps text: what each line makes of what the lines before it made, and what the whole text is
-- (this project's own format).
use Rattle.std.specs.Prelude.{ℕ, ◌+◌, ◌*◌, ◌%◌, ◌&&◌, ◌==◌, Bool, nat_lt, List, [], ◌∷◌, ◌++◌, Option, Some, None, is_some, ok_or}
use Rattle.std.specs.Prelude.{Result, Ok, Err, if◌then◌else◌, codes}
use Rattle.std.specs.Str.{bytes_eq}
use Rattle.torus.specs.declared.step.Step.{Step}
use Rattle.torus.specs.declared.step.Choice.{Choice}
use Rattle.torus.specs.declared.step.Choice.TheVariants as choice
use Rattle.torus.specs.Shape.{tiles_of, dims_of}
use Rattle.lexer.specs.Words.{words_of, begins_comment}
use Rattle.lexer.specs.declared.fault.LineFault.{LineFault}
use Rattle.script.specs.declared.attempt.ChoiceWord.{ChoiceWord}
use Rattle.script.specs.declared.attempt.ChoiceWord.TheVariants.{Send, Take, Put, Credit, Serve, Done, Look}
use Rattle.script.specs.declared.attempt.Attempt.{Attempt}
use Rattle.lexer.specs.Outcome.{◌>>=◌, then_lines}
use Rattle.lexer.specs.declared.refusal.Refusal.{Refusal}
use Rattle.script.specs.declared.reason.Agent.{Agent}
use Rattle.script.specs.declared.reason.Agent.TheVariants.{Processor, Router, Bank}
use Rattle.script.specs.declared.reason.TextReason.{TextReason}
use Rattle.script.specs.declared.reason.TextReason.TheVariants as reason
use Rattle.lexer.specs.Faults.{by_fault}
use Rattle.script.specs.Reasons.{fault_of, kind_of_agent}
use Rattle.script.specs.Settings.{number_at}
use Rattle.script_lines.specs.Machine.{MachineSpec}

-- the words for choices
abbrev pub choice_word : List ℕ → Option ChoiceWord
choice_word word =
    if bytes_eq word (codes "send") then Some Send
    else (if bytes_eq word (codes "take") then Some Take
    else (if bytes_eq word (codes "put") then Some Put
    else (if bytes_eq word (codes "credit") then Some Credit
    else (if bytes_eq word (codes "serve") then Some Serve
    else (if bytes_eq word (codes "done") then Some Done
    else (if bytes_eq word (codes "look") then Some Look
    else None))))))

-- a choice word where one belongs
abbrev pub a_choice : List ℕ → Result ChoiceWord TextReason
a_choice word = ok_or (choice_word word) reason.UnknownChoice

-- the shape of a line: an agent, a choice word, and a number or none
abbrev pub attempt_of : List (List ℕ) → Result Attempt TextReason
attempt_of (agent ∷ word ∷ []) =
    number_at 0 agent >>= λ a. a_choice word >>= λ w. Ok
    (record { agent = a; word = w; number = None })
attempt_of (agent ∷ word ∷ number ∷ []) =
    number_at 0 agent >>= λ a. a_choice word >>= λ w. number_at 2 number >>= λ n. Ok
    (record { agent = a; word = w; number = Some n })
attempt_of [] = Err reason.StepCount
attempt_of (agent ∷ []) = Err reason.StepCount
attempt_of (agent ∷ word ∷ number ∷ other ∷ more) = Err reason.StepCount

-- the choices of a processor
abbrev pub processor_choice : ChoiceWord → Option Choice
processor_choice Send = Some choice.Send
processor_choice Take = Some choice.Take
processor_choice Put = None
processor_choice Credit = Some choice.Credit
processor_choice Serve = None
processor_choice Done = Some choice.Done
processor_choice Look = Some choice.Look

-- the choices of a router, each of an input or an output
abbrev pub router_choice : ChoiceWord → ℕ → Option Choice
router_choice Send n = None
router_choice Take n = Some (choice.TakeFrom n)
router_choice Put n = Some (choice.Put n)
router_choice Credit n = Some (choice.CreditOf n)
router_choice Serve n = None
router_choice Done n = None
router_choice Look n = None

-- the choices of a bank
abbrev pub bank_choice : ChoiceWord → Option Choice
bank_choice Send = Some choice.Send
bank_choice Take = Some choice.Take
bank_choice Put = None
bank_choice Credit = Some choice.Credit
bank_choice Serve = Some choice.Serve
bank_choice Done = None
bank_choice Look = None

-- the choice of the agents of a tile: processor 0, router 1, bank 2. A router's have the number of
-- one of its 8 n + 2 inputs or outputs, the others have none
abbrev pub agent_choice : ℕ → ℕ → ChoiceWord → Option ℕ → Option Choice
agent_choice dims kind word None =
    if kind == 0 then processor_choice word
    else (if kind == 2 then bank_choice word
    else None)
agent_choice dims kind word (Some n) =
    if (kind == 1) && nat_lt n (8 * dims + 2) then router_choice word n else None

-- whether agents of a kind have a choice of this word
abbrev pub has_word : Agent → ChoiceWord → Bool
has_word Processor word = is_some (processor_choice word)
has_word Router word = is_some (router_choice word 0)
has_word Bank word = is_some (bank_choice word)

-- why an agent of a kind has no choice of a word that its kind has: the number of an input or output
-- is missing, or not below this number of them, or not wanted
abbrev pub no_port : ℕ → Agent → Option ℕ → TextReason
no_port ports Processor number = reason.PortUnwanted Processor
no_port ports Router None = reason.PortWanted
no_port ports Router (Some n) = reason.PortLimits ports
no_port ports Bank number = reason.PortUnwanted Bank

-- why an agent of a kind has no choice of this word and number
abbrev pub no_choice : ℕ → Agent → ChoiceWord → Option ℕ → TextReason
no_choice ports kind word number =
    if has_word kind word then no_port ports kind number else reason.NoChoice kind

-- the step of a line: there is such an agent, and it has such a choice
abbrev pub step_of : ℕ → ℕ → Attempt → Result Step TextReason
step_of tiles dims t =
    if nat_lt t.agent (3 * tiles)
    then (ok_or (agent_choice dims (t.agent % 3) t.word t.number)
    (no_choice (8 * dims + 2) (kind_of_agent t.agent) t.word t.number) >>= λ c.
    Ok (record { agent = t.agent; choice = c }))
    else Err (reason.AgentLimits (3 * tiles))

-- what the words of a line make of the steps; a line without words and a comment are skipped
abbrev pub take_step : ℕ → ℕ → List Step → List (List ℕ) → Result (List Step) TextReason
take_step tiles dims steps words =
    attempt_of words >>= λ t. step_of tiles dims t >>= λ s. Ok (steps ++ s ∷ [])

abbrev pub after_words : ℕ → ℕ → List Step → List (List ℕ) → Result (List Step) TextReason
after_words tiles dims steps [] = Ok steps
after_words tiles dims steps (agent ∷ rest) =
    if begins_comment agent then Ok steps else take_step tiles dims steps (agent ∷ rest)

-- the steps of these lines, of which the first has this number, after those read; or the refusal of
-- the first bad line
abbrev pub steps_from : ℕ → ℕ → List Step → ℕ → List (List ℕ)
    → Result (List Step) (Refusal TextReason)
steps_from tiles dims steps number [] = Ok steps
steps_from tiles dims steps number (line ∷ lines) =
    then_lines number (after_words tiles dims steps (words_of line))
    (λ next. steps_from tiles dims next (number + 1) lines)

-- the steps of a text for a machine, given as the list of its lines, or where and why the text is
-- refused
abbrev pub steps_or_why : MachineSpec → List (List ℕ) → Result (List Step) (Refusal TextReason)
steps_or_why machine lines =
    steps_from (tiles_of machine.shape) (dims_of machine.shape) [] 1 lines

-- the steps of a text for a machine, given as the list of its lines, or the fault and the line of
-- its refusal
abbrev pub steps_of : MachineSpec → List (List ℕ) → Result (List Step) LineFault
steps_of machine lines = by_fault fault_of (steps_or_why machine lines)
