-- What a line of a dialogue asks for (this project's own format).
use Rattle.std.specs.Prelude.{ℕ, ◌&&◌, nat_le, nat_lt, List, [], ◌∷◌, Result, Ok, Err, if◌then◌else◌, codes}
use Rattle.std.specs.Str.{bytes_eq}
use Rattle.torus.specs.Shape.{Shape, dims_of, tiles_of}
use Rattle.torus.specs.declared.fault.Fault.{Fault}
use Rattle.torus.specs.declared.fault.Fault.TheVariants as fault
use Rattle.lexer.specs.Words.{begins_comment}
use Rattle.lexer.specs.Outcome.{◌>>=◌}
use Rattle.script.specs.Scripts.{line_for}
use Rattle.script.specs.Settings.{an_index}
use Rattle.command_live.specs.Step.{step_asked}
use Rattle.command_live.specs.declared.command.Command.{Command}
use Rattle.command_live.specs.declared.command.Command.TheVariants as command

-- what stands behind `ask`: a line of a script, which is read as there
abbrev pub ask_of : ℕ → ℕ → List (List ℕ) → Result Command Fault
ask_of tiles memory [] = Err fault.Line
ask_of tiles memory (processor ∷ rest) =
    line_for tiles memory processor rest >>= λ found. Ok (command.Ask (found.0) (found.1))

-- a number of rounds is 1 to 1000000
abbrev pub rounds_asked : ℕ → Result ℕ Fault
rounds_asked n = if nat_le 1 n && nat_le n 1000000 then Ok n else Err fault.Range

-- how many stand behind `round` or `clocked`: their number, or nothing for one
abbrev pub round_count : List (List ℕ) → Result ℕ Fault
round_count [] = Ok 1
round_count (n ∷ []) = an_index n >>= rounds_asked
round_count (n ∷ m ∷ more) = Err fault.Line

-- what stands behind `wait`: a processor, and the index of one of its operations
abbrev pub wait_of : List (List ℕ) → Result Command Fault
wait_of [] = Err fault.Line
wait_of (p ∷ []) = Err fault.Line
wait_of (p ∷ i ∷ []) = an_index p >>= λ p. an_index i >>= λ i. Ok (command.Wait p i)
wait_of (p ∷ i ∷ j ∷ more) = Err fault.Line

-- what stands behind `word`: an address of a memory of so many words
abbrev pub address_in : ℕ → ℕ → Result Command Fault
address_in memory a = if nat_lt a memory then Ok (command.Word a) else Err fault.Address

abbrev pub word_asked : ℕ → List (List ℕ) → Result Command Fault
word_asked memory [] = Err fault.Line
word_asked memory (a ∷ []) = an_index a >>= address_in memory
word_asked memory (a ∷ b ∷ more) = Err fault.Line

-- what stands behind `step`: a line of a steps text
abbrev pub step_of : Shape → List (List ℕ) → Result Command Fault
step_of s words = step_asked (tiles_of s) (dims_of s) words >>= λ step. Ok (command.Step step)

-- what stands behind `order`: the word `from`, and the number of a row, from 0
abbrev pub order_from : List ℕ → List ℕ → Result Command Fault
order_from word first =
    if bytes_eq word (codes "from") then (an_index first >>= λ n. Ok (command.Order n))
    else Err fault.Line

abbrev pub order_of : List (List ℕ) → Result Command Fault
order_of [] = Err fault.Line
order_of (word ∷ []) = Err fault.Line
order_of (word ∷ first ∷ []) = order_from word first
order_of (word ∷ first ∷ x ∷ more) = Err fault.Line

-- nothing stands behind the other keywords
abbrev pub alone : Command → List (List ℕ) → Result Command Fault
alone c [] = Ok c
alone c (x ∷ xs) = Err fault.Line

-- one word stands behind `load`
abbrev pub load_digits : List (List ℕ) → Result Command Fault
load_digits (digits ∷ []) = Ok command.Load
load_digits [] = Err fault.Line
load_digits (x ∷ y ∷ more) = Err fault.Line

-- what a keyword asks for behind which nothing stands
abbrev pub named_alone : List ℕ → List (List ℕ) → Result Command Fault
named_alone keyword rest =
    if bytes_eq keyword (codes "finish") then alone command.Finish rest
    else (if bytes_eq keyword (codes "finished") then alone command.Finished rest
    else (if bytes_eq keyword (codes "report") then alone command.Report rest
    else (if bytes_eq keyword (codes "reopen") then alone command.Reopen rest
    else (if bytes_eq keyword (codes "save") then alone command.Save rest
    else (if bytes_eq keyword (codes "quit") then alone command.Quit rest
    else Err fault.Line)))))

-- what a keyword and the words behind it ask for, of a machine of this shape and so many words
abbrev pub named : Shape → ℕ → List ℕ → List (List ℕ) → Result Command Fault
named s memory keyword rest =
    if bytes_eq keyword (codes "ask") then ask_of (tiles_of s) memory rest
    else (if bytes_eq keyword (codes "step") then step_of s rest
    else (if bytes_eq keyword (codes "round")
    then (round_count rest >>= λ n. Ok (command.Rounds n))
    else (if bytes_eq keyword (codes "clocked")
    then (round_count rest >>= λ n. Ok (command.Clocked n))
    else (if bytes_eq keyword (codes "wait") then wait_of rest
    else (if bytes_eq keyword (codes "word") then word_asked memory rest
    else (if bytes_eq keyword (codes "order") then order_of rest
    else (if bytes_eq keyword (codes "load") then load_digits rest
    else named_alone keyword rest)))))))

-- a line of another shape is a bad one; one of the right shape may have a fault
abbrev pub command_from : Result Command Fault → Command
command_from (Ok c) = c
command_from (Err fault.Line) = command.Bad
command_from (Err e) = command.Refused e

-- what the words of a line ask for; a line without words and a comment ask for nothing
abbrev pub command_of : Shape → ℕ → List (List ℕ) → Command
command_of s memory [] = command.Nothing
command_of s memory (keyword ∷ rest) =
    if begins_comment keyword then command.Nothing
    else command_from (named s memory keyword rest)

-- the second of some words, or nothing
abbrev pub second_in : List (List ℕ) → List ℕ
second_in [] = []
second_in (first ∷ []) = []
second_in (first ∷ second ∷ more) = second
