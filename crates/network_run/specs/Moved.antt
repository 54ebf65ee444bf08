-- The run text: the moves that its lines spell, or where and why it is refused (this project's own
-- format).
use Rattle.std.specs.Prelude.{◌≡◌, ℕ, ◌+◌, List, [], ◌∷◌, ◌++◌, length, Result, Ok, Err}
use Rattle.std.specs.Prelude.{Option, Some, None, if◌then◌else◌}
use Rattle.lexer.specs.Words.{words_of, begins_comment}
use Rattle.lexer.specs.declared.refusal.Refusal.{Refusal}
use Rattle.lexer.specs.Outcome.{◌>>=◌, then_lines}
use Rattle.network_machine.specs.declared.moves.Move.{Move}
use Rattle.network_run.specs.declared.reading.RunMoves as rust
use Rattle.network_run.specs.declared.reason.MoveKeyword.{MoveKeyword}
use Rattle.network_run.specs.declared.reason.RunReason.{RunReason}
use Rattle.network_run.specs.declared.reason.RunReason.TheVariants as reason
use Rattle.network_run.specs.Reasons.{move_keyword_of}
use Rattle.network_run.specs.Spelled.{spelled_move}

-- the moves of a run text, and the number of the line of each
pub record RunSpec : Type 0 where
  pub moves : List Move
  pub lines : List ℕ

-- what a program keeps of them
abbrev pub run_spec : {A : Type 0} → rust.RunMoves A → RunSpec
run_spec r = record { moves = r.moves.items; lines = r.lines.items }

-- no move
abbrev pub no_moves : RunSpec
no_moves = record { moves = []; lines = [] }

-- one more move, at this line
abbrev pub with_run_move : RunSpec → ℕ → Move → RunSpec
with_run_move r number move =
    record { moves = r.moves ++ move ∷ []; lines = r.lines ++ number ∷ [] }

-- what a line makes of them whose first word may be a keyword
abbrev pub after_move_word : RunSpec → ℕ → Option MoveKeyword → List (List ℕ)
    → Result RunSpec RunReason
after_move_word r number None values = Err reason.UnknownKeyword
after_move_word r number (Some keyword) values =
    spelled_move keyword values >>= λ move. Ok (with_run_move r number move)

-- what the words of the line of this number make of them; a line without words and a comment are
-- skipped
abbrev pub after_move_words : RunSpec → ℕ → List (List ℕ) → Result RunSpec RunReason
after_move_words r number [] = Ok r
after_move_words r number (word ∷ values) =
    if begins_comment word then Ok r else after_move_word r number (move_keyword_of word) values

-- the moves of these lines, of which the first has this number, behind those before; or the refusal
-- of the first bad line
abbrev pub run_from : RunSpec → ℕ → List (List ℕ) → Result RunSpec (Refusal RunReason)
run_from r number [] = Ok r
run_from r number (line ∷ lines) =
    then_lines number (after_move_words r number (words_of line))
    (λ next. run_from next (number + 1) lines)

-- the moves of a text, given as the list of its lines, or where and why it is refused
abbrev pub run_or_why : List (List ℕ) → Result RunSpec (Refusal RunReason)
run_or_why lines = run_from no_moves 1 lines

-- each move has a line
abbrev pub HasLines : RunSpec → Type 0
HasLines r = length r.moves ≡ length r.lines
