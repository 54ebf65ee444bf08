-- What is written of a run and of its end (this project's own format).
use Rattle.std.specs.Prelude.{ℕ, List, ◌++◌, length, slice_index_or, codes, decimal}
use Rattle.network_machine.specs.declared.moves.Move.{Move}
use Rattle.network_machine.specs.declared.moves.Move.TheVariants.{Send, More, Take, Put, Accept}
use Rattle.network_machine.specs.declared.moves.Move.TheVariants.{Credit}
use Rattle.network_machine.specs.declared.moves.Ending.{Ending}
use Rattle.network_machine.specs.declared.moves.Ending.TheVariants as ending
use Rattle.network_text.specs.Lines.{first_lines}
use Rattle.network_answer.specs.Answer.{no_route_line}
use Rattle.network_run.specs.declared.replaying.Replayed.{Replayed}
use Rattle.network_run.specs.declared.replaying.Replayed.TheVariants as replayed

-- the words of a move
abbrev pub move_words : Move → List ℕ
move_words (Send p) = codes "send " ++ decimal p.from ++ (codes " " ++ decimal p.to)
    ++ (codes " " ++ decimal p.length)
move_words (More x) = codes "more " ++ decimal x
move_words (Take x) = codes "take " ++ decimal x
move_words (Put x) = codes "put " ++ decimal x
move_words (Accept x) = codes "accept " ++ decimal x
move_words (Credit x) = codes "credit " ++ decimal x

-- the line of a move
abbrev pub move_line : Move → List ℕ
move_line of = move_words of ++ codes "\n"

-- the line of the move at a place
abbrev pub move_line_at : List Move → ℕ → List ℕ
move_line_at moves k = move_line (slice_index_or moves k (More 0))

-- a line for each move, in their order
abbrev pub moves_text : List Move → List ℕ
moves_text moves = first_lines (move_line_at moves) (length moves)

-- the line on how a run ends
abbrev pub ending_line : Ending → List ℕ
ending_line ending.Locked = codes "locked\n"
ending_line ending.Empty = codes "empty\n"
ending_line (ending.Goes of) = move_words of ++ codes " may still happen\n"

-- the line on a replay
abbrev pub replay_line : Replayed → List ℕ
replay_line (replayed.NoRoute r) = no_route_line r
replay_line (replayed.Ended ending) = ending_line ending
