-- The spins that ran out of loads, with their lines in the script text.
use Rattle.std.specs.Prelude.{ℕ, ◌+◌, ◌==◌, ◌&&◌, Bool, false, not, List, [], ◌∷◌, map, Option}
use Rattle.std.specs.Prelude.{Some, None}
use Rattle.std.specs.Prelude.{if◌then◌else◌}
use Rattle.std.specs.List.{slice_index_or}
use Rattle.lexer.specs.Words.{words_of, begins_comment}
use Rattle.lexer.specs.Numbers.{index_of}
use Rattle.script_lines.specs.declared.line.Line.{Line}
use Rattle.one_order.specs.declared.answer.Answer.{Answer}
use Rattle.sentences.specs.declared.spins.SpentSpin.{SpentSpin}
use Rattle.sentences.specs.Spins.{spent_spins}
use Rattle.sentences.specs.Replies.{replies_in}

-- whether a word spells this processor
abbrev pub spells : ℕ → Option ℕ → Bool
spells p None = false
spells p (Some q) = q == p

-- whether a line of a script text, given as its words, is one of this processor's script
abbrev pub is_script_line : ℕ → List (List ℕ) → Bool
is_script_line p [] = false
is_script_line p (word ∷ words) = not (begins_comment word) && spells p (index_of word)

-- the numbers of the lines of a processor's script among the lines of a text, of which the first
-- has this number
abbrev pub numbers_from : ℕ → ℕ → List (List ℕ) → List ℕ
numbers_from p number [] = []
numbers_from p number (line ∷ lines) =
    if is_script_line p (words_of line) then number ∷ numbers_from p (number + 1) lines
    else numbers_from p (number + 1) lines

-- the spin of a place in the script, at its line among these; at 0 where there is none
abbrev pub placed_at_line : List ℕ → SpentSpin → SpentSpin
placed_at_line numbers spin = record spin { place = slice_index_or numbers spin.place 0 }

-- the spins of a processor's script that ran out of loads, by the answers that it had, each with
-- its line in the text of the scripts, from 1
abbrev pub spent_lines : ℕ → List (List ℕ) → List Line → List Answer → List SpentSpin
spent_lines p text script answers =
    map (placed_at_line (numbers_from p 1 text)) (spent_spins script (replies_in answers))
