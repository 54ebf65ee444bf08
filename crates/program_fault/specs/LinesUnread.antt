-- What is printed of a text that can't be read (this project's own format).
use Rattle.std.specs.Prelude.{ℕ, List, ◌++◌, Option, codes, option_map}
use Rattle.program_fault.specs.declared.unread.Unread.{Unread}
use Rattle.program_fault.specs.Unread.{unread_words}
use Rattle.program_fault.specs.declared.explaining.UnreadLine.{UnreadLine}

-- the line on the text of a name
abbrev pub unread_text : UnreadLine → List ℕ
unread_text line = line.name.now ++ codes ": " ++ line.words.now

-- the line on the text of a name that can't be read, where there is a word for it
abbrev pub unread_line_of : List ℕ → Unread → Option (List ℕ)
unread_line_of name why = option_map (λ words. name ++ codes ": " ++ words) (unread_words why)
