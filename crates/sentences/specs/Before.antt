-- What a line before a refused one gave already (this project's own format).
use Rattle.std.specs.Prelude.{ℕ, ◌&&◌, ◌==◌, Bool, false, List, [], ◌∷◌, Option, Some, None}
use Rattle.std.specs.Prelude.{unwrap_or, codes}
use Rattle.std.specs.Str.{bytes_eq}
use Rattle.lexer.specs.Spelled.{index_or_zero}
use Rattle.lexer.specs.Before.{line_that_gives}
use Rattle.script.specs.declared.reason.Keyword.{Keyword}
use Rattle.script.specs.declared.reason.TextReason.{TextReason}
use Rattle.script.specs.declared.reason.TextReason.TheVariants.{GivenTwice, InitTwice}
use Rattle.script.specs.Reasons.{keyword_word}
use Rattle.sentences.specs.declared.before.Gift.{Gift}
use Rattle.sentences.specs.declared.before.Gift.TheVariants.{Setting, Opening}

-- whether words begin with a keyword
abbrev pub begin_with : Keyword → List (List ℕ) → Bool
begin_with keyword [] = false
begin_with keyword (word ∷ more) = bytes_eq word (keyword_word keyword)

-- whether words are those of the opening word of this address
abbrev pub open_address : ℕ → List (List ℕ) → Bool
open_address address [] = false
open_address address (word ∷ []) = false
open_address address (word ∷ a ∷ more) =
    bytes_eq word (codes "init") && (index_or_zero a == address)

-- whether words give it
abbrev pub words_give : Gift → List (List ℕ) → Bool
words_give (Setting keyword) words = begin_with keyword words
words_give (Opening address) words = open_address address words

-- what is given twice, by the reason for which the second line is refused
abbrev pub given_twice : TextReason → Option Gift
given_twice (GivenTwice keyword) = Some (Setting keyword)
given_twice (InitTwice address) = Some (Opening address)
given_twice _ = None

-- the number of the first line before the line `stop` that gives it; 0 where none does
abbrev pub line_giving : Option Gift → ℕ → List (List ℕ) → ℕ
line_giving None stop lines = 0
line_giving (Some gift) stop lines = unwrap_or (line_that_gives (words_give gift) stop lines) 0

-- the line before a refused one that gave the same; 0 where the reason is another
abbrev pub earlier_line : TextReason → ℕ → List (List ℕ) → ℕ
earlier_line reason stop lines = line_giving (given_twice reason) stop lines
