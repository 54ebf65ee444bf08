-- The lines of a network text that name its routers and channels (this project's own format).
use Rattle.std.specs.Prelude.{ℕ, Bool, true, false, not, List, [], ◌∷◌, filter, Option, Some}
use Rattle.lexer.specs.Words.{words_of}
use Rattle.network_text.specs.declared.reason.Keyword.{Keyword}
use Rattle.network_text.specs.declared.reason.Keyword.TheVariants.{Router, Link, Name}
use Rattle.network_text.specs.Reasons.{network_keyword_of}

-- whether a line that begins with this keyword, if any, gives a name
abbrev pub is_naming : Option Keyword → Bool
is_naming (Some Router) = true
is_naming (Some Link) = true
is_naming (Some Name) = true
is_naming _ = false

-- whether words give a name
abbrev pub words_name : List (List ℕ) → Bool
words_name [] = false
words_name (word ∷ words) = is_naming (network_keyword_of word)

-- the lines but those that give a name
abbrev pub without_names : List (List ℕ) → List (List ℕ)
without_names lines = filter (λ line. not (words_name (words_of line))) lines
