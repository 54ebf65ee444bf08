-- What the text of a network calls its channels (this project's own format).
use Rattle.std.specs.Prelude.{◌≡◌, ℕ, ◌<◌, ◌==◌, nat_lt, List, [], ◌∷◌, ◌++◌, length, slice_index_or}
use Rattle.std.specs.Prelude.{Bool, true, false, if◌then◌else◌, Option, Some, None, codes}
use Rattle.lexer.specs.Words.{first_words}
use Rattle.lexer.specs.Joined.{joined_on}
use Rattle.lexer.specs.Spelled.{first_index, index_or_zero}
use Rattle.network_judge.specs.declared.table.Kind.{Kind}
use Rattle.network_judge.specs.declared.table.Kind.TheVariants.{Injection, Hop, Ejection}
use Rattle.network_text.specs.declared.reason.Keyword.{Keyword}
use Rattle.network_text.specs.declared.reason.Keyword.TheVariants as keyword
use Rattle.network_text.specs.Reasons.{network_keyword_of}
use Rattle.network_names.specs.declared.called.Naming.{Naming}
use Rattle.network_names.specs.declared.called.Naming.TheVariants.{Router, Link, Name}

-- whether a line of this keyword names so
abbrev pub names_so : Naming → Keyword → Bool
names_so Router keyword.Router = true
names_so Link keyword.Link = true
names_so Name keyword.Name = true
names_so _ _ = false

-- the number that a line of this keyword, if any, names so, by the words behind it
abbrev pub number_behind : Naming → Option Keyword → List (List ℕ) → Option ℕ
number_behind naming None values = None
number_behind naming (Some keyword) values =
    if names_so naming keyword then Some (first_index values) else None

-- the number that a line of these words names so
abbrev pub number_named : Naming → List (List ℕ) → Option ℕ
number_named naming [] = None
number_named naming (word ∷ values) = number_behind naming (network_keyword_of word) values

-- whether it is this number
abbrev pub is_number_named : ℕ → Option ℕ → Bool
is_number_named x None = false
is_number_named x (Some n) = n == x

-- whether a line names this number so
abbrev pub line_names : Naming → ℕ → List ℕ → Bool
line_names naming x line = is_number_named x (number_named naming (first_words line))

-- the first line that names this number so; an empty one where none does
abbrev pub first_naming : Naming → ℕ → List (List ℕ) → List ℕ
first_naming naming x [] = []
first_naming naming x (line ∷ lines) =
    if line_names naming x line then line else first_naming naming x lines

-- that of a number below `room`; an empty line for any other number
abbrev pub naming_line : ℕ → Naming → ℕ → List (List ℕ) → List ℕ
naming_line room naming x lines = if nat_lt x room then first_naming naming x lines else []

-- the words of a name, by the words of its line
abbrev pub name_words : List (List ℕ) → List ℕ
name_words (keyword ∷ channel ∷ word ∷ words) = word ++ joined_on words
name_words _ = []

-- the name of a router, by the words of its line
abbrev pub router_word : List (List ℕ) → List ℕ
router_word (keyword ∷ number ∷ name ∷ words) = name
router_word _ = []

-- the name of the router that a word numbers
abbrev pub router_name : ℕ → List (List ℕ) → List ℕ → List ℕ
router_name room lines number =
    router_word (first_words (naming_line room Router (index_or_zero number) lines))

-- between which routers a channel of this kind goes; a sender puts packets into one, and a receiver takes
-- them out of one
abbrev pub ends_words : Kind → List ℕ → List ℕ → List ℕ
ends_words Injection start end = codes "into " ++ end
ends_words Hop start end = start ++ (codes " to " ++ end)
ends_words Ejection start end = codes "out of " ++ start

-- those of a channel, by the words of the line that gives its ends
abbrev pub link_words : ℕ → List (List ℕ) → Kind → List (List ℕ) → List ℕ
link_words room lines kind (keyword ∷ channel ∷ start ∷ end ∷ words) =
    ends_words kind (router_name room lines start) (router_name room lines end)
link_words room lines kind _ = []

-- the name of a channel, by the words of its line, or else the routers that it goes between
abbrev pub called_by : ℕ → List (List ℕ) → Kind → ℕ → List (List ℕ) → List ℕ
called_by room lines kind x [] =
    link_words room lines kind (first_words (naming_line room Link x lines))
called_by room lines kind x (word ∷ words) = name_words (word ∷ words)

-- what a text of these lines calls a channel of this kind: its name, or else the routers that it goes
-- between; nothing where it says neither
abbrev pub called : ℕ → List (List ℕ) → Kind → ℕ → List ℕ
called room lines kind x = called_by room lines kind x (first_words (naming_line room Name x lines))

-- the lines that name numbers below `room` so, by number
pub record AreNamingLines (room : ℕ) (naming : Naming) (lines : List (List ℕ)) (found : List (List ℕ))
    : Type 0 where
  pub size : length found ≡ room
  pub each : (x : ℕ) → x < room → slice_index_or found x [] ≡ first_naming naming x lines
