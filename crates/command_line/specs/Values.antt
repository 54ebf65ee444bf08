-- Which values the words of a command have to have (this project's own format).
use Rattle.std.specs.Prelude.{◌≡◌, ◌⊎◌, ◌++◌, ℕ, ◌≤◌, ◌<◌, ◌^◌, true, false, List, [], ◌∷◌}
use Rattle.std.specs.Prelude.{IsSomeAnd, find, is_some, length}
use Rattle.std.specs.Option.{option_map_or}
use Rattle.std.specs.Str.{bytes_eq}
use Rattle.std.specs.Str.Parse.{IsNumeral, digits_value, without_leading_plus}
use Rattle.clap.specs.Words.{Row, Text, all_of, first_of, one_of}
use Rattle.command_line.specs.declared.words.WordKind.{WordKind}
use Rattle.command_line.specs.declared.words.WordKind.TheVariants.{Flag, Number, Long, RunTexts}
use Rattle.command_line.specs.Job.{flag_text}
use Rattle.command_line.specs.Table.{commands, common_words}
use Rattle.command_line.specs.TableRows.{NamedCommand, TakenWord, argument, free_option}
use Rattle.command_line.specs.TableRows.{needed_option, usual_option}

-- the text is a number from the least to the most, in decimal digits
abbrev pub IsNumberIn : ℕ → ℕ → Text → Type 0
IsNumberIn least most text = IsNumeral 10 (without_leading_plus text)
    × (least ≤ digits_value 10 (without_leading_plus text))
    × (digits_value 10 (without_leading_plus text) ≤ most)

-- the text is a number below this one
abbrev pub IsNumberBelow : ℕ → Text → Type 0
IsNumberBelow end text = IsNumeral 10 (without_leading_plus text)
    × (digits_value 10 (without_leading_plus text) < end)

-- the text says whether a flag is given
abbrev pub IsFlagText : Text → Type 0
IsFlagText text = (text ≡ flag_text true) ⊎ (text ≡ flag_text false)

-- the word of this name has a value of this kind
abbrev pub IsOfKind : WordKind → Text → List Row → Type 0
IsOfKind Flag name rows = IsSomeAnd (one_of name rows) IsFlagText
IsOfKind (Number least most) name rows = IsSomeAnd (one_of name rows) (IsNumberIn least most)
IsOfKind Long name rows = IsSomeAnd (one_of name rows) (IsNumberBelow (2 ^ 64))
IsOfKind RunTexts name rows = IsSomeAnd (all_of name rows) (λ texts. length texts ≡ 2)
IsOfKind _ name rows = is_some (first_of name rows) ≡ true

-- the word of this name has a value of this kind, or isn't given
abbrev pub IsOfKindIfGiven : WordKind → Text → List Row → Type 0
IsOfKindIfGiven kind name rows = is_some (all_of name rows) ≡ true → IsOfKind kind name rows

-- the word has the value that it has to have; a flag has one, too, where it isn't given
abbrev pub HasValue : TakenWord → List Row → Type 0
HasValue (argument name kind about) rows = IsOfKind kind name rows
HasValue (needed_option name kind about) rows = IsOfKind kind name rows
HasValue (usual_option name kind about usual) rows = IsOfKind kind name rows
HasValue (free_option name Flag about) rows = IsOfKind Flag name rows
HasValue (free_option name kind about) rows = IsOfKindIfGiven kind name rows

-- the words that the command of this name takes, and the options of all commands
abbrev pub words_named : Text → List TakenWord
words_named name = option_map_or (λ command. command.words ++ common_words)
    (find (λ command. bytes_eq command.name name) commands) []

-- each of these words has the value that it has to have
abbrev pub HaveValues : List TakenWord → List Row → Type 0
HaveValues [] rows = Unit {0}
HaveValues (word ∷ rest) rows = HasValue word rows × HaveValues rest rows

-- a word that the command of this name takes hasn't the value that it has to have
abbrev pub Lacks : Text → List Row → Type 0
Lacks name rows = HaveValues (words_named name) rows → ⊥

-- none of these commands has this name
abbrev pub IsNoneOf : List NamedCommand → Text → Type 0
IsNoneOf [] name = Unit {0}
IsNoneOf (command ∷ rest) name = (command.name ≡ name → ⊥) × IsNoneOf rest name

-- no command has this name
abbrev pub IsNoCommand : Text → Type 0
IsNoCommand = IsNoneOf commands
