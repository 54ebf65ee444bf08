-- The command line, in the words of `clap` (this project's own format).
use Rattle.std.specs.Prelude.{◌≡◌, ◌⊎◌, pos, List, [], ◌∷◌, Option, Some, codes, fold, true}
use Rattle.std.specs.Prelude.{option_map}
use Rattle.clap.specs.Words.{App, Row, Rule, Text, new_app, new_rule, subcommand_of, with_rule}
use Rattle.clap.specs.Words.{with_subcommand}
use Rattle.clap.specs.declared.builder.action.ArgAction.TheVariants.{SetTrue}
use Rattle.clap.specs.declared.builder.value_parser.ValueParser.TheVariants as vp
use Rattle.command_line.specs.declared.words.WordKind.{WordKind}
use Rattle.command_line.specs.declared.words.WordKind.TheVariants.{Flag, Number, Long, RunTexts}
use Rattle.command_line.specs.Job.{rows_in}
use Rattle.command_line.specs.Table.{commands, common_words}
use Rattle.command_line.specs.TableRows.{NamedCommand, TakenWord, argument}
use Rattle.command_line.specs.TableRows.{free_option, needed_option, usual_option}

-- the rule of an argument, as one of this kind
abbrev pub rule_of_kind : WordKind → Rule → Rule
rule_of_kind Flag rule = record rule { action = Some SetTrue }
rule_of_kind (Number least most) rule =
    record rule { parser = Some (vp.Signed (pos least) (pos most)) }
rule_of_kind Long rule = record rule { parser = Some (vp.Unsigned 0 18446744073709551615) }
rule_of_kind RunTexts rule = record rule { value_names = 2 }
rule_of_kind _ rule = rule

-- the rule of an argument of this name and kind
abbrev pub named_rule : Text → WordKind → Rule
named_rule name kind = rule_of_kind kind (new_rule name)

-- the rule of a word
abbrev pub rule_of_word : TakenWord → Rule
rule_of_word (argument name kind about) = record (named_rule name kind) { required = true }
rule_of_word (needed_option name kind about) =
    record (named_rule name kind) { long = Some name; required = true }
rule_of_word (free_option name kind about) = record (named_rule name kind) { long = Some name }
rule_of_word (usual_option name kind about usual) =
    record (named_rule name kind) { long = Some name; defaults = usual ∷ [] }

-- a command with a word more
abbrev pub with_word : App → TakenWord → App
with_word app word = with_rule app (rule_of_word word)

-- a command with its words, and the options of all commands
abbrev pub app_of_command : NamedCommand → App
app_of_command command =
    fold with_word (fold with_word (new_app command.name) command.words) common_words

-- the program, whose subcommand has to stand there
abbrev pub top_app : App
top_app = let app = new_app (codes "torusmem") in
    record app { top = record app.top { subcommand_required = true; has_version = true } }

-- the program with a command more
abbrev pub with_command : App → NamedCommand → App
with_command app command = with_subcommand app (app_of_command command).top

-- the program with all its commands
abbrev pub torusmem_app : App
torusmem_app = fold with_command top_app commands

-- the name of the subcommand that the words name
abbrev pub name_by : List Text → Option Text
name_by words = option_map (λ found. found.0) (subcommand_of torusmem_app words)

-- the values that the words give to its arguments
abbrev pub rows_by : List Text → Option (List Row)
rows_by words = rows_in (subcommand_of torusmem_app words)

-- the words, the program's own name among them, ask for the version and for nothing else
abbrev pub AsksVersion : List Text → Type 0
AsksVersion (name ∷ word ∷ []) = (word ≡ codes "--version") ⊎ (word ≡ codes "-V")
AsksVersion _ = ⊥

-- the words, the program's own name among them, ask for the table of commands and for nothing else
abbrev pub AsksCommands : List Text → Type 0
AsksCommands (name ∷ word ∷ []) = word ≡ codes "--commands"
AsksCommands _ = ⊥
