-- What is made of a command line while it is put together (this project's own format).
use Rattle.std.specs.Prelude.{◌≡◌, false, List, fold}
use Rattle.clap.specs.Words.{App, app_of}
use Rattle.clap.specs.declared.builder.command.Command.{Command}
use Rattle.clap.specs.declared.builder.command.Command.TheViews.{out-Command as fields_of}
use Rattle.command_line.specs.declared.words.CommandRow.{CommandRow}
use Rattle.command_line.specs.declared.words.CommandWord.{CommandWord}
use Rattle.command_line.specs.CommandLine.{with_command, with_word}
use Rattle.command_line.specs.TableRows.{named_command, taken_word}

-- the command is this one, and no argument of it is global
abbrev pub IsCommand : App → Command → Type 0
IsCommand app command = (app_of command ≡ app) × ((fields_of command).has_globals ≡ false)

-- a command with a word more, as the code writes it
abbrev pub with_code_word : App → CommandWord → App
with_code_word app word = with_word app (taken_word word)

-- the program with a command more, as the code writes it
abbrev pub with_code_row : App → CommandRow → App
with_code_row app row = with_command app (named_command row)

-- a command of which no argument is global has these words more, and still none
abbrev pub GainsWords : Command → List CommandWord → Command → Type 0
GainsWords old words new = (app : App) → IsCommand app old → IsCommand (fold with_code_word app words) new
