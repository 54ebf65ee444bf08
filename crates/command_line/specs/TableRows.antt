-- The rows of the table of the commands, as the code writes them (this project's own format).
use Rattle.std.specs.Prelude.{List, map}
use Rattle.clap.specs.Words.{Text}
use Rattle.command_line.specs.declared.words.WordKind.{WordKind}
use Rattle.command_line.specs.declared.words.CommandWord.{CommandWord}
use Rattle.command_line.specs.declared.words.CommandWord.TheVariants.{Argument, Required, Optional}
use Rattle.command_line.specs.declared.words.CommandWord.TheVariants.{Usual}
use Rattle.command_line.specs.declared.words.CommandRow.{CommandRow}

-- a word that a command takes, by its name, the kind of its value and what the help says of it: one
-- that has to stand at its place, an option that has to be given, one that may be left out, and one
-- whose value is the last of these texts then
pub data TakenWord : Type 0 where
  argument : Text → WordKind → Text → TakenWord
  needed_option : Text → WordKind → Text → TakenWord
  free_option : Text → WordKind → Text → TakenWord
  usual_option : Text → WordKind → Text → Text → TakenWord

-- a command, what the help says of it, and the words that it takes but for those of all commands
pub record NamedCommand : Type 0 where
  pub name : Text
  pub about : Text
  pub words : List TakenWord

-- a word, as the code writes it
abbrev pub taken_word : CommandWord → TakenWord
taken_word (Argument name kind about) = argument name.now kind about.now
taken_word (Required name kind about) = needed_option name.now kind about.now
taken_word (Optional name kind about) = free_option name.now kind about.now
taken_word (Usual name kind about text) = usual_option name.now kind about.now text.now

-- a command, as the code writes it
abbrev pub named_command : CommandRow → NamedCommand
named_command row = record {
  name = row.name.now;
  about = row.about.now;
  words = map taken_word row.words.now;
}
