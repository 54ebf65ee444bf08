-- The table of the commands as text (this project's own format).
use Rattle.std.specs.Prelude.{◌++◌, codes, decimal, flat_map}
use Rattle.clap.specs.Words.{Text}
use Rattle.command_line.specs.declared.words.WordKind.{WordKind}
use Rattle.command_line.specs.declared.words.WordKind.TheVariants.{Flag, Path, Number, Long}
use Rattle.command_line.specs.declared.words.WordKind.TheVariants.{Arbiter, MachineArbiter, Model}
use Rattle.command_line.specs.declared.words.WordKind.TheVariants.{RunTexts, Replies}
use Rattle.command_line.specs.Table.{about_text, commands}
use Rattle.command_line.specs.TableRows.{NamedCommand, TakenWord, argument}
use Rattle.command_line.specs.Table.{common_words}
use Rattle.command_line.specs.TableRows.{free_option, needed_option, usual_option}

-- the values of a kind: `-` of a flag, PATH of a file, LEAST..MOST of a number, REPLIES, or words
-- with commas
abbrev pub kind_text : WordKind → Text
kind_text Flag = codes "-"
kind_text Path = codes "PATH"
kind_text (Number least most) = decimal least ++ codes ".." ++ decimal most
kind_text Long = codes "0..18446744073709551615"
kind_text Arbiter = codes "rotating,turn"
kind_text MachineArbiter = codes "oldest,turn"
kind_text Model = codes "coherent,fenced,rvwmo,pso,tso,sc"
kind_text RunTexts = codes "MACHINE,SCRIPT"
kind_text Replies = codes "REPLIES"

-- a line of a word that begins and ends so, with its name, its kind and what it is for
abbrev pub word_line : Text → Text → WordKind → Text → Text → Text
word_line begin name kind about end =
    begin ++ name ++ codes " " ++ kind_text kind ++ codes " " ++ about ++ end

-- the beginning of the line of an option
abbrev pub option_text : Text → WordKind → Text → Text
option_text name kind about =
    codes "option " ++ name ++ codes " " ++ kind_text kind ++ codes " " ++ about

-- the end of the line of an option that is this where it isn't given
abbrev pub usual_text : Text → Text
usual_text usual = codes " [default: " ++ usual ++ codes "]\n"

-- the line of a word
abbrev pub word_text : TakenWord → Text
word_text (argument name kind about) = word_line (codes "argument ") name kind about (codes "\n")
word_text (needed_option name kind about) =
    word_line (codes "required ") name kind about (codes "\n")
word_text (free_option name kind about) = word_line (codes "option ") name kind about (codes "\n")
word_text (usual_option name kind about usual) =
    option_text name kind about ++ usual_text usual

-- the line of a command: its name and what it does
abbrev pub head_text : NamedCommand → Text
head_text command =
    codes "command " ++ command.name ++ codes " " ++ command.about ++ codes "\n"

-- the lines of a command, and of each word
abbrev pub command_text : NamedCommand → Text
command_text command = head_text command ++ flat_map word_text command.words

-- the line of an option of all commands
abbrev pub common_text : TakenWord → Text
common_text word = codes "common " ++ word_text word

-- the lines of a command, behind an empty one
abbrev pub apart_text : NamedCommand → Text
apart_text command = codes "\n" ++ command_text command

-- the first line of the table
abbrev pub program_text : Text
program_text = codes "program " ++ about_text ++ codes "\n"

-- the table: what the program is, the options of all commands, and each command
abbrev pub commands_text : Text
commands_text = program_text ++ flat_map common_text common_words ++ flat_map apart_text commands
