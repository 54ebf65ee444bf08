-- A command that gains arguments or subcommands, one after the other.
use Rattle.std.specs.Prelude.{◌≡◌, ◌||◌, ◌+◌, ◌<◌, ◌≤◌, ℕ, Bool, false, List, Result, Ok, Err, IfOk, flat_map, fold, length, map}
use Rattle.std.specs.List.{slice_index_or}
use Rattle.std.proofs.Common.{ap, sym, subst, take, ◌∙◌}
use Rattle.std.proofs.lemmas.List.{take_all}
use Rattle.std.proofs.lemmas.List.Folds.{flat_map-map, fold-map}
use Rattle.std.proofs.lemmas.List.Sums.{fold_more}
use Rattle.clap.specs.Words.{AddsArg, AddsSubcommand, App, Rule, new_app, rule_of, shape_of, with_rule, with_subcommand}
use Rattle.clap.specs.declared.builder.arg.Arg.{Arg}
use Rattle.clap.specs.declared.builder.command.Command.{Command}
use Rattle.clap.specs.declared.builder.command.Command.TheViews.{out-Command as fields_of}
use Rattle.command_line.specs.declared.words.CommandRow.{CommandRow}
use Rattle.command_line.specs.declared.words.CommandWord.{CommandWord}
use Rattle.command_line.specs.CommandLine.{app_of_command, rule_of_word, top_app, torusmem_app, with_command, with_word}
use Rattle.command_line.specs.Making.{GainsWords, IsCommand, with_code_row, with_code_word}
use Rattle.command_line.specs.Table.{commands, common_words}
use Rattle.command_line.specs.TableRows.{named_command, taken_word}

-- no argument is global where none was, and none came
still_local : (a b c : Bool) → c ≡ (a || b) → a ≡ false → b ≡ false → c ≡ false
still_local a b c is first more = is ∙ (ap (λ (x : Bool). x || b) first ∙ more)

pub gains_argument : (app : App) (rule : Rule) (old : Command) (arg : Arg) (new : Command)
    → IsCommand app old → rule_of arg ≡ rule → arg.global ≡ false → AddsArg old arg new → IsCommand (with_rule app rule) new
gains_argument app rule old arg new is has local added = (
  added.shape local ∙ (ap (λ (a : App). with_rule a (rule_of arg)) is.0 ∙ ap (λ (r : Rule). with_rule app r) has),
  still_local (fields_of old).has_globals arg.global (fields_of new).has_globals added.globals is.1 local,
)

pub gains_subcommand : (app sub : App) (old more new : Command)
    → IsCommand app old → IsCommand sub more → AddsSubcommand old more new → IsCommand (with_subcommand app sub.top) new
gains_subcommand app sub old more new is has added = (
  added.shape has.1 ∙ (ap (λ (a : App). with_subcommand a (shape_of more)) is.0 ∙ ap (λ (a : App). with_subcommand app a.top) has.0),
  still_local (fields_of old).has_globals (fields_of more).has_globals (fields_of new).has_globals added.globals is.1 has.1,
)

-- after the first i words, one more
pub gains_word : (app : App) (words : List CommandWord) (i : ℕ) (d : CommandWord) (old new : Command) (arg : Arg) → i < length words
    → IsCommand (fold with_code_word app (take i words)) old → rule_of arg ≡ rule_of_word (taken_word (slice_index_or words i d))
    → arg.global ≡ false → AddsArg old arg new → IsCommand (fold with_code_word app (take (i + 1) words)) new
gains_word app words i d old new arg low is has local added =
    subst (λ (a : App). IsCommand a new) (sym (fold_more with_code_word app words i d low))
    (gains_argument _ (rule_of_word (taken_word (slice_index_or words i d))) old arg new is has local added)

-- after the first i commands, one more
pub gains_row : (rows : List CommandRow) (i : ℕ) (d : CommandRow) (old more new : Command) → i < length rows
    → IsCommand (fold with_code_row top_app (take i rows)) old → IsCommand (app_of_command (named_command (slice_index_or rows i d))) more
    → AddsSubcommand old more new → IsCommand (fold with_code_row top_app (take (i + 1) rows)) new
gains_row rows i d old more new low is has added =
    subst (λ (a : App). IsCommand a new) (sym (fold_more with_code_row top_app rows i d low))
    (gains_subcommand _ (app_of_command (named_command (slice_index_or rows i d))) old more new is has added)

-- all of the commands are those of the table
pub all_rows : (rows : List CommandRow) (i : ℕ) → length rows ≤ i → map named_command rows ≡ commands
    → fold with_code_row top_app (take i rows) ≡ torusmem_app
all_rows rows i all is = ap (λ (rs : List CommandRow). fold with_code_row top_app rs) (take_all i rows all)
    ∙ (sym (fold-map with_command named_command top_app rows) ∙ ap (λ cs. fold with_command top_app cs) is)

-- a command that gains words, if there is memory for them
pub gains_words : {E : Type 0} (made : Result Command E) (old : Command) (app : App) (words : List CommandWord)
    → IfOk made (GainsWords old words) → IsCommand app old → IfOk made (IsCommand (fold with_code_word app words))
gains_words (Ok new) old app words gains is = gains app is
gains_words (Err e) old app words gains is = tt

-- a command with its words and those of all is that of the table
pub row_is : (row : CommandRow) (common : List CommandWord) → map taken_word common ≡ common_words
    → fold with_code_word (fold with_code_word (new_app row.name.now) row.words.now) common ≡ app_of_command (named_command row)
row_is row common is =
    let own = fold with_word (new_app row.name.now) (map taken_word row.words.now) in
    ap (λ (a : App). fold with_code_word a common) (sym (fold-map with_word taken_word (new_app row.name.now) row.words.now))
    ∙ (sym (fold-map with_word taken_word own common) ∙ ap (λ ws. fold with_word own ws) is)

-- the texts of all items, as the code writes them
pub all_texts : {X Y : Type 0} (text : Y → List ℕ) (of : X → Y) (xs : List X) (i : ℕ) → length xs ≤ i
    → flat_map (λ x. text (of x)) (take i xs) ≡ flat_map text (map of xs)
all_texts {X} text of xs i all = ap (λ (ys : List X). flat_map (λ x. text (of x)) ys) (take_all i xs all)
    ∙ sym (flat_map-map text of xs)
