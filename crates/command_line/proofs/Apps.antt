-- The command line is one of which clap says all.
use Rattle.std.specs.Prelude.{◌≡◌, true, Contains, List, [], Option, Some, None, IfErr, IfOk, IfSome, IsSomeAnd}
use Rattle.std.specs.Prelude.{Result, Ok, Err, option_map}
use Rattle.std.proofs.Common.{refl, ap, sym, subst, ◌∙◌}
use Rattle.clap.specs.Simple.{App, HasMatchesOf, is_simple, subcommand_of, subcommand_rows_of}
use Rattle.clap.specs.Faults.{fault_of, is_simple_and_free}
use Rattle.clap.specs.Kinds.{FailsBy, HasKind}
use Rattle.clap.specs.declared.error.Error.{Error}
use Rattle.clap.specs.Matches.{subcommand_name_of}
use Rattle.clap.specs.Walk.{Row, Text}
use Rattle.clap.specs.declared.parser.matches.ArgMatches.{ArgMatches}
use Rattle.clap.specs.declared.parser.matches.ArgMatches.TheViews.{out-ArgMatches}
use Rattle.command_line.specs.CommandLine.{name_by, rows_by, torusmem_app}
use Rattle.command_line.specs.Job.{rows_in}
use Rattle.command_line.specs.Refused.{IsMisuse, NamesNothing, TellsNoJob, misused}
use Rattle.command_line.specs.declared.refused.NoJob.{NoJob}
use Rattle.command_line.specs.declared.refused.NoJob.TheVariants.{Options, Missing}

pub torusmem_is_simple : is_simple torusmem_app ≡ true
torusmem_is_simple = refl

-- what the matches of the words name is what the command line says of them
pub found_rows : (a : App) (words : List Text) (m : ArgMatches) → a ≡ torusmem_app → HasMatchesOf a words m
    → subcommand_rows_of m ≡ subcommand_of torusmem_app words
found_rows a words m e has = (subst (λ b. HasMatchesOf b words m) e has torusmem_is_simple).1

-- one map after another
maps : {X Y Z : Type 0} (f : X → Y) (g : Y → Z) (o : Option X) → option_map (λ x. g (f x)) o ≡ option_map g (option_map f o)
maps f g None = refl
maps f g (Some x) = refl

pub name_found : (m : ArgMatches) → subcommand_name_of m ≡ option_map (λ f. f.0) (subcommand_rows_of m)
name_found m = maps _ (λ f. f.0) (out-ArgMatches m).subcommand

pub name_is : (a : App) (words : List Text) (m : ArgMatches) (name : Text) → a ≡ torusmem_app → HasMatchesOf a words m
    → subcommand_name_of m ≡ Some name → name_by words ≡ Some name
name_is a words m name e has named = ap (option_map (λ f. f.0)) (sym (found_rows a words m e has)) ∙ (sym (name_found m) ∙ named)

pub rows_are : (a : App) (words : List Text) (m : ArgMatches) (P : List Row → Type 0) → a ≡ torusmem_app → HasMatchesOf a words m
    → IfSome (rows_in (subcommand_rows_of m)) P → IfSome (rows_by words) P
rows_are a words m P e has given = subst (λ o. IfSome (rows_in o) P) (found_rows a words m e has) given

-- what is wrong with the values that the matches have is wrong with those of the command line
pub refused_is : (words : List Text) (m : ArgMatches) (e : NoJob) → HasMatchesOf torusmem_app words m
    → TellsNoJob (subcommand_name_of m) (rows_in (subcommand_rows_of m)) e → TellsNoJob (name_by words) (rows_by words) e
refused_is words m (Options misuse) has tells = (
  subst (λ name. IsSomeAnd name (Contains (misused misuse)))
      (name_found m ∙ ap (option_map (λ f. f.0)) (found_rows torusmem_app words m refl has)) tells.0,
  rows_are torusmem_app words m (IsMisuse misuse) refl has tells.1,
)
refused_is words m Missing has tells = subst (λ name. IfSome (rows_by words) (NamesNothing name))
    (name_found m ∙ ap (option_map (λ f. f.0)) (found_rows torusmem_app words m refl has))
    (rows_are torusmem_app words m (NamesNothing (subcommand_name_of m)) refl has tells)

-- the command line is one of which clap says all, its errors too
torusmem_is_free : is_simple_and_free torusmem_app ≡ true
torusmem_is_free = refl

-- what a parse by the command that was put together says of the command line
pub matches_of_app : (made : Result ArgMatches Error) (A B : ArgMatches → Type 0) (a : App) (words : List Text) → a ≡ torusmem_app
    → IfOk made (λ m. A m × B m × HasMatchesOf a words m) → IfOk made (HasMatchesOf torusmem_app words)
matches_of_app (Ok m) A B a words e has = subst (λ b. HasMatchesOf b words m) e has.2
matches_of_app (Err why) A B a words e has = tt

-- and where it fails
pub fails_by_app : (made : Result ArgMatches Error) (a : App) (words : List Text) → a ≡ torusmem_app
    → (is_simple_and_free a ≡ true → FailsBy (fault_of a words) made) → IfErr made (HasKind (fault_of torusmem_app words))
fails_by_app (Ok m) a words e fails = tt
fails_by_app (Err why) a words e fails = subst (λ b. is_simple_and_free b ≡ true → FailsBy {T = ArgMatches} (fault_of b words) (Err why)) e fails torusmem_is_free

-- and where it doesn't fail, the parser finds no fault
pub fits_app : (made : Result ArgMatches Error) (a : App) (words : List Text) → a ≡ torusmem_app
    → (is_simple_and_free a ≡ true → FailsBy (fault_of a words) made) → IfOk made (λ _. fault_of torusmem_app words ≡ [])
fits_app (Ok m) a words e fails = subst (λ b. is_simple_and_free b ≡ true → FailsBy {T = ArgMatches} (fault_of b words) (Ok m)) e fails torusmem_is_free
fits_app (Err why) a words e fails = tt
