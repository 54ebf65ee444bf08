-- What a watch of a table of operations comes to (this project's own format).
use Rattle.std.specs.Prelude.{◌≡◌, ℕ, List, Ok}
use Rattle.std.specs.Str.Lines.{lines}
use Rattle.trace_text.specs.Traced.{TraceSpec, trace_of}
use Rattle.command_watch.specs.declared.whole.Watched.{Watched}
use Rattle.command_watch.specs.declared.whole.Watched.TheVariants.{Linearizable, No, TooMany}
use Rattle.command_watch.specs.Whole.{TellsWatched}
use Rattle.command_verdicts.specs.declared.command.Judged.{Judged}
use Rattle.command_verdicts.specs.declared.command.Judged.TheVariants as judged
use Rattle.command_verdicts.specs.Tables.{IsTraceOfTable, verdict_in_table}

-- the verdict of a watch of a whole trace
abbrev pub verdict_of_watch : Watched → Judged
verdict_of_watch Linearizable = judged.Linearizable
verdict_of_watch (No line) = judged.NotLinearizable line
verdict_of_watch (TooMany line) = judged.TooMany line

-- the trace that the lines of a text give is watched, with so many configurations of a word allowed
pub record IsWatchedText (lines : List (List ℕ)) (bound : ℕ) (verdict : Judged) : Type 0 where
  pub trace : TraceSpec
  pub read : trace_of lines ≡ Ok trace
  pub watched : Watched
  pub tells : TellsWatched trace bound watched
  pub is : verdict ≡ verdict_of_watch watched

-- the trace of a table is watched, and the line of the verdict is that of the table
pub record IsWatchedTable (table : List (List ℕ)) (bound : ℕ) (verdict : Judged) : Type 0 where
  pub text : List ℕ
  pub events : List ℕ
  pub trace : IsTraceOfTable table text events
  pub found : Judged
  pub watched : IsWatchedText (lines text) bound found
  pub is : verdict ≡ verdict_in_table events found
