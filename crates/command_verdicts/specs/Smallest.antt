-- What is left of the trace of a text where a small part without an order is asked for.
use Rattle.std.specs.Prelude.{◌≡◌, ◌⊎◌, ℕ, List, MatchOption, Ok, Option}
use Rattle.std.specs.Str.Lines.{lines}
use Rattle.trace_text.specs.Traced.{TraceSpec, trace_of}
use Rattle.trace_answer.specs.declared.shrunk.ShrunkTrace.{ShrunkTrace}
use Rattle.trace_answer.specs.Parts.{IsExplained, IsOpenTrace}
use Rattle.trace_answer.specs.Shrunk.{IsShrunk}
use Rattle.command_verdicts.specs.Tables.{IsTraceOfTable}

-- what is left of the trace of a text, with so many configurations of a word at once at most: nothing
-- where an order explains it or that isn't decided, else a small part that none explains
pub record TellsShrunk {A : Type 0} (lines : List (List ℕ)) (bound : ℕ) (left : Option (ShrunkTrace A))
    : Type 0 where
  pub trace : TraceSpec
  pub read : trace_of lines ≡ Ok trace
  pub is : MatchOption left (IsExplained trace ⊎ IsOpenTrace trace bound) (IsShrunk trace bound)

-- what is left of the trace of a table
pub record TellsShrunkTable {A : Type 0} (table : List (List ℕ)) (bound : ℕ)
    (left : Option (ShrunkTrace A)) : Type 0
  where
    pub text : List ℕ
    pub events : List ℕ
    pub trace : IsTraceOfTable table text events
    pub tells : TellsShrunk (lines text) bound left
