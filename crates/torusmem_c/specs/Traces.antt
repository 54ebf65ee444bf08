-- The verdict on a trace, as C sees it (this project's own format).
use Rattle.std.specs.Prelude.{◌≡◌, ◌⊎◌, ℕ, List, map, Result, Ok, Err}
use Rattle.lexer.specs.declared.fault.LineFault.{LineFault}
use Rattle.trace_laws.specs.declared.event.Call.{Call}
use Rattle.trace_laws.specs.declared.event.Event.{Event}
use Rattle.trace_judge.specs.declared.judge.Verdict.{Verdict}
use Rattle.trace_judge.specs.declared.judge.Verdict.TheVariants.{Linearizable, No, NoBy}
use Rattle.trace_judge.specs.declared.undecided.Undecided.{Undecided}
use Rattle.trace_judge.specs.declared.undecided.Undecided.TheVariants as undecided
use Rattle.trace_judge.specs.Stops.{IsUndecided, TellsMany}
use Rattle.trace_judge.specs.Verdicts.{TellsTraceVerdict}
use Rattle.torusmem_c.specs.declared.outcome.Outcome.{Outcome}
use Rattle.torusmem_c.specs.declared.outcome.Code.TheVariants as code
use Rattle.torusmem_c.specs.Outcome.{fault_outcome, no_memory, c_outcome}
use Rattle.torusmem_c.specs.Room.{put_over, put_outcome}

-- the numbers of an order's operations
abbrev pub numbers_in : List Call → List ℕ
numbers_in order = map (λ c. c.id) order

-- why a trace is not judged, and at which event
abbrev pub undecided_outcome : Undecided → Outcome
undecided_outcome undecided.Memory = no_memory
undecided_outcome (undecided.Configurations event) = c_outcome code.TooMany event
undecided_outcome (undecided.Operations event) = c_outcome code.TooOpen event

-- an order is put into a buffer, as the numbers of its operations; where there is none, the first
-- event up to which there is none is answered, or why that one isn't decided
abbrev pub PutsOrder : {A : Type 0} → Verdict A → List ℕ → List ℕ → Outcome → Type 0
PutsOrder (Linearizable order) before after r =
    (after ≡ put_over (numbers_in order.items) before)
    × (r ≡ put_outcome (numbers_in order.items) before)
PutsOrder (No event) before after r =
    (after ≡ before) × (r ≡ c_outcome code.NotLinearizable event)
PutsOrder (NoBy event why) before after r = (after ≡ before) × (r ≡ undecided_outcome why)

-- the answer on a trace that is judged: a verdict that holds of it
abbrev pub TellsVerdict : Type 0 → List ℕ → List Event → ℕ → List ℕ → List ℕ → Outcome → Type 0
TellsVerdict A opening trace bound before after r =
    (v : Verdict A) × TellsTraceVerdict opening trace bound v × PutsOrder v before after r

-- the answer on one that isn't: a reason that holds of it; on too many configurations, that a
-- word has more than so many
abbrev pub TellsUnjudged : List ℕ → List Event → ℕ → List ℕ → List ℕ → Outcome → Type 0
TellsUnjudged opening trace bound before after r = (why : Undecided) × IsUndecided trace why
    × TellsMany opening trace bound why × (after ≡ before) × (r ≡ undecided_outcome why)

-- the answer on the trace that records are, with so many configurations of a word: its verdict,
-- or why there is none; or the first record that can't stand
abbrev pub TellsTrace : Type 0 → List ℕ → Result (List Event) LineFault → ℕ → List ℕ → List ℕ
    → Outcome → Type 0
TellsTrace A opening (Ok trace) bound before after r =
    TellsVerdict A opening trace bound before after r
    ⊎ TellsUnjudged opening trace bound before after r
TellsTrace A opening (Err found) bound before after r =
    (after ≡ before) × (r ≡ fault_outcome found)
