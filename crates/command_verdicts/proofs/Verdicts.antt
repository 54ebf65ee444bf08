-- What is printed where no order was found: nothing.
use Rattle.std.proofs.Common.{◌≡◌, ◌+◌, ℕ, List, [], Some, slice_get, take, refl}
use Rattle.std.specs.Prelude.{Ok}
use Rattle.std.proofs.KnownBytes.{Appends-nil}
use Rattle.trace_laws.specs.Orders.{IsLinearizable}
use Rattle.trace_judge.specs.Stops.{IsCrowded}
use Rattle.trace_text.specs.Findings.{AnswersPastBound, IsBadBy}
use Rattle.trace_text.specs.declared.linearize.Unfound.{Unfound}
use Rattle.trace_text.specs.Traced.{TraceSpec, trace_of, opening_of}
use Rattle.program_fault.specs.Done.{Output, TookAll}
use Rattle.command_verdicts.specs.declared.command.Judged.TheVariants.{NotLinearizable, NotLinearizableBy, TooMany, TooOpen}
use Rattle.command_verdicts.specs.Judging.{PrintsOrder}

took_nothing : (o : Output) → TookAll o o []
took_nothing o = record { bytes = Appends-nil o.taken; quiet = refl }

-- there is none
pub refused : (lines : List (List ℕ)) (bound : ℕ) (t : TraceSpec) (o : Output) (line : ℕ) → trace_of lines ≡ Ok t
    → ((k : ℕ) × (slice_get t.lines k ≡ Some line) × IsLinearizable (opening_of t) (take k t.events)
    × (IsLinearizable (opening_of t) (take (k + 1) t.events) → ⊥))
    → PrintsOrder lines bound o o (Ok (NotLinearizable line))
refused lines bound t o line read h = (
  [],
  record {
    trace = t;
    read = read;
    judged = (h.0, record { there = h.1; silent = refl }, record { before = h.2; none = h.3 });
  },
  took_nothing o,
)

-- there is none, and a beginning isn't decided
pub refused_by : (lines : List (List ℕ)) (bound : ℕ) (t : TraceSpec) (o : Output) (line : ℕ) (why : Unfound) → trace_of lines ≡ Ok t
    → ((k : ℕ) × (slice_get t.lines k ≡ Some line) × IsBadBy t bound k why)
    → PrintsOrder lines bound o o (Ok (NotLinearizableBy line why))
refused_by lines bound t o line why read h =
    ([], record { trace = t; read = read; judged = (h.0, record { there = h.1; silent = refl }, h.2) }, took_nothing o)

-- the trace isn't decided
pub too_many : (lines : List (List ℕ)) (bound : ℕ) (t : TraceSpec) (o : Output) (line : ℕ) → trace_of lines ≡ Ok t
    → ((k : ℕ) × (slice_get t.lines k ≡ Some line) × AnswersPastBound t bound k)
    → PrintsOrder lines bound o o (Ok (TooMany line))
too_many lines bound t o line read h =
    ([], record { trace = t; read = read; judged = (h.0, record { there = h.1; silent = refl }, h.2) }, took_nothing o)

pub too_open : (lines : List (List ℕ)) (bound : ℕ) (t : TraceSpec) (o : Output) (line : ℕ) → trace_of lines ≡ Ok t
    → ((k : ℕ) × (slice_get t.lines k ≡ Some line) × IsCrowded t.events k)
    → PrintsOrder lines bound o o (Ok (TooOpen line))
too_open lines bound t o line read h =
    ([], record { trace = t; read = read; judged = (h.0, record { there = h.1; silent = refl }, h.2) }, took_nothing o)
