-- Which traces have a report, and its shape (this project's own format).
use Rattle.std.specs.Prelude.{◌≡◌, ◌+◌, ◌<◌, ◌≤◌, ℕ, List, [], ◌∷◌, Some, length, slice_get}
use Rattle.std.specs.Prelude.{fold, max, nat_le, if◌then◌else◌}
use Rattle.torus.specs.Shape.{Shape}
use Rattle.trace_laws.specs.declared.event.Call.{Call}
use Rattle.trace_text.specs.declared.issued.Issued.{Issued}
use Rattle.trace_text.specs.Traced.{TraceSpec}
use Rattle.trace_answer.specs.declared.unfit.Unfit.{Unfit}
use Rattle.trace_answer.specs.declared.unfit.Unfit.TheVariants.{Memory, Words, Processors, Indexes}
use Rattle.trace_answer.specs.declared.unfit.Unfit.TheVariants.{Operations, Events}

-- one more than the greatest processor of some operations, or 0
abbrev pub processors_of : List Issued → ℕ
processors_of issued = fold (λ n i. max n (i.processor + 1)) 0 issued

-- the shape of the report of so many processors: the first of 2, 4, 8, 4 by 4, 4 by 8 and 8 by 8
-- tiles that has as many. Each dateline is at the last digit
abbrev pub shape_for : ℕ → Shape
shape_for n =
    if nat_le n 2 then record { radices = 2 ∷ []; datelines = 1 ∷ [] }
    else (if nat_le n 4 then record { radices = 4 ∷ []; datelines = 3 ∷ [] }
    else (if nat_le n 8 then record { radices = 8 ∷ []; datelines = 7 ∷ [] }
    else (if nat_le n 16 then record { radices = 4 ∷ 4 ∷ []; datelines = 3 ∷ 3 ∷ [] }
    else (if nat_le n 32 then record { radices = 4 ∷ 8 ∷ []; datelines = 3 ∷ 7 ∷ [] }
    else record { radices = 8 ∷ 8 ∷ []; datelines = 7 ∷ 7 ∷ [] }))))

-- the operations are of processors below 64, each with an index below 4096
abbrev pub AreFit : List Issued → Type 0
AreFit issued =
    (n : ℕ) (i : Issued) → slice_get issued n ≡ Some i → (i.processor < 64) × (i.index < 4096)

-- a trace and an order of it are within the limits of a report
pub record IsFit (t : TraceSpec) (order : List Call) : Type 0 where
  pub words : t.words ≤ 65536
  pub issued : AreFit t.issued
  pub operations : length order ≤ 65536
  pub events : length t.events + length order ≤ 196608

-- why an order of a trace has no report: a limit that is passed
abbrev pub IsUnfit : TraceSpec → List Call → Unfit → Type 0
IsUnfit t order Memory = Unit {0}
IsUnfit t order Words = 65536 < t.words
IsUnfit t order Processors =
    (n : ℕ) × (i : Issued) × (slice_get t.issued n ≡ Some i) × (64 ≤ i.processor)
IsUnfit t order Indexes =
    (n : ℕ) × (i : Issued) × (slice_get t.issued n ≡ Some i) × (4096 ≤ i.index)
IsUnfit t order Operations = 65536 < length order
IsUnfit t order Events = 196608 < length t.events + length order
