-- A machine that is opened by numbers, and one that goes on where another stands, as C sees them
-- (this project's own format).
use Rattle.std.specs.Prelude.{◌≡◌, ℕ, ◌-◌, ◌++◌, ◌&&◌, nat_le, nat_lt, List, length, replicate, take, Bool}
use Rattle.std.specs.Prelude.{if◌then◌else◌, Option, Some, None, Result, Ok, Err}
use Rattle.torus.specs.Shape.{Shape}
use Rattle.torus.specs.Refusal.{mixed_of}
use Rattle.torus.specs.declared.fault.Fault.{Fault}
use Rattle.torus.specs.declared.fault.Fault.TheVariants as fault
use Rattle.core_laws.specs.Machine.{shown}
use Rattle.machine_asked.specs.Asked.{Asked}
use Rattle.machine_asked.specs.Opened.{IsOpened}
use Rattle.torusmem_c.specs.declared.outcome.Outcome.{Outcome}
use Rattle.torusmem_c.specs.declared.outcome.Code.TheVariants as code
use Rattle.torusmem_c.specs.declared.shape.ShapeRecord.{ShapeRecord}
use Rattle.torusmem_c.specs.Held.{OnCore}
use Rattle.torusmem_c.specs.Outcome.{c_outcome, no_memory}
use Rattle.torusmem_c.specs.Steps.{SaysFinished}

-- the torus of the dimensions that a record has, one to three, or its first fault
abbrev pub torus_asked : ShapeRecord → Result Shape Fault
torus_asked s =
    if nat_lt 3 s.dims then Err fault.Dimensions
    else mixed_of (take s.dims s.radices) (take s.dims s.datelines)

-- whether a number is in a range
abbrev pub is_in : ℕ → ℕ → ℕ → Bool
is_in low high n = nat_le low n && nat_le n high

-- the other numbers are in their ranges, and so many words that are given are not more than there are
abbrev pub numbers_asked : ShapeRecord → ℕ → Result Shape Fault → Result Shape Fault
numbers_asked s given (Err f) = Err f
numbers_asked s given (Ok torus) =
    if is_in 1 8 s.depth && is_in 1 16 s.tags && is_in 1 65536 s.words
    then (if nat_le given s.words then Ok torus else Err fault.Address)
    else Err fault.Range

abbrev pub shape_asked : ShapeRecord → ℕ → Result Shape Fault
shape_asked s given = numbers_asked s given (torus_asked s)

-- so many words, of which the first are given, and the others are 0
abbrev pub opening_words : ℕ → List ℕ → List ℕ
opening_words words given = given ++ replicate (words - length given) 0

-- what an empty handle holds in the end: a machine, and then this number is answered; or nothing,
-- since memory was refused
abbrev pub KeepsHandle : Asked → ℕ → Option Asked → Outcome → Type 0
KeepsHandle machine value None r = r ≡ no_memory
KeepsHandle machine value (Some v) r = (v ≡ machine) × (r ≡ c_outcome code.Done value)

-- what it holds after it was opened: nothing, and the fault of the numbers is told, or that memory
-- was refused; or the machine of the numbers
abbrev pub OpensEmpty : Result Shape Fault → ℕ → ℕ → List ℕ → Option Asked → Outcome → Type 0
OpensEmpty (Err f) depth tags opening new r = (new ≡ None) × (r ≡ c_outcome (code.Fault f) 0)
OpensEmpty (Ok s) depth tags opening None r = r ≡ no_memory
OpensEmpty (Ok s) depth tags opening (Some v) r =
    IsOpened s depth tags opening v × (r ≡ c_outcome code.Done 0)

-- what a handle holds after it was opened: what OpensEmpty says, if it held nothing; where a
-- machine is held already, it stays, and the answer says so
abbrev pub Opens : Result Shape Fault → ℕ → ℕ → List ℕ → Option Asked → Option Asked → Outcome
    → Type 0
Opens asked depth tags opening None new r = OpensEmpty asked depth tags opening new r
Opens asked depth tags opening (Some v) new r = (new ≡ Some v) × (r ≡ c_outcome code.Full 0)

-- a machine in another handle opens with the words of this one, or memory was refused
abbrev pub HandsOn : Asked → Outcome → Option Asked → Outcome → Type 0
HandsOn v rounds None r = r ≡ no_memory
HandsOn v rounds (Some u) r =
    IsOpened v.core.shape v.core.depth v.core.tags (shown v.core).memory u × (r ≡ rounds)

-- the machine makes the least number of rounds after which every script is finished, and the other
-- one opens with its words
abbrev pub GoesOnRunning : Asked → Asked → Option Asked → Outcome → Type 0
GoesOnRunning old new after r =
    (rounds : Outcome) × OnCore SaysFinished old new rounds × HandsOn new rounds after r

-- the machine of a handle makes rounds until every script is finished, and another handle opens
-- with its words; where the other one holds a machine, or this one none, nothing changes
abbrev pub Reopens : Option Asked → Option Asked → Option Asked → Option Asked → Outcome → Type 0
Reopens old new (Some u) after r =
    (new ≡ old) × (after ≡ Some u) × (r ≡ c_outcome code.Full 0)
Reopens None new None after r = (new ≡ None) × (after ≡ None) × (r ≡ c_outcome code.Empty 0)
Reopens (Some v) new None after r = (w : Asked) × (new ≡ Some w) × GoesOnRunning v w after r
