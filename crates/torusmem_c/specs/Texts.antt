-- Loads, reports and their check, as C sees them (this project's own format).
use Rattle.std.specs.Prelude.{◌≡◌, ◌⊎◌, ℕ, List, map, Result, Ok, Option, Some, None}
use Rattle.lexer.specs.declared.fault.LineFault.{LineFault}
use Rattle.one_order.specs.Load.{Load}
use Rattle.core_laws.specs.Machine.{Core}
use Rattle.machine_asked.specs.Asked.{Asked, has_spin}
use Rattle.report_lines.specs.Line.{text_of}
use Rattle.report_check.specs.Good.{GoodReport, HasFault}
use Rattle.report_check.specs.declared.fault.CheckFault.{CheckFault}
use Rattle.report_check.specs.declared.fault.CheckFault.TheVariants.{BadReport, Memory}
use Rattle.machine_report.specs.Report.{machine_report}
use Rattle.machine_core.specs.Loading.{HasLoaded, IsLoadFault}
use Rattle.fair_rounds.specs.Guard.{usual_guard}
use Rattle.torusmem_c.specs.declared.outcome.Outcome.{Outcome}
use Rattle.torusmem_c.specs.declared.outcome.Code.TheVariants as code
use Rattle.torusmem_c.specs.Outcome.{fault_outcome, no_memory, c_outcome}
use Rattle.torusmem_c.specs.Room.{LacksMemory, put_over, put_outcome}

-- the first bad line of a report, or that memory was refused
abbrev pub check_outcome : CheckFault → Outcome
check_outcome (BadReport line) = c_outcome code.BadReport line
check_outcome Memory = no_memory

-- what an empty handle holds after a load: nothing, and the answer is the first fault of the texts
-- or that memory was refused; or the machine that the texts ask for, which has made no step
abbrev pub LoadsEmpty : Result Load LineFault → Option Asked → Outcome → Type 0
LoadsEmpty asked None r = (f : LineFault) × IsLoadFault asked f × (r ≡ fault_outcome f)
LoadsEmpty asked (Some v) r =
    HasLoaded asked v.core × ((l : Load) → asked ≡ Ok l → v.spins ≡ map has_spin l.scripts)
    × (v.guard ≡ usual_guard v.core)
    × (r ≡ c_outcome code.Done 0)

-- a load: where a machine is held already, it stays, and the answer says so
abbrev pub Loads : Result Load LineFault → Option Asked → Option Asked → Outcome → Type 0
Loads asked None new r = LoadsEmpty asked new r
Loads asked (Some v) new r = (new ≡ Some v) × (r ≡ c_outcome code.Full 0)

-- the text of a machine's report, a good one, is put into a buffer
pub record PutsText (c : Core) (before after : List ℕ) (r : Outcome) : Type 0 where
  pub good : GoodReport (text_of (machine_report c))
  pub buffer : after ≡ put_over (text_of (machine_report c)) before
  pub answer : r ≡ put_outcome (text_of (machine_report c)) before

-- a machine's report is put into a buffer, or memory was refused; and nothing of the machine
-- changes
pub record PutsReport (before after : List ℕ) (old new : Core) (r : Outcome) : Type 0 where
  pub same : new ≡ old
  pub put : PutsText old before after r ⊎ LacksMemory before after r

-- the report is good, or the answer tells its first bad line, or that memory was refused
abbrev pub SaysVerdict : List ℕ → Outcome → Type 0
SaysVerdict report r =
    (GoodReport report × (r ≡ c_outcome code.Done 0))
    ⊎ ((f : CheckFault) × HasFault report f × (r ≡ check_outcome f))

-- a report that is good is told to be so, unless memory is refused
abbrev pub SaysGood : Outcome → Type 0
SaysGood r = (r ≡ c_outcome code.Done 0) ⊎ (r ≡ no_memory)
