-- What whoever is shown the end of a run by steps or in rounds gets to see (this project's own
-- format).
use Rattle.std.specs.Prelude.{◌≡◌, ℕ, List, Bool, Result, Ok}
use Rattle.lexer.specs.declared.fault.LineFault.{LineFault}
use Rattle.one_order.specs.Load.{Load}
use Rattle.core_laws.specs.Machine.{Core}
use Rattle.report_lines.specs.Line.{text_of}
use Rattle.machine_report.specs.Report.{machine_report}
use Rattle.fair_rounds.specs.declared.pacing.Pace.{Pace}
use Rattle.command_texts.specs.Rounds.{HasMadeRounds}

-- a machine has made the fewest rounds of a pace that finish every script, at most so many, from what was
-- asked for
abbrev pub HasEndedRounds : Pace → Result Load LineFault → ℕ → Core → Type 0
HasEndedRounds pace asked most c =
    (load : Load) × (asked ≡ Ok load) × HasMadeRounds pace load most c

-- a text is the report of the machine that a run reached, and this machine was shown
pub record ShowsReached (reached saw : Core → Type 0) (finished : Bool) (text : List ℕ) : Type 0 where
  pub end : Core
  pub is : reached end
  pub report : text ≡ text_of (machine_report end)
  pub seen : saw end
