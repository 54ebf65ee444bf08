-- What whoever is shown the end of a run by workers gets to see (this project's own format).
use Rattle.std.specs.Prelude.{◌≡◌, ℕ, List, Bool, Result, Ok}
use Rattle.lexer.specs.declared.fault.LineFault.{LineFault}
use Rattle.one_order.specs.Load.{Load}
use Rattle.core_laws.specs.Machine.{Core, core_after_load}
use Rattle.report_lines.specs.Line.{text_of}
use Rattle.history.specs.Ending.{Ended}
use Rattle.history.specs.RunReport.{run_report}
use Rattle.command_run.specs.Workers.{IsMadeByWorkers}

-- a text is the report of a run that the workers made of what was asked for, and the machine that this
-- run leads to was shown
pub record IsShownEnd (asked : Result Load LineFault) (workers turns : ℕ) (saw : Core → Type 0)
    (finished : Bool) (text : List ℕ) : Type 0 where
  pub load : Load
  pub read : asked ≡ Ok load
  pub end : Ended
  pub made : IsMadeByWorkers load workers turns end
  pub report : text ≡ text_of (run_report end.load end.run)
  pub seen : saw (core_after_load end.load end.run)
