-- What the report of a run says that is known by its steps (this project's own format).
use Rattle.std.specs.Prelude.{List, []}
use Rattle.torus.specs.declared.step.Step.{Step}
use Rattle.report_lines.specs.declared.line.ReportLine.{ReportLine}
use Rattle.machine_report.specs.Report.{report_of}
use Rattle.core_laws.specs.Core.{Load, after}
use Rattle.fabric.specs.Ending.{shown_after}
use Rattle.core_laws.specs.Machine.{all_finished}

-- the report of the run of a list of steps from a load: what it shows at its end, without order
-- lines
abbrev pub run_report : Load → List Step → List ReportLine
run_report load run = report_of load.shape load.opening (shown_after load run) []
    (all_finished (after load run))
