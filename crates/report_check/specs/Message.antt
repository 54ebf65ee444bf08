-- The bytes that a checker's fault prints as (this project's own format).
use Rattle.std.specs.Prelude.{ℕ, List, ◌++◌, codes, decimal}
use Rattle.report_check.specs.declared.fault.CheckFault.{CheckFault}
use Rattle.report_check.specs.declared.fault.CheckFault.TheVariants.{BadReport, Memory}

-- the first bad line, or that memory was refused
abbrev pub check_fault_text : CheckFault → List ℕ
check_fault_text (BadReport line) = codes "bad report at line " ++ decimal line
check_fault_text Memory = codes "out of memory"
