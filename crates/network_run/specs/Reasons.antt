-- Why a line of a run text is refused, which fault that is, and what its keywords are (this
-- project's own format).
use Rattle.std.specs.Prelude.{ℕ, List, Option, Some, None, if◌then◌else◌, codes}
use Rattle.std.specs.Str.{bytes_eq}
use Rattle.torus.specs.declared.fault.Fault.{Fault}
use Rattle.torus.specs.declared.fault.Fault.TheVariants as fault
use Rattle.network_run.specs.declared.reason.MoveKeyword.{MoveKeyword}
use Rattle.network_run.specs.declared.reason.MoveKeyword.TheVariants as key
use Rattle.network_run.specs.declared.reason.RunReason.{RunReason}
use Rattle.network_run.specs.declared.reason.RunReason.TheVariants as reason

-- the fault that has a reason
abbrev pub run_fault_of : RunReason → Fault
run_fault_of reason.UnknownKeyword = fault.Line
run_fault_of (reason.NumberCount keyword) = fault.Line
run_fault_of (reason.NotNumber place) = fault.Line
run_fault_of reason.LengthLimits = fault.Range
run_fault_of (reason.Hindered hindrance) = fault.Step
run_fault_of reason.Memory = fault.Memory

-- the keyword that a word spells
abbrev pub move_keyword_of : List ℕ → Option MoveKeyword
move_keyword_of word =
    if bytes_eq word (codes "send") then Some key.Send
    else (if bytes_eq word (codes "more") then Some key.More
    else (if bytes_eq word (codes "take") then Some key.Take
    else (if bytes_eq word (codes "put") then Some key.Put
    else (if bytes_eq word (codes "accept") then Some key.Accept
    else (if bytes_eq word (codes "credit") then Some key.Credit
    else None)))))
