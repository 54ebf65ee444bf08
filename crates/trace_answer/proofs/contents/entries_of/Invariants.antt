use Rattle.std.proofs.Common.{◌≡◌, map}
use Rattle.std.specs.List.{range_with_len}
use Rattle.report_lines.specs.Contents.{items_of}
use Rattle.trace_answer.specs.Contents.{entries_of_bank}
use Rattle.trace_answer.proofs.contents.entries_of.Given as goal

-- the entries of the banks so far
abbrev pub invariant-loop-bank : goal.invariant-loop-bank
invariant-loop-bank g l = items_of l.banks.items ≡ map (entries_of_bank l.services) (range_with_len 0 l.bank)
