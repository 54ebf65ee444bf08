use Rattle.std.proofs.Common.{◌≡◌, take}
use Rattle.trace_answer.specs.Contents.{entries_of_bank}
use Rattle.trace_answer.proofs.contents.entries_of_bank.Given as goal

-- the rows of the services so far
abbrev pub invariant-loop-i : goal.invariant-loop-i
invariant-loop-i g l = l.rows.items ≡ entries_of_bank (take l.i l.services) l.bank
