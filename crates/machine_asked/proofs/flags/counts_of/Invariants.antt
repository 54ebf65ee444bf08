use Rattle.std.proofs.Common.{◌≡◌, map, take}
use Rattle.script_lines.specs.Lines.{operation_count}
use Rattle.machine_asked.proofs.flags.counts_of.Given as goal

-- those of the scripts so far are there
abbrev pub invariant-loop-processor : goal.invariant-loop-processor
invariant-loop-processor g l = l.counts.items ≡ map operation_count (take l.processor l.scripts.lists)
