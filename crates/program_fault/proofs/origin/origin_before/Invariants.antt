use Rattle.std.proofs.Common.{◌≡◌, ◌-◌}
use Rattle.program_fault.specs.declared.origin.Origin.TheVariants.{Nothing}
use Rattle.program_fault.specs.Origins.{origin_before}
use Rattle.program_fault.proofs.origin.origin_before.Given as goal

abbrev pub decreases-loop-number : goal.decreases-loop-number
decreases-loop-number l = l.line - l.number

abbrev pub invariant-loop-number : goal.invariant-loop-number
invariant-loop-number l =
    origin_before l.address l.number l.found l.rest (l.line - l.number) ≡ origin_before l.address 1 Nothing l.text (l.line - 1)
