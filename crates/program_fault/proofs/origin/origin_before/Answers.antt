use Rattle.std.proofs.Common.{◌+◌, ◌-◌, ◌∙◌, ap, sym}
use Rattle.program_fault.specs.Origins.{origin_before}
use Rattle.program_fault.proofs.Steps.{goes_on}
use Rattle.program_fault.proofs.origin.origin_before.Goals as goal

pub loop-number-preserved : goal.loop-number-preserved
loop-number-preserved c =
    let left = c.args.line - (c.loop-number.number + 1) in
    ap (λ found. origin_before c.args.address (c.loop-number.number + 1) found c.in-Some.after.now left) c.origin_at-found.ensures
    ∙ sym (goes_on c.args.address c.loop-number.number c.args.line c.loop-number.found c.loop-number.rest.now c.in-Some.after.now c.in-Some.read
    c.loop-number-test.true c.in-Some.ensures.reads)
    ∙ c.loop-number.invariant
