-- The operation is taken, and its index is told.
use Rattle.std.proofs.Common.{inl, ◌∙◌, ap}
use Rattle.torusmem_c.specs.declared.outcome.Code.TheVariants as code
use Rattle.torusmem_c.specs.Outcome.{c_outcome}
use Rattle.torusmem_c.proofs.Asking.{numbers_of}
use Rattle.torusmem_c.proofs.appending.numbered.Goals as goal

pub returns-in-Ok : goal.returns-in-Ok
returns-in-Ok c = inl (numbers_of c.args.processor c.args.line c.args.machine.now.asked c.ask.new.self.asked c.done.result c.in-Ok.index c.requires.operation
    c.requires.plain
    (record { taken = c.in-Ok.ensures.taken.0; state = c.in-Ok.ensures.taken.1; spins = c.in-Ok.ensures.taken.2; guard = c.in-Ok.ensures.taken.3; law = c.in-Ok.ensures.law })
    c.in-Ok.ensures.index c.in-Ok.ensures.numbered
    (c.done.ensures ∙ ap (λ n. c_outcome code.Done n) c.index_number.ensures))
