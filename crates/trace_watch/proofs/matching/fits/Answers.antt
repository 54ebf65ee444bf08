use Rattle.trace_watch.proofs.Fitting.{partners_fit}
use Rattle.trace_watch.proofs.matching.fits.Goals as goal

pub returns-clause-yes : goal.returns-clause-yes
returns-clause-yes g c = λ yes.
    partners_fit c.args.calls.now c.args.effects.now c.partners.new.taken.items (c.in_ok-enough.ensures.yes yes)
