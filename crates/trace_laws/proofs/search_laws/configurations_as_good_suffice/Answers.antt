use Rattle.trace_laws.proofs.Complete.{complete_as_good}
use Rattle.trace_laws.proofs.search_laws.configurations_as_good_suffice.Goals as goal

pub returns : goal.returns
returns c = λ opening trace k tables sets others is better.
    complete_as_good opening trace k tables sets others better is
