use Rattle.core_laws.specs.Core.{design_of, first_state}
use Rattle.core_laws.proofs.GrowthReports.{first_unreported, unfinished_unreported, unreported_step, unreported_after}
use Rattle.core_laws.proofs.growth_laws.processors_are_unreported.Goals as goal

pub returns : goal.returns
returns n = record {
  first = first_unreported;
  step = λ d s t p attempt h apart un. unreported_step d s attempt p t h apart un;
  steps = λ l steps p low apart. unreported_after (design_of l) (first_state l) p steps apart
      (first_unreported l p low);
  unfinished = unfinished_unreported;
}
