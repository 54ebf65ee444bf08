use Rattle.core_laws.proofs.GrowthReports.{others_step}
use Rattle.core_laws.proofs.growth_laws.other_agents_see_no_line.Goals as goal

pub returns : goal.returns
returns n = λ d s p line attempt apart. others_step d s attempt line p apart
