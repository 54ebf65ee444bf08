use Rattle.std.proofs.Common.{◌∙◌}
use Rattle.network_machine.proofs.pairs.is_joined.Goals as goal

pub returns-in-Some : goal.returns-in-Some
returns-in-Some g c = c.in-Some.ensures.is ∙ c.requires c.args.from c.args.to c.in-Some.ensures.here
