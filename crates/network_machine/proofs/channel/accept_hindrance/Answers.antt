use Rattle.std.proofs.Common.{◌∙◌, arith}
use Rattle.network_machine.proofs.Lists.{first_of}
use Rattle.network_machine.proofs.channel.accept_hindrance.Goals as goal

pub returns : goal.returns
returns c = λ l shows.
    (let first = first_of c.args.channel.now.flits.items (grind arith) in
    (first.0, first.1, shows.flits ∙ first.2))
