use Rattle.std.proofs.Common.{◌≡◌, None, ◌∙◌, arith, rules}
use Rattle.network_machine.proofs.Lists.{first_of}
use Rattle.network_machine.proofs.channel.take_hindrance.Goals as goal

pub returns : goal.returns
returns c = λ l shows.
    (let first = first_of c.args.channel.now.flits.items (grind arith) in
    let free : c.args.channel.now.latch ≡ None = search rules in
    (first.0, first.1, shows.latch ∙ free, shows.flits ∙ first.2))
