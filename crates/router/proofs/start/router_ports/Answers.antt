use Rattle.std.proofs.Common.{◌*◌, ap}
use Rattle.router.proofs.Begins.{ports_are_new}
use Rattle.router.proofs.start.router_ports.Goals as goal

pub returns-clause-ports : goal.returns-clause-ports
returns-clause-ports c =
    ports_are_new c.args.torus.now c.args.tile c.args.depth (c.channel_count.result * c.args.depth) c.new_inputs-inputs.result.items
    c.new_outputs-outputs.result.items c.new.result
    c.new_inputs-inputs.ensures.count c.new_outputs-outputs.ensures.count c.new_inputs-inputs.ensures.ends c.new_outputs-outputs.ensures.ends c.new.ensures
    (ap (λ n. n * c.args.depth) c.channel_count.ensures.value)
