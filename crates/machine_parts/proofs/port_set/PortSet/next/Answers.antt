use Rattle.machine_parts.proofs.PortSets.{none_raised, first_raised, none_within}
use Rattle.machine_parts.proofs.port_set.PortSet.next.Goals as goal

pub returns-then-rest-eq0 : goal.returns-then-rest-eq0
returns-then-rest-eq0 c =
    none_raised c.args.self.now c.args.tile c.requires.tile c.args.from c.args.end c.flags_from-rest.result c.requires.end c.flags_from-rest.ensures
    c.if-rest-eq0.true

pub returns-then-port-end : goal.returns-then-port-end
returns-then-port-end c = (
  c.if-port-end.true,
  first_raised c.args.self.now c.args.tile c.requires.tile c.args.from c.args.end c.flags_from-rest.result c.requires.end c.flags_from-rest.ensures
      c.if-rest-eq0.false c.flags_from-rest.type_inv c.if-port-end.true,
)

pub returns-else-port-end : goal.returns-else-port-end
returns-else-port-end c =
    none_within c.args.self.now c.args.tile c.requires.tile c.args.from c.args.end c.flags_from-rest.result c.requires.end c.flags_from-rest.ensures
    c.if-rest-eq0.false c.flags_from-rest.type_inv c.if-port-end.false
