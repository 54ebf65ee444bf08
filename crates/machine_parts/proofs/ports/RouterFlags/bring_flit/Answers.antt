use Rattle.std.proofs.Common.{arith}
use Rattle.machine_parts.proofs.PortFlags.{takes_small, take_raised, no_take, past_store}
use Rattle.machine_parts.proofs.ports.RouterFlags.bring_flit.Goals as goal

pub raise-requires : goal.raise-requires
raise-requires g c =
    takes_small c.self.inside c.self.invariant c.args.word (omega arith) c.index.result.now c.index.ensures c.in-Some.port c.in-Some.is

pub returns-in-Some-clause-flags : goal.returns-in-Some-clause-flags
returns-in-Some-clause-flags g c =
    rw (← c.self.view_is) (take_raised c.self.inside c.self.invariant c.args.word (omega arith) c.index.result.now c.index.ensures c.args.flit c.in-Some.port
    c.in-Some.is c.raise.new.self c.raise.ensures)

pub returns-in-None-clause-flags : goal.returns-in-None-clause-flags
returns-in-None-clause-flags g c =
    rw (← c.self.view_is) (no_take c.self.inside c.self.invariant c.args.word (omega arith) c.index.result.now c.index.ensures c.args.flit c.in-None.is)

pub returns-else-word-len-clause-flags : goal.returns-else-word-len-clause-flags
returns-else-word-len-clause-flags g c = rw (← c.self.view_is) (past_store c.self.inside c.self.invariant c.args.word (omega arith) c.args.flit)
