use Rattle.std.proofs.Common.{arith}
use Rattle.machine_parts.proofs.SetFlags.{sender_small, sender_set, none_set}
use Rattle.machine_parts.proofs.flags.WakeFlags.wake_sender.Goals as goal

pub bounds-self-inside-agent : goal.bounds-self-inside-agent
bounds-self-inside-agent g c = sender_small c.self.inside c.self.invariant c.args.word (omega arith) c.index.result.now c.index.ensures

pub bounds-self-inside-agent-then-word-len : goal.bounds-self-inside-agent-then-word-len
bounds-self-inside-agent-then-word-len g c = sender_small c.self.inside c.self.invariant c.args.word (omega arith) c.index.result.now c.index.ensures

pub returns-then-word-len-clause-flags : goal.returns-then-word-len-clause-flags
returns-then-word-len-clause-flags g c =
    rw (← c.self.view_is) (sender_set c.self.inside c.self.invariant c.args.word (omega arith) c.index.result.now c.index.ensures)

pub returns-else-word-len-clause-flags : goal.returns-else-word-len-clause-flags
returns-else-word-len-clause-flags g c = rw (← c.self.view_is) (none_set c.self.inside c.self.invariant c.args.word (omega arith) _ _)
