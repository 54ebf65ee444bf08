use Rattle.std.proofs.Common.{sym}
use Rattle.network_machine.proofs.channel.put_from.Goals as goal

pub returns-clause-line : goal.returns-clause-line
returns-clause-line c = λ l shows.
    (let r = c.put.ensures.line l shows in
    let credit = (c.if-not-put.ensures.line l shows).0 in
    let after = (c.if-not-put.ensures.line l shows).1 in
    (credit, record { flits = after.flits; held = after.held; returning = after.returning; latch = after.latch; owner = sym c.owner_after-channel.ensures; rest = after.rest }))
