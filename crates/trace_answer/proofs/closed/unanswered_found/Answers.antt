use Rattle.std.proofs.Common.{◌≡◌, length, subst, arith}
use Rattle.trace_answer.specs.Noted.{HoldsFound}
use Rattle.trace_answer.proofs.Holding.{nothing_noted}
use Rattle.trace_answer.proofs.closed.unanswered_found.Goals as goal

pub loop-k-init : goal.loop-k-init
loop-k-init g c = λ events. nothing_noted c.args.issued.now events c.args.kept.now c.none-found.result c.none-found.ensures

pub returns : goal.returns
returns g c = λ events.
    let all : c.loop-k.k ≡ length c.args.issued.now = omega arith in
    subst (λ z. HoldsFound c.args.issued.now events c.args.kept.now z (length events) c.loop-k.found) all (c.loop-k.invariant events)
