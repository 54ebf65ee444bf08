use Rattle.std.proofs.Common.{arith}
use Rattle.dead_sets.proofs.Looking.{peel_end}
use Rattle.dead_sets.proofs.peeling.look_at_all.Goals as goal

pub places-init : goal.places-init
places-init g c = record { state = c.requires.so_far; closed = λ k d low e. absurd (omega arith) }

pub places-preserved : goal.places-preserved
places-preserved g c = record { state = c.in_ok-look.ensures.so_far; closed = c.in_ok-look.ensures.closed }

pub places-smaller : goal.places-smaller
places-smaller g c = let f = c.in_ok-look.ensures.fewer in omega arith

pub returns : goal.returns
returns g c =
    let a = c.args in
    let l = c.places in
    peel_end a.count a.at.now a.chains.now.edges.now c.requires.cases l.place l.opened l.left l.order.items (omega arith) l.invariant.state l.invariant.closed
