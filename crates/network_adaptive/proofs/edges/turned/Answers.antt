use Rattle.std.proofs.Common.{◌≡◌, ◌+◌, List, [], arith, subst}
use Rattle.rising.specs.declared.edge.Edge.{Edge}
use Rattle.network_adaptive.specs.Flags.{HasPut, IsEdgeOf}
use Rattle.network_adaptive.proofs.Turned.{all_more, all_end}
use Rattle.network_adaptive.proofs.edges.turned.Goals as goal

pub loop-x-preserved : goal.loop-x-preserved
loop-x-preserved g c =
    all_more c.args.edges.now c.loop-x.x (c.loop-x.x + 1) [] c.loop-x.out.items c.push_turned.new.out.items (omega arith) c.loop-x.invariant
    (subst (λ (v : List Edge). HasPut (λ u w. (w ≡ c.loop-x.x) × IsEdgeOf v w u) c.loop-x.out.items c.push_turned.new.out.items)
    c.in_ok-chains.ensures.1 c.in_ok-push_turned.ensures)

pub returns : goal.returns
returns g c = all_end c.args.edges.now c.loop-x.out.items c.args.nodes c.loop-x.x (omega arith) (record { from = c.requires.from; to = c.requires.to }) c.loop-x.invariant
