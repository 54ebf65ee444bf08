use Rattle.std.proofs.Common.{List, sym, subst}
use Rattle.rising.specs.declared.edge.Edge.{Edge}
use Rattle.rising.specs.Graph.{EdgesAreWithin}
use Rattle.network_adaptive.specs.Edges.{AreReversed}
use Rattle.network_adaptive.proofs.Turned.{turned_within, turned_twice}
use Rattle.network_adaptive.proofs.edges.distinct.Goals as goal

pub turned-requires-2 : goal.turned-requires-2
turned-requires-2 g c =
    subst (λ (v : List Edge). EdgesAreWithin c.args.nodes v) (sym c.deref.ensures.value)
    (turned_within c.args.nodes c.args.edges.now c.in_ok-half.half.items (record { from = c.requires.from; to = c.requires.to }) c.in_ok-half.ensures)

pub returns : goal.returns
returns g c =
    turned_twice c.args.edges.now c.in_ok-half.half.items c.in_ok-turned.field-0.items c.in_ok-half.ensures
    (subst (λ (v : List Edge). AreReversed v c.in_ok-turned.field-0.items) c.deref.ensures.value c.in_ok-turned.ensures)
