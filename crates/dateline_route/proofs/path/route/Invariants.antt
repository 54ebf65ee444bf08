use Rattle.std.proofs.Common.{◌≡◌, ◌+◌, ◌*◌, ◌≤◌, ◌∷◌, length}
use Rattle.dateline_route.specs.declared.channel.Kind.TheVariants.{Injection}
use Rattle.dateline_route.specs.Route.{corrected, hops_below}
use Rattle.dateline_route.proofs.path.route.Given as goal

-- the tile reached, and the channels so far
abbrev pub invariant-loop-dim : goal.invariant-loop-dim
invariant-loop-dim l = record {
  at : l.at ≡ corrected l.torus l.src l.dst l.dim;
  made : l.channels.items ≡ record { tile = l.src; class = l.class; kind = Injection } ∷ hops_below l.torus l.src l.dst l.class l.dim;
  few : length l.channels.items ≤ 1 + 4 * l.dim;
}
