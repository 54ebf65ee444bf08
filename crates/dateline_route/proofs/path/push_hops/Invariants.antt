use Rattle.std.proofs.Common.{◌≡◌, ◌++◌, map}
use Rattle.std.specs.List.{range_with_len}
use Rattle.dateline_route.specs.Route.{hop_of}
use Rattle.dateline_route.proofs.Dimensions.{IsAfter, crossed_in}
use Rattle.dateline_route.proofs.path.push_hops.Given as goal

-- where the hops so far lead, whether the dateline is crossed, and the hops
abbrev pub invariant-loop-hop : goal.invariant-loop-hop
invariant-loop-hop l = record {
  after : IsAfter l.torus l.start l.dir l.dim l._hop l.at;
  bit : l.bit ≡ crossed_in l.torus l.start l.dir l.dim l._hop;
  made : l.channels.items ≡ l.fn.channels.items ++ map (hop_of l.torus l.start l.dir l.dim l.class) (range_with_len 0 l._hop);
}
