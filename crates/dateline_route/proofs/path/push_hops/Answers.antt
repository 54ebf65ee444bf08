use Rattle.std.proofs.Common.{◌≡◌, ℕ, refl, sym, ◌∙◌, ap, arith, lit<}
use Rattle.std.specs.Prelude.{◌||◌}
use Rattle.std.proofs.lemmas.List.{append-nil}
use Rattle.dateline_route.specs.Next.{is_dateline_hop}
use Rattle.dateline_route.specs.declared.channel.Kind.TheVariants.{Hop}
use Rattle.dateline_route.specs.Route.{hop_of}
use Rattle.dateline_route.proofs.Dimensions.{after_none, after_more, crossed_more, hop_is, hops_few, hops_end, hops_lead, length-pushed, made_more}
use Rattle.dateline_route.proofs.path.push_hops.Goals as goal

pub loop-hop-init : goal.loop-hop-init
loop-hop-init c = record {
  after = after_none c.args.torus.now c.radix_of-radix.ensures.accepted c.args.start c.args.dim c.shorter_way-dir.result c.requires.start c.requires.dimension;
  bit = refl;
  made = sym (append-nil c.args.channels.now.items);
}

pub push-requires : goal.push-requires
push-requires c =
    let few = hops_few c.args.torus.now c.radix_of-radix.ensures.accepted c.args.start c.args.dst c.args.dim c.requires.dimension
    c.shorter_way-dir.result c.radix_of-radix.result c.digit-here.result c.digit-there.result c.hops_by-hop-end.result
    c.radix_of-radix.ensures.value c.digit-here.ensures.value c.digit-there.ensures.value c.shorter_way-dir.ensures c.hops_by-hop-end.ensures in
    let long = length-pushed (hop_of c.args.torus.now c.args.start c.shorter_way-dir.result c.args.dim c.args.class) c.args.channels.now.items
    c.loop-hop.channels.items c.loop-hop._hop c.loop-hop.invariant.made in
    (lit< tt, omega arith)

pub loop-hop-preserved : goal.loop-hop-preserved
loop-hop-preserved c =
    let s = c.args.torus.now in
    let h = c.radix_of-radix.ensures.accepted in
    let t : ℕ = c.args.start in
    let d : ℕ = c.args.dim in
    let i : ℕ = c.loop-hop._hop in
    let dir = c.shorter_way-dir.result in
    let few = hops_few s h t c.args.dst d c.requires.dimension
    dir c.radix_of-radix.result c.digit-here.result c.digit-there.result c.hops_by-hop-end.result
    c.radix_of-radix.ensures.value c.digit-here.ensures.value c.digit-there.ensures.value c.shorter_way-dir.ensures c.hops_by-hop-end.ensures in
    let bit = ap (λ b. c.loop-hop.bit || b) c.is_dateline_hop-bit.ensures ∙ ap (λ b. b || is_dateline_hop s c.loop-hop.at d dir) c.loop-hop.invariant.bit
    ∙ crossed_more s t d i c.loop-hop.at dir c.loop-hop.invariant.after in
    record {
      after = after_more s h t d i c.loop-hop.at c.neighbour-at.result dir c.requires.dimension (omega arith) c.loop-hop.invariant.after c.neighbour-at.ensures;
      bit = bit;
      made = made_more (hop_of s t dir d c.args.class) c.args.channels.now.items c.loop-hop.channels.items c.push.new.self.items i
          (record { tile = c.loop-hop.at; class = c.args.class; kind = Hop d dir (c.loop-hop.bit || c.is_dateline_hop-bit.result) })
          c.loop-hop.invariant.made c.push.ensures.items
          (hop_is s h t d i c.loop-hop.at dir c.args.class (c.loop-hop.bit || c.is_dateline_hop-bit.result) c.requires.start c.requires.dimension (omega arith)
          c.loop-hop.invariant.after bit);
    }

pub returns-clause-hops : goal.returns-clause-hops
returns-clause-hops c =
    let ends : c.loop-hop._hop ≡ c.hops_by-hop-end.result = omega arith in
    c.loop-hop.invariant.made ∙ hops_end c.args.torus.now c.args.start c.args.dst c.args.class c.args.dim c.args.channels.now.items
    c.shorter_way-dir.result c.radix_of-radix.result c.digit-here.result c.digit-there.result c.loop-hop._hop
    c.radix_of-radix.ensures.value c.digit-here.ensures.value c.digit-there.ensures.value c.shorter_way-dir.ensures (ends ∙ c.hops_by-hop-end.ensures)

pub returns-clause-tile : goal.returns-clause-tile
returns-clause-tile c =
    let ends : c.loop-hop._hop ≡ c.hops_by-hop-end.result = omega arith in
    hops_lead c.args.torus.now c.radix_of-radix.ensures.accepted c.args.start c.args.dst c.args.dim c.loop-hop.at c.requires.start c.requires.dimension
    c.shorter_way-dir.result c.radix_of-radix.result c.digit-here.result c.digit-there.result c.loop-hop._hop
    c.radix_of-radix.ensures.value c.digit-here.ensures.value c.digit-there.ensures.value (ends ∙ c.hops_by-hop-end.ensures) c.loop-hop.invariant.after

pub returns-clause-few : goal.returns-clause-few
returns-clause-few c =
    let few = hops_few c.args.torus.now c.radix_of-radix.ensures.accepted c.args.start c.args.dst c.args.dim c.requires.dimension
    c.shorter_way-dir.result c.radix_of-radix.result c.digit-here.result c.digit-there.result c.hops_by-hop-end.result
    c.radix_of-radix.ensures.value c.digit-here.ensures.value c.digit-there.ensures.value c.shorter_way-dir.ensures c.hops_by-hop-end.ensures in
    let long = length-pushed (hop_of c.args.torus.now c.args.start c.shorter_way-dir.result c.args.dim c.args.class) c.args.channels.now.items
    c.loop-hop.channels.items c.loop-hop._hop c.loop-hop.invariant.made in
    omega arith
