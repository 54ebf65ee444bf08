use Rattle.std.proofs.Common.{◌≡◌, ℕ, ◌<◌, List, [], ◌∷◌, ◌++◌, length, sym, ◌∙◌, ap, subst, arith}
use Rattle.std.specs.Prelude.{All}
use Rattle.torus.specs.Shape.{Shape, tiles_of, dims_of}
use Rattle.torus.specs.declared.shape.Class.{Class}
use Rattle.dateline_route.specs.declared.channel.Channel.{Channel}
use Rattle.dateline_route.specs.declared.channel.Kind.TheVariants.{Injection, Ejection}
use Rattle.dateline_route.specs.Route.{hops_below, route_of}
use Rattle.dateline_route.specs.Walk.{IsChannel}
use Rattle.dateline_route.proofs.Ends.{channels}
use Rattle.dateline_route.proofs.Lengths.{route_short, route_long}
use Rattle.dateline_route.proofs.Dimensions.{channels_more, tile_more}
use Rattle.dateline_route.proofs.Tiles.{corrected_is}
use Rattle.dateline_route.proofs.path.route.Goals as goal

pub push_hops-at-requires-clause-start : goal.push_hops-at-requires-clause-start
push_hops-at-requires-clause-start c =
    let P : ℕ → Type 0 = λ t. t < tiles_of c.args.torus.now in
    subst P (sym c.loop-dim.invariant.at)
    (corrected_is c.args.torus.now c.dims-dim-end.ensures.accepted c.args.src c.args.dst c.loop-dim.dim c.requires.src c.requires.dst (omega arith)).tile

pub loop-dim-preserved : goal.loop-dim-preserved
loop-dim-preserved c = record {
  at = tile_more c.args.torus.now c.args.src c.args.dst c.loop-dim.dim c.loop-dim.at c.push_hops-at.result c.loop-dim.invariant.at c.push_hops-at.ensures.tile;
  made = channels_more c.args.torus.now c.args.src c.args.dst c.args.class c.loop-dim.dim c.loop-dim.at
      (record { tile = c.args.src; class = c.args.class; kind = Injection }) c.loop-dim.channels.items c.push_hops-at.new.channels.items
      c.loop-dim.invariant.at c.loop-dim.invariant.made c.push_hops-at.ensures.hops;
  few = omega arith;
}

whole : (first last : Channel) (s : Shape) (src dst : ℕ) (class : Class) (n : ℕ) (before after : List Channel) → n ≡ dims_of s →
    before ≡ first ∷ hops_below s src dst class n → after ≡ before ++ last ∷ [] → after ≡ first ∷ hops_below s src dst class (dims_of s) ++ last ∷ []
whole first last s src dst class n before after n_is before_is after_is =
    after_is ∙ ap (λ xs. xs ++ last ∷ []) before_is ∙ ap (λ m. first ∷ hops_below s src dst class m ++ last ∷ []) n_is

pub returns : goal.returns
returns c =
    let s = c.args.torus.now in
    let all : c.loop-dim.dim ≡ dims_of s = omega arith in
    let is : c.push-2.new.self.items ≡ route_of s c.args.src c.args.dst c.args.class =
    whole (record { tile = c.args.src; class = c.args.class; kind = Injection }) (record { tile = c.args.dst; class = c.args.class; kind = Ejection }) s
    c.args.src c.args.dst c.args.class
    c.loop-dim.dim c.loop-dim.channels.items c.push-2.new.self.items all c.loop-dim.invariant.made c.push-2.ensures.items in
    let h = c.dims-dim-end.ensures.accepted in
    let P : List Channel → Type 0 = λ xs. All (IsChannel s) xs in
    record {
      route = is;
      channels = subst P (sym is) (channels s h c.args.src c.args.dst c.requires.src c.requires.dst c.args.class);
      some = omega (arith, ap length is, route_long s c.args.src c.args.dst c.args.class);
      few = omega (arith, ap length is, route_short s h c.args.src c.args.dst c.requires.src c.requires.dst c.args.class);
    }
