use Rattle.std.proofs.Common.{◌≡◌, ◌+◌, ◌-◌, ◌∙◌, ap, arith, get_or}
use Rattle.std.specs.Prelude.{slice_index}
use Rattle.torus.specs.declared.shape.Class.TheVariants.{Request}
use Rattle.dateline_route.specs.declared.channel.Kind.TheVariants.{Injection}
use Rattle.channel_number.specs.Rising.{along}
use Rattle.channel_number.proofs.Alongs.{along_at, rise_more}
use Rattle.channel_number.proofs.checker.falling_hop.Goals as goal

pub loop-hop-preserved : goal.loop-hop-preserved
loop-hop-preserved c =
    let here : get_or c.args.numbers.now c.channel_index-in-loop-hop.result 0
    ≡ slice_index (along c.args.torus.now c.args.numbers.now c.args.class c.args.src c.args.dst) c.loop-hop.hop =
    along_at c.args.torus.now c.args.numbers.now c.args.class c.args.src c.args.dst c.deref-in-loop-hop.result.now c.route-channels.result.items
    (record { tile = 0; class = Request; kind = Injection }) c.loop-hop.hop c.channel_index-in-loop-hop.result
    c.deref-in-loop-hop.ensures.0 c.route-channels.ensures.route (omega (arith, c.len-hop-end.ensures.value)) c.channel_index-in-loop-hop.ensures.value in
    let now : c.loop-hop.hop ≡ (c.loop-hop.hop + 1) - 1 = omega arith in
    record {
      low = omega arith;
      before = here ∙ ap (slice_index (along c.args.torus.now c.args.numbers.now c.args.class c.args.src c.args.dst)) now;
      rise = rise_more (along c.args.torus.now c.args.numbers.now c.args.class c.args.src c.args.dst) c.loop-hop.hop c.loop-hop.before
          (get_or c.args.numbers.now c.channel_index-in-loop-hop.result 0) c.loop-hop.invariant.low c.loop-hop.invariant.before here (omega arith)
          c.loop-hop.invariant.rise;
    }
