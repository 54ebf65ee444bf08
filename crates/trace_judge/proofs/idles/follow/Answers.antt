use Rattle.std.proofs.Common.{◌<◌, length, arith, refl}
use Rattle.std.proofs.lemmas.Option.{slice_get-get_or}
use Rattle.trace_judge.specs.Idles.{settled}
use Rattle.trace_judge.proofs.Calm.{settled_more, settled_all, leads_same, leads_more}
use Rattle.trace_judge.proofs.idles.follow.Goals as goal

pub loop-i-init : goal.loop-i-init
loop-i-init g c = record {
  config = refl;
  ways = λ table w are. leads_same table w c.args.from c.args.nodes.now.items;
}

pub follow_one-requires : goal.follow_one-requires
follow_one-requires g c =
    let l : c.loop-i.i < length c.args.idles.now = omega arith in
    c.requires _ (c.loop-i.i, slice_get-get_or c.args.idles.now c.loop-i.i _ l)

pub loop-i-preserved : goal.loop-i-preserved
loop-i-preserved g c =
    let l : c.loop-i.i < length c.args.idles.now = omega arith in
    let at = slice_get-get_or c.args.idles.now c.loop-i.i _ l in
    record {
      config = settled_more c.args.idles.now c.loop-i.i _ c.loop-i.to.config c.in_ok-to.to.config (settled c.args.idles.now c.args.from.config)
          at c.in_ok-to.ensures.config c.loop-i.invariant.config;
      ways = λ table w are. leads_more table w c.args.from c.loop-i.to c.in_ok-to.to c.args.nodes.now.items c.loop-i.nodes.items _
          (c.loop-i.invariant.ways table w are)
          (c.in_ok-to.ensures.ways table w (are _ (c.loop-i.i, at)));
    }

pub returns-clause-config : goal.returns-clause-config
returns-clause-config g c = settled_all c.args.idles.now c.loop-i.i c.loop-i.to.config (settled c.args.idles.now c.args.from.config) (omega arith) c.loop-i.invariant.config
