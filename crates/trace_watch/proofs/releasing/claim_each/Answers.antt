use Rattle.std.proofs.Common.{arith}
use Rattle.trace_watch.specs.States.{config_of, configs_of}
use Rattle.trace_watch.specs.Closed.{IsClaimedAt}
use Rattle.trace_watch.proofs.Gathering.{gathering_none, gathering_more, each_effect}
use Rattle.trace_watch.proofs.releasing.claim_each.Goals as goal

pub loop-at-init : goal.loop-at-init
loop-at-init g c = record {
  was = gathering_none c.args.calls.now (IsClaimedAt c.args.calls.now c.args.call c.args.reply (config_of c.args.state.now))
      (configs_of c.args.kept.now.items);
  indexed = c.requires;
}

pub loop-at-preserved : goal.loop-at-preserved
loop-at-preserved g c = record {
  was = gathering_more c.args.calls.now
      (IsClaimedAt c.args.calls.now c.args.call c.args.reply (config_of c.args.state.now)) c.loop-at.at
      (configs_of c.args.kept.now.items) (configs_of c.loop-at.kept.items) (configs_of c.claim.new.kept.items)
      c.loop-at.invariant.was c.in_ok-claim.ensures.gathers;
  indexed = c.in_ok-claim.ensures.indexed;
}

pub returns-clause-gathers : goal.returns-clause-gathers
returns-clause-gathers g c =
    let sized = c.args.state.now.effects.ok.0 in
    each_effect c.args.calls.now c.args.call c.args.reply (config_of c.args.state.now) c.loop-at.at
    (configs_of c.args.kept.now.items) (configs_of c.loop-at.kept.items) (omega arith) c.loop-at.invariant.was
