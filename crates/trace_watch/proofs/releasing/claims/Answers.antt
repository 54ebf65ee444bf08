use Rattle.std.proofs.Common.{◌<◌, length, arith}
use Rattle.trace_watch.specs.States.{configs_of}
use Rattle.trace_watch.specs.Closed.{MayClaim}
use Rattle.trace_watch.proofs.Loops.{index_there}
use Rattle.trace_watch.proofs.Gathering.{AtPlace, at_all, at_one, gathering_none, gathering_more}
use Rattle.trace_watch.proofs.releasing.claims.Goals as goal

pub loop-i-init : goal.loop-i-init
loop-i-init g c = record {
  was = gathering_none c.args.calls.now
      (AtPlace (configs_of c.args.states.now) (MayClaim c.args.calls.now c.args.call c.args.reply))
      (configs_of c.args.kept.now.items);
  indexed = c.requires;
}

pub loop-i-preserved : goal.loop-i-preserved
loop-i-preserved g c =
    let l : c.loop-i.i < length c.args.states.now = omega arith in
    record {
      was = gathering_more c.args.calls.now
          (AtPlace (configs_of c.args.states.now) (MayClaim c.args.calls.now c.args.call c.args.reply)) c.loop-i.i
          (configs_of c.args.kept.now.items) (configs_of c.loop-i.kept.items) (configs_of c.claim_all.new.kept.items)
          c.loop-i.invariant.was
          (at_one c.args.calls.now (MayClaim c.args.calls.now c.args.call c.args.reply) c.args.states.now c.loop-i.i _
          (configs_of c.loop-i.kept.items) (configs_of c.claim_all.new.kept.items)
          (index_there c.args.states.now c.loop-i.i _ l c.index-states-i.is) c.in_ok-claim_all.ensures.gathers);
      indexed = c.in_ok-claim_all.ensures.indexed;
    }

pub returns-clause-gathers : goal.returns-clause-gathers
returns-clause-gathers g c =
    at_all c.args.calls.now (MayClaim c.args.calls.now c.args.call c.args.reply) c.args.states.now c.loop-i.i
    (configs_of c.args.kept.now.items) (configs_of c.loop-i.kept.items) (omega arith) c.loop-i.invariant.was
