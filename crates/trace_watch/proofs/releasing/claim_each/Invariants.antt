use Rattle.trace_watch.specs.States.{config_of, configs_of}
use Rattle.trace_watch.specs.Chains.{IsIndexed}
use Rattle.trace_watch.specs.Closed.{Gathers, IsClaimedAt}
use Rattle.trace_watch.proofs.Gathering.{Below}
use Rattle.trace_watch.proofs.releasing.claim_each.Given as goal

abbrev pub invariant-loop-at : goal.invariant-loop-at
invariant-loop-at g l = record {
  was : Gathers l.calls (Below (IsClaimedAt l.calls l.call l.reply (config_of l.state)) l.at)
      (configs_of l.initial.kept.items) (configs_of l.kept.items);
  indexed : IsIndexed l.index (configs_of l.kept.items);
}
