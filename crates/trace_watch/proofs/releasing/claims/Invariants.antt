use Rattle.trace_watch.specs.States.{configs_of}
use Rattle.trace_watch.specs.Chains.{IsIndexed}
use Rattle.trace_watch.specs.Closed.{Gathers, MayClaim}
use Rattle.trace_watch.proofs.Gathering.{AtPlace, Below}
use Rattle.trace_watch.proofs.releasing.claims.Given as goal

abbrev pub invariant-loop-i : goal.invariant-loop-i
invariant-loop-i g l = record {
  was : Gathers l.calls (Below (AtPlace (configs_of l.states) (MayClaim l.calls l.call l.reply)) l.i)
      (configs_of l.initial.kept.items) (configs_of l.kept.items);
  indexed : IsIndexed l.index (configs_of l.kept.items);
}
