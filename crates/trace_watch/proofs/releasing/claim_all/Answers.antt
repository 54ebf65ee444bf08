use Rattle.trace_watch.specs.States.{config_of, configs_of}
use Rattle.trace_watch.specs.Closed.{IsClaimed, IsIdleClaim}
use Rattle.trace_watch.proofs.Gathering.{gathers_both}
use Rattle.trace_watch.proofs.releasing.claim_all.Goals as goal

pub returns-clause-gathers : goal.returns-clause-gathers
returns-clause-gathers g c =
    gathers_both c.args.calls.now (IsClaimed c.args.calls.now c.args.call c.args.reply (config_of c.args.state.now))
    (IsIdleClaim c.args.calls.now c.args.call c.args.reply (config_of c.args.state.now))
    (configs_of c.args.kept.now.items) (configs_of c.claim_each.new.kept.items) (configs_of c.claim_idle.new.kept.items)
    c.in_ok-claim_each.ensures.gathers c.in_ok-claim_idle.ensures.gathers
