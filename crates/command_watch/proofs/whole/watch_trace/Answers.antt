use Rattle.command_watch.proofs.WholeTraces.{whole_watched}
use Rattle.command_watch.proofs.whole.watch_trace.Goals as goal

pub returns : goal.returns
returns g c =
    whole_watched c.args.trace.now c.in_ok-renumbered.renumbered.opening.items _ c.in_ok-renumbered.renumbered.events.items _
    c.in_ok-renumbered.ensures.same c.lines.ensures.each c.args.bound c.in_ok-halt.halt c.deref.ensures.value c.deref-2.ensures.value c.in_ok-halt.ensures
    _ c.lines.ensures.value c.watched_of.result c.watched_of.ensures
