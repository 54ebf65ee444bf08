use Rattle.trace_watch.proofs.LowLoops.{notes_new}
use Rattle.trace_watch.proofs.lowering.note_glimpse.Goals as goal

pub returns : goal.returns
returns g c = notes_new c.args.calls.now c.args.glimpse c.args.lowered.now.items c.push.new.self.items c.in-Some.call
    c.in-Some.ensures c.in_ok-push.ensures.items
