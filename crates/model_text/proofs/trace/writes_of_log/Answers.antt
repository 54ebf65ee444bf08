use Rattle.model_text.specs.Traces.{writes_of_word}
use Rattle.model_text.specs.Views.{log_so_far}
use Rattle.model_text.proofs.Growing.{flat_more}
use Rattle.model_text.proofs.trace.writes_of_log.Goals as goal

pub loop-w-preserved : goal.loop-w-preserved
loop-w-preserved g c =
    flat_more (writes_of_word (log_so_far c.args.log.now)) c.loop-w.w c.loop-w.writes.items c.push_writes.new.writes.items c.in_ok-push_writes.ensures
    c.loop-w.invariant
