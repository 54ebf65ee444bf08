use Rattle.torusmem_c.proofs.Handing.{zero_more}
use Rattle.torusmem_c.proofs.opening.opening_words.Goals as goal

pub loop-place-preserved : goal.loop-place-preserved
loop-place-preserved c = zero_more c.args.given.now c.loop-place.opening.items _ c.loop-place.place c.loop-place.invariant c.in_ok-push.ensures.items
