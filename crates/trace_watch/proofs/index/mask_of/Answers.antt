use Rattle.std.proofs.Common.{◌<◌, ◌+◌, ℕ, length, sym, subst, arith}
use Rattle.std.proofs.lemmas.Option.{slice_get-get_or}
use Rattle.trace_watch.proofs.Masks.{Marking, marking_more, marking_all}
use Rattle.trace_watch.proofs.index.mask_of.Goals as goal

pub loop-i-preserved : goal.loop-i-preserved
loop-i-preserved c =
    let l : c.loop-i.i < length c.args.effects.now = omega arith in
    subst (λ (m : ℕ). Marking c.args.effects.now (c.loop-i.i + 1) m) (sym c.marked-mask.ensures)
    (marking_more c.args.effects.now c.loop-i.i c.loop-i.mask _ (slice_get-get_or c.args.effects.now c.loop-i.i _ l)
    c.loop-i.invariant)

pub returns : goal.returns
returns c = marking_all c.args.effects.now c.loop-i.i c.loop-i.mask (omega arith) c.loop-i.invariant
