use Rattle.std.proofs.Common.{ℕ, List, slice_index, slice_set, Option, ◌∙◌, ap}
use Rattle.torus.specs.declared.step.OpId.{OpId}
use Rattle.fair_rounds.specs.Guard.{since_of, tag_holder}
use Rattle.fair_rounds.proofs.Firsts.{first_more}
use Rattle.fair_rounds.proofs.guard.see_row.Goals as goal

pub loop-tag-preserved : goal.loop-tag-preserved
loop-tag-preserved g c =
    ap (λ (xs : List ℕ). slice_set xs c.loop-tag.tag c.since_of.result) c.loop-tag.invariant
    ∙ first_more (λ t s. since_of (tag_holder c.args.machine.now c.args.processor t) c.args.issued c.args.round s) 0 c.loop-tag.tag c.args.since.now c.since_of.result
    (c.since_of.ensures
    ∙ (ap (λ (o : Option OpId). since_of o c.args.issued c.args.round (slice_index c.loop-tag.since c.loop-tag.tag)) c.holder.ensures
    ∙ ap (λ (xs : List ℕ). since_of (tag_holder c.args.machine.now c.args.processor c.loop-tag.tag) c.args.issued c.args.round (slice_index xs c.loop-tag.tag)) c.loop-tag.invariant))
