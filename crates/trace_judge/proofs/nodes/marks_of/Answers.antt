use Rattle.std.proofs.Common.{◌≡◌, false, List, Bool, length, ap, ◌∙◌, sym, subst}
use Rattle.std.proofs.lemmas.List.{length-replicate, with_items_is}
use Rattle.trace_judge.specs.Kept.{AreKept}
use Rattle.trace_judge.proofs.nodes.marks_of.Goals as goal

pub mark_kept-requires-clause-sized : goal.mark_kept-requires-clause-sized
mark_kept-requires-clause-sized g c =
    ap length c.deref_mut.ensures.value ∙ (ap length c.in_ok-marks.ensures ∙ length-replicate (length c.args.nodes.now) false)

pub returns : goal.returns
returns g c =
    let long : length c.mark_kept.new.marks ≡ c.in_ok-marks.marks.len = c.mark_kept.auto.marks ∙ c.deref_mut.ensures.len in
    let sized : length c.mark_kept.new.marks ≡ length c.args.nodes.now = c.mark_kept.auto.marks
    ∙ (ap length c.deref_mut.ensures.value ∙ (ap length c.in_ok-marks.ensures ∙ length-replicate (length c.args.nodes.now) false)) in
    subst (λ (ms : List Bool). AreKept c.args.words.now c.args.nodes.now ms) (sym (with_items_is c.in_ok-marks.marks c.mark_kept.new.marks long))
    (record { sized = sized; closed = c.mark_kept.ensures.closed; ends = c.mark_kept.ensures.ends })
