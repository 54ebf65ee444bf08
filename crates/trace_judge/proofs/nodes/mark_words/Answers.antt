use Rattle.std.proofs.Common.{◌<◌, ◌∙◌, List, ℕ, length, arith, refl, subst, sym}
use Rattle.trace_laws.specs.declared.opened.Branch.{Branch}
use Rattle.trace_judge.specs.Kept.{AreWithin}
use Rattle.trace_judge.proofs.Ranks.{words_end_more}
use Rattle.trace_judge.proofs.Searching.{read_set}
use Rattle.trace_judge.proofs.nodes.mark_words.Goals as goal

pub loop-w-init : goal.loop-w-init
loop-w-init g c = record { sized = refl; ends = λ w l. absurd (omega arith) }

pub mark_ends-requires : goal.mark_ends-requires
mark_ends-requires g c =
    let l : c.loop-w.w < length c.args.words.now = omega arith in
    let shown = c.deref.ensures.value ∙ read_set c.args.words.now c.loop-w.w c.index-words-w.result l c.index-words-w.is in
    subst (λ (n : ℕ). AreWithin n c.deref.result.now) (sym c.loop-w.invariant.sized)
    (subst (λ (bs : List Branch). AreWithin (length c.args.marks.now) bs) (sym shown) (c.requires c.loop-w.w l))

pub loop-w-preserved : goal.loop-w-preserved
loop-w-preserved g c =
    let l : c.loop-w.w < length c.args.words.now = omega arith in
    words_end_more c.args.words.now c.args.marks.now c.loop-w.marks c.mark_ends.new.marks c.loop-w.w c.deref.result.now
    (c.deref.ensures.value ∙ read_set c.args.words.now c.loop-w.w c.index-words-w.result l c.index-words-w.is)
    c.mark_ends.auto.marks c.mark_ends.ensures.kept c.mark_ends.ensures.ends c.loop-w.invariant

pub returns : goal.returns
returns g c = λ w l. c.loop-w.invariant.ends w (omega arith)
