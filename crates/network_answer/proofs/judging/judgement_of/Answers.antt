use Rattle.std.proofs.Common.{◌+◌, ◌*◌, ◌≤◌, length, sym, ◌∙◌, ap, subst, arith}
use Rattle.std.specs.List.{count_by}
use Rattle.network_judge.specs.Table.{ejects}
use Rattle.network_text.specs.Reading.{reading_of}
use Rattle.network_text.specs.ChoosingRead.{choosing_text_of}
use Rattle.network_text.proofs.Refused.{moved}
use Rattle.network_answer.proofs.Counted.{choices_length}
use Rattle.network_adaptive.specs.Choosing.{choosing_of, table}
use Rattle.network_answer.proofs.judging.judgement_of.Goals as goal

pub judge_lists-requires-clause-full : goal.judge_lists-requires-clause-full
judge_lists-requires-clause-full g c =
    let n = c.args.network.now in
    let size = ap length (c.deref-7.ensures.value ∙ c.in_ok-choices.ensures) ∙ choices_length (choosing_text_of n) in
    subst (λ k. count_by ejects k * (length k * (n.layers + 1)) ≤ length c.deref-7.result.now) (sym c.deref-4.ensures.value) (omega (arith, size))

pub judge_lists-requires-clause-replies : goal.judge_lists-requires-clause-replies
judge_lists-requires-clause-replies g c =
    let n = c.args.network.now in
    moved (reading_of n.fixed).table
    (table (choosing_of c.deref-4.result.now c.deref-5.result.now (n.layers + 1) c.deref-7.result.now c.deref-8.result.now))
    n.fixed.replies.items c.deref-6.result.now c.deref-4.ensures.value c.deref-6.ensures.value c.requires.read.fixed.replies
