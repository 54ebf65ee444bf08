-- One word more, or one that spells nothing.
use Rattle.std.proofs.Common.{Some, sym, ap, ◌∙◌}
use Rattle.command_schedule.proofs.AnswerRead.{spelled_more, spelled_none}
use Rattle.command_schedule.proofs.answer_word.spelled.Goals as goal

pub loop-word-preserved : goal.loop-word-preserved
loop-word-preserved g c =
    spelled_more (λ word. word.now) c.args.words.now c.loop-word.word-index _ c.loop-word.read.items c.in-Some.word c.loop-word-test.true
    c.loop-word.invariant (sym c.in-Some.ensures)
    ∙ ap Some (sym c.in_ok-push-in-Some.ensures.items)

pub returns-in-None : goal.returns-in-None
returns-in-None g c =
    sym (spelled_none (λ word. word.now) c.args.words.now c.loop-word.word-index _ c.loop-word.read.items c.loop-word-test.true
    c.loop-word.invariant (sym c.in-None.ensures))
