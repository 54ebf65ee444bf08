use Rattle.std.proofs.Common.{◌≡◌, ◌+◌, ◌∙◌, [], ap, arith, get_or, ℕ}
use Rattle.packet.specs.declared.kinds.Op.{Op}
use Rattle.packet.specs.declared.kinds.Reply.{Reply}
use Rattle.packet.specs.Memory.{new_word}
use Rattle.model_text.specs.declared.logged.Logged.{Logged}
use Rattle.model_text.specs.Values.{op_logged, op_of_step, word_of_writes}
use Rattle.model_text.proofs.Growing.{ranged_more, word_more}
use Rattle.model_text.proofs.values.words_left.Goals as goal

pub loop-i-preserved : goal.loop-i-preserved
loop-i-preserved g c =
    let x : ℕ = get_or c.args.writes.now c.loop-i.i 0 in
    let op : c.op_of_step.result ≡ op_logged c.args.steps.now x =
    c.op_of_step.ensures ∙ ap (λ (l : Logged). op_of_step l.operation) c.logged_at.ensures in
    let word : c.apply-next.result.0 ≡ word_of_writes c.args.steps.now c.args.writes.now (c.loop-i.i + 1) =
    ap (λ (p : ℕ × Reply). p.0) c.apply-next.ensures
    ∙ (ap (λ (o : Op). new_word o c.loop-i.word) op
    ∙ (ap (new_word (op_logged c.args.steps.now x)) c.loop-i.invariant.word
    ∙ word_more c.args.steps.now c.args.writes.now c.loop-i.i 0 (omega arith))) in
    record {
      word = word;
      words = ranged_more (word_of_writes c.args.steps.now c.args.writes.now) (c.loop-i.i + 1) [] c.loop-i.words.items c.push-in-loop-i.new.self.items
          c.apply-next.result.0 word c.in_ok-push-2.ensures.items c.loop-i.invariant.words;
    }
