-- The answer's text is what goes into the buffer.
use Rattle.std.proofs.Common.{inl, ℕ, List, length, ◌∙◌, ap, subst}
use Rattle.std.specs.Str.Lines.{lines}
use Rattle.model_replies.specs.declared.answer.ValueOptions.{ValueOptions}
use Rattle.model_replies.specs.Answers.{IsValueAnswerTo}
use Rattle.torusmem_c.specs.declared.outcome.Code.{Code}
use Rattle.torusmem_c.specs.declared.outcome.Code.TheVariants as code
use Rattle.torusmem_c.specs.Room.{put_code, put_over}
use Rattle.torusmem_c.specs.Values.{decided_record}
use Rattle.torusmem_c.proofs.values.torusmem_model_values.Goals as goal

pub returns-in-Ok : goal.returns-in-Ok
returns-in-Ok c =
    let text = c.as_slice-text.ensures.value in
    inl
    (record {
      found = c.in-Ok.answer;
      is = subst (λ (o : ValueOptions). IsValueAnswerTo (lines c.args.log.now) o c.in-Ok.answer) c.asked_values.ensures c.in-Ok.ensures.answer;
      buffer = c.put_code-code.ensures.buffer ∙ ap (λ (xs : List ℕ). put_over xs c.args.out.now) text;
      answer = c.decided_record.ensures
          ∙ (ap (λ (k : Code). decided_record k c.in-Ok.answer.decisions (length c.as_slice-text.result.now)) c.put_code-code.ensures.value
          ∙ ap (λ (xs : List ℕ). decided_record (put_code code.Done xs c.args.out.now) c.in-Ok.answer.decisions (length xs)) text);
    })
