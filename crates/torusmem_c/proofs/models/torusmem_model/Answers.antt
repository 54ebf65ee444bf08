-- The answer's text is what goes into the buffer.
use Rattle.std.proofs.Common.{inl, ℕ, List, length, ◌∙◌, ap, subst, Global}
use Rattle.model_answer.specs.declared.answer.Options.{Options}
use Rattle.report_model.specs.LogAnswers.{IsAnswerToRecords}
use Rattle.torusmem_c.specs.declared.outcome.Code.{Code}
use Rattle.torusmem_c.specs.declared.outcome.Code.TheVariants as code
use Rattle.torusmem_c.specs.Models.{models_record}
use Rattle.torusmem_c.specs.Room.{put_code, put_over}
use Rattle.torusmem_c.proofs.models.torusmem_model.Goals as goal

pub returns-in-Ok : goal.returns-in-Ok
returns-in-Ok c =
    let text = c.as_slice-text.ensures.value in
    inl
    (record {
      found = c.in-Ok.answer;
      is = subst (λ (o : Options). IsAnswerToRecords c.args.words c.args.records.now o c.in-Ok.answer) c.asked.ensures c.in-Ok.ensures.answer;
      buffer = c.put_code-code.ensures.buffer ∙ ap (λ (xs : List ℕ). put_over xs c.args.out.now) text;
      answer = c.models_record.ensures
          ∙ (ap (λ (k : Code). models_record k c.in-Ok.answer.obeys (length c.as_slice-text.result.now)) c.put_code-code.ensures.value
          ∙ ap (λ (xs : List ℕ). models_record (put_code code.Done xs c.args.out.now) c.in-Ok.answer.obeys (length xs)) text);
    })
