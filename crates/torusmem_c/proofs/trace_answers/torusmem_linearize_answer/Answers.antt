-- The text that is said is what goes into the buffer.
use Rattle.std.proofs.Common.{inl, ℕ, List, length, ◌∙◌, ap}
use Rattle.torusmem_c.specs.declared.outcome.Code.{Code}
use Rattle.torusmem_c.specs.Room.{put_code, put_over}
use Rattle.torusmem_c.specs.TraceAnswers.{said_record}
use Rattle.torusmem_c.proofs.trace_answers.torusmem_linearize_answer.Goals as goal

pub returns-in-Ok : goal.returns-in-Ok
returns-in-Ok c =
    let text = c.as_slice-text.ensures.value in
    inl
    (record {
      said = c.in-Ok.said;
      is = c.in-Ok.ensures.said;
      buffer = c.put_code-code.ensures.buffer ∙ ap (λ (xs : List ℕ). put_over xs c.args.out.now) text;
      answer = c.said_record.ensures
          ∙ (ap (λ (k : Code). said_record k c.in-Ok.said.line (length c.as_slice-text.result.now)) c.put_code-code.ensures.value
          ∙ ap (λ (xs : List ℕ). said_record (put_code c.in-Ok.said.code xs c.args.out.now) c.in-Ok.said.line (length xs)) text);
    })
