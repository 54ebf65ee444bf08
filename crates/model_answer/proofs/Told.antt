-- The machines of the models that a log's trace obeys give its replies.
use Rattle.std.proofs.Common.{◌≡◌, ℕ, List, length, sym, subst}
use Rattle.memory_models.specs.declared.kinds.Operation.{Operation}
use Rattle.memory_models.specs.Trace.{IsMemoryTrace}
use Rattle.memory_models.proofs.InTurns.{list_in_turns}
use Rattle.model_text.specs.declared.logged.Logged.{Logged}
use Rattle.model_text.specs.Made.{LogLines}
use Rattle.model_text.specs.Traces.{AreOpened, operations_of_log, steps_of_log}
use Rattle.model_text.specs.Values.{AreDueReplies}
use Rattle.model_text.proofs.Replied.{one_memory, by_buffers, by_word_buffers}
use Rattle.model_answer.specs.declared.judged.Obeys.{Obeys}
use Rattle.model_answer.specs.Judged.{TellsObeyed}
use Rattle.model_answer.specs.Replies.{TellsReplies}

told_of_log : (log : LogLines) (words : ℕ) (writes : List ℕ) (o : Obeys) → IsMemoryTrace words (operations_of_log log) writes
    → AreOpened (length log.addresses) (operations_of_log log) writes → AreDueReplies (steps_of_log log) (operations_of_log log) writes
    → TellsObeyed (operations_of_log log) writes o → TellsReplies (steps_of_log log) (operations_of_log log) writes o
told_of_log log words writes o t opened due told = record {
  one_memory = λ e. (let at = told.one_memory e in
      let listed = list_in_turns (operations_of_log log) at.0 at.1.apart in
      record {
        turn = at.0;
        order = listed.0;
        sequential = at.1;
        turns = listed.1;
        replies = one_memory log words writes t opened due at.0 at.1 listed.0 listed.1;
      });
  buffers = λ e. (let at = told.runs e in
      record { made = at.0; left = at.1; run = at.2; replies = by_buffers log words writes t opened due at.0 at.1 at.2 });
  word_buffers = λ e. (let at = told.word_runs e in
      record { made = at.0; left = at.1; run = at.2; replies = by_word_buffers log words writes t opened due at.0 at.1 at.2 });
}

pub replies_told : (log : LogLines) (words openings : ℕ) (steps : List Logged) (ops : List Operation) (writes : List ℕ) (o : Obeys)
    → openings ≡ length log.addresses → steps ≡ steps_of_log log → ops ≡ operations_of_log log
    → IsMemoryTrace words ops writes → AreOpened openings ops writes → AreDueReplies steps ops writes → TellsObeyed ops writes o
    → TellsReplies steps ops writes o
replies_told log words openings steps ops writes o e f g t opened due told =
    let all_due : AreDueReplies (steps_of_log log) (operations_of_log log) writes =
    subst (λ (z : List Operation). AreDueReplies (steps_of_log log) z writes) g (subst (λ (z : List Logged). AreDueReplies z ops writes) f due) in
    let open_at : AreOpened (length log.addresses) (operations_of_log log) writes =
    subst (λ (z : List Operation). AreOpened (length log.addresses) z writes) g (subst (λ (z : ℕ). AreOpened z ops writes) e opened) in
    subst (λ (z : List Logged). TellsReplies z ops writes o) (sym f)
    (subst (λ (z : List Operation). TellsReplies (steps_of_log log) z writes o) (sym g)
    (told_of_log log words writes o (subst (λ (z : List Operation). IsMemoryTrace words z writes) g t) open_at all_due
    (subst (λ (z : List Operation). TellsObeyed z writes o) g told)))
