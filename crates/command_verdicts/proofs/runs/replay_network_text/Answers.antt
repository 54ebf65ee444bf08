-- Where the output failed, a beginning of the line was taken.
use Rattle.std.proofs.Common.{◌∙◌}
use Rattle.std.proofs.lemmas.Result.{err_from_is_err_and}
use Rattle.std.specs.Prelude.{Ok}
use Rattle.network_run.specs.Answers.{TellsReplayed}
use Rattle.command_verdicts.proofs.runs.replay_network_text.Goals as goal

pub returns-in_err-put_all : goal.returns-in_err-put_all
returns-in_err-put_all g c =
    let p = err_from_is_err_and c.from_residual-in_err-put_all.result c.from_residual-in_err-put_all.ensures.1 in
    let told = c.in_ok-answer.ensures in
    let tells : TellsReplayed told.2 (Ok c.in_ok-answer.answer) = told.4 in
    rw (p.1, p.2) (
      c.in_ok-answer.answer.sound,
      (
        c.deref.result.now,
        record {
          network = told.0;
          read = told.1;
          replay = told.2;
          answers = told.3;
          is = c.deref.ensures.value ∙ tells.0;
          sounds = tells.1;
        },
        record { bytes = c.in_err-put_all.ensures.err; failed = c.in_err-put_all.ensures.failed },
      ),
    )
