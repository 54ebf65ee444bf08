-- The whole text of what is judged was taken; or, where the output failed, a beginning of it.
use Rattle.std.proofs.lemmas.Result.{err_from_is_err_and}
use Rattle.command_verdicts.proofs.network.network_text.Goals as goal

pub returns-in_err-put_all : goal.returns-in_err-put_all
returns-in_err-put_all g c =
    let p = err_from_is_err_and c.from_residual-in_err-put_all.result c.from_residual-in_err-put_all.ensures.1 in
    let told = c.in_ok-answer.ensures.value in
    rw (p.1, p.2) (record {
      why = tt;
      value = (
        c.in_ok-answer.answer,
        (
          c.deref.result.now,
          record {
            network = told.0;
            read = told.1;
            tells = told.2;
            is = c.deref.ensures.value;
          },
          record { bytes = c.in_err-put_all.ensures.err; failed = c.in_err-put_all.ensures.failed },
        ),
      );
    })

pub returns : goal.returns
returns g c =
    let told = c.in_ok-answer.ensures.value in record {
      why = tt;
      value = (
        c.deref.result.now,
        record {
          network = told.0;
          read = told.1;
          tells = told.2;
          is = c.deref.ensures.value;
        },
        record { bytes = c.in_ok-put_all.ensures.ok; quiet = c.in_ok-put_all.ensures.quiet },
      );
    }
