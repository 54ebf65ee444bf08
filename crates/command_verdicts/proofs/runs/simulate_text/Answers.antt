-- The whole text of the answer was taken; or, where the output failed, a beginning of it.
use Rattle.std.proofs.Common.{refl}
use Rattle.std.proofs.lemmas.Result.{err_from_is_err_and}
use Rattle.command_verdicts.proofs.runs.simulate_text.Goals as goal

pub returns-in_err-put_all : goal.returns-in_err-put_all
returns-in_err-put_all g c =
    let p = err_from_is_err_and c.from_residual-in_err-put_all.result c.from_residual-in_err-put_all.ensures.1 in
    rw (p.1, p.2) (
      c.in_ok-simulation.simulation.sound,
      (
        c.deref.result.now,
        record {
          answer = c.in_ok-simulation.simulation;
          answers = c.in_ok-simulation.ensures;
          is = c.deref.ensures.value;
          sounds = refl;
        },
        record { bytes = c.in_err-put_all.ensures.err; failed = c.in_err-put_all.ensures.failed },
      ),
    )

pub returns : goal.returns
returns g c = (
  c.deref.result.now,
  record {
    answer = c.in_ok-simulation.simulation;
    answers = c.in_ok-simulation.ensures;
    is = c.deref.ensures.value;
    sounds = refl;
  },
  record { bytes = c.in_ok-put_all.ensures.ok; quiet = c.in_ok-put_all.ensures.quiet },
)
