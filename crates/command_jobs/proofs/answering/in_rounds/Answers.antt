-- What the command shows is shown of the texts of the job.
use Rattle.std.proofs.Common.{sym}
use Rattle.command_jobs.proofs.answering.in_rounds.Goals as goal

pub returns-in-Ok-clause-ends : goal.returns-in-Ok-clause-ends
returns-in-Ok-clause-ends g c = rw (sym c.as_slice-machine.ensures.value)
    rw (sym c.as_slice-script.ensures.value) c.in-Ok.ensures.ends

pub returns-in-Err-clause-ends : goal.returns-in-Err-clause-ends
returns-in-Err-clause-ends g c = rw (sym c.as_slice-machine.ensures.value)
    rw (sym c.as_slice-script.ensures.value) c.in-Err.ensures.ends
