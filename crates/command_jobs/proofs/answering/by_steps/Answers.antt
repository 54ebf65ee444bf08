-- A fault of the command is the job's.
use Rattle.std.proofs.Common.{sym}
use Rattle.command_jobs.proofs.answering.by_steps.Goals as goal

pub returns-in-Err-clause-prints : goal.returns-in-Err-clause-prints
returns-in-Err-clause-prints g c = rw (sym c.as_slice-machine.ensures.value)
    rw (sym c.as_slice-script.ensures.value) rw (sym c.deref.ensures.value) c.in-Err.ensures.prints

pub returns-in-Err-clause-ends : goal.returns-in-Err-clause-ends
returns-in-Err-clause-ends g c = rw (sym c.as_slice-machine.ensures.value)
    rw (sym c.as_slice-script.ensures.value) rw (sym c.deref.ensures.value) c.in-Err.ensures.ends
