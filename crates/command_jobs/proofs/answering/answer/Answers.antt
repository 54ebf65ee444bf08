-- A job in rounds asks for as many rounds as it names, and for the pace that it names.
use Rattle.std.proofs.Common.{sym}
use Rattle.command_jobs.proofs.answering.answer.Goals as goal

pub returns-in-Round-clause-answers : goal.returns-in-Round-clause-answers
returns-in-Round-clause-answers g c = rw c.in-Round.is rw (sym c.from.ensures) rw (sym c.pace_of-pace.ensures) c.in_rounds.ensures.prints

pub returns-in-Round-clause-ends : goal.returns-in-Round-clause-ends
returns-in-Round-clause-ends g c = rw c.in-Round.is rw (sym c.from.ensures) rw (sym c.pace_of-pace.ensures) c.in_rounds.ensures.ends
