use Rattle.command_verdicts.proofs.smallest.shrunk_text.Goals as goal

pub returns-in-Ok : goal.returns-in-Ok
returns-in-Ok g c = record { trace = c.in_ok-trace.trace; read = c.in_ok-trace.ensures; is = c.in-Ok.ensures }
