-- A pass that is over is told.
use Rattle.std.proofs.Common.{[], ◌∷◌, refl, inl}
use Rattle.worker_run.specs.Calls.{Passed}
use Rattle.worker_run.proofs.working.tell_turn.Goals as goal

pub returns-then-is_over : goal.returns-then-is_over
returns-then-is_over g c = (Passed c.args.turns ∷ [], inl (c.ends_pass-is_over.ensures.0 c.if-is_over.true, refl), c.passed.ensures)
