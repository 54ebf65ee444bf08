use Rattle.std.proofs.Common.{refl}
use Rattle.worker_run.proofs.Skips.{tries}
use Rattle.worker_run.proofs.turns.leave_out.Goals as goal

pub returns : goal.returns
returns g c = tries (g.G.Gate.stops c.args.gate.now c.args.worker) _ _ c.args.seat.now _ c.requires.idle c.if-run.false refl refl
