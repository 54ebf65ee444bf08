use Rattle.std.proofs.Common.{sym, ◌∙◌}
use Rattle.fabric.proofs.Counting.{sleeping_idle}
use Rattle.fabric.proofs.seats.TileSeat.is_awake.Goals as goal

pub returns : goal.returns
returns g c = λ off. sleeping_idle c.self.inside.seat c.args.self.now c.self.inside.flags c.self.view_is c.self.invariant.1 _ (sym c.is_choice_awake.ensures ∙ off)
