use Rattle.fabric.proofs.steps.turn_tile.Given as goal

abbrev pub ghosts-attempt_op : goal.ghosts-attempt_op
ghosts-attempt_op g a = record { view = a.seat.now.me.0; step = a.step; place = a.tile.now.place }
