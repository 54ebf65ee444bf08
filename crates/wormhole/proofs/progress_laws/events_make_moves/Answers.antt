use Rattle.wormhole.proofs.Falls.{one_less}
use Rattle.wormhole.proofs.ProgressReached.{moves_are_promised}
use Rattle.wormhole.proofs.progress_laws.events_make_moves.Goals as goal

pub returns : goal.returns
returns c = record {
  each = λ n net s words routes e may. one_less n s net words routes e may;
  all = λ n net es may. moves_are_promised n es net may;
}
