use Rattle.wormhole.proofs.Reached.{words_reached, routes_reached}
use Rattle.wormhole.proofs.Bounded.{owed_at_first}
use Rattle.wormhole.proofs.Working.{work_falls}
use Rattle.wormhole.proofs.ProgressReached.{steps_bounded}
use Rattle.wormhole.proofs.progress_laws.work_is_bounded.Goals as goal

pub returns : goal.returns
returns c = record {
  step = λ n net tiles ends new s t words routes step. work_falls n s net words routes tiles ends new t step;
  steps = λ n net tiles ends s is. steps_bounded n tiles ends s net (words_reached n (s 0) net is, routes_reached n (s 0) net is);
  first = owed_at_first;
}
