use Rattle.core_laws.proofs.Moves.{all_moves, most_left, left_after}
use Rattle.core_laws.proofs.machine_laws.moves_are_counted.Goals as goal

pub returns : goal.returns
returns c = record {
  all = all_moves;
  most = λ l c steps more h. most_left l c steps h more;
  after = λ l c steps more h. left_after l c steps h more;
}
