use Rattle.one_order.proofs.Shown.{left_after_issue, left_after_answer, left_within}
use Rattle.one_order.proofs.follower_laws.operations_left_fall.Goals as goal

pub returns : goal.returns
returns c = record {
  issue = λ lines past f o accepted h next. left_after_issue lines past f accepted h o next;
  answer = left_after_answer;
  total = left_within;
}
