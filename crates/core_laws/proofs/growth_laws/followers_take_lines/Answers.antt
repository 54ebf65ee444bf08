use Rattle.one_order.proofs.Grown.{first_with, next_with, issue_with, answer_with}
use Rattle.core_laws.proofs.growth_laws.followers_take_lines.Goals as goal

pub returns : goal.returns
returns c = record {
  first = first_with;
  ready = next_with;
  issue = issue_with;
  answer = answer_with;
}
