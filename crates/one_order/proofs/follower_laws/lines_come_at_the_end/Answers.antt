use Rattle.one_order.proofs.Grown.{shows_with, followable_with, some_of, left_with, next_at_end}
use Rattle.one_order.proofs.follower_laws.lines_come_at_the_end.Goals as goal

pub returns : goal.returns
returns c = record {
  shows = shows_with;
  followable = followable_with;
  some = some_of;
  left = left_with;
  ended = next_at_end;
}
