use Rattle.model_values.proofs.LostUpdates.{lost_by, lost_unwritten, not_lost}
use Rattle.model_values.proofs.lost.is_lost.Goals as goal

pub returns-in-Some : goal.returns-in-Some
returns-in-Some c = record {
  yes = λ so. lost_by c.args.valued.now c.args.x c.args.y c.in-Some.source (c.are_twins.ensures.yes c.if-not-are_twins.false) (c.is_only.ensures.yes so);
  no = λ so. not_lost c.args.valued.now c.args.x c.args.y c.in-Some.source c.in-Some.ensures.some (c.is_only.ensures.no so);
}

pub returns-in-None-clause-yes : goal.returns-in-None-clause-yes
returns-in-None-clause-yes c so =
    lost_unwritten c.args.valued.now c.args.x c.args.y (c.are_twins.ensures.yes c.if-not-are_twins.false) c.in-None.ensures.none
