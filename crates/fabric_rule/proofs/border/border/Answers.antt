use Rattle.fabric_rule.proofs.Bordering.{all_raised}
use Rattle.fabric_rule.proofs.border.border.Goals as goal

pub loop-tile-init : goal.loop-tile-init
loop-tile-init c = record {
  takes = λ gs own t i out. all_raised _ c.all-takes.ensures t i out;
  credits = λ gs own t o out. all_raised _ c.all-credits.ensures t o out;
}

pub loop-tile-preserved : goal.loop-tile-preserved
loop-tile-preserved c = record {
  takes = λ gs own. c.lower_takes.ensures gs own (c.loop-tile.invariant.takes gs own);
  credits = λ gs own. c.lower_credits.ensures gs own (c.loop-tile.invariant.credits gs own);
}

pub returns-clause-takes : goal.returns-clause-takes
returns-clause-takes c = c.loop-tile.invariant.takes

pub returns-clause-credits : goal.returns-clause-credits
returns-clause-credits c = c.loop-tile.invariant.credits
