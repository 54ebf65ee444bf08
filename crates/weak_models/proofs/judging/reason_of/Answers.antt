use Rattle.weak_models.proofs.judging.reason_of.Goals as goal

pub returns-in-Some : goal.returns-in-Some
returns-in-Some c = c.in-Some.ensures

pub returns-then-is_behind_pair : goal.returns-then-is_behind_pair
returns-then-is_behind_pair c = c.is_behind_pair.ensures.yes c.if-is_behind_pair.true

pub returns-in-Read : goal.returns-in-Read
returns-in-Read c = c.in-Read.ensures

pub returns-in-Overwritten : goal.returns-in-Overwritten
returns-in-Overwritten c = c.in-Overwritten.ensures

pub returns-in-Stale : goal.returns-in-Stale
returns-in-Stale c = c.in-Stale.ensures
