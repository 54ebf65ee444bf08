use Rattle.std.proofs.Common.{◌≡◌, true}
use Rattle.weak_models.proofs.Weakened.{keeps_fewer, of_rules, to_rules}
use Rattle.weak_models.proofs.laws.orders_that_keep_more_keep_fewer.Goals as goal

pub returns-clause-fewer : goal.returns-clause-fewer
returns-clause-fewer c more fewer ops writes turn sub o = keeps_fewer (λ x y. more x y ≡ true) (λ x y. fewer x y ≡ true) ops writes turn sub o

pub returns-clause-by_rules : goal.returns-clause-by_rules
returns-clause-by_rules c = of_rules

pub returns-clause-to_rules : goal.returns-clause-to_rules
returns-clause-to_rules c = to_rules
