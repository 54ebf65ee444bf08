use Rattle.std.proofs.Common.{subst, sym}
use Rattle.network_machine.specs.Pairs.{cells_of, ArePairs}
use Rattle.network_rounds.specs.Traffic.{traffic_spec}
use Rattle.network_rounds.proofs.Refused.{refuses_apart}
use Rattle.network_rounds.proofs.joined.check_joined.Goals as goal

pub check_rows-requires-clause-pairs : goal.check_rows-requires-clause-pairs
check_rows-requires-clause-pairs g c = subst (λ rows. ArePairs c.args.joins.now (cells_of rows)) (sym c.deref.ensures.value) c.in-Ok.ensures

pub returns-in-Ok-clause-apart : goal.returns-in-Ok-clause-apart
returns-in-Ok-clause-apart g c = refuses_apart c.args.joins.now (traffic_spec c.args.traffic.now) c.check_rows.result c.check_rows.ensures.apart
