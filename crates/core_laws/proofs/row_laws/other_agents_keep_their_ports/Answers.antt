use Rattle.core_laws.proofs.RowOfRuns as reached
use Rattle.core_laws.proofs.row_laws.other_agents_keep_their_ports.Goals as goal

pub returns : goal.returns
returns c = record {
  ports = reached.others_stay;
  tiles = λ l ok steps n attempt next u e other. reached.tile_stays l ok steps n attempt next u e other;
  agents = reached.only_own;
  runs = reached.run_leaves;
}
