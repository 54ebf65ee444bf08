use Rattle.core_laws.proofs.RowOfRuns as reached
use Rattle.core_laws.proofs.row_laws.rows_show_states.Goals as goal

pub returns : goal.returns
returns c = record {
  shows = reached.one_row;
  size = reached.size;
  most = reached.at_most;
  flits = λ l ok steps n x i x_in h. reached.flit_shown l ok steps n x x_in i h;
  empty = λ l ok steps n x q x_in low none. reached.rest_empty l ok steps n x x_in q low none;
  words = reached.memory_shown;
  done = reached.done_shown;
}
