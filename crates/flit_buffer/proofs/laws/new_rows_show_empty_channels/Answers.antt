use Rattle.flit_buffer.proofs.Starts.{are_rings, starts}
use Rattle.flit_buffer.proofs.laws.new_rows_show_empty_channels.Goals as goal

pub returns : goal.returns
returns c = record { rings = are_rings; row = starts }
