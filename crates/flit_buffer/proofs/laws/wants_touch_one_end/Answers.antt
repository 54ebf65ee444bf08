use Rattle.flit_buffer.proofs.OwnParts.{same_where, other_rings, other_words}
use Rattle.flit_buffer.proofs.laws.wants_touch_one_end.Goals as goal

pub returns : goal.returns
returns c = record { granted = same_where; rings = other_rings; words = other_words }
