use Rattle.flit_buffer.proofs.Wirings.{tells}
use Rattle.flit_buffer.proofs.laws.words_tell_what_is_granted.Goals as goal

pub returns : goal.returns
returns c = tells
