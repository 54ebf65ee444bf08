use Rattle.core_laws.proofs.Room.{within_room}
use Rattle.core_laws.proofs.asking.banks_are_within_their_room.Goals as goal

pub returns : goal.returns
returns c = within_room
