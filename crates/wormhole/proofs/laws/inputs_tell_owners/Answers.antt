use Rattle.wormhole.proofs.Holding.{holds_empty, holds_kept, free_from_holds}
use Rattle.wormhole.proofs.laws.inputs_tell_owners.Goals as goal

pub returns : goal.returns
returns c = record {
  empty = holds_empty;
  kept = λ n net s holds e w r can a. holds_kept n s holds e net w r can a;
  free = λ holds s y a h. free_from_holds holds s.lines y a h;
}
