use Rattle.std.proofs.Common.{◌≡◌, true}
use Rattle.wormhole.proofs.FlitsHold.{flits_of_sent}
use Rattle.wormhole.proofs.laws.flits_are_of_sent_packets.Goals as goal

pub returns : goal.returns
returns c = λ n test net s w r sent. flits_of_sent n (λ flit. test flit ≡ true) s net w r sent
