use Rattle.core_laws.proofs.WakeEnds.{receiver_is, sender_is}
use Rattle.core_laws.proofs.wake_laws.channels_have_two_agents.Goals as goal

pub returns : goal.returns
returns c = record {
  receiver = λ s ok t a i low there. receiver_is s ok t low a i there;
  sender = λ s ok t a o low there. sender_is s ok t low a o there;
}
