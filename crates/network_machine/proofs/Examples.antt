-- What moves and the plain format's packets mean.
use Rattle.std.proofs.Common.{◌≡◌, [], ◌∷◌, refl}
use Rattle.wormhole.specs.Events.{InjectHead, ForwardHead, ForwardRest}
use Rattle.network_machine.specs.declared.moves.Move.TheVariants.{Send, Put}
use Rattle.network_machine.specs.declared.moves.Packet.{Packet}
use Rattle.network_machine.specs.Packets.{head_word, rest_words, packet_of}
use Rattle.network_machine.specs.Moves.{event_move}
use Rattle.network_machine.specs.Machine.{NetworkMachineSpec}
use Rattle.network_machine.specs.Endings.{PreventsEarlier}

-- the one flit of a packet to channel 5 has both bits, the first of two has the head bit alone
alone : head_word 5 1 ≡ 23
alone = refl

first_of_two : head_word 5 2 ≡ 22
first_of_two = refl

-- the last two flits of a packet: the tail bit stands on the last
last_two : rest_words 2 ≡ 0 ∷ 1 ∷ []
last_two = refl

-- a packet of three flits that goes from 0 to 5
three : event_move (InjectHead 0 (packet_of 0 5 3)) ≡ Send (record { from = 0; to = 5; length = 3 })
three = refl

-- head flits and others are put by one move, which names the channel in front of the latch
put_head : event_move (ForwardHead 2 4 22) ≡ Put 2
put_head = refl

put_rest : event_move (ForwardRest 2 4 1) ≡ Put 2
put_rest = refl

-- a new packet is never the move that is named as the first
sends_are_none : (m : NetworkMachineSpec) (p : Packet) → PreventsEarlier m (Send p) → ⊥
sends_are_none m p is = is
