-- A network of three channels in a row, and a packet of three flits that goes through it.
use Rattle.std.proofs.Common.{◌≡◌, ◌+◌, ◌==◌, ◌&&◌, List, [], ◌∷◌, Some, None, refl, arith}
use Rattle.wormhole.specs.Net.{Net, Parcel}
use Rattle.wormhole.specs.State.{NetLine, NetState, empty, empty_line}
use Rattle.wormhole.specs.Events.{NetEvent, InjectHead, InjectRest, Latch, ForwardHead, ForwardRest, AcceptHead}
use Rattle.wormhole.specs.Events.{AcceptRest, Return, after_all, CanAllHappen, forwarded}
use Rattle.wormhole.specs.Events.{CanInjectHead, CanLatch, CanForwardHead, CanReturn}
use Rattle.wormhole.specs.Delivery.{whole, IsReached}

-- from channel 0 to channel 2; flit 9 is a head flit, and 7 a tail flit
abbrev row : Net
row = record {
  channels = 3;
  depth = 3;
  injects = λ x. x == 0;
  ejects = λ x. x == 2;
  joins = λ i j. i == 0 && j == 2;
  route = λ i j. 0 ∷ 1 ∷ 2 ∷ [];
  next = λ x j. x + 1;
  number = λ x. x;
  top = 3;
  is_head = λ flit. flit == 9;
  is_tail = λ flit. flit == 7;
  told = λ flit. 2;
}

abbrev packet : Parcel
packet = record { source = 0; destination = 2; index = 5; head = 9; tail = 4 ∷ 7 ∷ [] }

-- the head flit goes ahead, and the others follow
abbrev events : List NetEvent
events =
    InjectHead 0 packet
    ∷ Latch 0 9 []
    ∷ ForwardHead 0 1 9
    ∷ InjectRest 0 4 (7 ∷ [])
    ∷ Latch 1 9 []
    ∷ ForwardHead 1 2 9
    ∷ InjectRest 0 7 []
    ∷ Latch 0 4 (7 ∷ [])
    ∷ ForwardRest 0 1 4
    ∷ AcceptHead 2 9 []
    ∷ Latch 0 7 []
    ∷ ForwardRest 0 1 7
    ∷ Latch 1 4 (7 ∷ [])
    ∷ ForwardRest 1 2 4
    ∷ Latch 1 7 []
    ∷ ForwardRest 1 2 7
    ∷ AcceptRest 2 4 (7 ∷ [])
    ∷ AcceptRest 2 7 []
    ∷ Return 0
    ∷ []

abbrev end : NetState
end = after_all row (empty row) events

-- the packet is whole at the receiver, and all but returning credits is as in the beginning
arrived :
    (whole end 2 ≡ packet ∷ []) × ((end.notes 0).sent ≡ packet ∷ [])
    × ((end.lines 0).held ≡ 1) × ((end.lines 0).returning ≡ 2) × ((end.lines 1).returning ≡ 3) × ((end.lines 2).so_far ≡ [])
arrived = (refl, refl, refl, refl, refl, refl)

-- each of these events may happen where it does
may : CanAllHappen row (empty row) events
may = (
  record {
    here = omega arith;
    injects = refl;
    idle = refl;
    credit = omega arith;
    parcel = record { joined = refl; head = refl; told = refl; alone = refl; tail = (refl, refl, (refl, refl, tt)) };
    source = refl;
  },
  (
    record { here = omega arith; input = refl; free = refl; first = refl },
    (
      record { here = omega arith; input = refl; full = refl; head = refl; output = refl; free = refl; credit = omega arith },
      (
        record { here = omega arith; injects = refl; course = refl; credit = omega arith },
        (
          record { here = omega arith; input = refl; free = refl; first = refl },
          (
            record { here = omega arith; input = refl; full = refl; head = refl; output = refl; free = refl; credit = omega arith },
            (
              record { here = omega arith; injects = refl; course = refl; credit = omega arith },
              (
                record { here = omega arith; input = refl; free = refl; first = refl },
                (
                  record { here = omega arith; input = refl; full = refl; rest = refl; owned = refl; credit = omega arith },
                  (
                    record { here = omega arith; ejects = refl; first = refl; head = refl },
                    (
                      record { here = omega arith; input = refl; free = refl; first = refl },
                      (
                        record { here = omega arith; input = refl; full = refl; rest = refl; owned = refl; credit = omega arith },
                        (
                          record { here = omega arith; input = refl; free = refl; first = refl },
                          (
                            record { here = omega arith; input = refl; full = refl; rest = refl; owned = refl; credit = omega arith },
                            (
                              record { here = omega arith; input = refl; free = refl; first = refl },
                              (
                                record { here = omega arith; input = refl; full = refl; rest = refl; owned = refl; credit = omega arith },
                                (
                                  record { here = omega arith; ejects = refl; first = refl; head = refl },
                                  (
                                    record { here = omega arith; ejects = refl; first = refl; head = refl },
                                    (record { here = omega arith; returns = omega arith }, tt),
                                  ),
                                ),
                              ),
                            ),
                          ),
                        ),
                      ),
                    ),
                  ),
                ),
              ),
            ),
          ),
        ),
      ),
    ),
  ),
)

-- so such a state is reached
reached : IsReached row end
reached = record { events = events; may = may; stands = refl }

-- an empty channel with a flit in the latch behind it, and one that input 0 owns
abbrev with_head : NetLine
with_head = record (empty_line row) { latch = Some 9 }

abbrev owned : NetLine
owned = record (empty_line row) { owner = Some 0 }

-- a tail flit frees the output that it is put into, and a body flit leaves it owned
tail_frees : (forwarded row 0 7 owned).owner ≡ None
tail_frees = refl

body_keeps : (forwarded row 0 4 owned).owner ≡ Some 0
body_keeps = refl

-- a head flit is not put into an output that an input owns
no_head_into_an_owned_output : CanForwardHead row with_head owned 0 1 9 → ⊥
no_head_into_an_owned_output h = cc (h.free)

-- a head flit goes where the router sends packets to the channel that the flit tells, here channel 2
head_goes_where_it_tells : CanForwardHead (record row { next = λ x j. j }) with_head (empty_line row) 0 2 9
head_goes_where_it_tells = record {
  here = omega arith;
  input = refl;
  full = refl;
  head = refl;
  output = refl;
  free = refl;
  credit = omega arith;
}

-- no flit is taken while there is one in the latch
no_take_over_a_latch : CanLatch row (record with_head { flits = 4 ∷ [] }) 0 4 [] → ⊥
no_take_over_a_latch h = cc (h.free)

-- no packet is begun while a flit of the last one is left
no_packet_inside_another : CanInjectHead row (record (empty_line row) { rest = 7 ∷ [] }) 0 packet → ⊥
no_packet_inside_another h = cc (h.idle)

-- no credit comes back before a flit was taken, though the sender has spent one
no_credit_of_its_own : CanReturn row (record (empty_line row) { held = 2 }) 0 → ⊥
no_credit_of_its_own h = absurd (omega (arith, h.returns))
