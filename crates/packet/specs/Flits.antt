-- What routers and assemblers make of flits, and the flits of a packet.
use Rattle.std.specs.Prelude.{ℕ, ◌==◌, ◌&&◌, Bool, List, [], ◌∷◌, ◌++◌, Option, Some, None, if◌then◌else◌}
use Rattle.packet.specs.declared.assembler.Kind.{Kind}
use Rattle.packet.specs.declared.assembler.Offered.{Offered}
use Rattle.packet.specs.declared.assembler.Offered.TheVariants.{More, Whole, Refused}
use Rattle.packet.specs.declared.heading.Head.{Head}
use Rattle.packet.specs.declared.kinds.Packet.{Packet}
use Rattle.packet.specs.Flit.{field, class_numbered}
use Rattle.packet.specs.Refusal.{refusal}
use Rattle.packet.specs.Reading.{packet_told}
use Rattle.packet.specs.Spelling.{heading_of, values_of}
use Rattle.packet.specs.Written.{head_flit, flits_for}

-- whether a flit is the first of its packet: the head bit (Dally and Towles, chapter 12: head
-- flits)
abbrev pub is_head : ℕ → Bool
is_head flit = field flit 63 1 == 1

-- whether a flit is the last of its packet: the tail bit (Dally and Towles, chapter 12: tail flits)
abbrev pub is_tail : ℕ → Bool
is_tail flit = field flit 62 1 == 1

-- what a router reads in a flit; None where it is no head flit (Dally and Towles, chapter 12: the head
-- flit
-- carries the route information)
abbrev pub head_of : ℕ → Option Head
head_of flit =
    if is_head flit && (field flit 61 1 == 1)
    then Some (record { destination = field flit 51 6; class = class_numbered (field flit 57 1) })
    else None

-- the answer to a flit that is refused as this kind, or not at all: then it ends its packet, or
-- there is
-- more to come (this project's own format)
abbrev pub offered_by : Option Kind → List ℕ → ℕ → Offered
offered_by (Some kind) so_far flit = Refused kind
offered_by None so_far flit =
    if is_tail flit then Whole (packet_told (so_far ++ flit ∷ [])) else More

-- what an assembler answers to a flit, after the flits so far of a packet (this project's own
-- format)
unfoldable pub offered : List ℕ → ℕ → Offered
offered so_far flit = offered_by (refusal so_far flit) so_far flit

-- the flits of a packet: the one list that spells it (this project's own format)
unfoldable pub flits_of : Packet → List ℕ
flits_of p = flits_for (head_flit (heading_of p)) (values_of p)
