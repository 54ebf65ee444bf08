-- What flits carry.
use Rattle.std.specs.Prelude.{◌≡◌, ℕ, ◌+◌, ◌*◌, ◌^◌, ◌<◌, ◌≤◌, ◌==◌, if◌then◌else◌, List, [], ◌∷◌, length, slice_index, unwrap_or}
use Rattle.std.specs.List.{AllByRecursion}
use Rattle.packet.specs.declared.kinds.Code.{Code}
use Rattle.packet.specs.declared.kinds.Code.TheVariants as code
use Rattle.packet.specs.declared.kinds.Reply.{Reply}
use Rattle.packet.specs.declared.kinds.Reply.TheVariants.{Old, Ok as Stored}
use Rattle.packet.specs.declared.kinds.Packet.{Packet}
use Rattle.packet.specs.declared.kinds.Packet.TheVariants.{Request, Response}
pub use Rattle.packet.specs.Kinds.{op_with}
use Rattle.packet.specs.Numbers.{code_of_number}
use Rattle.packet.specs.Flit.{field, Heading, IsPayloadFlit, operation_told}
use Rattle.packet.specs.Refusal.{flits_told}

-- what a head flit carries (this project's own format)
abbrev pub heading_told : ℕ → Heading
heading_told h =
    record {
      operation = operation_told h;
      class = field h 57 1;
      destination = field h 51 6;
      source = field h 45 6;
      tag = field h 41 4;
      place = field h 0 32;
    }

-- the operation that a number from 0 to 9 says (this project's own format)
abbrev pub code_numbered : ℕ → Code
code_numbered n = unwrap_or (code_of_number n) code.Min

-- the reply to an operation of this name that found v (this project's own format)
abbrev pub reply_with : Code → ℕ → Reply
reply_with code.Store v = Stored
reply_with _ v = Old v

-- the packet of a heading and two values, as many of them as it takes (this project's own format)
abbrev pub packet_with : Heading → ℕ → ℕ → Packet
packet_with told v w =
    if told.class == 0
    then Request (record {
      destination = told.destination;
      source = told.source;
      tag = record { 0 = told.tag };
      word = told.place;
      op = op_with (code_numbered told.operation) v w;
    })
    else Response (record {
      destination = told.destination;
      source = told.source;
      tag = record { 0 = told.tag };
      place = told.place;
      code = code_numbered told.operation;
      reply = reply_with (code_numbered told.operation) v;
    })

-- the half of a value in flit `at` (this project's own format)
abbrev pub half_at : List ℕ → ℕ → ℕ
half_at flits at = field (slice_index flits at) 0 32

-- the value in flits `at` and `at + 1` (this project's own format)
abbrev pub value_at : List ℕ → ℕ → ℕ
value_at flits at = half_at flits at * 2 ^ 32 + half_at flits (at + 1)

-- the packet that a head flit and the flits after it carry (this project's own format)
abbrev pub packet_told : List ℕ → Packet
packet_told flits = packet_with (heading_told (slice_index flits 0)) (value_at flits 1)
    (value_at flits 3)

-- a head flit of an operation, with this tail bit (this project's own format)
pub record IsAcceptedHead (tail : ℕ) (flit : ℕ) : Type 0 where
  pub whole : flit < 2 ^ 64
  pub head_bit : field flit 63 1 ≡ 1
  pub tail_bit : field flit 62 1 ≡ tail
  pub flit_bit : field flit 61 1 ≡ 1
  pub operation : operation_told flit ≤ 9
  pub zeros : field flit 32 8 ≡ 0

-- a flit after the head, with this tail bit (this project's own format)
abbrev pub IsAcceptedPayload : ℕ → ℕ → Type 0
IsAcceptedPayload tail flit = IsPayloadFlit tail (field flit 0 32) flit

-- some flits of a packet from the first on, and not all of it (this project's own format)
abbrev pub IsBegun : List ℕ → Type 0
IsBegun [] = Unit {0}
IsBegun (head ∷ rest) =
    IsAcceptedHead 0 head × AllByRecursion (IsAcceptedPayload 0) rest
    × (length rest + 1 < flits_told head)
