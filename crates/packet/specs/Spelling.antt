-- Which flits spell a packet.
use Rattle.std.specs.Prelude.{◌≡◌, ◌≢◌, ℕ, ◌/◌, ◌%◌, ◌^◌, ◌<◌, List, [], ◌∷◌, ◌++◌, slice_index}
use Rattle.packet.specs.declared.kinds.Op.{Op}
use Rattle.packet.specs.declared.kinds.Op.TheVariants.{Load, Store, Swap, Cas, Add, And, Or, Xor, Max, Min}
use Rattle.packet.specs.declared.kinds.Code.{Code}
use Rattle.packet.specs.declared.kinds.Reply.{Reply}
use Rattle.packet.specs.declared.kinds.Reply.TheVariants.{Old, Ok as Stored}
use Rattle.packet.specs.declared.kinds.Packet.{Packet}
use Rattle.packet.specs.declared.kinds.Packet.TheVariants.{Request, Response}
use Rattle.torus.specs.declared.shape.Class.{Class}
use Rattle.torus.specs.declared.shape.Class.TheVariants as class
use Rattle.packet.specs.Kinds.{code_of, IsReplyOf}
use Rattle.packet.specs.Numbers.{code_number}
use Rattle.packet.specs.Flit.{field, Heading, IsHeadFlit, IsPayloadFlit, class_number, class_numbered}

-- the values that an operation brings (this project's own format)
abbrev pub values_of_op : Op → List ℕ
values_of_op Load = []
values_of_op (Store v) = v ∷ []
values_of_op (Swap v) = v ∷ []
values_of_op (Cas e n) = e ∷ n ∷ []
values_of_op (Add v) = v ∷ []
values_of_op (And v) = v ∷ []
values_of_op (Or v) = v ∷ []
values_of_op (Xor v) = v ∷ []
values_of_op (Max v) = v ∷ []
values_of_op (Min v) = v ∷ []

-- the first value that an operation brings, 0 if it brings none
abbrev pub first_value : Op → ℕ
first_value op = slice_index (values_of_op op) 0

-- the second value that an operation brings, 0 if it brings fewer
abbrev pub second_value : Op → ℕ
second_value op = slice_index (values_of_op op) 1

-- the values that a reply brings (this project's own format)
abbrev pub values_of_reply : Reply → List ℕ
values_of_reply Stored = []
values_of_reply (Old w) = w ∷ []

-- the old word that a reply brings, 0 for `ok`
abbrev pub old_word : Reply → ℕ
old_word reply = slice_index (values_of_reply reply) 0

-- the values that a packet brings (this project's own format)
abbrev pub values_of : Packet → List ℕ
values_of (Request r) = values_of_op r.op
values_of (Response r) = values_of_reply r.reply

-- the class of a packet (Dally and Towles, chapter 14: requests and replies)
abbrev pub class_of : Packet → Class
class_of (Request r) = class.Request
class_of (Response r) = class.Reply

-- the tile that a packet goes to (this project's own format)
abbrev pub destination_of : Packet → ℕ
destination_of (Request r) = r.destination
destination_of (Response r) = r.destination

-- the tile that a packet comes from (this project's own format)
abbrev pub source_of : Packet → ℕ
source_of (Request r) = r.source
source_of (Response r) = r.source

-- the tag of a packet (this project's own format)
abbrev pub tag_of : Packet → ℕ
tag_of (Request r) = r.tag.0
tag_of (Response r) = r.tag.0

-- the operation that a packet asks for or replies to (this project's own format)
abbrev pub code_in : Packet → Code
code_in (Request r) = code_of r.op
code_in (Response r) = r.code

-- of a request the word, of a reply the place (this project's own format)
abbrev pub word_or_place : Packet → ℕ
word_or_place (Request r) = r.word
word_or_place (Response r) = r.place

-- what the head flit of a packet carries (this project's own format)
abbrev pub heading_of : Packet → Heading
heading_of p =
    record {
      operation = code_number (code_in p);
      class = class_number (class_of p);
      destination = destination_of p;
      source = source_of p;
      tag = tag_of p;
      place = word_or_place p;
    }

-- a reply packet brings `ok` exactly if it replies to a store (this project's own format)
abbrev pub IsSound : Packet → Type 0
IsSound (Request r) = Unit {0}
IsSound (Response r) = IsReplyOf r.code r.reply

-- flits for a heading and its values: a head alone, or a head and two flits for each value, the
-- high half
-- first; only the last has the tail bit (this project's own format)
abbrev pub SpellsWith : Heading → List ℕ → List ℕ → Type 0
SpellsWith told [] (h ∷ []) = IsHeadFlit 1 told h
SpellsWith told (v ∷ []) (h ∷ a ∷ b ∷ []) =
    IsHeadFlit 0 told h × IsPayloadFlit 0 (v / 2 ^ 32) a × IsPayloadFlit 1 (v % 2 ^ 32) b
SpellsWith told (v ∷ w ∷ []) (h ∷ a ∷ b ∷ c ∷ d ∷ []) =
    IsHeadFlit 0 told h × IsPayloadFlit 0 (v / 2 ^ 32) a × IsPayloadFlit 0 (v % 2 ^ 32) b
    × IsPayloadFlit 0 (w / 2 ^ 32) c × IsPayloadFlit 1 (w % 2 ^ 32) d
SpellsWith told _ _ = ⊥

-- the flits spell the packet (this project's own format)
pub record Spells (p : Packet) (flits : List ℕ) : Type 0 where
  pub sound : IsSound p
  pub bits : SpellsWith (heading_of p) (values_of p) flits

-- the flits begin a spelling and are not the whole of it (this project's own format)
pub record ProperlyBegins (flits : List ℕ) : Type 0 where
  pub packet : Packet
  pub rest : List ℕ
  pub more : rest ≢ []
  pub spelled : Spells packet (flits ++ rest)

-- a packet that can be spelled: its tiles, its tag and its reply fit a head flit (this project's
-- own format)
pub record IsSpellable (p : Packet) : Type 0 where
  pub destination : destination_of p < 64
  pub source : source_of p < 64
  pub tag : tag_of p < 16
  pub sound : IsSound p

-- a head flit tells where the packet goes, and its class (Dally and Towles, chapter 12: the head
-- flit
-- carries the route information)
pub record TellsPacket (p : Packet) (head : ℕ) : Type 0 where
  pub head_bit : field head 63 1 ≡ 1
  pub flit_bit : field head 61 1 ≡ 1
  pub destination : field head 51 6 ≡ destination_of p
  pub class : class_numbered (field head 57 1) ≡ class_of p

-- the tail bit of a flit that these flits of its packet follow (this project's own format)
abbrev pub tail_bit_before : List ℕ → ℕ
tail_bit_before [] = 1
tail_bit_before (flit ∷ flits) = 0

-- what follows a head flit: no flit has the head bit, and the last alone has the tail bit (Dally
-- and
-- Towles, chapter 12: body and tail flits)
abbrev pub IsTailShaped : List ℕ → Type 0
IsTailShaped [] = Unit {0}
IsTailShaped (flit ∷ flits) =
    (field flit 63 1 ≡ 0) × (field flit 62 1 ≡ tail_bit_before flits) × IsTailShaped flits
