-- Flits: words of 64 bits, told by their bits.
use Rattle.std.specs.Prelude.{◌≡◌, ℕ, ◌+◌, ◌*◌, ◌/◌, ◌%◌, ◌^◌, ◌<◌, ◌==◌, if◌then◌else◌}
use Rattle.torus.specs.declared.shape.Class.{Class}
use Rattle.torus.specs.declared.shape.Class.TheVariants.{Request, Reply}

-- the number that so many bits of a flit make, of which `low` is the lowest (Dally and Towles,
-- Principles
-- and Practices of Interconnection Networks, chapter 12: the fields of a flit)
unfoldable pub field : ℕ → ℕ → ℕ → ℕ
field flit low width = flit / 2 ^ low % 2 ^ width

-- what a head flit carries: the number of an operation, a class, two tiles and a tag; and of a
-- request the
-- word, of a reply the place (this project's own format)
pub record Heading : Type 0 where
  pub operation : ℕ
  pub class : ℕ
  pub destination : ℕ
  pub source : ℕ
  pub tag : ℕ
  pub place : ℕ

-- a head flit with this tail bit that carries these fields, bit by bit from the highest (this
-- project's own format)
pub record IsHeadFlit (tail : ℕ) (told : Heading) (flit : ℕ) : Type 0 where
  pub whole : flit < 2 ^ 64
  pub head_bit : field flit 63 1 ≡ 1
  pub tail_bit : field flit 62 1 ≡ tail
  pub flit_bit : field flit 61 1 ≡ 1
  pub operation_low : field flit 58 3 ≡ told.operation % 8
  pub class : field flit 57 1 ≡ told.class
  pub destination : field flit 51 6 ≡ told.destination
  pub source : field flit 45 6 ≡ told.source
  pub tag : field flit 41 4 ≡ told.tag
  pub operation_high : field flit 40 1 ≡ told.operation / 8
  pub zeros : field flit 32 8 ≡ 0
  pub place : field flit 0 32 ≡ told.place

-- a flit after the head, with this tail bit and this half of a value (this project's own format)
pub record IsPayloadFlit (tail : ℕ) (half : ℕ) (flit : ℕ) : Type 0 where
  pub whole : flit < 2 ^ 64
  pub head_bit : field flit 63 1 ≡ 0
  pub tail_bit : field flit 62 1 ≡ tail
  pub flit_bit : field flit 61 1 ≡ 1
  pub zeros : field flit 32 29 ≡ 0
  pub payload : field flit 0 32 ≡ half

-- the number of a class in a head flit: requests 0, replies 1 (this project's own format)
abbrev pub class_number : Class → ℕ
class_number Request = 0
class_number Reply = 1

-- the class of a number (this project's own format)
abbrev pub class_numbered : ℕ → Class
class_numbered class = if class == 0 then Request else Reply

-- the four bits of the operation in a head flit, of which bit 40 is the highest (this project's own
-- format)
abbrev pub operation_told : ℕ → ℕ
operation_told flit = field flit 40 1 * 8 + field flit 58 3
