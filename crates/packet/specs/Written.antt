-- The spelling of a packet as a list of numbers.
use Rattle.std.specs.Prelude.{ℕ, ◌+◌, ◌*◌, ◌/◌, ◌%◌, ◌^◌, ◌<◌, Bool, true, false, if◌then◌else◌, List, [], ◌∷◌, ◌++◌}
use Rattle.std.specs.Prelude.{All}
use Rattle.packet.specs.declared.kinds.Packet.{Packet}
use Rattle.packet.specs.Flit.{Heading}
use Rattle.packet.specs.Spelling.{values_of, word_or_place}

-- the head flit that carries these fields, without the tail bit (this project's own format)
abbrev pub head_flit : Heading → ℕ
head_flit told =
    2 ^ 63 + 2 ^ 61
    + told.operation % 8 * 2 ^ 58 + told.class * 2 ^ 57 + told.destination * 2 ^ 51
    + told.source * 2 ^ 45 + told.tag * 2 ^ 41 + told.operation / 8 * 2 ^ 40 + told.place

-- the two flits of a value, the high half first; the last value of a packet ends with the tail bit
-- (this
-- project's own format)
abbrev pub value_flits : Bool → ℕ → List ℕ
value_flits last v =
    (2 ^ 61 + v / 2 ^ 32) ∷ ((if last then 2 ^ 62 else 0) + 2 ^ 61 + v % 2 ^ 32) ∷ []

-- a head flit without the tail bit, and the flits of at most two values (this project's own format)
abbrev pub flits_for : ℕ → List ℕ → List ℕ
flits_for head [] = (2 ^ 62 + head) ∷ []
flits_for head (v ∷ []) = head ∷ value_flits true v
flits_for head (v ∷ w ∷ _) = head ∷ (value_flits false v ++ value_flits true w)

-- the numbers of a packet are those of its fields: a word or place of 32 bits, values of 64 (this
-- project's own format)
pub record IsOfWords (p : Packet) : Type 0 where
  pub place : word_or_place p < 2 ^ 32
  pub values : All (λ v. v < 2 ^ 64) (values_of p)
