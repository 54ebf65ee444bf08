-- Packets of so many flits in the plain format.
use Rattle.std.specs.Prelude.{ℕ, zero, suc, ◌+◌, ◌-◌, ◌*◌, ◌==◌, if◌then◌else◌, List, [], ◌∷◌}
use Rattle.wormhole.specs.Net.{Parcel}

-- the head flit of a packet of so many flits to an ejection channel
abbrev pub head_word : ℕ → ℕ → ℕ
head_word to count = to * 4 + (if count == 1 then 3 else 2)

-- the next flit of a packet of which so many are left: the last has the tail bit
abbrev pub rest_word : ℕ → ℕ
rest_word left = if left == 1 then 1 else 0

-- the last so many flits of a packet, none of them its head flit
abbrev pub rest_words : ℕ → List ℕ
rest_words zero = []
rest_words (suc left) = rest_word (suc left) ∷ rest_words left

-- a packet of so many flits
abbrev pub packet_of : ℕ → ℕ → ℕ → Parcel
packet_of from to count = record {
  source = from;
  destination = to;
  index = 0;
  head = head_word to count;
  tail = rest_words (count - 1);
}
