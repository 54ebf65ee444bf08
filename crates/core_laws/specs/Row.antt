-- The row of words that shows a state: the places of the channels, the words of the memory, and the
-- done word.
use Rattle.std.specs.Prelude.{ℕ, ◌+◌, ◌-◌, ◌%◌, List, ◌++◌, map, slice_index}
use Rattle.std.specs.List.{flat_map, range_with_len}
use Rattle.flit_buffer.specs.Places.{Ring}
use Rattle.flit_buffer.specs.Surroundings.{Surroundings}
use Rattle.core_laws.specs.Tile.{Design}
use Rattle.core_laws.specs.Core.{State}

-- the word at place q of a channel: the flit that is as many after the first as the place is after
-- the front, round the ring; 0 where there are not so many flits (this project's own format)
abbrev pub place_word : ℕ → Ring → ℕ → ℕ
place_word depth r q = slice_index r.channel.flits ((q + (depth - r.front)) % depth)

-- the places of a channel (this project's own format)
abbrev pub places_of : ℕ → Ring → List ℕ
places_of depth r = map (place_word depth r) (range_with_len 0 depth)

-- the row that shows the surroundings: the places of each channel in channel order, and then the
-- words (this project's own format)
abbrev pub row_showing : ℕ → Surroundings → List ℕ
row_showing depth around = flat_map (places_of depth) around.rings ++ around.words

-- the row that shows a state: the words are those of the memory by address, and then the done word
-- (this project's own format)
abbrev pub row_of : Design → State → List ℕ
row_of d s = row_showing d.depth s.around
