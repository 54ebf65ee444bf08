-- The checksum of bytes (Fletcher, An arithmetic checksum for serial transmissions, IEEE Transactions on
-- Communications 30(1), 1982; with sums of 32 bits).
use Rattle.std.specs.Prelude.{ℕ, ◌+◌, ◌*◌, ◌%◌, List, [], ◌∷◌, length}

-- the sum of some bytes
abbrev pub sum_of : List ℕ → ℕ
sum_of [] = 0
sum_of (b ∷ bs) = b + sum_of bs

-- the sum of the sums of their beginnings: each byte counts as often as it stands in one
abbrev pub sum_of_sums : List ℕ → ℕ
sum_of_sums [] = 0
sum_of_sums (b ∷ bs) = length (b ∷ bs) * b + sum_of_sums bs

-- both, each modulo 2^32
abbrev pub checksum : List ℕ → ℕ
checksum bs = sum_of_sums bs % 4294967296 * 4294967296 + sum_of bs % 4294967296
