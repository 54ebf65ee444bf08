-- How many operations scripts may still be given.
use Rattle.std.specs.Prelude.{ℕ, ◌-◌, List, min, sum, slice_get, Option, option_map}

-- how many operations more a script may have that allows so many, where all scripts together allow
-- `all`: no more than 4096 a script, and 65536 in all (this project's own limits)
abbrev pub room_of : ℕ → ℕ → ℕ
room_of own all = min (4096 - own) (65536 - all)

-- how many more that of processor p may have, by what each allows; None where there is no such
-- processor
abbrev pub room_left : List ℕ → ℕ → Option ℕ
room_left allowed p = option_map (λ own. room_of own (sum allowed)) (slice_get allowed p)
