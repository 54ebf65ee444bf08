-- What an output has taken, and the count of its failed puts (this project's own format).
use Rattle.std.specs.Prelude.{◌≡◌, ℕ, ◌+◌, ◌<◌, ◌^◌, ◌-◌, List, ◌++◌, ◌==◌, nat_lt, ◌&&◌, if◌then◌else◌, Option, ◌⊎◌}
use Rattle.std.specs.Prelude.{min}
use Rattle.std.specs.Io.KnownBytes.{Appends}

-- the count after one more failed put: it stays at the greatest value of 64 bits
abbrev pub counted_up : ℕ → ℕ
counted_up n = min (n + 1) (2 ^ 64 - 1)

-- the count after a put of so many bytes that took so many of them: it fails if it takes none of
-- some
abbrev pub failures_after : ℕ → ℕ → ℕ → ℕ
failures_after count offered taken =
    if nat_lt 0 offered && (taken == 0) then counted_up count else count

-- the count rose, or stands at its greatest value
abbrev pub Rose : ℕ → ℕ → Type 0
Rose old new = (old < new) ⊎ (new ≡ 2 ^ 64 - 1)

-- a beginning of the text was taken, where the bytes taken are known
abbrev pub AppendsFront : Option (List ℕ) → Option (List ℕ) → List ℕ → Type 0
AppendsFront old new text =
    (front : List ℕ) × (rest : List ℕ) × (text ≡ front ++ rest) × Appends old new front
