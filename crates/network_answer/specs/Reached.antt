-- Where packets come in a network whose routers choose.
use Rattle.std.specs.Prelude.{◌≡◌, ℕ, ◌<◌, ◌||◌, ◌&&◌, Bool, true, false, List, length}
use Rattle.std.specs.Prelude.{Option, Some, None, slice_get}
use Rattle.network_judge.specs.declared.table.Kind.{Kind}
use Rattle.network_judge.specs.declared.table.Kind.TheVariants.{Injection, Hop, Ejection}
use Rattle.network_judge.specs.declared.table.Join.{Join}
use Rattle.network_judge.specs.Marks.{is_marked_at}
use Rattle.network_adaptive.specs.Flags.{ComesTo}

-- flags are up where they are in either list
pub record AreEitherUp (flags more all : List Bool) : Type 0 where
  pub size : length all ≡ length flags
  pub each : (x : ℕ) → x < length flags
      → is_marked_at all x ≡ (is_marked_at flags x || is_marked_at more x)

-- whether a channel of this kind, if any, is a hop
abbrev pub is_between : Option Kind → Bool
is_between (Some Injection) = false
is_between (Some Hop) = true
is_between (Some Ejection) = false
is_between None = false

-- whether channel x is a hop, and its flag is up
abbrev pub is_hop_up : List Kind → List Bool → ℕ → Bool
is_hop_up kinds flags x = is_between (slice_get kinds x) && is_marked_at flags x

-- flags of the channels that packets to the channels below m come to, by these steps
pub record AreReached (kinds : List Kind) (joins : List Join) (step : ℕ → ℕ → ℕ → Bool) (m : ℕ)
    (flags : List Bool) : Type 0 where
  pub size : length flags ≡ length kinds
  pub only : (x : ℕ) → is_marked_at flags x ≡ true
      → (j : ℕ) × (j < m) × ComesTo joins (step j) j x
  pub all : (j x : ℕ) → j < m → ComesTo joins (step j) j x → is_marked_at flags x ≡ true
