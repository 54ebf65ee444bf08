-- A tile and its list of digits determine each other.
use Rattle.std.specs.Prelude.{◌≡◌, ℕ, ◌<◌, List, length, slice_index}
use Rattle.torus.specs.Shape.{Shape, dims_of, radix_of, digit_of}

-- the list of a tile's digits (Dally and Towles, chapter 5)
pub record AreDigits (s : Shape) (t : ℕ) (digits : List ℕ) : Type 0 where
  pub count : length digits ≡ dims_of s
  pub each : (d : ℕ) → d < dims_of s → slice_index digits d ≡ digit_of s t d

-- a list of one number for each dimension, each below its radix
pub record AreInRange (s : Shape) (digits : List ℕ) : Type 0 where
  pub count : length digits ≡ dims_of s
  pub below : (d : ℕ) → d < dims_of s → slice_index digits d < radix_of s d
