-- Flags of what is left, and numbers of an order.
use Rattle.std.specs.Prelude.{◌≡◌, ◌≢◌, ℕ, ◌+◌, ◌<◌, ◌≤◌, Bool, true, List, length, slice_index}
use Rattle.network_judge.specs.Marks.{is_marked_at}

-- flags of the places of a list where something other than 0 stands
pub record AreFlagsOfLeft (left : List ℕ) (flags : List Bool) : Type 0 where
  pub size : length flags ≡ length left
  pub up : (x : ℕ) → x < length left → slice_index left x ≢ 0 → is_marked_at flags x ≡ true
  pub only : (x : ℕ) → is_marked_at flags x ≡ true → (x < length left) × (slice_index left x ≢ 0)

-- a number for each channel of an order: that of the first place at which it stands, counted from the
-- end of all channels
pub record AreNumbers (count : ℕ) (order numbers : List ℕ) : Type 0 where
  pub size : length numbers ≡ count
  pub low : (x : ℕ) → x < count → slice_index numbers x < count
  pub first : (k : ℕ) → k < length order → (m : ℕ) × (m < length order)
      × (slice_index order m ≡ slice_index order k)
      × (slice_index numbers (slice_index order k) + (m + 1) ≡ count)
  pub least : (k : ℕ) → k < length order
      → count ≤ slice_index numbers (slice_index order k) + (k + 1)
