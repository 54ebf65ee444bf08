-- A machine as its text gives it, and which are accepted.
use Rattle.std.specs.Prelude.{ℕ, ◌^◌, ◌<◌, ◌≤◌, List, length, slice_index}
use Rattle.torus.specs.Shape.{Shape, IsAccepted}

-- a machine as its text gives it: the torus (Dally and Towles, chapter 5), the flits that a channel
-- holds
-- (chapter 13), the tags of a processor, and the opening words by address
pub record MachineSpec : Type 0 where
  pub shape : Shape
  pub depth : ℕ
  pub tags : ℕ
  pub opening : List ℕ

-- what an accepted machine is: all numbers within the limits
pub record IsAcceptedMachine (m : MachineSpec) : Type 0 where
  pub shape : IsAccepted m.shape
  pub depth : (1 ≤ m.depth) × (m.depth ≤ 8)
  pub tags : (1 ≤ m.tags) × (m.tags ≤ 16)
  pub words : (1 ≤ length m.opening) × (length m.opening ≤ 65536)
  pub each : (a : ℕ) → a < length m.opening → slice_index m.opening a < 2 ^ 64
