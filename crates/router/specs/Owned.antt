-- Which input owns which output, said by both.
use Rattle.std.specs.Prelude.{◌≡◌, ◌≤◌, ◌⊎◌, ℕ, false, List, length, slice_index_or, Option, Some, None}
use Rattle.router.specs.Table.{is_among}

-- where the first list says Some n, the second says at n where that stands
abbrev pub IsAnswered : List (Option ℕ) → List (Option ℕ) → Type 0
IsAnswered xs ys = (i o : ℕ) → slice_index_or xs i None ≡ Some o → slice_index_or ys o None ≡ Some i

-- the outputs that inputs own, and the inputs by which outputs are owned
pub record AreInverse (owned owner : List (Option ℕ)) : Type 0 where
  pub counts : length owner ≡ length owned
  pub forth : IsAnswered owned owner
  pub back : IsAnswered owner owned

-- the outputs that at most 26 inputs own, and the inputs by which outputs are owned
pub record AreFewInverse (owned owner : List (Option ℕ)) : Type 0 where
  pub inverse : AreInverse owned owner
  pub few : length owned ≤ 26

-- an input may put on an output: it owns it, or no input does (Dally and Towles, chapter 16)
abbrev pub MayPass : List (Option ℕ) → ℕ → ℕ → Type 0
MayPass owned i o = (slice_index_or owned i None ≡ Some o) ⊎ (is_among owned o ≡ false)
