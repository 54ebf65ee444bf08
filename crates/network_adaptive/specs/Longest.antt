-- The most channels that packets go over.
use Rattle.std.specs.Prelude.{◌≡◌, ◌⊎◌, ℕ, suc, ◌+◌, ◌<◌, ◌≤◌, Bool, true, List, [], length}
use Rattle.std.specs.Prelude.{slice_index}
use Rattle.rising.specs.Graph.{Digraph}
use Rattle.network_judge.specs.declared.table.Join.{Join}
use Rattle.network_judge.specs.Table.{table_of, joins_of}
use Rattle.network_adaptive.specs.Choices.{AdaptiveNet, IsChoice}

-- packets to ejection channel j come to a channel over so many channels, it and the one that they
-- begin in counted
pub data ComesOver (n : AdaptiveNet) (j : ℕ) : ℕ → ℕ → Type 0 where
  BeginsThere : (i : ℕ) → n.frame.joins i j ≡ true → ComesOver n j i 1
  OneChoiceMore : (x y k : ℕ) → ComesOver n j x k → IsChoice n j x y → ComesOver n j y (suc k)

-- packets go over so many channels at most, and some do from their injection channel to their ejection
-- channel; none where there are no packets
pub record IsLongestWay (n : AdaptiveNet) (most : ℕ) : Type 0 where
  pub all : (j x k : ℕ) → ComesOver n j x k → k ≤ most
  pub some : 0 < most → (j : ℕ) × ComesOver n j j most

-- the node with each number
pub record IsOrderByNumber (numbers order : List ℕ) : Type 0 where
  pub size : length order ≡ length numbers
  pub each : (x : ℕ) → x < length numbers → slice_index order (slice_index numbers x) ≡ x
  pub back : (m : ℕ) → m < length numbers → slice_index order m < length numbers
      → slice_index numbers (slice_index order m) ≡ m

-- a number is one more than the most of those behind a node, and 1 where none is behind it
pub record IsFarthest (g : Digraph) (far : ℕ → ℕ) (x most : ℕ) : Type 0 where
  pub above : (k : ℕ) → k < g.columns → g.leads x k ≡ true → far (g.after x k) < most
  pub some : (most ≡ 1)
      ⊎ ((k : ℕ) × (k < g.columns) × (g.leads x k ≡ true) × (most ≡ far (g.after x k) + 1))

-- that of each node
pub record AreFarthest (g : Digraph) (far : List ℕ) : Type 0 where
  pub size : length far ≡ g.nodes
  pub each : (x : ℕ) → x < g.nodes → IsFarthest g (slice_index far) x (slice_index far x)

-- the most of the numbers of the channels that packets to channel j begin in, but no fewer than so
-- many
pub record IsMostOf (joins : List Join) (j : ℕ) (far : ℕ → ℕ) (least most : ℕ) : Type 0 where
  pub from : least ≤ most
  pub all : (i : ℕ) → joins_of (table_of [] joins []) i j ≡ true → far i ≤ most
  pub some : (most ≡ least)
      ⊎ ((i : ℕ) × (joins_of (table_of [] joins []) i j ≡ true) × (most ≡ far i))

-- packets to channel j come to a channel over so many channels, by steps
pub data PassesOver (joins : List Join) (step : ℕ → ℕ → Bool) (j : ℕ) : ℕ → ℕ → Type 0 where
  StartsThere : (i : ℕ) → joins_of (table_of [] joins []) i j ≡ true → PassesOver joins step j i 1
  OneStepMore : (x y k : ℕ) → PassesOver joins step j x k → step x y ≡ true
      → PassesOver joins step j y (suc k)

-- the most of them, to all channels below m
pub record IsMostPassed (joins : List Join) (step : ℕ → ℕ → ℕ → Bool) (m most : ℕ) : Type 0 where
  pub all : (j x k : ℕ) → j < m → PassesOver joins (step j) j x k → k ≤ most
  pub some : 0 < most → (j : ℕ) × (x : ℕ) × PassesOver joins (step j) j x most
