-- A search in depth over a graph: what holds at each step of it, and what it finds.
-- Tarjan, Depth-first search and linear graph algorithms, 1972.
use Rattle.std.specs.Prelude.{◌≡◌, ℕ, ◌+◌, ◌-◌, ◌<◌, ◌≤◌, Bool, true, false, List, [], length}
use Rattle.std.specs.Prelude.{slice_index, slice_index_or}
use Rattle.std.specs.List.{count_by}
use Rattle.rising.specs.declared.search.Look.{Look}
use Rattle.rising.specs.declared.search.Mark.{Mark}
use Rattle.rising.specs.declared.search.Mark.TheVariants.{New, Open, Done}
use Rattle.rising.specs.declared.search.Visited.{Visited}
use Rattle.rising.specs.declared.search.Visited.TheVariants.{Finished, Circle}
use Rattle.rising.specs.Graph.{Digraph}

-- the mark of a node
abbrev pub node_mark : List Mark → ℕ → Mark
node_mark marks x = slice_index_or marks x New

-- the node and the column at a place of a path
abbrev pub path_look : List Look → ℕ → Look
path_look path k = slice_index_or path k (record { node = 0; column = 0 })

-- whether a node wasn't come to
abbrev pub is_unvisited : Mark → Bool
is_unvisited New = true
is_unvisited (Open k) = false
is_unvisited (Done h) = false

-- the height of a node that is done with
abbrev pub finish_height : Mark → ℕ
finish_height New = 0
finish_height (Open k) = 0
finish_height (Done h) = h

-- a node is done with, below this height
abbrev pub IsFinishedBelow : List Mark → ℕ → ℕ → Type 0
IsFinishedBelow marks x high = (h : ℕ) × (node_mark marks x ≡ Done h) × (h < high)

-- all nodes that node x leads on to in the first n columns are done with, below this height
abbrev pub SuccessorsAreBelow : Digraph → List Mark → ℕ → ℕ → ℕ → Type 0
SuccessorsAreBelow g marks x n high =
    (j : ℕ) → j < n → g.leads x j ≡ true → IsFinishedBelow marks (g.after x j) high

-- a node leads in a column on to this node
pub record StepsOn (g : Digraph) (look : Look) (y : ℕ) : Type 0 where
  pub end : look.column < g.columns
  pub marked : g.leads look.node look.column ≡ true
  pub next : g.after look.node look.column ≡ y

-- a step of the search: the path from where it began, and all nodes' marks
pub record IsDepthSearch (g : Digraph) (marks : List Mark) (path : List Look) (finished : ℕ) : Type 0
  where
    pub size : length marks ≡ g.nodes
    -- the nodes of the path are open, and no others, each with its place
    pub path_open : (k : ℕ) → k < length path → node_mark marks (path_look path k).node ≡ Open k
    pub open_path : (x k : ℕ) → node_mark marks x ≡ Open k
        → (k < length path) × ((path_look path k).node ≡ x)
    -- each leads to the next
    pub leads : (k : ℕ) → k + 1 < length path
        → StepsOn g (path_look path k) (path_look path (k + 1)).node
    -- the nodes behind those of the path are done with, as far as the search has come
    pub ends : (k : ℕ) → k < length path → (path_look path k).column ≤ g.columns
    pub behind : (k : ℕ) → k < length path
        → SuccessorsAreBelow g marks (path_look path k).node (path_look path k).column finished
    -- each looks at a column in which it leads on, or at none
    pub at : (k : ℕ) → k < length path → (path_look path k).column < g.columns
        → g.leads (path_look path k).node (path_look path k).column ≡ true
    -- no two are done with at one height
    pub apart : (x y h : ℕ) → node_mark marks x ≡ Done h → node_mark marks y ≡ Done h → x ≡ y
    -- the nodes behind those that are done with are done with, at lower heights
    pub done : (x h : ℕ) → node_mark marks x ≡ Done h
        → (h < finished) × SuccessorsAreBelow g marks x g.columns h
    -- each node is done with, on the path or new
    pub count : finished + length path + count_by is_unvisited marks ≡ g.nodes

-- what is done with stays so
abbrev pub StayFinished : List Mark → List Mark → Type 0
StayFinished old new = (x h : ℕ) → node_mark old x ≡ Done h → node_mark new x ≡ Done h

-- nodes that lead around, each in its column
pub record IsCircuit (g : Digraph) (looks : List Look) : Type 0 where
  pub some : 0 < length looks
  pub each : (k : ℕ) → k + 1 < length looks
      → StepsOn g (path_look looks k) (path_look looks (k + 1)).node
  pub last : StepsOn g (path_look looks (length looks - 1)) (path_look looks 0).node

-- what a search from a node finds: it is done with, or there is a circle
abbrev pub IsExplored : {A : Type 0} → Digraph → List Mark → List Mark → ℕ → Visited A → Type 0
IsExplored g old new start (Finished finished) =
    IsDepthSearch g new [] finished × StayFinished old new × IsFinishedBelow new start finished
IsExplored g old new start (Circle looks) = IsCircuit g looks.items

-- no node leads beyond the nodes
abbrev pub LeadsWithin : Digraph → Type 0
LeadsWithin g = (x j : ℕ) → j < g.columns → g.leads x j ≡ true → g.after x j < g.nodes

-- no node was come to
abbrev pub AreUnvisited : List Mark → Type 0
AreUnvisited marks = (x : ℕ) → node_mark marks x ≡ New

-- a node is done with: all that it leads on to is done with at lower heights
pub record IsFinishedNode (g : Digraph) (marks : List Mark) (x : ℕ) : Type 0 where
  pub rank : ℕ
  pub mark : node_mark marks x ≡ Done rank
  pub low : rank < g.nodes
  pub behind : SuccessorsAreBelow g marks x g.columns rank

-- all nodes are
pub record AreFinishedNodes (g : Digraph) (marks : List Mark) : Type 0 where
  pub size : length marks ≡ g.nodes
  pub each : (x : ℕ) → x < g.nodes → IsFinishedNode g marks x
  pub apart : (x y h : ℕ) → node_mark marks x ≡ Done h → node_mark marks y ≡ Done h → x ≡ y

-- numbers from the heights: the higher the height, the lower the number
pub record AreHeightNumbers (marks : List Mark) (numbers : List ℕ) : Type 0 where
  pub size : length numbers ≡ length marks
  pub each : (x : ℕ) → x < length marks
      → slice_index numbers x + finish_height (node_mark marks x) + 1 ≡ length marks

-- the columns of a path
pub record AreLookedColumns (looks : List Look) (columns : List ℕ) : Type 0 where
  pub size : length columns ≡ length looks
  pub each : (k : ℕ) → k < length looks → slice_index columns k ≡ (path_look looks k).column
