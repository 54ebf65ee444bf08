-- Nodes that some branch leads back to, and those that none does.
use Rattle.std.specs.Prelude.{◌≡◌, ◌<◌, ◌+◌, ℕ, zero, suc, Bool, true, cond, List, [], ◌∷◌, Option}
use Rattle.std.specs.Prelude.{Some, None, Vec, length, map, slice_get}
use Rattle.trace_laws.specs.declared.opened.Node.{Node}
use Rattle.trace_laws.specs.declared.opened.Branch.{Branch}
use Rattle.trace_laws.specs.Configs.{IsIn}
use Rattle.trace_judge.specs.Sets.{lists_of}

-- how many are marked before place i
abbrev pub rank : List Bool → ℕ → ℕ
rank [] i = 0
rank (m ∷ marks) zero = 0
rank (m ∷ marks) (suc i) = cond m 1 0 + rank marks i

-- the number of a node among the marked ones
abbrev pub renumbered : List Bool → Option ℕ → Option ℕ
renumbered marks None = None
renumbered marks (Some i) = Some (rank marks i)

-- the marked nodes, which lead back to their new numbers
abbrev pub marked_nodes : List Bool → List Bool → List Node → List Node
marked_nodes all [] nodes = []
marked_nodes all (m ∷ marks) [] = []
marked_nodes all (m ∷ marks) (n ∷ nodes) =
    cond m (record { call = n.call; before = renumbered all n.before } ∷ marked_nodes all marks nodes)
    (marked_nodes all marks nodes)

-- branches that lead to the new numbers
abbrev pub renumbered_all : List Bool → List Branch → List Branch
renumbered_all marks branches =
    map (λ b. record { config = b.config; trail = renumbered marks b.trail }) branches

-- the nodes that branches lead to are marked
abbrev pub AreEnds : List Bool → List Branch → Type 0
AreEnds marks branches = (i : ℕ) (b : Branch) → IsIn branches b → b.trail ≡ Some i
    → slice_get marks i ≡ Some true

-- with this node the one that it leads back to is marked
abbrev pub ClosesAt : List Bool → List Node → ℕ → Type 0
ClosesAt marks nodes i = (j : ℕ) (node : Node) → slice_get marks i ≡ Some true
    → slice_get nodes i ≡ Some node → node.before ≡ Some j → slice_get marks j ≡ Some true

-- with each node
abbrev pub IsClosed : List Bool → List Node → Type 0
IsClosed marks nodes = (i : ℕ) → ClosesAt marks nodes i

-- all of these branches lead to nodes below this number
abbrev pub AreWithin : ℕ → List Branch → Type 0
AreWithin n branches = (i : ℕ) (b : Branch) → IsIn branches b → b.trail ≡ Some i → i < n

-- what was marked still is
abbrev pub Keeps : List Bool → List Bool → Type 0
Keeps old new = (i : ℕ) → slice_get old i ≡ Some true → slice_get new i ≡ Some true

-- the number that each node would have
abbrev pub AreRanks : List ℕ → List Bool → Type 0
AreRanks ranks marks = (length ranks ≡ length marks)
    × ((i : ℕ) → i < length marks → slice_get ranks i ≡ Some (rank marks i))

-- the nodes on the ways back from all branches are marked
pub record AreKept {A : Type 0} (words : List (Vec Branch A)) (nodes : List Node) (marks : List Bool)
    : Type 0 where
  pub sized : length marks ≡ length nodes
  pub closed : IsClosed marks nodes
  pub ends : (w : ℕ) → w < length words → AreEnds marks (lists_of words w)

-- of these branches and nodes only the nodes stay that some branch leads back to
pub record Lets {A : Type 0} (words : List (Vec Branch A)) (nodes : List Node)
    (later : List (Vec Branch A)) (kept : List Node) : Type 0 where
  pub marks : List Bool
  pub are : AreKept words nodes marks
  pub long : length later ≡ length words
  pub same : (w : ℕ) → w < length words
      → lists_of later w ≡ renumbered_all marks (lists_of words w)
  pub only : kept ≡ marked_nodes marks marks nodes
