-- Arcs between operations: reasons of RISC-V's memory model for one to come before another.
use Rattle.std.specs.Prelude.{◌≡◌, ℕ, ◌<◌, ◌≤◌, List, [], ◌∷◌, ◌++◌, length, slice_index}
use Rattle.std.specs.Prelude.{slice_index_or, Option, Some, None}
use Rattle.rising.specs.declared.edge.Edge.{Edge}
use Rattle.rising.specs.Graph.{edge_at, RisesOnEdges}
use Rattle.memory_models.specs.declared.kinds.Operation.{Operation}
use Rattle.memory_models.specs.Trace.{operation_at, writes_rule}
use Rattle.memory_models.specs.Arcs.{IsReadFrom, IsOverwritten, IsStale, AreArcs, ExtendsEdges}
use Rattle.memory_models.specs.Arcs.{RisesByRule, RisesOverStale, RisesByWords}
use Rattle.weak_models.specs.declared.notes.Note.{Note}
use Rattle.weak_models.specs.declared.notes.Dependency.{Dependency}
use Rattle.weak_models.specs.declared.verdict.Reason.{Reason}
use Rattle.weak_models.specs.declared.verdict.Reason.TheVariants as why
use Rattle.weak_models.specs.declared.verdict.ReasonedStep.{ReasonedStep}
use Rattle.weak_models.specs.Preserved.{IsPreservedBy, IsPreserved}
use Rattle.weak_models.specs.Order.{IsBehindPair}

-- why one operation comes before another
abbrev pub IsReason : List Note → List Dependency → List Operation → List ℕ → ℕ → ℕ → Reason → Type 0
IsReason notes dependencies ops writes x y (why.Preserved rule) =
    IsPreservedBy notes dependencies ops writes x y rule
IsReason notes dependencies ops writes x y why.Read = IsReadFrom ops writes x y
IsReason notes dependencies ops writes x y why.Overwritten = IsOverwritten ops writes x y
IsReason notes dependencies ops writes x y why.Stale = IsStale ops x y
IsReason notes dependencies ops writes x y why.Atomicity = IsBehindPair notes ops x y

-- it does, for some reason
pub record IsRvwmoArc (notes : List Note) (dependencies : List Dependency) (ops : List Operation)
    (writes : List ℕ) (x y : ℕ) : Type 0
  where
    pub from : x < length ops
    pub to : y < length ops
    pub why : Reason
    pub is : IsReason notes dependencies ops writes x y why

-- for each edge there is a reason
pub record AreRvwmoArcs (notes : List Note) (dependencies : List Dependency) (ops : List Operation)
    (writes : List ℕ) (edges : List Edge) : Type 0
  where
    pub each : (k : ℕ) → k < length edges
        → IsRvwmoArc notes dependencies ops writes (edge_at edges k).from (edge_at edges k).to

-- edges for what loads read and for each word's order of writes, as every model of memory has them
pub record AreWordArcs (ops : List Operation) (writes : List ℕ) (edges : List Edge) : Type 0 where
  pub arcs : AreArcs [] ops writes edges
  pub own : RisesByRule writes_rule ops (length ops) edges
  pub stale : RisesOverStale ops (length ops) edges
  pub word : RisesByWords ops writes (length ops) edges

-- what rises along the edges rises onto an operation from those that preserved program order keeps
-- before it, up to one
abbrev pub RisesOnto : List Note → List Dependency → List Operation → List ℕ → ℕ → ℕ → List Edge
    → Type 0
RisesOnto notes dependencies ops writes y n edges =
    (number : ℕ → ℕ) → RisesOnEdges edges number → (x : ℕ) → x < n
    → IsPreserved notes dependencies ops writes x y → number x < number y

-- and so onto the first operations
abbrev pub RisesByProgram : List Note → List Dependency → List Operation → List ℕ → ℕ → List Edge
    → Type 0
RisesByProgram notes dependencies ops writes n edges =
    (number : ℕ → ℕ) → RisesOnEdges edges number → (x y : ℕ) → y < n
    → IsPreserved notes dependencies ops writes x y → number x < number y

-- the first write in a word's order that the atomicity axiom keeps behind a store conditional
pub record IsFirstBehind (notes : List Note) (ops : List Operation) (w s : ℕ) : Type 0 where
  pub low : s < length ops
  pub is : IsBehindPair notes ops w s
  pub first : (z : ℕ) → z < length ops → IsBehindPair notes ops w z
      → (operation_at ops s).place ≤ (operation_at ops z).place

-- it rises from the first store conditionals to those
abbrev pub RisesOverPairs : List Note → List Operation → ℕ → List Edge → Type 0
RisesOverPairs notes ops n edges =
    (number : ℕ → ℕ) → RisesOnEdges edges number → (w z : ℕ) → w < n → z < length ops
    → IsBehindPair notes ops w z
    → (s : ℕ) × IsFirstBehind notes ops w s × (number w < number s)

-- edges for all that isn't preserved program order: what loads read, each word's order of writes, and
-- the atomicity axiom
pub record AreOtherArcs (notes : List Note) (ops : List Operation) (writes : List ℕ)
    (edges : List Edge) : Type 0
  where
    pub first : List Edge
    pub words : AreWordArcs ops writes first
    pub more : ExtendsEdges first edges
    pub pairs : RisesOverPairs notes ops (length ops) edges

-- one edge more, if there is where it leads to
abbrev pub pushed_to : ℕ → Option ℕ → List Edge → List Edge
pushed_to w (Some s) edges = edges ++ (record { from = w; to = s }) ∷ []
pushed_to w None edges = edges

-- the step at a place of a cycle
abbrev pub reasoned_at : List ReasonedStep → ℕ → ReasonedStep
reasoned_at steps k = slice_index_or steps k (record { from = 0; to = 0; why = why.Read })

-- a step leads as an edge does, and has its reason
pub record IsStep (notes : List Note) (dependencies : List Dependency) (ops : List Operation)
    (writes : List ℕ) (edge : Edge) (step : ReasonedStep) : Type 0
  where
    pub from : step.from ≡ edge.from
    pub to : step.to ≡ edge.to
    pub is : IsReason notes dependencies ops writes step.from step.to step.why

-- the steps of the edges of a cycle
pub record AreReasoned (notes : List Note) (dependencies : List Dependency) (ops : List Operation)
    (writes : List ℕ) (edges : List Edge) (cycle : List ℕ) (steps : List ReasonedStep) : Type 0
  where
    pub size : length steps ≡ length cycle
    pub each : (k : ℕ) → k < length cycle
        → IsStep notes dependencies ops writes (edge_at edges (slice_index cycle k))
        (reasoned_at steps k)
