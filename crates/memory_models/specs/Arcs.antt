-- Arcs between operations: reasons for one to come before another.
use Rattle.std.specs.Prelude.{◌≡◌, ◌⊎◌, ℕ, ◌+◌, ◌<◌, ◌≤◌, ◌==◌, ◌&&◌, not, nat_lt, if◌then◌else◌}
use Rattle.std.specs.Prelude.{Bool, true, List, [], ◌∷◌, ◌++◌, length, slice_index, slice_index_or}
use Rattle.rising.specs.declared.edge.Edge.{Edge}
use Rattle.rising.specs.Graph.{edge_at, RisesOnEdges}
use Rattle.memory_models.specs.declared.kinds.Kind.{Kind}
use Rattle.memory_models.specs.declared.kinds.Operation.{Operation}
use Rattle.memory_models.specs.declared.kinds.Rule.{Rule}
use Rattle.memory_models.specs.declared.kinds.Step.{Step}
use Rattle.memory_models.specs.declared.kinds.Why.{Why}
use Rattle.memory_models.specs.declared.kinds.Why.TheVariants.{Program, Read, Overwritten, Stale}
use Rattle.memory_models.specs.Trace.{has, is_load, is_write, uses_word, operation_at, rule_at}
use Rattle.memory_models.specs.Trace.{source_at, next_write, writes_rule, IsOwn}
use Rattle.memory_models.specs.Order.{Applies, KeepsOrder}

-- a rule's first kinds are among its second ones
abbrev pub IsChained : Rule → Type 0
IsChained rule = (kind : Kind) → has rule.from kind ≡ true → has rule.to kind ≡ true

-- a rule is one of a model's
abbrev pub IsRule : List Rule → Rule → Type 0
IsRule rules rule = ((k : ℕ) × (k < length rules) × (rule_at rules k ≡ rule)) ⊎ (rule ≡ writes_rule)

-- the second read what the first wrote, and isn't of the same processor behind it
pub record IsReadFrom (ops : List Operation) (writes : List ℕ) (x y : ℕ) : Type 0 where
  pub load : is_load (operation_at ops y).kind ≡ true
  pub source : source_at ops writes y ≡ x
  pub other : IsOwn ops x y → ⊥

-- the second is the write that follows in the word's order on the place of the first
pub record IsOverwritten (ops : List Operation) (writes : List ℕ) (x y : ℕ) : Type 0 where
  pub uses : uses_word (operation_at ops x).kind ≡ true
  pub more : (operation_at ops x).place + 1 < length writes
  pub next : next_write ops writes x ≡ y
  pub word : (operation_at ops y).word ≡ (operation_at ops x).word

-- the second read an older write than one that its processor made before it
pub record IsStale (ops : List Operation) (x y : ℕ) : Type 0 where
  pub load : is_load (operation_at ops y).kind ≡ true
  pub write : is_write (operation_at ops x).kind ≡ true
  pub own : IsOwn ops x y
  pub word : (operation_at ops x).word ≡ (operation_at ops y).word
  pub older : (operation_at ops y).place < (operation_at ops x).place

-- why one operation comes before another
abbrev pub IsWhy : List Rule → List Operation → List ℕ → ℕ → ℕ → Why → Type 0
IsWhy rules ops writes x y Program = KeepsOrder rules ops x y
IsWhy rules ops writes x y Read = IsReadFrom ops writes x y
IsWhy rules ops writes x y Overwritten = IsOverwritten ops writes x y
IsWhy rules ops writes x y Stale = IsStale ops x y

-- it does, for some reason
pub record IsArc (rules : List Rule) (ops : List Operation) (writes : List ℕ) (x y : ℕ) : Type 0
  where
    pub from : x < length ops
    pub to : y < length ops
    pub why : Why
    pub is : IsWhy rules ops writes x y why

-- for each edge there is a reason
pub record AreArcs (rules : List Rule) (ops : List Operation) (writes : List ℕ)
    (edges : List Edge) : Type 0 where
  pub each : (k : ℕ) → k < length edges
      → IsArc rules ops writes (edge_at edges k).from (edge_at edges k).to

-- what rises along the new edges rises along the old ones
abbrev pub ExtendsEdges : List Edge → List Edge → Type 0
ExtendsEdges old new = (number : ℕ → ℕ) → RisesOnEdges new number → RisesOnEdges old number

-- what rises along the edges rises as a rule asks, up to an operation
abbrev pub RisesByRule : Rule → List Operation → ℕ → List Edge → Type 0
RisesByRule rule ops n edges =
    (number : ℕ → ℕ) → RisesOnEdges edges number → (x y : ℕ) → y < n → Applies rule ops x y
    → number x < number y

-- as the first rules of a model ask
abbrev pub RisesByRules : List Rule → ℕ → List Operation → List Edge → Type 0
RisesByRules rules n ops edges =
    (k : ℕ) → k < n → RisesByRule (rule_at rules k) ops (length ops) edges

-- of a write and a load of one processor on one word: a write that is no earlier than the first,
-- and
-- rises to the load if it is stale for that
pub record IsSeen (ops : List Operation) (number : ℕ → ℕ) (w y : ℕ) : Type 0 where
  pub write : ℕ
  pub behind : w ≤ write
  pub is : is_write (operation_at ops write).kind ≡ true
  pub own : IsOwn ops write y
  pub word : (operation_at ops write).word ≡ (operation_at ops y).word
  pub rises : (operation_at ops y).place < (operation_at ops write).place → number write < number y

-- there is one for each write before a load of its processor on its word
abbrev pub RisesOverStale : List Operation → ℕ → List Edge → Type 0
RisesOverStale ops n edges =
    (number : ℕ → ℕ) → RisesOnEdges edges number → (w y : ℕ) → y < n
    → is_load (operation_at ops y).kind ≡ true
    → is_write (operation_at ops w).kind ≡ true → IsOwn ops w y
    → (operation_at ops w).word ≡ (operation_at ops y).word
    → IsSeen ops number w y

-- loads rise behind what they read and before what overwrites that, writes before the next one of
-- their word
abbrev pub RisesByWords : List Operation → List ℕ → ℕ → List Edge → Type 0
RisesByWords ops writes n edges =
    (number : ℕ → ℕ) → RisesOnEdges edges number → (x y : ℕ) → x < length ops → y < length ops
    → (((y < n) × IsReadFrom ops writes x y) ⊎ ((x < n) × IsOverwritten ops writes x y))
    → number x < number y

-- one more at the end, if it is wanted
abbrev pub pushed_if : {A : Type 0} → Bool → A → List A → List A
pushed_if wanted x xs = if wanted then xs ++ x ∷ [] else xs

-- whether a rule keeps an operation behind the last one before it that it speaks of
abbrev pub follows_at : Rule → List Operation → ℕ → ℕ → Bool
follows_at rule ops last y =
    nat_lt last y
    && (has rule.to (operation_at ops y).kind
    && ((operation_at ops last).processor == (operation_at ops y).processor))

-- whether a load read an older write than the last one of its processor before it
abbrev pub is_stale_at : List Operation → ℕ → ℕ → Bool
is_stale_at ops last y =
    nat_lt last y
    && (is_load (operation_at ops y).kind
    && (((operation_at ops last).processor == (operation_at ops y).processor)
    && nat_lt (operation_at ops y).place (operation_at ops last).place))

-- whether a load read what isn't of its processor before it
abbrev pub reads_at : List Operation → ℕ → ℕ → Bool
reads_at ops source y =
    is_load (operation_at ops y).kind
    && not (((operation_at ops source).processor == (operation_at ops y).processor)
    && nat_lt source y)

-- whether a write on the same word follows
abbrev pub is_overwritten_at : List Operation → List ℕ → ℕ → ℕ → Bool
is_overwritten_at ops writes next y =
    uses_word (operation_at ops y).kind
    && (nat_lt ((operation_at ops y).place + 1) (length writes)
    && ((operation_at ops next).word == (operation_at ops y).word))

-- the ends of the edges of a cycle
pub record AreSteps (edges : List Edge) (cycle : List ℕ) (steps : List Step) : Type 0 where
  pub size : length steps ≡ length cycle
  pub each : (k : ℕ) → k < length cycle → slice_index_or steps k (record { from = 0; to = 0 })
      ≡ record {
        from = (edge_at edges (slice_index cycle k)).from;
        to = (edge_at edges (slice_index cycle k)).to;
      }
