-- A search over the sources that operations may have, where several writes left what one found. It
-- chooses the source of one operation after the other: the least that may be, and then the next one.
use Rattle.std.specs.Prelude.{◌≡◌, ◌⊎◌, ℕ, ◌+◌, ◌-◌, ◌<◌, Bool, true, false, List, [], ◌∷◌, ◌++◌, length}
use Rattle.std.specs.Prelude.{Option, None, Some, slice_index, slice_index_or}
use Rattle.memory_models.specs.declared.kinds.Kind.{Kind}
use Rattle.memory_models.specs.declared.kinds.Kind.TheVariants.{Load, Store, Atomic, Fence}
use Rattle.memory_models.specs.declared.kinds.Operation.{Operation}
use Rattle.memory_models.specs.declared.kinds.Rule.{Rule}
use Rattle.memory_models.specs.Order.{IsMemoryOrder}
use Rattle.memory_models.specs.Trace.{operation_at, source_at}
use Rattle.model_values.specs.declared.question.Unordered.{Unordered}
use Rattle.model_values.specs.declared.valued.Valued.{Valued}
use Rattle.model_values.specs.Searches.{IsCutOff}
use Rattle.model_values.specs.Values.{IsLeftBy, IsReader, IsValuedPlacing}

-- an operation reads its word, and a write left what it found
pub record MayRead (v : Valued) (x s : ℕ) : Type 0 where
  pub low : x < length v.operations.now
  pub reads : IsReader v.operations.now x
  pub left : IsLeftBy v.operations.now v.left.now v.found.now x s

-- the source that an order of each word's writes gives an operation of a kind: of a load the write at
-- its place, of an atomic the one before it
abbrev pub source_by : Kind → List Operation → List ℕ → ℕ → ℕ
source_by Load placed writes x = source_at placed writes x
source_by Atomic placed writes x = slice_index writes ((operation_at placed x).place - 1)
source_by Store placed writes x = 0
source_by Fence placed writes x = 0

abbrev pub source_in : Valued → List Operation → List ℕ → ℕ → ℕ
source_in v placed writes x = source_by (operation_at v.operations.now x).kind placed writes x

-- an operation of a path, and the source that is chosen for it
abbrev pub choice_at : List (ℕ × ℕ) → ℕ → ℕ × ℕ
choice_at path k = slice_index_or path k (0, 0)

-- an order of each word's writes gives the first operations of a path their sources
abbrev pub Gives : Valued → List Operation → List ℕ → List (ℕ × ℕ) → ℕ → Type 0
Gives v placed writes path n = (k : ℕ) → k < n
    → source_in v placed writes (choice_at path k).0 ≡ (choice_at path k).1

-- turns by which an order of each word's writes, which gives the words that were found, keeps the rules
pub record Explains (rules : List Rule) (v : Valued) (placed : List Operation) (writes : List ℕ) :
    Type 0
  where
    pub turn : ℕ → ℕ
    pub valued : IsValuedPlacing v placed writes
    pub order : IsMemoryOrder rules placed writes turn

-- no order of all operations gives the operations of a path their sources
abbrev pub GivesNone : List Rule → Valued → List (ℕ × ℕ) → Type 0
GivesNone rules v path = (placed : List Operation) (writes : List ℕ)
    → Explains rules v placed writes → Gives v placed writes path (length path) → ⊥

-- a search that has looked at so many choices stands at a path; or no order gives that
pub data Chooses (rules : List Rule) (v : Valued) : List (ℕ × ℕ) → Bool → ℕ → Type 0 where
  Begins : Chooses rules v [] false 0
  Forced : (path next : List (ℕ × ℕ)) (n x s : ℕ) → Chooses rules v path false n → MayRead v x s
      → ((t : ℕ) → MayRead v x t → t ≡ s) → next ≡ path ++ (x, s) ∷ []
      → Chooses rules v next false n
  Takes : (path next : List (ℕ × ℕ)) (n m x s : ℕ) → Chooses rules v path false n → MayRead v x s
      → ((t : ℕ) → t < s → MayRead v x t → ⊥) → next ≡ path ++ (x, s) ∷ [] → m ≡ n + 1
      → Chooses rules v next false m
  Refutes : (path more last : List (ℕ × ℕ)) (n m : ℕ) → Chooses rules v last false n
      → last ≡ path ++ more → GivesNone rules v path → m ≡ n + 1 → Chooses rules v path true m
  Turns : (path last next : List (ℕ × ℕ)) (n x s t : ℕ) → Chooses rules v last true n
      → last ≡ path ++ (x, s) ∷ [] → s < t → MayRead v x t
      → ((u : ℕ) → s < u → u < t → MayRead v x u → ⊥) → next ≡ path ++ (x, t) ∷ []
      → Chooses rules v next false n
  Closes : (path last : List (ℕ × ℕ)) (n x s : ℕ) → Chooses rules v last true n
      → last ≡ path ++ (x, s) ∷ [] → ((u : ℕ) → s < u → MayRead v x u → ⊥)
      → Chooses rules v path true n

-- a number is above the last one, if there is one
abbrev pub IsAbove : Option ℕ → ℕ → Type 0
IsAbove None s = Unit {0}
IsAbove (Some last) s = last < s

-- a path has an operation with its source, among its first ones
pub record IsChosen (path : List (ℕ × ℕ)) (depth x s : ℕ) : Type 0 where
  pub place : ℕ
  pub low : place < length path
  pub first : place < depth
  pub operation : (choice_at path place).0 ≡ x
  pub source : (choice_at path place).1 ≡ s

-- the sources of the first operations of a path; those of other operations are none
pub record AreChosen (path : List (ℕ × ℕ)) (depth count : ℕ) (sources : List ℕ) : Type 0 where
  pub size : length sources ≡ count
  pub each : (x : ℕ) → x < count → slice_index sources x < count
      → IsChosen path depth x (slice_index sources x)

-- of each operation that reads its word the source left what it found
abbrev pub AreLeft : Valued → List ℕ → Type 0
AreLeft v sources = (x : ℕ) → x < length v.operations.now → IsReader v.operations.now x
    → IsLeftBy v.operations.now v.left.now v.found.now x (slice_index sources x)

-- a question asks for orders with such sources
pub record Asks (rules : List Rule) (v : Valued) (sources : List ℕ) (q : Unordered) : Type 0 where
  pub by : q.rules.now ≡ rules
  pub operations : q.operations.now ≡ v.operations.now
  pub chosen : q.sources.now ≡ sources
  pub words : q.words ≡ v.words
  pub openings : q.openings ≡ v.openings
  pub closing : q.closing ≡ v.closing

-- the search for an order with the sources of a path, which has all, was cut off
pub record IsCutOffWith (rules : List Rule) (v : Valued) (path : List (ℕ × ℕ)) (left : ℕ) : Type 0
  where
    pub sources : List ℕ
    pub chosen : AreChosen path (length path) (length v.operations.now) sources
    pub all : AreLeft v sources
    pub question : Unordered
    pub asks : Asks rules v sources question
    pub cut : IsCutOff question (Some left)

-- the choices that were looked at, and the tables that were looked at for the one at which the search
-- stands, are as many as may be
pub record CutsOffChoices (rules : List Rule) (v : Valued) (nodes : ℕ) : Type 0 where
  pub path : List (ℕ × ℕ)
  pub looked : ℕ
  pub search : Chooses rules v path false looked
  pub left : ℕ
  pub most : looked + left ≡ nodes
  pub cut : (left ≡ 0) ⊎ IsCutOffWith rules v path left
