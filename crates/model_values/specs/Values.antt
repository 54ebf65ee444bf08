-- A trace that gives the words that its operations left and found, and neither sources nor orders.
use Rattle.std.specs.Prelude.{◌≡◌, ◌≢◌, ◌⊎◌, ℕ, ◌+◌, ◌<◌, ◌≤◌, true, List, length, slice_index}
use Rattle.memory_models.specs.declared.kinds.Kind.TheVariants.{Atomic}
use Rattle.memory_models.specs.declared.kinds.Operation.{Operation}
use Rattle.memory_models.specs.Trace.{is_load, is_write, operation_at, source_at, IsMemoryTrace}
use Rattle.model_values.specs.declared.valued.Sources.{Sources}
use Rattle.model_values.specs.declared.valued.Sources.TheVariants.{Told, Alike, Lost, Unwritten}
use Rattle.model_values.specs.declared.valued.Valued.{Valued}
use Rattle.model_values.specs.Placed.{IsSame}
use Rattle.model_values.specs.Unordered.{IsClosingOf, IsOpeningOf, IsPlacing}

-- the write just before an operation in its word's order left the word that the operation found
pub record FindsBefore (left found : List ℕ) (placed : List Operation) (writes : List ℕ) (x : ℕ) :
    Type 0
  where
    pub place : ℕ
    pub next : place + 1 ≡ (operation_at placed x).place
    pub word : (operation_at placed (slice_index writes place)).word ≡ (operation_at placed x).word
    pub leaves : slice_index left (slice_index writes place) ≡ slice_index found x

-- a load found what its source left, and an atomic what the write just before it left
pub record FindsAt (ops : List Operation) (left found : List ℕ) (placed : List Operation)
    (writes : List ℕ) (x : ℕ) : Type 0
  where
    pub read : is_load (operation_at ops x).kind ≡ true
        → slice_index left (source_at placed writes x) ≡ slice_index found x
    pub next : (operation_at ops x).kind ≡ Atomic → FindsBefore left found placed writes x

-- an order of each word's writes that begins with the opening store and gives the words that were
-- found; a closing load stands at the last write of its word, and so found what that left
pub record IsValuedPlacing (v : Valued) (placed : List Operation) (writes : List ℕ) : Type 0 where
  pub size : length placed ≡ length v.operations.now
  pub trace : IsMemoryTrace v.words placed writes
  pub same : (x : ℕ) → x < length v.operations.now → IsSame v.operations.now placed x
  pub finds : (x : ℕ) → x < length v.operations.now
      → FindsAt v.operations.now v.left.now v.found.now placed writes x
  pub opened : (x y : ℕ) → x < length v.operations.now → y < length v.operations.now
      → IsOpeningOf v.openings v.operations.now x y
      → (operation_at placed x).place < (operation_at placed y).place
  pub closed : (x y : ℕ) → x < length v.operations.now → y < length v.operations.now
      → IsClosingOf v.closing v.operations.now x y
      → (operation_at placed y).place ≤ (operation_at placed x).place

-- an operation reads its word: a load or an atomic
abbrev pub IsReader : List Operation → ℕ → Type 0
IsReader ops x = (is_load (operation_at ops x).kind ≡ true) ⊎ ((operation_at ops x).kind ≡ Atomic)

-- two writes left the same in one word
pub record AreAlikeValues (ops : List Operation) (left : List ℕ) (x y : ℕ) : Type 0 where
  pub first : x < length ops
  pub second : y < length ops
  pub other : x ≢ y
  pub writes : is_write (operation_at ops x).kind ≡ true
  pub writes_too : is_write (operation_at ops y).kind ≡ true
  pub word : (operation_at ops x).word ≡ (operation_at ops y).word
  pub leaves : slice_index left x ≡ slice_index left y

-- a write left what an operation found in its word
pub record IsLeftBy (ops : List Operation) (left found : List ℕ) (x s : ℕ) : Type 0 where
  pub low : s < length ops
  pub write : is_write (operation_at ops s).kind ≡ true
  pub word : (operation_at ops s).word ≡ (operation_at ops x).word
  pub leaves : slice_index left s ≡ slice_index found x

-- an operation found what no write of its word left
pub record IsUnwritten (v : Valued) (x : ℕ) : Type 0 where
  pub low : x < length v.operations.now
  pub reads : IsReader v.operations.now x
  pub none : (s : ℕ) → IsLeftBy v.operations.now v.left.now v.found.now x s → ⊥

-- two atomics found the same in one word
pub record AreTwins (v : Valued) (x y : ℕ) : Type 0 where
  pub first : x < length v.operations.now
  pub second : y < length v.operations.now
  pub other : x ≢ y
  pub atomic : (operation_at v.operations.now x).kind ≡ Atomic
  pub atomic_too : (operation_at v.operations.now y).kind ≡ Atomic
  pub word : (operation_at v.operations.now x).word ≡ (operation_at v.operations.now y).word
  pub same : slice_index v.found.now x ≡ slice_index v.found.now y

-- and no two writes left what they found. Each is the next write behind the one that it found, so no
-- order of each word's writes has both
pub record IsLostUpdate (v : Valued) (x y : ℕ) : Type 0 where
  pub twins : AreTwins v x y
  pub one : (s t : ℕ) → IsLeftBy v.operations.now v.left.now v.found.now x s
      → IsLeftBy v.operations.now v.left.now v.found.now x t → s ≡ t

abbrev pub HasNoLostUpdate : Valued → Type 0
HasNoLostUpdate v = (x y : ℕ) → IsLostUpdate v x y → ⊥

-- the source of an operation: of a reader a write of its word that left what it found, of another
-- operation 0
pub record IsKnownSource (v : Valued) (x s : ℕ) : Type 0 where
  pub left : IsReader v.operations.now x
      → IsLeftBy v.operations.now v.left.now v.found.now x s
  pub other : (IsReader v.operations.now x → ⊥) → s ≡ 0

-- the sources of all operations, where no two writes left the same in one word. The orders of each
-- word's writes that keep these sources are those that give the words that were found
pub record AreKnownSources (v : Valued) (sources : List ℕ) : Type 0 where
  pub size : length sources ≡ length v.operations.now
  pub each : (x : ℕ) → x < length v.operations.now → IsKnownSource v x (slice_index sources x)
  pub unlike : (x y : ℕ) → AreAlikeValues v.operations.now v.left.now x y → ⊥
  pub kept : HasNoLostUpdate v
  pub same : (placed : List Operation) (writes : List ℕ)
      → (IsValuedPlacing v placed writes
      → IsPlacing v.operations.now sources v.words v.openings v.closing placed writes)
      × (IsPlacing v.operations.now sources v.words v.openings v.closing placed writes
      → IsValuedPlacing v placed writes)

-- the sources; or two writes that left the same in one word, and no update is lost; or a lost update,
-- or an operation that found what no write left, and then no order of each word's writes gives the words
-- that were found
abbrev pub AreSourcesOf : {A : Type 0} → Valued → Sources A → Type 0
AreSourcesOf v (Told sources) = AreKnownSources v sources.items
AreSourcesOf v (Alike x y) = AreAlikeValues v.operations.now v.left.now x y × HasNoLostUpdate v
AreSourcesOf v (Lost x y) = IsLostUpdate v x y
    × ((placed : List Operation) (writes : List ℕ) → IsValuedPlacing v placed writes → ⊥)
AreSourcesOf v (Unwritten x) = IsUnwritten v x
    × ((placed : List Operation) (writes : List ℕ) → IsValuedPlacing v placed writes → ⊥)
