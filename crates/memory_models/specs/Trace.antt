-- A trace of loads, stores, atomics and fences: each word's order of writes, each load's source.
use Rattle.std.specs.Prelude.{◌≡◌, ℕ, ◌+◌, ◌<◌, ◌≤◌, Bool, true, false, if◌then◌else◌, List, length}
use Rattle.std.specs.Prelude.{slice_index, slice_index_or}
use Rattle.memory_models.specs.declared.kinds.Kind.{Kind}
use Rattle.memory_models.specs.declared.kinds.Kind.TheVariants.{Load, Store, Atomic, Fence}
use Rattle.memory_models.specs.declared.kinds.Kinds.{Kinds}
use Rattle.memory_models.specs.declared.kinds.Operation.{Operation}
use Rattle.memory_models.specs.declared.kinds.Rule.{Rule}

-- whether a kind is among some
abbrev pub has : Kinds → Kind → Bool
has kinds Load = kinds.load
has kinds Store = kinds.store
has kinds Atomic = kinds.atomic
has kinds Fence = kinds.fence

-- whether a kind is a load
abbrev pub is_load : Kind → Bool
is_load Load = true
is_load Store = false
is_load Atomic = false
is_load Fence = false

-- whether a kind writes its word: stores and atomics do
abbrev pub is_write : Kind → Bool
is_write Load = false
is_write Store = true
is_write Atomic = true
is_write Fence = false

-- whether a kind has a word: all but fences do
abbrev pub uses_word : Kind → Bool
uses_word Load = true
uses_word Store = true
uses_word Atomic = true
uses_word Fence = false

-- the operation at a place of the trace
abbrev pub operation_at : List Operation → ℕ → Operation
operation_at ops x =
    slice_index_or ops x (record { processor = 0; kind = Load; word = 0; place = 0 })

-- the write at an operation's place: of a load the one that it read, of a write itself
abbrev pub source_at : List Operation → List ℕ → ℕ → ℕ
source_at ops writes x = slice_index writes (operation_at ops x).place

-- and the write behind it in the list of writes
abbrev pub next_write : List Operation → List ℕ → ℕ → ℕ
next_write ops writes x = slice_index writes ((operation_at ops x).place + 1)

-- the rule at a place of a model
abbrev pub rule_at : List Rule → ℕ → Rule
rule_at rules k = slice_index_or rules k (record {
  from = record { load = false; store = false; atomic = false; fence = false };
  to = record { load = false; store = false; atomic = false; fence = false };
  same_word = false;
})

-- writes on one word stay in their order
abbrev pub writes_rule : Rule
writes_rule = record {
  from = record { load = false; store = true; atomic = true; fence = false };
  to = record { load = false; store = true; atomic = true; fence = false };
  same_word = true;
}

-- the word that a rule looks at, and 0 for a rule of all words
abbrev pub rule_key : Rule → Operation → ℕ
rule_key rule op = if rule.same_word then op.word else 0

-- an operation is of the same processor as another, and before it
pub record IsOwn (ops : List Operation) (x y : ℕ) : Type 0 where
  pub processor : (operation_at ops x).processor ≡ (operation_at ops y).processor
  pub before : x < y

-- both have a word, and the same
pub record AreOnOne (ops : List Operation) (x y : ℕ) : Type 0 where
  pub first : uses_word (operation_at ops x).kind ≡ true
  pub second : uses_word (operation_at ops y).kind ≡ true
  pub word : (operation_at ops x).word ≡ (operation_at ops y).word

-- a trace: the operations of each processor stand together, in program order; `writes` has each
-- word's stores and atomics together, in the word's order
pub record IsMemoryTrace (words : ℕ) (ops : List Operation) (writes : List ℕ) : Type 0 where
  pub processors : (x y : ℕ) → x ≤ y → y < length ops
      → (operation_at ops x).processor ≤ (operation_at ops y).processor
  pub word : (x : ℕ) → x < length ops → (operation_at ops x).word < words
  -- what is written stands at its place, and what is read at that of its source
  pub place : (x : ℕ) → x < length ops → uses_word (operation_at ops x).kind ≡ true
      → (operation_at ops x).place < length writes
  pub source : (x : ℕ) → x < length ops → uses_word (operation_at ops x).kind ≡ true
      → (operation_at ops (source_at ops writes x)).word ≡ (operation_at ops x).word
  pub written : (x : ℕ) → x < length ops → is_write (operation_at ops x).kind ≡ true
      → source_at ops writes x ≡ x
  pub low : (p : ℕ) → p < length writes → slice_index writes p < length ops
  pub writes_are : (p : ℕ) → p < length writes
      → is_write (operation_at ops (slice_index writes p)).kind ≡ true
  pub places : (p : ℕ) → p < length writes → (operation_at ops (slice_index writes p)).place ≡ p
  pub ordered : (p q : ℕ) → p ≤ q → q < length writes
      → (operation_at ops (slice_index writes p)).word
      ≤ (operation_at ops (slice_index writes q)).word
