-- The sources that an order of each word's writes gives, among those that may be chosen.
use Rattle.std.proofs.Common.{◌≡◌, inl, inr, ℕ, zero, suc, ◌+◌, ◌-◌, ◌<◌, true, List, [], ◌∷◌, ◌++◌, length, refl, sym, ap, subst, ◌∙◌, arith}
use Rattle.std.specs.Prelude.{slice_index}
use Rattle.std.proofs.lemmas.Bool.{cases_lt}
use Rattle.std.proofs.lemmas.List.{get_or_push, get_or_append_left, length_push}
use Rattle.memory_models.specs.declared.kinds.Kind.{Kind}
use Rattle.memory_models.specs.declared.kinds.Kind.TheVariants.{Load, Store, Atomic, Fence}
use Rattle.memory_models.specs.declared.kinds.Operation.{Operation}
use Rattle.memory_models.specs.Trace.{is_load, is_write, uses_word, operation_at, source_at}
use Rattle.model_values.specs.declared.valued.Valued.{Valued}
use Rattle.model_values.specs.Choices.{MayRead, source_by, source_in}
use Rattle.model_values.specs.Unordered.{IsToldAt, IsPlacing}
use Rattle.model_values.specs.Values.{IsValuedPlacing, IsReader, IsLeftBy}
use Rattle.model_values.proofs.ByValues.{finds_by}
use Rattle.model_values.proofs.Explained.{told_same}

-- the write at a place left what was found
left_at : (v : Valued) (placed : List Operation) (writes : List ℕ) → IsValuedPlacing v placed writes → (x p : ℕ) → x < length v.operations.now
    → p < length writes → (operation_at placed (slice_index writes p)).word ≡ (operation_at placed x).word
    → slice_index v.left.now (slice_index writes p) ≡ slice_index v.found.now x
    → IsLeftBy v.operations.now v.left.now v.found.now x (slice_index writes p)
left_at v placed writes i x p lx lp word left =
    let low : slice_index writes p < length v.operations.now = subst (λ n. slice_index writes p < n) i.size (i.trace.low p lp) in
    record {
      low = low;
      write = subst (λ k. is_write k ≡ true) (i.same (slice_index writes p) low).kind (i.trace.writes_are p lp);
      word = sym (i.same (slice_index writes p) low).word ∙ (word ∙ (i.same x lx).word);
      leaves = left;
    }

-- an atomic stands just behind its source
pub record StandsBehind (v : Valued) (placed : List Operation) (writes : List ℕ) (x : ℕ) : Type 0 where
  pub left : IsLeftBy v.operations.now v.left.now v.found.now x (slice_index writes ((operation_at placed x).place - 1))
  pub next : (operation_at placed x).place ≡ (operation_at placed (slice_index writes ((operation_at placed x).place - 1))).place + 1
  pub is : slice_index writes (operation_at placed x).place ≡ x

pub stands_behind : (v : Valued) (placed : List Operation) (writes : List ℕ) → IsValuedPlacing v placed writes → (x : ℕ) → x < length v.operations.now
    → (operation_at v.operations.now x).kind ≡ Atomic → StandsBehind v placed writes x
stands_behind v placed writes i x lx atomic =
    let low-x : x < length placed = subst (λ n. x < n) (sym i.size) lx in
    let uses : uses_word (operation_at placed x).kind ≡ true = ap uses_word ((i.same x lx).kind ∙ atomic) in
    let write : is_write (operation_at placed x).kind ≡ true = ap is_write ((i.same x lx).kind ∙ atomic) in
    let inside = i.trace.place x low-x uses in
    let before = (i.finds x lx).next atomic in
    let low : before.place < length writes = omega (arith, inside, before.next) in
    let e : before.place ≡ (operation_at placed x).place - 1 = omega (arith, before.next) in
    let at : (operation_at placed (slice_index writes before.place)).place ≡ before.place = i.trace.places before.place low in
    record {
      left = subst (λ p. IsLeftBy v.operations.now v.left.now v.found.now x (slice_index writes p)) e
          (left_at v placed writes i x before.place lx low before.word before.leaves);
      next = subst (λ p. (operation_at placed x).place ≡ (operation_at placed (slice_index writes p)).place + 1) e (omega (arith, at, before.next));
      is = i.trace.written x low-x write;
    }

-- the source that an order gives an operation that reads its word may be one
pub may_read_in : (v : Valued) (placed : List Operation) (writes : List ℕ) → IsValuedPlacing v placed writes → (x : ℕ)
    → x < length v.operations.now → IsReader v.operations.now x → MayRead v x (source_in v placed writes x)
may_read_in v placed writes i x low reads = record {
  low = low;
  reads = reads;
  left = of (operation_at v.operations.now x).kind refl reads;
}
  where
    of : (kind : Kind) → (operation_at v.operations.now x).kind ≡ kind → IsReader v.operations.now x
        → IsLeftBy v.operations.now v.left.now v.found.now x (source_by kind placed writes x)
    of Load is reads =
        let low-x : x < length placed = subst (λ n. x < n) (sym i.size) low in
        let load : is_load (operation_at v.operations.now x).kind ≡ true = ap is_load is in
        let uses : uses_word (operation_at placed x).kind ≡ true = ap uses_word ((i.same x low).kind ∙ is) in
        left_at v placed writes i x (operation_at placed x).place low (i.trace.place x low-x uses) (i.trace.source x low-x uses)
        ((i.finds x low).read load)
    of Atomic is reads = (stands_behind v placed writes i x low is).left
    of Store is (inl load) = absurd (let bad : is_load Store ≡ true = sym (ap is_load is) ∙ load in cc)
    of Store is (inr atomic) = absurd (let bad : Store ≡ Atomic = sym is ∙ atomic in cc)
    of Fence is (inl load) = absurd (let bad : is_load Fence ≡ true = sym (ap is_load is) ∙ load in cc)
    of Fence is (inr atomic) = absurd (let bad : Fence ≡ Atomic = sym is ∙ atomic in cc)

load_source : (kind : Kind) (placed : List Operation) (writes : List ℕ) (x : ℕ) → is_load kind ≡ true
    → source_by kind placed writes x ≡ source_at placed writes x
load_source Load placed writes x load = refl
load_source Store placed writes x load = absurd (let bad : is_load Store ≡ true = load in cc)
load_source Atomic placed writes x load = absurd (let bad : is_load Atomic ≡ true = load in cc)
load_source Fence placed writes x load = absurd (let bad : is_load Fence ≡ true = load in cc)

-- with the sources that an order gives all operations that read their words it keeps these
pub keeps_sources : (v : Valued) (placed : List Operation) (writes sources : List ℕ) → IsValuedPlacing v placed writes
    → ((x : ℕ) → x < length v.operations.now → IsReader v.operations.now x → source_in v placed writes x ≡ slice_index sources x)
    → IsPlacing v.operations.now sources v.words v.openings v.closing placed writes
keeps_sources v placed writes sources i gives = record { size = i.size; trace = i.trace; told = told; opened = i.opened; closed = i.closed }
  where
    told : (x : ℕ) → x < length v.operations.now → IsToldAt v.operations.now sources placed writes x
    told x lx =
        let same = i.same x lx in
        record {
          processor = same.processor;
          kind = same.kind;
          word = same.word;
          read = λ load. sym (load_source (operation_at v.operations.now x).kind placed writes x load) ∙ gives x lx (inl load);
          next = λ atomic. (let b = stands_behind v placed writes i x lx atomic in
              let e : slice_index writes ((operation_at placed x).place - 1) ≡ slice_index sources x =
              sym (ap (λ k. source_by k placed writes x) atomic) ∙ gives x lx (inr atomic) in
              subst (λ s. (operation_at placed x).place ≡ (operation_at placed s).place + 1) e b.next);
          fence = same.fence;
        }

-- the values of a function below a number
abbrev listed : (ℕ → ℕ) → ℕ → List ℕ
listed f zero = []
listed f (suc n) = listed f n ++ f n ∷ []

listed_size : (f : ℕ → ℕ) (n : ℕ) → length (listed f n) ≡ n
listed_size f zero = refl
listed_size f (suc n) = (let size = listed_size f n in let more = length_push (listed f n) (f n) in omega (arith, size, more))

listed_at : (f : ℕ → ℕ) (n x : ℕ) → x < n → slice_index (listed f n) x ≡ f x
listed_at f zero x low = absurd (omega (arith, low))
listed_at f (suc n) x low = elim (cases_lt x n) [
  | inl less ↦ (let inside : x < length (listed f n) = subst (λ k. x < k) (sym (listed_size f n)) less in
      get_or_append_left (listed f n) (f n ∷ []) 0 x inside ∙ listed_at f n x less)
  | inr not ↦ (let same : x ≡ n = omega (arith, low, not) in
      let at : length (listed f n) ≡ x = listed_size f n ∙ sym same in
      get_or_push (listed f n) (f n) 0 x at ∙ ap f (sym same))
]

-- the sources that an order gives all operations
abbrev pub all_sources : Valued → List Operation → List ℕ → List ℕ
all_sources v placed writes = listed (source_in v placed writes) (length v.operations.now)

pub all_size : (v : Valued) (placed : List Operation) (writes : List ℕ) → length (all_sources v placed writes) ≡ length v.operations.now
all_size v placed writes = listed_size (source_in v placed writes) (length v.operations.now)

pub all_at : (v : Valued) (placed : List Operation) (writes : List ℕ) (x : ℕ) → x < length v.operations.now
    → slice_index (all_sources v placed writes) x ≡ source_in v placed writes x
all_at v placed writes x low = listed_at (source_in v placed writes) (length v.operations.now) x low

pub keeps_all : (v : Valued) (placed : List Operation) (writes : List ℕ) → IsValuedPlacing v placed writes
    → IsPlacing v.operations.now (all_sources v placed writes) v.words v.openings v.closing placed writes
keeps_all v placed writes i = keeps_sources v placed writes (all_sources v placed writes) i (λ x low reads. sym (all_at v placed writes x low))

-- an order that keeps sources that left what was found gives the words
pub gives_words : (v : Valued) (placed : List Operation) (writes sources : List ℕ)
    → ((x : ℕ) → x < length v.operations.now → IsReader v.operations.now x → IsLeftBy v.operations.now v.left.now v.found.now x (slice_index sources x))
    → IsPlacing v.operations.now sources v.words v.openings v.closing placed writes → IsValuedPlacing v placed writes
gives_words v placed writes sources by i = record {
  size = i.size;
  trace = i.trace;
  same = λ x lx. told_same v.operations.now sources placed writes x (i.told x lx);
  finds = finds_by v sources placed writes by i;
  opened = i.opened;
  closed = i.closed;
}
