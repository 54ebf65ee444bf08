-- Where no two writes left the same in one word, what was found shows who wrote it.
use Rattle.std.proofs.Common.{◌≡◌, inl, inr, ℕ, ◌+◌, ◌<◌, true, List, [], ◌∷◌, ◌++◌, length, sym, ap, subst, ◌∙◌, arith}
use Rattle.std.specs.Prelude.{slice_index}
use Rattle.std.proofs.lemmas.Bool.{cases_eq, cases_lt}
use Rattle.std.proofs.lemmas.List.{get_or_push, get_or_append_left, length_push}
use Rattle.memory_models.specs.declared.kinds.Operation.{Operation}
use Rattle.memory_models.specs.Trace.{is_load, is_write, uses_word, operation_at}
use Rattle.memory_models.proofs.Orders.{load_uses}
use Rattle.model_values.specs.declared.valued.Valued.{Valued}
use Rattle.model_values.specs.Unordered.{IsToldAt, IsPlacing}
use Rattle.model_values.specs.Values.{FindsAt, IsKnownSource, IsValuedPlacing, IsReader, AreAlikeValues, IsLeftBy}
use Rattle.model_values.proofs.Explained.{told_same}

-- two writes that left the same in one word are one write
one_write : (ops : List Operation) (left : List ℕ) → ((x y : ℕ) → AreAlikeValues ops left x y → ⊥) → (a b : ℕ) → a < length ops → b < length ops
    → is_write (operation_at ops a).kind ≡ true → is_write (operation_at ops b).kind ≡ true → (operation_at ops a).word ≡ (operation_at ops b).word
    → slice_index left a ≡ slice_index left b → a ≡ b
one_write ops left none a b la lb wa wb word same = elim (cases_eq a b) [
  | inl is ↦ is
  | inr other ↦ absurd (none a b (record { first = la; second = lb; other = other; writes = wa; writes_too = wb; word = word; leaves = same }))
]

-- the write at a place that left what was found is the source
at_place_is : (v : Valued) (sources : List ℕ) (placed : List Operation) (writes : List ℕ) → ((x y : ℕ) → AreAlikeValues v.operations.now v.left.now x y → ⊥)
    → IsValuedPlacing v placed writes → (x p : ℕ) → x < length v.operations.now → p < length writes
    → (operation_at placed (slice_index writes p)).word ≡ (operation_at placed x).word
    → slice_index v.left.now (slice_index writes p) ≡ slice_index v.found.now x
    → IsLeftBy v.operations.now v.left.now v.found.now x (slice_index sources x) → slice_index writes p ≡ slice_index sources x
at_place_is v sources placed writes none i x p lx lp word left by =
    let a : ℕ = slice_index writes p in
    let low : a < length v.operations.now = subst (λ n. a < n) i.size (i.trace.low p lp) in
    let is : is_write (operation_at v.operations.now a).kind ≡ true = subst (λ k. is_write k ≡ true) (i.same a low).kind (i.trace.writes_are p lp) in
    let words : (operation_at v.operations.now a).word ≡ (operation_at v.operations.now (slice_index sources x)).word =
    sym (i.same a low).word ∙ (word ∙ ((i.same x lx).word ∙ sym by.word)) in
    one_write v.operations.now v.left.now none a (slice_index sources x) low by.low is by.write words (left ∙ sym by.leaves)

told_by : (v : Valued) (sources : List ℕ) (placed : List Operation) (writes : List ℕ) → ((x y : ℕ) → AreAlikeValues v.operations.now v.left.now x y → ⊥)
    → ((x : ℕ) → x < length v.operations.now → IsReader v.operations.now x → IsLeftBy v.operations.now v.left.now v.found.now x (slice_index sources x))
    → IsValuedPlacing v placed writes → (x : ℕ) → x < length v.operations.now → IsToldAt v.operations.now sources placed writes x
told_by v sources placed writes none by i x lx =
    let t = i.trace in
    let same = i.same x lx in
    let finds = i.finds x lx in
    let low-x : x < length placed = subst (λ n. x < n) (sym i.size) lx in
    record {
      processor = same.processor;
      kind = same.kind;
      word = same.word;
      read = λ load. (let uses : uses_word (operation_at placed x).kind ≡ true =
          load_uses (operation_at placed x).kind (subst (λ k. is_load k ≡ true) (sym same.kind) load) in
          at_place_is v sources placed writes none i x (operation_at placed x).place lx (t.place x low-x uses) (t.source x low-x uses) (finds.read load)
          (by x lx (inl load)));
      next = λ atomic. (let before = finds.next atomic in
          let uses : uses_word (operation_at placed x).kind ≡ true = ap uses_word (same.kind ∙ atomic) in
          let inside = t.place x low-x uses in
          let low : before.place < length writes = omega (arith, inside, before.next) in
          let source = at_place_is v sources placed writes none i x before.place lx low before.word before.leaves (by x lx (inr atomic)) in
          let place : (operation_at placed (slice_index sources x)).place ≡ before.place =
          subst (λ s. (operation_at placed s).place ≡ before.place) source (t.places before.place low) in
          omega (arith, place, before.next));
      fence = same.fence;
    }

pub finds_by : (v : Valued) (sources : List ℕ) (placed : List Operation) (writes : List ℕ)
    → ((x : ℕ) → x < length v.operations.now → IsReader v.operations.now x → IsLeftBy v.operations.now v.left.now v.found.now x (slice_index sources x))
    → IsPlacing v.operations.now sources v.words v.openings v.closing placed writes → (x : ℕ) → x < length v.operations.now
    → FindsAt v.operations.now v.left.now v.found.now placed writes x
finds_by v sources placed writes by i x lx = record {
  read = λ load. ap (λ s. slice_index v.left.now s) ((i.told x lx).read load) ∙ (by x lx (inl load)).leaves;
  next = λ atomic. (let b = by x lx (inr atomic) in
      let low-s : slice_index sources x < length placed = subst (λ n. slice_index sources x < n) (sym i.size) b.low in
      let ts = i.told (slice_index sources x) b.low in
      let write : is_write (operation_at placed (slice_index sources x)).kind ≡ true = subst (λ k. is_write k ≡ true) (sym ts.kind) b.write in
      let there : slice_index writes (operation_at placed (slice_index sources x)).place ≡ slice_index sources x = i.trace.written (slice_index sources x) low-s write in
      record {
        place = (operation_at placed (slice_index sources x)).place;
        next = sym ((i.told x lx).next atomic);
        word = ap (λ s. (operation_at placed s).word) there ∙ (ts.word ∙ (b.word ∙ sym (i.told x lx).word));
        leaves = ap (λ s. slice_index v.left.now s) there ∙ b.leaves;
      });
}

-- with these sources, the orders of each word's writes that keep them are those that give the words
pub by_values : (v : Valued) (sources : List ℕ) → ((x y : ℕ) → AreAlikeValues v.operations.now v.left.now x y → ⊥)
    → ((x : ℕ) → x < length v.operations.now → IsReader v.operations.now x → IsLeftBy v.operations.now v.left.now v.found.now x (slice_index sources x))
    → (placed : List Operation) (writes : List ℕ)
    → (IsValuedPlacing v placed writes → IsPlacing v.operations.now sources v.words v.openings v.closing placed writes)
    × (IsPlacing v.operations.now sources v.words v.openings v.closing placed writes → IsValuedPlacing v placed writes)
by_values v sources none by placed writes = (
  λ i. record { size = i.size; trace = i.trace; told = told_by v sources placed writes none by i; opened = i.opened; closed = i.closed },
  λ i. record {
    size = i.size;
    trace = i.trace;
    same = λ x lx. told_same v.operations.now sources placed writes x (i.told x lx);
    finds = finds_by v sources placed writes by i;
    opened = i.opened;
    closed = i.closed;
  },
)

-- one source more
pub one_longer : (x s : ℕ) (before after : List ℕ) → length before ≡ x → after ≡ before ++ s ∷ [] → length after ≡ x + 1
one_longer x s before after size is = let e : length after ≡ length (before ++ s ∷ []) = ap length is in omega (arith, e, size, length_push before s)

pub known_more : (v : Valued) (x s : ℕ) (before after : List ℕ) → length before ≡ x → after ≡ before ++ s ∷ []
    → ((m : ℕ) → m < x → IsKnownSource v m (slice_index before m)) → IsKnownSource v x s
    → (m : ℕ) → m < x + 1 → IsKnownSource v m (slice_index after m)
known_more v x s before after size is each one m low = elim (cases_lt m x) [
  | inl less ↦ subst (λ z. IsKnownSource v m z)
      (sym (ap (λ z. slice_index z m) is ∙ get_or_append_left before (s ∷ []) 0 m (omega (arith, less, size)))) (each m less)
  | inr not ↦ (let e : m ≡ x = omega (arith, low, not) in
      subst (λ z. IsKnownSource v m z) (sym (ap (λ z. slice_index z m) is ∙ get_or_push before s 0 m (omega (arith, size, e))))
      (subst (λ z. IsKnownSource v z s) (sym e) one))
]

-- what no write left was not found
pub unwritten : (v : Valued) (x : ℕ) → x < length v.operations.now → IsReader v.operations.now x
    → ((s : ℕ) → IsLeftBy v.operations.now v.left.now v.found.now x s → ⊥) → (placed : List Operation) (writes : List ℕ) → IsValuedPlacing v placed writes → ⊥
unwritten v x lx reads none placed writes i = no reads
  where
    at : (p : ℕ) → p < length writes → (operation_at placed (slice_index writes p)).word ≡ (operation_at placed x).word
        → slice_index v.left.now (slice_index writes p) ≡ slice_index v.found.now x → ⊥
    at p lp word left =
        let low : slice_index writes p < length v.operations.now = subst (λ n. slice_index writes p < n) i.size (i.trace.low p lp) in
        none (slice_index writes p) (record {
          low = low;
          write = subst (λ k. is_write k ≡ true) (i.same (slice_index writes p) low).kind (i.trace.writes_are p lp);
          word = sym (i.same (slice_index writes p) low).word ∙ (word ∙ (i.same x lx).word);
          leaves = left;
        })

    low-x : x < length placed
    low-x = subst (λ n. x < n) (sym i.size) lx

    no : IsReader v.operations.now x → ⊥
    no (inl load) =
        let uses : uses_word (operation_at placed x).kind ≡ true =
        load_uses (operation_at placed x).kind (subst (λ k. is_load k ≡ true) (sym (i.same x lx).kind) load) in
        at (operation_at placed x).place (i.trace.place x low-x uses) (i.trace.source x low-x uses) ((i.finds x lx).read load)
    no (inr atomic) =
        let uses : uses_word (operation_at placed x).kind ≡ true = ap uses_word ((i.same x lx).kind ∙ atomic) in
        let inside = i.trace.place x low-x uses in
        let before = (i.finds x lx).next atomic in
        at before.place (omega (arith, inside, before.next)) before.word before.leaves
