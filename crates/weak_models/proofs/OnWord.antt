-- Rules 1 and 2 hold in each order of a coherent trace that obeys the word's order of writes and what loads read.
use Rattle.std.proofs.Common.{◌≡◌, ◌⊎◌, inl, inr, ℕ, ◌<◌, ◌≤◌, true, List, [], length, refl, sym, ◌∙◌, ap, arith}
use Rattle.std.specs.Prelude.{slice_index}
use Rattle.std.proofs.lemmas.Bool.{cases_lt, cases_eq, cases_order}
use Rattle.memory_models.specs.declared.kinds.Kind.TheVariants.{Load, Store, Atomic, Fence}
use Rattle.memory_models.specs.declared.kinds.Kind.{Kind}
use Rattle.memory_models.specs.declared.kinds.Operation.{Operation}
use Rattle.memory_models.specs.Trace.{is_load, is_write, uses_word, operation_at, source_at, IsOwn, AreOnOne, IsMemoryTrace}
use Rattle.memory_models.specs.Models.{coherent}
use Rattle.memory_models.specs.Order.{IsMemoryOrder}
use Rattle.memory_models.proofs.Lasts.{from_write}
use Rattle.memory_models.proofs.Orders.{load_uses}
use Rattle.memory_models.proofs.Runs.{IsSource, source_is, both_on}
use Rattle.weak_models.specs.Notes.{reads}
use Rattle.weak_models.specs.Preserved.{read_at, IsSameWordStore, AreDifferentReads}
use Rattle.weak_models.proofs.Bare.{coherent_keeps}
use Rattle.weak_models.proofs.ByPlace.{load_place}
use Rattle.weak_models.proofs.Excluded.{load_or_write, write_is_word, reads_word}

-- what reads is a load, or an atomic, which writes
load_or_atomic : (k : Kind) → reads k ≡ true → (is_load k ≡ true) ⊎ ((k ≡ Atomic) × (is_write k ≡ true))
load_or_atomic Load e = inl refl
load_or_atomic Store e = absurd cc
load_or_atomic Atomic e = inr (refl, refl)
load_or_atomic Fence e = absurd cc

module _ (words : ℕ) (ops : List Operation) (writes : List ℕ) (first turn : ℕ → ℕ) (t : IsMemoryTrace words ops writes)
    (c : IsMemoryOrder coherent ops writes first) (o : IsMemoryOrder [] ops writes turn) where
  abbrev place : ℕ → ℕ
  place x = (operation_at ops x).place

  abbrev word : ℕ → ℕ
  word x = (operation_at ops x).word

  abbrev source : ℕ → ℕ
  source x = source_at ops writes x

  abbrev writes_at : ℕ → Type 0
  writes_at x = is_write (operation_at ops x).kind ≡ true

  abbrev loads_at : ℕ → Type 0
  loads_at x = is_load (operation_at ops x).kind ≡ true

  -- writes of a processor on one word rise
  own_writes : (x y : ℕ) → y < length ops → IsOwn ops x y → writes_at x → writes_at y → word x ≡ word y → turn x < turn y
  own_writes x y high own from to same = o.program x y high (inr (record {
    own = own;
    from = from_write (operation_at ops x).kind from;
    to = from_write (operation_at ops y).kind to;
    key = same;
  }))

  -- in the coherent order so do all on one word
  up : (x y : ℕ) → y < length ops → IsOwn ops x y → uses_word (operation_at ops x).kind ≡ true → uses_word (operation_at ops y).kind ≡ true
      → word x ≡ word y → first x < first y
  up x y high own from to same = c.program x y high (coherent_keeps ops x y own from to same)

  one_write : (x y : ℕ) → x < length ops → y < length ops → writes_at x → writes_at y → place x ≡ place y → x ≡ y
  one_write x y low high from to same = sym (t.written x low from) ∙ (ap (slice_index writes) same ∙ t.written y high to)

  load_on : (x y : ℕ) → loads_at x → writes_at y → word x ≡ word y → AreOnOne ops x y
  load_on x y load write same = record { first = load_uses (operation_at ops x).kind load; second = write_is_word (operation_at ops y).kind write; word = same }

  -- a load reads what stands before the later writes of its processor on its word
  load_write : (x y : ℕ) → x < length ops → y < length ops → IsOwn ops x y → loads_at x → writes_at y → word x ≡ word y → place x < place y
  load_write x y low high own load write same =
      let rises = up x y high own (load_uses (operation_at ops x).kind load) (write_is_word (operation_at ops y).kind write) same in
      let before = own.before in
      let s : IsSource ops writes x (source x) = source_is words ops writes x t low load in
      let at : place (source x) ≡ place x = s.place in
      let s_word : word (source x) ≡ word y = s.word ∙ same in
      elim (cases_lt (place x) (place y)) [
        | inl less ↦ less
        | inr no_less ↦ absurd (elim (c.source x low load) [
          | inl read ↦ elim (cases_eq (place y) (place (source x))) [
            | inl one ↦ (let e : first y ≡ first (source x) = ap first (one_write y (source x) high s.low write s.write one) in omega (arith, e, read, rises))
            | inr other ↦ (let down = c.word_order y (source x) high s.low write s.write (both_on ops y (source x) write s.write (sym s_word))
                (omega (arith, no_less, at, other)) in omega (arith, down, read, rises))
          ]
          | inr forwarded ↦ (let f = forwarded.before in
              let own_source : IsOwn ops (source x) y = record { processor = forwarded.processor ∙ own.processor; before = omega (arith, f, before) } in
              let rest = up (source x) y high own_source (write_is_word (operation_at ops (source x)).kind s.write) (write_is_word (operation_at ops y).kind write) s_word in
              elim (cases_eq (place y) (place (source x))) [
                | inl one ↦ (let e : first y ≡ first (source x) = ap first (one_write y (source x) high s.low write s.write one) in omega (arith, e, rest))
                | inr other ↦ (let down = c.word_order y (source x) high s.low write s.write (both_on ops y (source x) write s.write (sym s_word))
                    (omega (arith, no_less, at, other)) in omega (arith, down, rest))
              ])
        ])
      ]

  -- and two loads read in the word's order
  load_load : (x y : ℕ) → x < length ops → y < length ops → IsOwn ops x y → loads_at x → loads_at y → word x ≡ word y → place x ≤ place y
  load_load x y low high own load later same =
      let rises = up x y high own (load_uses (operation_at ops x).kind load) (load_uses (operation_at ops y).kind later) same in
      let before = own.before in
      let s : IsSource ops writes x (source x) = source_is words ops writes x t low load in
      let at : place (source x) ≡ place x = s.place in
      elim (cases_lt (place y) (place x)) [
        | inr no_less ↦ no_less
        | inl less ↦ absurd (let n = c.newest y (source x) high s.low later s.write (load_on y (source x) later s.write (sym (s.word ∙ same))) (omega (arith, at, less)) in
            let late : first y < first (source x) = n.0 in
            elim (c.source x low load) [
              | inl read ↦ omega (arith, read, late, rises)
              | inr forwarded ↦ (let f = forwarded.before in
                  n.1 (record { processor = forwarded.processor ∙ own.processor; before = omega (arith, f, before) }))
            ])
      ]

  -- rule 1
  pub same_word_store : (x y : ℕ) → x < length ops → y < length ops → IsOwn ops x y → uses_word (operation_at ops x).kind ≡ true
      → IsSameWordStore ops x y → turn x < turn y
  same_word_store x y low high own uses k = elim (load_or_write (operation_at ops x).kind uses) [
    | inl load ↦ (o.newest x y low high load k.store (load_on x y load k.store k.word) (load_write x y low high own load k.store k.word)).0
    | inr write ↦ own_writes x y high own write k.store k.word
  ]

  -- the source of a load that reads a later write than another operation of its processor before it
  onto_load : (x y : ℕ) → x < length ops → y < length ops → IsOwn ops x y → loads_at y → AreDifferentReads ops writes x y
      → place x < place y → (turn x < turn (source y)) → (IsOwn ops (source y) x → ⊥) → turn x < turn y
  onto_load x y low high own load k less rises none =
      let s : IsSource ops writes y (source y) = source_is words ops writes y t high load in
      let at : place (source y) ≡ place y = s.place in
      elim (o.source y high load) [
        | inl read ↦ omega (arith, rises, read)
        | inr forwarded ↦ absurd (let f = forwarded.before in elim (cases_order x (source y)) [
          | inl one ↦ (let e : turn x ≡ turn (source y) = ap turn one in omega (arith, e, rises))
          | inr (inl behind) ↦ k.none (record { store = source y; behind = behind; before = f; is = record { is = s.write; word = s.word } })
          | inr (inr before) ↦ none (record { processor = forwarded.processor ∙ sym own.processor; before = before })
        ])
      ]

  -- of a load what it read stands at its place
  reads_source : (y : ℕ) → loads_at y → read_at ops writes y ≡ source y
  reads_source y load = ap (slice_index writes) (load_place (operation_at ops y) load)

  from_load : (x y : ℕ) → x < length ops → y < length ops → IsOwn ops x y → loads_at x → loads_at y → AreDifferentReads ops writes x y → turn x < turn y
  from_load x y low high own load later k =
      let s : IsSource ops writes y (source y) = source_is words ops writes y t high later in
      let at : place (source y) ≡ place y = s.place in
      let most = load_load x y low high own load later k.word in
      elim (cases_eq (place x) (place y)) [
        | inl same ↦ absurd (k.apart (reads_source x load ∙ (ap (slice_index writes) same ∙ sym (reads_source y later))))
        | inr other ↦ (let less : place x < place y = omega (arith, most, other) in
            let n = o.newest x (source y) low s.low load s.write (load_on x (source y) load s.write (k.word ∙ sym s.word)) (omega (arith, less, at)) in
            onto_load x y low high own later k less n.0 n.1)
      ]

  from_write_to_load : (x y : ℕ) → x < length ops → y < length ops → IsOwn ops x y → writes_at x → loads_at y
      → (read_at ops writes y ≡ x → turn x < turn y) → AreDifferentReads ops writes x y → turn x < turn y
  from_write_to_load x y low high own write later reads_own k =
      let s : IsSource ops writes y (source y) = source_is words ops writes y t high later in
      let at : place (source y) ≡ place y = s.place in
      elim (cases_order (place x) (place y)) [
        | inl same ↦ reads_own (reads_source y later ∙ (ap (slice_index writes) (sym same) ∙ t.written x low write))
        | inr (inl less) ↦ (let rises = o.word_order x (source y) low s.low write s.write (both_on ops x (source y) write s.write (k.word ∙ sym s.word)) (omega (arith, less, at)) in
            onto_load x y low high own later k less rises (λ before. (let down = own_writes (source y) x low before s.write write (s.word ∙ sym k.word) in omega (arith, down, rises))))
        | inr (inr more) ↦ absurd ((o.newest y x high low later write (load_on y x later write (sym k.word)) more).1 own)
      ]

  -- rule 2, where rule 3 holds of atomics
  pub different_reads : (x y : ℕ) → x < length ops → y < length ops → IsOwn ops x y
      → ((operation_at ops x).kind ≡ Atomic → read_at ops writes y ≡ x → turn x < turn y) → AreDifferentReads ops writes x y → turn x < turn y
  different_reads x y low high own forwards k = elim (load_or_atomic (operation_at ops y).kind k.second) [
    | inl later ↦ elim (load_or_atomic (operation_at ops x).kind k.first) [
      | inl load ↦ from_load x y low high own load later k
      | inr atomic ↦ from_write_to_load x y low high own atomic.1 later (forwards atomic.0) k
    ]
    | inr atomic ↦ same_word_store x y low high own (reads_word (operation_at ops x).kind k.first) (record { store = atomic.1; word = k.word })
  ]
