-- An order of this model makes one of coherence: each word's operations by the places of what they wrote or read.
use Rattle.std.proofs.Common.{◌≡◌, ◌⊎◌, inl, inr, ℕ, ◌+◌, ◌*◌, ◌<◌, ◌≤◌, Bool, true, false, List, length, refl, sym, ◌∙◌, ap, arith}
use Rattle.std.specs.Prelude.{slice_index, if◌then◌else◌, ◌-◌}
use Rattle.std.proofs.lemmas.Bool.{cases_lt, cases_eq, cases_order}
use Rattle.memory_models.specs.declared.kinds.Kind.{Kind}
use Rattle.memory_models.specs.declared.kinds.Kind.TheVariants.{Load, Store, Atomic, Fence}
use Rattle.memory_models.specs.declared.kinds.Operation.{Operation}
use Rattle.memory_models.specs.Trace.{is_load, is_write, uses_word, operation_at, source_at, IsOwn, IsMemoryTrace}
use Rattle.memory_models.specs.Order.{IsMemoryOrder}
use Rattle.memory_models.specs.Models.{coherent}
use Rattle.memory_models.specs.WordOrders.{IsOnWord, IsSequentialOn}
use Rattle.memory_models.proofs.Blocks.{block, same_rest}
use Rattle.memory_models.proofs.Orders.{load_uses}
use Rattle.memory_models.proofs.Runs.{IsSource, source_is, both_on}
use Rattle.memory_models.proofs.Coherent.{sequential_on_is_coherent, merged}
use Rattle.weak_models.specs.declared.notes.Note.{Note}
use Rattle.weak_models.specs.declared.notes.Dependency.{Dependency}
use Rattle.weak_models.specs.declared.verdict.PreservedRule.TheVariants as by
use Rattle.weak_models.specs.Preserved.{HasStoreBetween, read_place, read_at}
use Rattle.weak_models.specs.Order.{IsRvwmo}
use Rattle.weak_models.proofs.Excluded.{load_or_write, write_is_word, load_reads}

-- a load's number within its place
abbrev rest : Bool → ℕ → ℕ
rest true x = x + 1
rest false x = 0

abbrev rest_of : List Operation → ℕ → ℕ
rest_of ops x = rest (is_load (operation_at ops x).kind) x

rest_load : (k : Kind) (x : ℕ) → is_load k ≡ true → rest (is_load k) x ≡ x + 1
rest_load Load x e = refl
rest_load Store x e = cc
rest_load Atomic x e = cc
rest_load Fence x e = cc

rest_write : (k : Kind) (x : ℕ) → is_write k ≡ true → rest (is_load k) x ≡ 0
rest_write Load x e = cc
rest_write Store x e = refl
rest_write Atomic x e = refl
rest_write Fence x e = cc

rest_small : (k : Kind) (x : ℕ) → rest (is_load k) x ≤ x + 1
rest_small Load x = omega arith
rest_small Store x = omega arith
rest_small Atomic x = omega arith
rest_small Fence x = omega arith

-- of a load the place of the write that it read
pub load_place : (op : Operation) → is_load op.kind ≡ true → read_place op ≡ op.place
load_place op e = by op.kind e
  where
    by : (k : Kind) → is_load k ≡ true → (if is_load k then op.place else op.place - 1) ≡ op.place
    by Load e = refl
    by Store e = cc
    by Atomic e = cc
    by Fence e = cc

abbrev pub by_place : List Operation → ℕ → ℕ
by_place ops x = (length ops + 2) * (operation_at ops x).place + rest_of ops x

module _ (words : ℕ) (notes : List Note) (dependencies : List Dependency) (ops : List Operation) (writes : List ℕ) (turn : ℕ → ℕ)
    (t : IsMemoryTrace words ops writes) (o : IsRvwmo notes dependencies ops writes turn) where
  abbrev place : ℕ → ℕ
  place x = (operation_at ops x).place

  abbrev source : ℕ → ℕ
  source x = source_at ops writes x

  -- a write behind an operation of its processor on its word stays there
  onto_write : (x y : ℕ) → y < length ops → IsOwn ops x y → uses_word (operation_at ops x).kind ≡ true → is_write (operation_at ops y).kind ≡ true
      → (operation_at ops x).word ≡ (operation_at ops y).word → turn x < turn y
  onto_write x y high own uses write word = o.order.program x y high (
    by.SameWordStore,
    record { own = own; first = uses; second = write_is_word (operation_at ops y).kind write; keeps = record { store = write; word = word } },
  )

  -- two writes with one place are one
  one_write : (x y : ℕ) → x < length ops → y < length ops → is_write (operation_at ops x).kind ≡ true → is_write (operation_at ops y).kind ≡ true
      → place x ≡ place y → x ≡ y
  one_write x y low high first second same = sym (t.written x low first) ∙ (ap (slice_index writes) same ∙ t.written y high second)

  writes_rise : (x y : ℕ) → x < length ops → y < length ops → is_write (operation_at ops x).kind ≡ true → is_write (operation_at ops y).kind ≡ true
      → (operation_at ops x).word ≡ (operation_at ops y).word → place x < place y → turn x < turn y
  writes_rise x y low high first second word less = o.order.word_order x y low high first second (both_on ops x y first second word) less

  write_write : (x y : ℕ) → x < length ops → y < length ops → IsOwn ops x y → is_write (operation_at ops x).kind ≡ true
      → is_write (operation_at ops y).kind ≡ true → (operation_at ops x).word ≡ (operation_at ops y).word → place x < place y
  write_write x y low high own first second word =
      let up = onto_write x y high own (write_is_word (operation_at ops x).kind first) second word in
      let before = own.before in
      elim (cases_order (place x) (place y)) [
        | inl same ↦ (let e : x ≡ y = one_write x y low high first second same in absurd (omega (arith, e, before)))
        | inr (inl less) ↦ less
        | inr (inr more) ↦ (let down = writes_rise y x high low second first (sym word) more in absurd (omega (arith, up, down)))
      ]

  load_write : (x y : ℕ) → x < length ops → y < length ops → IsOwn ops x y → is_load (operation_at ops x).kind ≡ true
      → is_write (operation_at ops y).kind ≡ true → (operation_at ops x).word ≡ (operation_at ops y).word → place x < place y
  load_write x y low high own load write word =
      let up = onto_write x y high own (load_uses (operation_at ops x).kind load) write word in
      let before = own.before in
      let s : IsSource ops writes x (source x) = source_is words ops writes x t low load in
      let at : place (source x) ≡ place x = s.place in
      let s_word : (operation_at ops (source x)).word ≡ (operation_at ops y).word = s.word ∙ word in
      elim (cases_lt (place x) (place y)) [
        | inl less ↦ less
        | inr no_less ↦ absurd (elim (o.order.source x low load) [
          | inl read ↦ elim (cases_eq (place y) (place (source x))) [
            | inl same ↦ (let e : turn y ≡ turn (source x) = ap turn (one_write y (source x) high s.low write s.write same) in omega (arith, e, read, up))
            | inr other ↦ (let down = writes_rise y (source x) high s.low write s.write (sym s_word) (omega (arith, no_less, at, other)) in omega (arith, down, read, up))
          ]
          | inr forwarded ↦ (let first = forwarded.before in
              let less = write_write (source x) y s.low high (record { processor = forwarded.processor ∙ own.processor; before = omega (arith, first, before) })
              s.write write s_word in
              omega (arith, less, at, no_less))
        ])
      ]

  write_load : (x y : ℕ) → x < length ops → y < length ops → IsOwn ops x y → is_write (operation_at ops x).kind ≡ true
      → is_load (operation_at ops y).kind ≡ true → (operation_at ops x).word ≡ (operation_at ops y).word → place x ≤ place y
  write_load x y low high own write load word = elim (cases_lt (place y) (place x)) [
    | inl less ↦ absurd ((o.order.newest y x high low load write (record {
      first = load_uses (operation_at ops y).kind load;
      second = write_is_word (operation_at ops x).kind write;
      word = sym word;
    }) less).1 own)
    | inr no_less ↦ no_less
  ]

  -- two loads of a processor on one word read in the word's order
  load_load : (x y : ℕ) → x < length ops → y < length ops → IsOwn ops x y → is_load (operation_at ops x).kind ≡ true
      → is_load (operation_at ops y).kind ≡ true → (operation_at ops x).word ≡ (operation_at ops y).word → place x ≤ place y
  load_load x y low high own first second word = elim (cases_lt (place y) (place x)) [
    | inr no_less ↦ no_less
    | inl less ↦ absurd (backwards less)
  ]
    where
      s : IsSource ops writes x (source x)
      s = source_is words ops writes x t low first

      none_between : place y < place x → HasStoreBetween ops x y → ⊥
      none_between less b =
          let behind = b.behind in
          let before = b.before in
          let m_low : b.store < length ops = omega (arith, before, high) in
          let at : (operation_at ops b.store).processor ≡ (operation_at ops y).processor =
          (let p = t.processors x b.store (omega (arith, behind)) m_low in
          let q = t.processors b.store y (omega (arith, before)) high in
          let e = own.processor in
          omega (arith, p, q, e)) in
          let a = load_write x b.store low m_low (record { processor = own.processor ∙ sym at; before = behind }) first b.is.is (word ∙ sym b.is.word) in
          let c = write_load b.store y m_low high (record { processor = at; before = before }) b.is.is second b.is.word in
          omega (arith, a, c, less)

      apart : place y < place x → read_at ops writes x ≡ read_at ops writes y → ⊥
      apart less same =
          let one : source x ≡ source y =
          sym (ap (slice_index writes) (load_place (operation_at ops x) first)) ∙ (same ∙ ap (slice_index writes) (load_place (operation_at ops y) second)) in
          let r = source_is words ops writes y t high second in
          let a : place (source x) ≡ place x = s.place in
          let b : place (source y) ≡ place y = r.place in
          let e : place (source x) ≡ place (source y) = ap place one in
          omega (arith, a, b, e, less)

      backwards : place y < place x → ⊥
      backwards less =
          let kept : turn x < turn y = o.order.program x y high (
            by.DifferentReads,
            record {
              own = own;
              first = load_uses (operation_at ops x).kind first;
              second = load_uses (operation_at ops y).kind second;
              keeps = record {
                first = load_reads (operation_at ops x).kind first;
                second = load_reads (operation_at ops y).kind second;
                word = word;
                apart = apart less;
                none = none_between less;
              };
            },
          ) in
          let at : place (source x) ≡ place x = s.place in
          let n = o.order.newest y (source x) high s.low second s.write (record {
            first = load_uses (operation_at ops y).kind second;
            second = write_is_word (operation_at ops (source x)).kind s.write;
            word = sym word ∙ sym s.word;
          }) (omega (arith, at, less)) in
          let late : turn y < turn (source x) = n.0 in
          let before = own.before in
          elim (o.order.source x low first) [
            | inl read ↦ omega (arith, read, late, kept)
            | inr forwarded ↦ (let f = forwarded.before in
                n.1 (record { processor = forwarded.processor ∙ own.processor; before = omega (arith, f, before) }))
          ]

  rest_low : (x : ℕ) → x < length ops → rest_of ops x < length ops + 2
  rest_low x low = let small = rest_small (operation_at ops x).kind x in omega (arith, small, low)

  -- by the place, and of one place the write before loads, and these by their numbers
  up : (x y : ℕ) → x < length ops → place x < place y → by_place ops x < by_place ops y
  up x y low less = let b = block (length ops + 2) (place x) (place y) (rest_of ops x) (rest_low x low) less in omega (arith, b)

  up_rest : (x y : ℕ) → x < length ops → place x ≤ place y → rest_of ops x < rest_of ops y → by_place ops x < by_place ops y
  up_rest x y low less more = elim (cases_eq (place x) (place y)) [
    | inl same ↦ (let e : (length ops + 2) * place x ≡ (length ops + 2) * place y = ap (λ z. (length ops + 2) * z) same in omega (arith, e, more))
    | inr other ↦ up x y low (omega (arith, less, other))
  ]

  same_place : (x y : ℕ) → x < length ops → y < length ops → by_place ops x ≡ by_place ops y → place x ≡ place y
  same_place x y low high e = elim (cases_order (place x) (place y)) [
    | inl same ↦ same
    | inr (inl less) ↦ (let a = up x y low less in absurd (omega (arith, a, e)))
    | inr (inr more) ↦ (let a = up y x high more in absurd (omega (arith, a, e)))
  ]

  rest_is : (x : ℕ) → is_load (operation_at ops x).kind ≡ true → rest_of ops x ≡ x + 1
  rest_is x load = rest_load (operation_at ops x).kind x load

  rest_none : (x : ℕ) → is_write (operation_at ops x).kind ≡ true → rest_of ops x ≡ 0
  rest_none x write = rest_write (operation_at ops x).kind x write

  module _ (word : ℕ) where
    same_word : (x y : ℕ) → IsOnWord ops word x → IsOnWord ops word y → (operation_at ops x).word ≡ (operation_at ops y).word
    same_word x y a b = a.is ∙ sym b.is

    apart_on : (x y : ℕ) → IsOnWord ops word x → IsOnWord ops word y → by_place ops x ≡ by_place ops y → x ≡ y
    apart_on x y a b e =
        let same = same_rest (length ops + 2) (place x) (place y) (rest_of ops x) (rest_of ops y) (rest_low x a.low) (rest_low y b.low) e in
        elim (load_or_write (operation_at ops x).kind a.uses) [
          | inl load ↦ elim (load_or_write (operation_at ops y).kind b.uses) [
            | inl other ↦ (let r = rest_is x load in let s = rest_is y other in omega (arith, r, s, same))
            | inr write ↦ (let r = rest_is x load in let s = rest_none y write in absurd (omega (arith, r, s, same)))
          ]
          | inr write ↦ elim (load_or_write (operation_at ops y).kind b.uses) [
            | inl load ↦ (let r = rest_none x write in let s = rest_is y load in absurd (omega (arith, r, s, same)))
            | inr other ↦ one_write x y a.low b.low write other (same_place x y a.low b.low e)
          ]
        ]

    program_on : (x y : ℕ) → IsOnWord ops word x → IsOnWord ops word y → IsOwn ops x y → by_place ops x < by_place ops y
    program_on x y a b own =
        let same = same_word x y a b in
        let before = own.before in
        elim (load_or_write (operation_at ops x).kind a.uses) [
          | inl load ↦ elim (load_or_write (operation_at ops y).kind b.uses) [
            | inl other ↦ (let r = rest_is x load in
                let s = rest_is y other in
                up_rest x y a.low (load_load x y a.low b.low own load other same) (omega (arith, r, s, before)))
            | inr write ↦ up x y a.low (load_write x y a.low b.low own load write same)
          ]
          | inr write ↦ elim (load_or_write (operation_at ops y).kind b.uses) [
            | inl load ↦ (let r = rest_none x write in
                let s = rest_is y load in
                up_rest x y a.low (write_load x y a.low b.low own write load same) (omega (arith, r, s)))
            | inr other ↦ up x y a.low (write_write x y a.low b.low own write other same)
          ]
        ]

    read_on : (x : ℕ) → IsOnWord ops word x → is_load (operation_at ops x).kind ≡ true → by_place ops (source x) < by_place ops x
    read_on x a load =
        let s : IsSource ops writes x (source x) = source_is words ops writes x t a.low load in
        let at : place (source x) ≡ place x = s.place in
        let r = rest_none (source x) s.write in
        let q = rest_is x load in
        up_rest (source x) x s.low (omega (arith, at)) (omega (arith, r, q))

    last_on : (x w : ℕ) → IsOnWord ops word x → IsOnWord ops word w → is_load (operation_at ops x).kind ≡ true → is_write (operation_at ops w).kind ≡ true
        → by_place ops w < by_place ops x → (w ≡ source x) ⊎ (by_place ops w < by_place ops (source x))
    last_on x w a b load write less =
        let s : IsSource ops writes x (source x) = source_is words ops writes x t a.low load in
        let at : place (source x) ≡ place x = s.place in
        elim (cases_order (place w) (place x)) [
          | inl same ↦ inl (one_write w (source x) b.low s.low write s.write (omega (arith, at, same)))
          | inr (inl under) ↦ inr (up w (source x) b.low (omega (arith, at, under)))
          | inr (inr more) ↦ (let back = up x w a.low more in absurd (omega (arith, back, less)))
        ]

    sequential_on : IsSequentialOn word ops writes (by_place ops)
    sequential_on = record {
      apart = apart_on;
      program = program_on;
      word_order = λ x y a b first second less. up x y a.low less;
      read = read_on;
      last = last_on;
    }

  pub is_coherent : IsMemoryOrder coherent ops writes (merged words ops (λ word. by_place ops))
  is_coherent = sequential_on_is_coherent words ops writes (λ word. by_place ops) t sequential_on
