-- A run of a machine with buffers of stores is an order of its model.
use Rattle.std.proofs.Common.{◌≡◌, ◌⊎◌, inl, inr, ℕ, zero, suc, ◌<◌, ◌≤◌, true, List, length, refl, sym, ◌∙◌, ap, subst, arith}
use Rattle.std.specs.Prelude.{slice_index}
use Rattle.std.proofs.lemmas.Bool.{cases_lt, cases_eq}
use Rattle.memory_models.specs.declared.kinds.Kind.{Kind}
use Rattle.memory_models.specs.declared.kinds.Kind.TheVariants.{Load, Store, Atomic, Fence}
use Rattle.memory_models.specs.declared.kinds.Operation.{Operation}
use Rattle.memory_models.specs.Trace.{is_load, is_write, uses_word, operation_at, IsOwn, AreOnOne, IsMemoryTrace, source_at}
use Rattle.memory_models.specs.Order.{IsMemoryOrder}
use Rattle.memory_models.specs.declared.kinds.Rule.{Rule}
use Rattle.memory_models.specs.Machines.{effect_time, effect_at, IsBuffered}
use Rattle.memory_models.proofs.Orders.{load_uses}
use Rattle.memory_models.proofs.ByKind.{is_store, load_is, write_is}
use Rattle.memory_models.proofs.RunBy.{IsKept, IsRunBy}

-- when an operation takes effect
pub data Takes (made left : ℕ → ℕ) (k : Kind) (x : ℕ) : Type 0 where
  later : k ≡ Store → effect_time made left k x ≡ left x → Takes made left k x
  at_once : (k ≡ Store → ⊥) → effect_time made left k x ≡ made x → Takes made left k x

pub takes : (made left : ℕ → ℕ) (k : Kind) (x : ℕ) → Takes made left k x
takes made left Load x = at_once (λ e. cc) refl
takes made left Store x = later refl refl
takes made left Atomic x = at_once (λ e. cc) refl
takes made left Fence x = at_once (λ e. cc) refl

-- a store of the load's processor before it on its word
pub record IsStoreOn (ops : List Operation) (s x : ℕ) : Type 0 where
  pub store : (operation_at ops s).kind ≡ Store
  pub own : IsOwn ops s x
  pub word : (operation_at ops s).word ≡ (operation_at ops x).word

pub store_on : (ops : List Operation) (s x : ℕ) → IsStoreOn ops s x ⊎ (IsStoreOn ops s x → ⊥)
store_on ops s x = elim (is_store (operation_at ops s).kind) [
  | inl store ↦ elim (cases_eq (operation_at ops s).processor (operation_at ops x).processor) [
    | inl same ↦ elim (cases_lt s x) [
      | inl less ↦ elim (cases_eq (operation_at ops s).word (operation_at ops x).word) [
        | inl word ↦ inl (record { store = store; own = record { processor = same; before = less }; word = word })
        | inr other ↦ inr (λ i. other i.word)
      ]
      | inr more ↦ inr (λ i. let l = i.own.before in absurd (omega arith))
    ]
    | inr other ↦ inr (λ i. other i.own.processor)
  ]
  | inr other ↦ inr (λ i. other i.store)
]

-- the last one of them, or none
pub data LastStore (ops : List Operation) (x n : ℕ) : Type 0 where
  is_last : (s : ℕ) → IsStoreOn ops s x → ((r : ℕ) → r < n → IsStoreOn ops r x → r ≤ s) → LastStore ops x n
  is_none : ((r : ℕ) → r < n → IsStoreOn ops r x → ⊥) → LastStore ops x n

pub last_store : (ops : List Operation) (x n : ℕ) → LastStore ops x n
last_store ops x zero = is_none (λ r l. absurd (omega arith))
last_store ops x (suc n) = elim (store_on ops n x) [
  | inl is ↦ is_last n is (λ r l i. omega arith)
  | inr other ↦ elim (last_store ops x n) [
    | is_last s is most ↦ is_last s is (λ r l i. elim (cases_eq r n) [
      | inl same ↦ absurd (other (subst (λ z. IsStoreOn ops z x) same i))
      | inr apart ↦ most r (omega arith) i
    ])
    | is_none none ↦ is_none (λ r l i. elim (cases_eq r n) [
      | inl same ↦ other (subst (λ z. IsStoreOn ops z x) same i)
      | inr apart ↦ none r (omega arith) i
    ])
  ]
]

-- a load finds a store in the buffer, or all of them have left it
pub data Finds (ops : List Operation) (made left : ℕ → ℕ) (x : ℕ) : Type 0 where
  in_buffer : (s : ℕ) → IsBuffered ops made left s x → Finds ops made left x
  in_memory : ((s : ℕ) → IsBuffered ops made left s x → ⊥) → ((s : ℕ) → IsStoreOn ops s x → left s < made x) → Finds ops made left x

pub finds : (Keeps : ℕ → ℕ → Type 0) (ops : List Operation) (writes : List ℕ) (made left : ℕ → ℕ) (x : ℕ)
    → ((x y : ℕ) → (operation_at ops x).word ≡ (operation_at ops y).word → Keeps x y) → IsRunBy Keeps ops writes made left → x < length ops
    → Finds ops made left x
finds Keeps ops writes made left x on_word run low = elim (last_store ops x x) [
  | is_none none ↦ in_memory
      (λ s b. none s b.own.before (record { store = b.store; own = b.own; word = b.word }))
      (λ s i. absurd (none s i.own.before i))
  | is_last s is most ↦ elim (cases_lt (made x) (left s)) [
    | inl waits ↦ in_buffer s (record {
      store = is.store;
      own = is.own;
      word = is.word;
      waits = waits;
      newest = λ r store own word. most r own.before (record { store = store; own = own; word = word });
    })
    | inr gone ↦ (let before = is.own.before in
        let s_low : s < length ops = omega arith in
        let less : left s < made x = elim (cases_eq (made x) (left s)) [
          | inl same ↦ absurd (run.both_apart x s low s_low is.store same)
          | inr other ↦ omega arith
        ] in
        let all : (r : ℕ) → IsStoreOn ops r x → left r < made x =
        λ r i. (let behind = most r i.own.before i in elim (cases_eq r s) [
          | inl same ↦ subst (λ z. left z < made x) (sym same) less
          | inr other ↦ (let out = run.first_out r s s_low (record { processor = i.own.processor ∙ sym is.own.processor; before = omega arith }) i.store is.store (on_word r s (i.word ∙ sym is.word)) in
              omega arith)
        ]) in
        in_memory
        (λ r b. (let l = all r (record { store = b.store; own = b.own; word = b.word }) in let w = b.waits in absurd (omega arith)))
        all)
  ]
]

pub load_takes : (ops : List Operation) (made left : ℕ → ℕ) (x : ℕ) → is_load (operation_at ops x).kind ≡ true → effect_at ops made left x ≡ made x
load_takes ops made left x load = ap (λ k. effect_time made left k x) (load_is (operation_at ops x).kind load)

store_takes : (ops : List Operation) (made left : ℕ → ℕ) (x : ℕ) → (operation_at ops x).kind ≡ Store → effect_at ops made left x ≡ left x
store_takes ops made left x e = ap (λ k. effect_time made left k x) e

atomic_takes : (ops : List Operation) (made left : ℕ → ℕ) (x : ℕ) → (operation_at ops x).kind ≡ Atomic → effect_at ops made left x ≡ made x
atomic_takes ops made left x e = ap (λ k. effect_time made left k x) e

-- the write that a load read, as an operation
pub record IsSource (ops : List Operation) (writes : List ℕ) (x s : ℕ) : Type 0 where
  pub low : s < length ops
  pub write : is_write (operation_at ops s).kind ≡ true
  pub place : (operation_at ops s).place ≡ (operation_at ops x).place
  pub word : (operation_at ops s).word ≡ (operation_at ops x).word

write_uses_word : (k : Kind) → is_write k ≡ true → uses_word k ≡ true
write_uses_word Load e = cc
write_uses_word Store e = refl
write_uses_word Atomic e = refl
write_uses_word Fence e = cc

pub source_is : (words : ℕ) (ops : List Operation) (writes : List ℕ) (x : ℕ) → IsMemoryTrace words ops writes → x < length ops
    → is_load (operation_at ops x).kind ≡ true → IsSource ops writes x (source_at ops writes x)
source_is words ops writes x t low load =
    let uses = load_uses (operation_at ops x).kind load in
    let inside = t.place x low uses in
    record {
      low = t.low (operation_at ops x).place inside;
      write = t.writes_are (operation_at ops x).place inside;
      place = t.places (operation_at ops x).place inside;
      word = t.source x low uses;
    }

pub both_on : (ops : List Operation) (s w : ℕ) → is_write (operation_at ops s).kind ≡ true → is_write (operation_at ops w).kind ≡ true
    → (operation_at ops s).word ≡ (operation_at ops w).word → AreOnOne ops s w
both_on ops s w first second word = record { first = write_uses_word (operation_at ops s).kind first; second = write_uses_word (operation_at ops w).kind second; word = word }

-- each run is an order
pub run_by_is_order : (rules : List Rule) (Keeps : ℕ → ℕ → Type 0) (words : ℕ) (ops : List Operation) (writes : List ℕ) (made left : ℕ → ℕ)
    → IsKept rules ops Keeps → IsMemoryTrace words ops writes → IsRunBy Keeps ops writes made left
    → IsMemoryOrder rules ops writes (effect_at ops made left)
run_by_is_order rules Keeps words ops writes made left keeps t run = record {
  apart = apart;
  program = λ x y low kept. (let p = keeps.kept x y kept in program x y low p.0 p.1);
  word_order = run.word_order;
  source = source;
  newest = newest;
}
  where
    turn : ℕ → ℕ
    turn = effect_at ops made left

    apart : (x y : ℕ) → x < length ops → y < length ops → effect_at ops made left x ≡ effect_at ops made left y → x ≡ y
    apart x y low high e = elim (takes made left (operation_at ops x).kind x) [
      | later store a ↦ elim (takes made left (operation_at ops y).kind y) [
        | later other b ↦ run.left_apart x y low high store other (sym a ∙ (e ∙ b))
        | at_once other b ↦ absurd (run.both_apart y x high low store (sym b ∙ (sym e ∙ a)))
      ]
      | at_once not_one a ↦ elim (takes made left (operation_at ops y).kind y) [
        | later other b ↦ absurd (run.both_apart x y low high other (sym a ∙ (e ∙ b)))
        | at_once other b ↦ run.made_apart x y low high (sym a ∙ (e ∙ b))
      ]
    ]

    not_load_is : (k : Kind) → (k ≡ Load → ⊥) → (k ≡ Store → ⊥) → (k ≡ Atomic) ⊎ (k ≡ Fence)
    not_load_is Load f g = absurd (f refl)
    not_load_is Store f g = absurd (g refl)
    not_load_is Atomic f g = inl refl
    not_load_is Fence f g = inr refl

    program : (x y : ℕ) → y < length ops → IsOwn ops x y → (((operation_at ops x).kind ≡ Store → ⊥) ⊎ (((operation_at ops y).kind ≡ Load → ⊥) × Keeps x y))
        → effect_at ops made left x < effect_at ops made left y
    program x y low own kept = elim (takes made left (operation_at ops x).kind x) [
      | later store a ↦ elim (takes made left (operation_at ops y).kind y) [
        | later other b ↦ elim kept [
          | inl isnt ↦ absurd (isnt store)
          | inr both ↦ let out = run.first_out x y low own store other both.1 in omega (arith, a, b, out)
        ]
        | at_once other b ↦ elim kept [
          | inl isnt ↦ absurd (isnt store)
          | inr both ↦ let out = run.drained x y low own store (not_load_is (operation_at ops y).kind both.0 other) both.1 in omega (arith, a, b, out)
        ]
      ]
      | at_once not_one a ↦ (let first = run.program x y low own in elim (takes made left (operation_at ops y).kind y) [
        | later other b ↦ let waits = run.waits y low other in omega (arith, a, b, first, waits)
        | at_once other b ↦ omega (arith, a, b, first)
      ])
    ]

    source : (x : ℕ) → x < length ops → is_load (operation_at ops x).kind ≡ true
        → (effect_at ops made left (slice_index writes (operation_at ops x).place) < effect_at ops made left x)
        ⊎ IsOwn ops (slice_index writes (operation_at ops x).place) x
    source x low load = elim (finds Keeps ops writes made left x keeps.same run low) [
      | in_buffer s b ↦ inr (subst (λ z. IsOwn ops z x) (sym (run.forwarded x s low load b)) b.own)
      | in_memory none all ↦ (let r = run.read x low load none in
          let e = load_takes ops made left x load in
          inl (omega (arith, r, e)))
    ]

    newest : (x w : ℕ) → x < length ops → w < length ops → is_load (operation_at ops x).kind ≡ true → is_write (operation_at ops w).kind ≡ true
        → AreOnOne ops x w → (operation_at ops x).place < (operation_at ops w).place
        → (effect_at ops made left x < effect_at ops made left w) × (IsOwn ops w x → ⊥)
    newest x w low high load write one less =
        let src : ℕ = source_at ops writes x in
        let s = source_is words ops writes x t low load in
        let place = s.place in
        let e = load_takes ops made left x load in
        let up = run.word_order src w s.low high s.write write (both_on ops src w s.write write (s.word ∙ one.word)) (omega (arith, place, less)) in
        elim (finds Keeps ops writes made left x keeps.same run low) [
          | in_buffer b is ↦ (let same : src ≡ b = run.forwarded x b low load is in
              let b_at : effect_at ops made left src ≡ left b = ap (effect_at ops made left) same ∙ store_takes ops made left b is.store in
              let waits = is.waits in
              let b_place : (operation_at ops b).place ≡ (operation_at ops x).place = ap (λ z. (operation_at ops z).place) (sym same) ∙ place in
              let b_low : b < length ops = subst (λ z. z < length ops) same s.low in (
                omega (arith, up, b_at, waits, e),
                λ own. elim (write_is (operation_at ops w).kind write) [
                  | inl store ↦ (let behind = is.newest w store own (sym one.word) in
                      let w_at = store_takes ops made left w store in
                      elim (cases_eq w b) [
                        | inl eq ↦ (let bad : (operation_at ops w).place ≡ (operation_at ops b).place = ap (λ z. (operation_at ops z).place) eq in absurd (omega (arith, bad, b_place, less)))
                        | inr differ ↦ (let out = run.first_out w b b_low (record { processor = own.processor ∙ sym is.own.processor; before = omega arith }) store is.store
                            (keeps.same w b (sym one.word ∙ sym is.word)) in
                            absurd (omega (arith, out, up, b_at, w_at)))
                      ])
                  | inr atomic ↦ (let w_at = atomic_takes ops made left w atomic in
                      elim (cases_lt w b) [
                        | inl before ↦ (let first = run.program w b b_low (record { processor = own.processor ∙ sym is.own.processor; before = before }) in
                            let wait = run.waits b b_low is.store in
                            absurd (omega (arith, first, wait, up, b_at, w_at)))
                        | inr behind ↦ elim (cases_eq w b) [
                          | inl eq ↦ (let bad : Atomic ≡ Store = sym atomic ∙ (ap (λ z. (operation_at ops z).kind) eq ∙ is.store) in cc)
                          | inr differ ↦ (let out = run.drained b w high (record { processor = is.own.processor ∙ sym own.processor; before = omega arith }) is.store (inl atomic)
                              (keeps.same b w (is.word ∙ one.word)) in
                              let first = run.program w x low own in
                              absurd (omega (arith, out, first, waits)))
                        ]
                      ])
                ],
              ))
          | in_memory none all ↦ (let later : made x < effect_at ops made left w = elim (cases_lt (effect_at ops made left w) (made x)) [
            | inl before ↦ elim (run.last x w low high load none write one before) [
              | inl eq ↦ (let bad : (operation_at ops w).place ≡ (operation_at ops src).place = ap (λ z. (operation_at ops z).place) eq in absurd (omega (arith, bad, place, less)))
              | inr down ↦ absurd (omega (arith, down, up))
            ]
            | inr behind ↦ elim (cases_eq (made x) (effect_at ops made left w)) [
              | inl eq ↦ (let same : x ≡ w = apart x w low high (e ∙ eq) in
                  let bad : (operation_at ops x).place ≡ (operation_at ops w).place = ap (λ z. (operation_at ops z).place) same in absurd (omega (arith, bad, less)))
              | inr other ↦ omega (arith, behind, other)
            ]
          ] in (
            omega (arith, later, e),
            λ own. elim (write_is (operation_at ops w).kind write) [
              | inl store ↦ (let gone = all w (record { store = store; own = own; word = sym one.word }) in
                  let w_at = store_takes ops made left w store in
                  absurd (omega (arith, gone, w_at, later)))
              | inr atomic ↦ (let first = run.program w x low own in
                  let w_at = atomic_takes ops made left w atomic in
                  absurd (omega (arith, first, w_at, later)))
            ],
          ))
        ]
