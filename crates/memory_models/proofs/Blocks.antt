-- Times at which operations are made and stores leave their buffers, in blocks by the turns of an order.
use Rattle.std.proofs.Common.{◌≡◌, ◌⊎◌, inl, inr, ℕ, zero, suc, ◌+◌, ◌-◌, ◌*◌, ◌<◌, List, length, refl, sym, ◌∙◌, ap, subst, arith}
use Rattle.std.proofs.lemmas.Bool.{cases_lt, cases_eq}
use Rattle.memory_models.specs.declared.kinds.Kind.{Kind}
use Rattle.memory_models.specs.declared.kinds.Kind.TheVariants.{Load, Store, Atomic, Fence}
use Rattle.memory_models.specs.declared.kinds.Operation.{Operation}
use Rattle.memory_models.specs.Trace.{operation_at, IsOwn}
use Rattle.memory_models.specs.Machines.{effect_at}
use Rattle.memory_models.proofs.Runs.{later, at_once, takes}
use Rattle.memory_models.proofs.ByKind.{is_store}

-- numbers in blocks
pub times_more : (m a k : ℕ) → m * (a + 1 + k) ≡ m * a + m + m * k
times_more m a k = grind arith

pub block : (m a b r : ℕ) → r < m → a < b → m * a + r < m * b
block m a b r low less =
    let k : ℕ = b - (a + 1) in
    let e : b ≡ a + 1 + k = omega arith in
    let more : m * b ≡ m * a + m + m * k = ap (λ z. m * z) e ∙ times_more m a k in
    omega arith

-- an operation of y's processor before it that isn't a store
pub record IsOther (ops : List Operation) (x y : ℕ) : Type 0 where
  pub own : IsOwn ops x y
  pub other : (operation_at ops x).kind ≡ Store → ⊥

pub other_own : (ops : List Operation) (x y : ℕ) → IsOther ops x y ⊎ (IsOther ops x y → ⊥)
other_own ops x y = elim (is_store (operation_at ops x).kind) [
  | inl store ↦ inr (λ i. i.other store)
  | inr other ↦ elim (cases_eq (operation_at ops x).processor (operation_at ops y).processor) [
    | inl same ↦ elim (cases_lt x y) [
      | inl less ↦ inl (record { own = record { processor = same; before = less }; other = other })
      | inr more ↦ inr (λ i. let l = i.own.before in absurd (omega arith))
    ]
    | inr apart ↦ inr (λ i. apart i.own.processor)
  ]
]

-- the number behind the turns of all those below k
pub record IsBase (ops : List Operation) (turn : ℕ → ℕ) (y k b : ℕ) : Type 0 where
  pub over : (x : ℕ) → x < k → IsOther ops x y → turn x < b
  pub from : (b ≡ 0) ⊎ ((x : ℕ) × IsOther ops x y × (b ≡ turn x + 1))

pub base_to : (ops : List Operation) (turn : ℕ → ℕ) (y k : ℕ) → (b : ℕ) × IsBase ops turn y k b
base_to ops turn y zero = (0, record { over = λ x l i. absurd (omega arith); from = inl refl })
base_to ops turn y (suc k) =
    let rest = base_to ops turn y k in
    elim (other_own ops k y) [
      | inl is ↦ elim (cases_lt (turn k) rest.0) [
        | inl less ↦ (
          rest.0,
          record {
            over = λ x l i. elim (cases_eq x k) [
              | inl same ↦ subst (λ z. turn z < rest.0) (sym same) less
              | inr apart ↦ rest.1.over x (omega arith) i
            ];
            from = rest.1.from;
          },
        )
        | inr more ↦ (
          turn k + 1,
          record {
            over = λ x l i. elim (cases_eq x k) [
              | inl same ↦ (let e : turn x ≡ turn k = ap turn same in omega arith)
              | inr apart ↦ let low = rest.1.over x (omega arith) i in omega arith
            ];
            from = inr (k, is, refl);
          },
        )
      ]
      | inr isnt ↦ (
        rest.0,
        record {
          over = λ x l i. elim (cases_eq x k) [
            | inl same ↦ absurd (isnt (subst (λ z. IsOther ops z y) same i))
            | inr apart ↦ rest.1.over x (omega arith) i
          ];
          from = rest.1.from;
        },
      )
    ]

abbrev pub base : List Operation → (ℕ → ℕ) → ℕ → ℕ
base ops turn y = (base_to ops turn y y).0

-- when operations are made: stores right behind what comes before them in their program; and when stores leave
abbrev pub block_size : List Operation → ℕ
block_size ops = length ops + 1

abbrev pub made_by : List Operation → (ℕ → ℕ) → Kind → ℕ → ℕ
made_by ops turn Load x = block_size ops * (turn x + 1)
made_by ops turn Store x = block_size ops * base ops turn x + (x + 1)
made_by ops turn Atomic x = block_size ops * (turn x + 1)
made_by ops turn Fence x = block_size ops * (turn x + 1)

abbrev pub made_at : List Operation → (ℕ → ℕ) → ℕ → ℕ
made_at ops turn x = made_by ops turn (operation_at ops x).kind x

abbrev pub left_at : List Operation → (ℕ → ℕ) → ℕ → ℕ
left_at ops turn x = block_size ops * (turn x + 1)

pub data Made (ops : List Operation) (turn : ℕ → ℕ) (k : Kind) (x : ℕ) : Type 0 where
  early : k ≡ Store → made_by ops turn k x ≡ block_size ops * base ops turn x + (x + 1) → Made ops turn k x
  in_turn : (k ≡ Store → ⊥) → made_by ops turn k x ≡ block_size ops * (turn x + 1) → Made ops turn k x

pub made_is : (ops : List Operation) (turn : ℕ → ℕ) (k : Kind) (x : ℕ) → Made ops turn k x
made_is ops turn Load x = in_turn (λ e. cc) refl
made_is ops turn Store x = early refl refl
made_is ops turn Atomic x = in_turn (λ e. cc) refl
made_is ops turn Fence x = in_turn (λ e. cc) refl

-- all take effect in their turn
pub effect_is : (ops : List Operation) (turn : ℕ → ℕ) (x : ℕ) → effect_at ops (made_at ops turn) (left_at ops turn) x ≡ block_size ops * (turn x + 1)
effect_is ops turn x = elim (takes (made_at ops turn) (left_at ops turn) (operation_at ops x).kind x) [
  | later store e ↦ e
  | at_once other e ↦ e ∙ elim (made_is ops turn (operation_at ops x).kind x) [
    | early store f ↦ absurd (other store)
    | in_turn isnt f ↦ f
  ]
]

-- blocks in their order
pub rise_block : (ops : List Operation) (turn : ℕ → ℕ) (x y : ℕ) → turn x < turn y → block_size ops * (turn x + 1) < block_size ops * (turn y + 1)
rise_block ops turn x y less =
    let b = block (length ops + 1) (turn x + 1) (turn y + 1) 0 (omega arith) (omega arith) in omega (arith, b)

pub block_rise : (ops : List Operation) (turn : ℕ → ℕ) (x y : ℕ) → block_size ops * (turn x + 1) < block_size ops * (turn y + 1) → turn x < turn y
block_rise ops turn x y less = elim (cases_lt (turn x) (turn y)) [
  | inl l ↦ l
  | inr more ↦ elim (cases_eq (turn x) (turn y)) [
    | inl same ↦ (let e : block_size ops * (turn x + 1) ≡ block_size ops * (turn y + 1) = ap (λ z. block_size ops * (z + 1)) same in absurd (omega (arith, e, less)))
    | inr other ↦ (let up = rise_block ops turn y x (omega arith) in absurd (omega (arith, up, less)))
  ]
]

pub block_same : (ops : List Operation) (turn : ℕ → ℕ) (x y : ℕ) → block_size ops * (turn x + 1) ≡ block_size ops * (turn y + 1) → turn x ≡ turn y
block_same ops turn x y same = elim (cases_lt (turn x) (turn y)) [
  | inl less ↦ (let up = rise_block ops turn x y less in absurd (omega (arith, up, same)))
  | inr more ↦ elim (cases_eq (turn x) (turn y)) [
    | inl e ↦ e
    | inr other ↦ (let up = rise_block ops turn y x (omega arith) in absurd (omega (arith, up, same)))
  ]
]

-- a number behind a block isn't at the front of one
pub not_front : (m a b r : ℕ) → r < m → 0 < r → m * a + r ≡ m * b → ⊥
not_front m a b r low some e = elim (cases_lt a b) [
  | inl less ↦ let up = block m a b r low less in omega (arith, up, e)
  | inr more ↦ elim (cases_eq a b) [
    | inl same ↦ (let f : m * a ≡ m * b = ap (λ z. m * z) same in omega (arith, f, e))
    | inr other ↦ (let up = block m b a 0 (omega arith) (omega arith) in omega (arith, up, e))
  ]
]

pub same_rest : (m a b r s : ℕ) → r < m → s < m → m * a + r ≡ m * b + s → r ≡ s
same_rest m a b r s low high e = elim (cases_lt a b) [
  | inl less ↦ let up = block m a b r low less in absurd (omega (arith, up, e))
  | inr more ↦ elim (cases_eq a b) [
    | inl same ↦ (let f : m * a ≡ m * b = ap (λ z. m * z) same in omega (arith, f, e))
    | inr other ↦ (let up = block m b a s high (omega arith) in absurd (omega (arith, up, e)))
  ]
]
