-- Fences put between the operations of an order of the others: behind the last one before them in their program.
use Rattle.std.proofs.Common.{◌≡◌, ◌⊎◌, inl, inr, ℕ, zero, suc, ◌+◌, ◌*◌, ◌<◌, ◌≤◌, Bool, true, false, List, length, refl, sym, ◌∙◌, ap, subst, arith}
use Rattle.std.proofs.lemmas.Bool.{cases_lt, cases_eq, cases_Bool}
use Rattle.memory_models.specs.declared.kinds.Kind.TheVariants.{Fence}
use Rattle.memory_models.specs.declared.kinds.Operation.{Operation}
use Rattle.memory_models.specs.declared.kinds.Rule.{Rule}
use Rattle.memory_models.specs.Trace.{uses_word, operation_at, source_at, IsOwn, IsMemoryTrace}
use Rattle.memory_models.specs.Order.{IsMemoryOrder, KeepsOrder}
use Rattle.memory_models.proofs.Blocks.{block, same_rest}
use Rattle.memory_models.proofs.Orders.{load_uses}
use Rattle.memory_models.proofs.Runs.{source_is}
use Rattle.weak_models.specs.Order.{IsOrderKeeping}
use Rattle.weak_models.proofs.Excluded.{write_is_word, no_word}

-- an operation of y's processor before it that has a word
record IsWordOwn (ops : List Operation) (x y : ℕ) : Type 0 where
  own : IsOwn ops x y
  uses : uses_word (operation_at ops x).kind ≡ true

word_own : (ops : List Operation) (x y : ℕ) → IsWordOwn ops x y ⊎ (IsWordOwn ops x y → ⊥)
word_own ops x y = elim (cases_eq (operation_at ops x).processor (operation_at ops y).processor) [
  | inl same ↦ elim (cases_lt x y) [
    | inl less ↦ elim (cases_Bool (uses_word (operation_at ops x).kind)) [
      | inl uses ↦ inl (record { own = record { processor = same; before = less }; uses = uses })
      | inr none ↦ inr (λ i. (let uses = i.uses in cc))
    ]
    | inr more ↦ inr (λ i. let l = i.own.before in absurd (omega arith))
  ]
  | inr other ↦ inr (λ i. other i.own.processor)
]

-- the number behind the turns of those among the first n
record Behind (ops : List Operation) (turn : ℕ → ℕ) (m n : ℕ) : Type 0 where
  number : ℕ
  above : (x : ℕ) → x < n → IsWordOwn ops x m → turn x < number
  least : (b : ℕ) → ((x : ℕ) → x < n → IsWordOwn ops x m → turn x < b) → number ≤ b

behind : (ops : List Operation) (turn : ℕ → ℕ) (m n : ℕ) → Behind ops turn m n
behind ops turn m zero = record { number = 0; above = λ x l i. absurd (omega arith); least = λ b h. omega arith }
behind ops turn m (suc n) =
    let rest = behind ops turn m n in
    elim (word_own ops n m) [
      | inl is ↦ elim (cases_lt (turn n) rest.number) [
        | inl less ↦ record {
          number = rest.number;
          above = λ x l i. elim (cases_eq x n) [
            | inl same ↦ subst (λ z. turn z < rest.number) (sym same) less
            | inr apart ↦ rest.above x (omega arith) i
          ];
          least = λ b h. rest.least b (λ x l i. h x (omega arith) i);
        }
        | inr more ↦ record {
          number = turn n + 1;
          above = λ x l i. elim (cases_eq x n) [
            | inl same ↦ (let e : turn x ≡ turn n = ap turn same in omega (arith, e))
            | inr apart ↦ (let up = rest.above x (omega arith) i in omega (arith, up, more))
          ];
          least = λ b h. (let up = h n (omega arith) is in omega (arith, up));
        }
      ]
      | inr other ↦ record {
        number = rest.number;
        above = λ x l i. elim (cases_eq x n) [
          | inl same ↦ absurd (other (subst (λ z. IsWordOwn ops z m) same i))
          | inr apart ↦ rest.above x (omega arith) i
        ];
        least = λ b h. rest.least b (λ x l i. h x (omega arith) i);
      }
    ]

-- the turn of an operation, by whether it has a word
abbrev level : Bool → ℕ → ℕ → ℕ
level true turn number = turn + 1
level false turn number = number

abbrev rest : Bool → ℕ → ℕ
rest true x = 0
rest false x = 1 + x

at : (ops : List Operation) (turn : ℕ → ℕ) (x : ℕ) → Behind ops turn x x
at ops turn x = behind ops turn x x

abbrev level_of : List Operation → (ℕ → ℕ) → ℕ → ℕ
level_of ops turn x = level (uses_word (operation_at ops x).kind) (turn x) (at ops turn x).number

abbrev rest_of : List Operation → ℕ → ℕ
rest_of ops x = rest (uses_word (operation_at ops x).kind) x

abbrev placed : List Operation → (ℕ → ℕ) → ℕ → ℕ
placed ops turn x = (length ops + 2) * level_of ops turn x + rest_of ops x

-- what it is made of
data Makes (uses : Bool) (turn number x : ℕ) : Type 0 where
  of_word : uses ≡ true → level uses turn number ≡ turn + 1 → rest uses x ≡ 0 → Makes uses turn number x
  of_fence : (uses ≡ true → ⊥) → level uses turn number ≡ number → rest uses x ≡ 1 + x → Makes uses turn number x

makes : (uses : Bool) (turn number x : ℕ) → Makes uses turn number x
makes true turn number x = of_word refl refl refl
makes false turn number x = of_fence (λ e. cc) refl refl

module _ (ops : List Operation) (turn : ℕ → ℕ) where
  makes_at : (x : ℕ) → Makes (uses_word (operation_at ops x).kind) (turn x) (at ops turn x).number x
  makes_at x = makes (uses_word (operation_at ops x).kind) (turn x) (at ops turn x).number x

  rest_low : (x : ℕ) → x < length ops → rest_of ops x < length ops + 2
  rest_low x low = elim (makes_at x) [
    | of_word u l r ↦ omega (arith, r)
    | of_fence u l r ↦ omega (arith, r, low)
  ]

  up : (x y : ℕ) → x < length ops → level_of ops turn x < level_of ops turn y → placed ops turn x < placed ops turn y
  up x y low less =
      let b = block (length ops + 2) (level_of ops turn x) (level_of ops turn y) (rest_of ops x) (rest_low x low) less in
      omega (arith, b)

  up_rest : (x y : ℕ) → x < length ops → level_of ops turn x ≤ level_of ops turn y → rest_of ops x < rest_of ops y
      → placed ops turn x < placed ops turn y
  up_rest x y low less more = elim (cases_eq (level_of ops turn x) (level_of ops turn y)) [
    | inl same ↦ (let e : (length ops + 2) * level_of ops turn x ≡ (length ops + 2) * level_of ops turn y = ap (λ z. (length ops + 2) * z) same in
        omega (arith, e, more))
    | inr other ↦ up x y low (omega (arith, less, other))
  ]

  level_word : (x : ℕ) → uses_word (operation_at ops x).kind ≡ true → level_of ops turn x ≡ turn x + 1
  level_word x uses = elim (makes_at x) [
    | of_word u l r ↦ l
    | of_fence u l r ↦ absurd (u uses)
  ]

  -- operations on words have the turns that they had
  word_up : (x y : ℕ) → x < length ops → uses_word (operation_at ops x).kind ≡ true → uses_word (operation_at ops y).kind ≡ true
      → turn x < turn y → placed ops turn x < placed ops turn y
  word_up x y low first second less =
      let a = level_word x first in
      let b = level_word y second in
      up x y low (omega (arith, a, b, less))

  apart_placed : ((x y : ℕ) → x < length ops → y < length ops → turn x ≡ turn y → x ≡ y) → (x y : ℕ) → x < length ops → y < length ops
      → placed ops turn x ≡ placed ops turn y → x ≡ y
  apart_placed apart x y low high e =
      let same = same_rest (length ops + 2) (level_of ops turn x) (level_of ops turn y) (rest_of ops x) (rest_of ops y) (rest_low x low) (rest_low y high) e in
      elim (makes_at x) [
        | of_word u l r ↦ elim (makes_at y) [
          | of_word v k s ↦ elim (cases_lt (turn x) (turn y)) [
            | inl less ↦ (let w = word_up x y low u v less in absurd (omega (arith, w, e)))
            | inr more ↦ elim (cases_eq (turn x) (turn y)) [
              | inl one ↦ apart x y low high one
              | inr other ↦ (let w = word_up y x high v u (omega (arith, more, other)) in absurd (omega (arith, w, e)))
            ]
          ]
          | of_fence v k s ↦ absurd (omega (arith, r, s, same))
        ]
        | of_fence u l r ↦ elim (makes_at y) [
          | of_word v k s ↦ absurd (omega (arith, r, s, same))
          | of_fence v k s ↦ omega (arith, r, s, same)
        ]
      ]

  -- where program order is kept across fences, it is with them in their places
  module _ (cross : (x m y : ℕ) → y < length ops → IsOwn ops x m → IsOwn ops m y → (operation_at ops m).kind ≡ Fence
      → uses_word (operation_at ops x).kind ≡ true → uses_word (operation_at ops y).kind ≡ true → turn x < turn y) where
    own_up : (x y : ℕ) → y < length ops → IsOwn ops x y
        → (uses_word (operation_at ops x).kind ≡ true → uses_word (operation_at ops y).kind ≡ true → turn x < turn y)
        → placed ops turn x < placed ops turn y
    own_up x y high own words =
        let before = own.before in
        let low : x < length ops = omega (arith, before, high) in
        elim (makes_at x) [
          | of_word u l r ↦ elim (makes_at y) [
            | of_word v k s ↦ word_up x y low u v (words u v)
            | of_fence v k s ↦ (let a = (at ops turn y).above x before (record { own = own; uses = u }) in
                up_rest x y low (omega (arith, l, k, a)) (omega (arith, r, s)))
          ]
          | of_fence u l r ↦ elim (makes_at y) [
            | of_word v k s ↦ (let a = (at ops turn x).least (turn y) (λ z less i. cross z x y high i.own own (no_word (operation_at ops x).kind u) i.uses v) in
                up x y low (omega (arith, l, k, a)))
            | of_fence v k s ↦ (let a = (at ops turn x).least (at ops turn y).number (λ z less i. (at ops turn y).above z (omega (arith, less, before))
                (record { own = record { processor = i.own.processor ∙ own.processor; before = omega (arith, less, before) }; uses = i.uses })) in
                up_rest x y low (omega (arith, l, k, a)) (omega (arith, r, s, before)))
          ]
        ]

own_of : (rules : List Rule) (ops : List Operation) (x y : ℕ) → KeepsOrder rules ops x y → IsOwn ops x y
own_of rules ops x y (inl k) = k.2.own
own_of rules ops x y (inr a) = a.own

-- operations on words that rise in one order rise in another
abbrev pub AreRisenOnWords : List Operation → (ℕ → ℕ) → (ℕ → ℕ) → Type 0
AreRisenOnWords ops turn new =
    (x y : ℕ) → x < length ops → uses_word (operation_at ops x).kind ≡ true → uses_word (operation_at ops y).kind ≡ true
    → turn x < turn y → new x < new y

-- an order of operations on words is one with fences, of a model that keeps no more of the others
pub placed_order : (words : ℕ) (keeps : ℕ → ℕ → Type 0) (rules : List Rule) (ops : List Operation) (writes : List ℕ) (turn : ℕ → ℕ)
    → IsMemoryTrace words ops writes → IsOrderKeeping keeps ops writes turn
    → ((x y : ℕ) → y < length ops → KeepsOrder rules ops x y → uses_word (operation_at ops x).kind ≡ true → uses_word (operation_at ops y).kind ≡ true
    → turn x < turn y)
    → ((x m y : ℕ) → y < length ops → IsOwn ops x m → IsOwn ops m y → (operation_at ops m).kind ≡ Fence
    → uses_word (operation_at ops x).kind ≡ true → uses_word (operation_at ops y).kind ≡ true → turn x < turn y)
    → (new : ℕ → ℕ) × IsMemoryOrder rules ops writes new × AreRisenOnWords ops turn new
placed_order words keeps rules ops writes turn t o kept cross = (
  placed ops turn,
  record {
    apart = apart_placed ops turn o.apart;
    program = λ x y high k. own_up ops turn cross x y high (own_of rules ops x y k) (kept x y high k);
    word_order = λ x y low high first second one less. word_up ops turn x y low one.first one.second (o.word_order x y low high first second one less);
    source = λ x low load. (let s = source_is words ops writes x t low load in
        elim (o.source x low load) [
          | inl less ↦ inl (word_up ops turn (source_at ops writes x) x s.low (write_is_word (operation_at ops (source_at ops writes x)).kind s.write)
              (load_uses (operation_at ops x).kind load) less)
          | inr own ↦ inr own
        ]);
    newest = λ x w low high load write one less. (let n = o.newest x w low high load write one less in
        (word_up ops turn x w low one.first one.second n.0, n.1));
  },
  word_up ops turn,
)
