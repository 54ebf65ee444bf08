-- An order in which the replies follow is that of an explanation.
use Rattle.std.proofs.Common.{◌≡◌, ◌⊎◌, inl, inr, ℕ, ◌+◌, ◌<◌, ◌≤◌, true, false, List, length, refl, sym, ap, subst, ◌∙◌, arith}
use Rattle.std.specs.Prelude.{slice_index}
use Rattle.std.proofs.lemmas.Bool.{cases_eq, cases_lt}
use Rattle.memory_models.specs.declared.kinds.Kind.{Kind}
use Rattle.memory_models.specs.declared.kinds.Kind.TheVariants.{Load, Store, Atomic, Fence}
use Rattle.memory_models.specs.declared.kinds.Operation.{Operation}
use Rattle.memory_models.specs.declared.kinds.Rule.{Rule}
use Rattle.memory_models.specs.Order.{IsMemoryOrder}
use Rattle.memory_models.specs.Trace.{is_load, is_write, uses_word, operation_at, source_at, IsOwn, IsMemoryTrace}
use Rattle.memory_models.proofs.Lasts.{from_write}
use Rattle.memory_models.proofs.Orders.{load_uses}
use Rattle.model_values.specs.declared.valued.Valued.{Valued}
use Rattle.model_values.specs.Replies.{AreGrouped, CanSee, FindsNewest, IsReplyOrder}
use Rattle.model_values.specs.Unordered.{IsClosingOf}
use Rattle.model_values.specs.Values.{FindsAt, FindsBefore, IsValuedPlacing}
use Rattle.model_values.proofs.Explained.{IsLike, keeps_placed, kept_before, write_uses}
use Rattle.model_values.proofs.Laid.{AreWritten, IsLaid, laid, one_place, written_of}
use Rattle.model_values.proofs.Sorted.{chosen}

-- an order in which the replies follow, and all operations with their places by it
record IsOrdered (rules : List Rule) (v : Valued) (turn : ℕ → ℕ) (placed : List Operation) (writes : List ℕ) : Type 0 where
  pub order : IsReplyOrder rules v turn
  pub written : AreWritten v.operations.now turn writes
  pub size : length placed ≡ length v.operations.now
  pub each : (x : ℕ) → x < length v.operations.now → IsLaid v turn writes x (operation_at placed x)

place_of : List Operation → ℕ → ℕ
place_of placed x = (operation_at placed x).place

-- writes of one word stand in their turns
place_turn : (rules : List Rule) (v : Valued) (turn : ℕ → ℕ) (placed : List Operation) (writes : List ℕ) → IsOrdered rules v turn placed writes
    → (x y : ℕ) → x < length v.operations.now → y < length v.operations.now
    → is_write (operation_at v.operations.now x).kind ≡ true → is_write (operation_at v.operations.now y).kind ≡ true
    → (operation_at v.operations.now x).word ≡ (operation_at v.operations.now y).word
    → (operation_at placed x).place < (operation_at placed y).place → turn x < turn y
place_turn rules v turn placed writes e x y lx ly wx wy word less =
    let ex = (e.each x lx).write wx in
    let ey = (e.each y ly).write wy in
    let up = e.written.rise (operation_at placed x).place (operation_at placed y).place less
    ((e.each y ly).low (write_uses (operation_at v.operations.now y).kind wy))
    (ap (λ z. (operation_at v.operations.now z).word) ex ∙ (word ∙ ap (λ z. (operation_at v.operations.now z).word) (sym ey))) in
    let a = ap turn ex in
    let b = ap turn ey in
    omega (arith, up, a, b)

turn_place : (rules : List Rule) (v : Valued) (turn : ℕ → ℕ) (placed : List Operation) (writes : List ℕ) → IsOrdered rules v turn placed writes
    → (x y : ℕ) → x < length v.operations.now → y < length v.operations.now
    → is_write (operation_at v.operations.now x).kind ≡ true → is_write (operation_at v.operations.now y).kind ≡ true
    → (operation_at v.operations.now x).word ≡ (operation_at v.operations.now y).word
    → turn x < turn y → (operation_at placed x).place < (operation_at placed y).place
turn_place rules v turn placed writes e x y lx ly wx wy word less =
    elim (cases_lt (operation_at placed x).place (operation_at placed y).place) [
      | inl before ↦ before
      | inr not ↦ elim (cases_eq (operation_at placed x).place (operation_at placed y).place) [
        | inl same ↦ absurd (let one : x ≡ y = sym ((e.each x lx).write wx) ∙ (ap (λ z. slice_index writes z) same ∙ (e.each y ly).write wy) in
            let bad = ap turn one in omega (arith, bad, less))
        | inr other ↦ absurd (let back = place_turn rules v turn placed writes e y x ly lx wy wx (sym word) (omega (arith, not, other)) in
            omega (arith, back, less))
      ]
    ]

-- what is placed is the trace
source_word : (rules : List Rule) (v : Valued) (turn : ℕ → ℕ) (placed : List Operation) (writes : List ℕ) → IsOrdered rules v turn placed writes
    → (x : ℕ) → x < length v.operations.now → (kind : Kind) → (operation_at v.operations.now x).kind ≡ kind → uses_word kind ≡ true
    → (operation_at placed (source_at placed writes x)).word ≡ (operation_at placed x).word
source_word rules v turn placed writes e x lx Load is uses =
    let l = (e.each x lx).load (ap is_load is) in
    let f = l.0 in
    ap (λ z. (operation_at placed z).word) l.1 ∙ ((e.each f.newest f.left.low).word ∙ (f.left.word ∙ sym (e.each x lx).word))
source_word rules v turn placed writes e x lx Store is uses = ap (λ z. (operation_at placed z).word) ((e.each x lx).write (ap is_write is))
source_word rules v turn placed writes e x lx Atomic is uses = ap (λ z. (operation_at placed z).word) ((e.each x lx).write (ap is_write is))
source_word rules v turn placed writes e x lx Fence is uses = absurd (let bad : false ≡ true = uses in cc)

ordered_trace : (rules : List Rule) (v : Valued) (turn : ℕ → ℕ) (placed : List Operation) (writes : List ℕ) → AreGrouped v
    → IsOrdered rules v turn placed writes → IsMemoryTrace v.words placed writes
ordered_trace rules v turn placed writes groups e = record {
  processors = λ x y less ly. (let low = inside y ly in
      let a = (e.each x (omega (arith, less, low))).processor in let b = (e.each y low).processor in
      let c = groups.processors x y less low in omega (arith, a, b, c));
  word = λ x lx. (let a = (e.each x (inside x lx)).word in let b = groups.word x (inside x lx) in omega (arith, a, b));
  place = λ x lx uses. (e.each x (inside x lx)).low (subst (λ k. uses_word k ≡ true) (e.each x (inside x lx)).kind uses);
  source = λ x lx uses. source_word rules v turn placed writes e x (inside x lx) (operation_at placed x).kind (sym (e.each x (inside x lx)).kind) uses;
  written = λ x lx write. (e.each x (inside x lx)).write (subst (λ k. is_write k ≡ true) (e.each x (inside x lx)).kind write);
  low = λ p lp. subst (λ n. slice_index writes p < n) (sym e.size) (e.written.low p lp);
  writes_are = λ p lp. subst (λ k. is_write k ≡ true) (sym (at p lp).kind) (e.written.is p lp);
  places = λ p lp. one_place v.operations.now turn writes e.written (operation_at placed (slice_index writes p)).place p
      ((at p lp).low (write_uses (operation_at v.operations.now (slice_index writes p)).kind (e.written.is p lp))) lp ((at p lp).write (e.written.is p lp));
  ordered = λ p q less lq. (let a = (at p (omega (arith, less, lq))).word in let b = (at q lq).word in
      elim (cases_lt p q) [
        | inl more ↦ (let c = e.written.word p q more lq in omega (arith, a, b, c))
        | inr not ↦ (let same : p ≡ q = omega (arith, not, less) in
            let c = ap (λ z. (operation_at placed (slice_index writes z)).word) same in omega (arith, c))
      ]);
}
  where
    inside : (x : ℕ) → x < length placed → x < length v.operations.now
    inside x lx = subst (λ n. x < n) e.size lx

    at : (p : ℕ) → (lp : p < length writes) → IsLaid v turn writes (slice_index writes p) (operation_at placed (slice_index writes p))
    at p lp = e.each (slice_index writes p) (e.written.low p lp)

-- an atomic's newest write is before it
atomic_after : (rules : List Rule) (v : Valued) (turn : ℕ → ℕ) → IsReplyOrder rules v turn → (x s : ℕ) → x < length v.operations.now
    → s < length v.operations.now → is_write (operation_at v.operations.now x).kind ≡ true → is_write (operation_at v.operations.now s).kind ≡ true
    → (operation_at v.operations.now s).word ≡ (operation_at v.operations.now x).word → CanSee v.operations.now turn x s → turn s < turn x
atomic_after rules v turn order x s lx ls wx ws word (inl less) = less
atomic_after rules v turn order x s lx ls wx ws word (inr own) = order.program s x ls lx (inr (record {
  own = own;
  from = from_write (operation_at v.operations.now s).kind ws;
  to = from_write (operation_at v.operations.now x).kind wx;
  key = word;
}))

-- and just before it in its word's order
atomic_next : (rules : List Rule) (v : Valued) (turn : ℕ → ℕ) (placed : List Operation) (writes : List ℕ) → IsOrdered rules v turn placed writes
    → (x : ℕ) → x < length v.operations.now → is_write (operation_at v.operations.now x).kind ≡ true → (f : FindsNewest v turn x)
    → (operation_at placed f.newest).place + 1 ≡ (operation_at placed x).place
atomic_next rules v turn placed writes e x lx wx f =
    let s : ℕ = f.newest in
    let p : ℕ = (operation_at placed s).place in
    let after = atomic_after rules v turn e.order x s lx f.left.low wx f.left.write f.left.word f.seen in
    let before = turn_place rules v turn placed writes e s x f.left.low lx f.left.write wx f.left.word after in
    let low-x = (e.each x lx).low (write_uses (operation_at v.operations.now x).kind wx) in
    let ex = (e.each x lx).write wx in
    let es = (e.each s f.left.low).write f.left.write in
    elim (cases_eq (p + 1) (operation_at placed x).place) [
      | inl same ↦ same
      | inr other ↦ absurd (
          let between : p + 1 < (operation_at placed x).place = omega (arith, before, other) in
          let low : p + 1 < length writes = omega (arith, between, low-x) in
          let m : ℕ = slice_index writes (p + 1) in
          let up = e.written.word p (p + 1) (omega arith) low in
          let down = e.written.word (p + 1) (operation_at placed x).place between low-x in
          let word-s = ap (λ z. (operation_at v.operations.now z).word) es in
          let word-x = ap (λ z. (operation_at v.operations.now z).word) ex in
          let on = f.left.word in
          let first : (operation_at v.operations.now (slice_index writes p)).word ≡ (operation_at v.operations.now m).word =
          omega (arith, up, down, word-s, word-x, on) in
          let second : (operation_at v.operations.now m).word ≡ (operation_at v.operations.now (slice_index writes (operation_at placed x).place)).word =
          omega (arith, up, down, word-s, word-x, on) in
          let rise-s = e.written.rise p (p + 1) (omega arith) low first in
          let rise-x = e.written.rise (p + 1) (operation_at placed x).place between low-x second in
          let turn-s = ap turn es in
          let turn-x = ap turn ex in
          elim (f.last m (e.written.low (p + 1) low) (e.written.is (p + 1) low) (omega (arith, second, word-x)) (inl (omega (arith, rise-x, turn-x)))) [
            | inl same ↦ (let bad = ap turn same in omega (arith, bad, rise-s, turn-s))
            | inr less ↦ omega (arith, less, rise-s, turn-s)
          ]
          )
    ]

ordered_finds : (rules : List Rule) (v : Valued) (turn : ℕ → ℕ) (placed : List Operation) (writes : List ℕ) → IsOrdered rules v turn placed writes
    → (x : ℕ) → x < length v.operations.now → FindsAt v.operations.now v.left.now v.found.now placed writes x
ordered_finds rules v turn placed writes e x lx = record {
  read = λ load. (let l = (e.each x lx).load load in ap (λ z. slice_index v.left.now z) l.1 ∙ l.0.left.leaves);
  next = next;
}
  where
    next : (operation_at v.operations.now x).kind ≡ Atomic → FindsBefore v.left.now v.found.now placed writes x
    next atomic =
        let f = e.order.finds x lx (inr atomic) in
        let es = (e.each f.newest f.left.low).write f.left.write in
        record {
          place = (operation_at placed f.newest).place;
          next = atomic_next rules v turn placed writes e x lx (ap is_write atomic) f;
          word = ap (λ z. (operation_at placed z).word) es ∙ ((e.each f.newest f.left.low).word ∙ (f.left.word ∙ sym (e.each x lx).word));
          leaves = ap (λ z. slice_index v.left.now z) es ∙ f.left.leaves;
        }

-- a write behind a load's newest one is behind the load
load_before : (rules : List Rule) (v : Valued) (turn : ℕ → ℕ) (placed : List Operation) (writes : List ℕ) → IsOrdered rules v turn placed writes
    → (x w : ℕ) → x < length v.operations.now → w < length v.operations.now → is_load (operation_at v.operations.now x).kind ≡ true
    → is_write (operation_at v.operations.now w).kind ≡ true → (operation_at v.operations.now x).word ≡ (operation_at v.operations.now w).word
    → (operation_at placed x).place < (operation_at placed w).place → (turn x < turn w) × (CanSee v.operations.now turn x w → ⊥)
load_before rules v turn placed writes e x w lx lw load write word less = (
  elim (cases_lt (turn x) (turn w)) [
    | inl before ↦ before
    | inr not ↦ elim (cases_eq (turn x) (turn w)) [
      | inl same ↦ absurd (let one = e.order.apart x w lx lw same in
          let bad : is_write (operation_at v.operations.now x).kind ≡ true = subst (λ z. is_write (operation_at v.operations.now z).kind ≡ true) (sym one) write in
          no_load_writes (operation_at v.operations.now x).kind load bad)
      | inr other ↦ absurd (unseen (inl (omega (arith, not, other))))
    ]
  ],
  unseen,
)
  where
    no_load_writes : (k : Kind) → is_load k ≡ true → is_write k ≡ true → ⊥
    no_load_writes Load is also = let bad : false ≡ true = also in cc
    no_load_writes Store is also = let bad : false ≡ true = is in cc
    no_load_writes Atomic is also = let bad : false ≡ true = is in cc
    no_load_writes Fence is also = let bad : false ≡ true = is in cc

    unseen : CanSee v.operations.now turn x w → ⊥
    unseen see =
        let l = (e.each x lx).load load in
        let f = l.0 in
        let there = e.written.rise (operation_at placed x).place (operation_at placed w).place less
        ((e.each w lw).low (write_uses (operation_at v.operations.now w).kind write))
        (ap (λ z. (operation_at v.operations.now z).word) l.1 ∙ (f.left.word ∙ (word
        ∙ ap (λ z. (operation_at v.operations.now z).word) (sym ((e.each w lw).write write))))) in
        let a = ap turn l.1 in
        let b = ap turn ((e.each w lw).write write) in
        elim (f.last w lw write (sym word) see) [
          | inl same ↦ (let bad = ap turn same in omega (arith, bad, there, a, b))
          | inr later ↦ omega (arith, later, there, a, b)
        ]

ordered_order : (rules : List Rule) (v : Valued) (turn : ℕ → ℕ) (placed : List Operation) (writes : List ℕ) → IsOrdered rules v turn placed writes
    → IsMemoryOrder rules placed writes turn
ordered_order rules v turn placed writes e = record {
  apart = λ x y lx ly same. e.order.apart x y (inside x lx) (inside y ly) same;
  program = λ x y ly keeps. (let low = inside y ly in let first = kept_before rules placed x y keeps in
      let low-x : x < length v.operations.now = omega (arith, first, low) in
      e.order.program x y low-x low (keeps_placed rules placed v.operations.now x y (like x low-x) (like y low) keeps));
  word_order = λ x y lx ly wx wy on less. place_turn rules v turn placed writes e x y (inside x lx) (inside y ly) (write x (inside x lx) wx)
      (write y (inside y ly) wy) (sym (e.each x (inside x lx)).word ∙ (on.word ∙ (e.each y (inside y ly)).word)) less;
  source = λ x lx load. source x (inside x lx) (subst (λ k. is_load k ≡ true) (e.each x (inside x lx)).kind load);
  newest = λ x w lx lw load writing on less. (let b = load_before rules v turn placed writes e x w (inside x lx) (inside w lw)
      (subst (λ k. is_load k ≡ true) (e.each x (inside x lx)).kind load) (write w (inside w lw) writing)
      (sym (e.each x (inside x lx)).word ∙ (on.word ∙ (e.each w (inside w lw)).word)) less in (
        b.0,
        λ own. b.1 (inr (record {
          processor = sym (e.each w (inside w lw)).processor ∙ (own.processor ∙ (e.each x (inside x lx)).processor);
          before = own.before;
        })),
      ));
}
  where
    inside : (x : ℕ) → x < length placed → x < length v.operations.now
    inside x lx = subst (λ n. x < n) e.size lx

    write : (x : ℕ) → x < length v.operations.now → is_write (operation_at placed x).kind ≡ true → is_write (operation_at v.operations.now x).kind ≡ true
    write x lx is = subst (λ k. is_write k ≡ true) (e.each x lx).kind is

    like : (x : ℕ) → x < length v.operations.now → IsLike placed v.operations.now x
    like x lx = record { processor = sym (e.each x lx).processor; kind = sym (e.each x lx).kind; word = sym (e.each x lx).word }

    source : (x : ℕ) → x < length v.operations.now → is_load (operation_at v.operations.now x).kind ≡ true
        → (turn (source_at placed writes x) < turn x) ⊎ IsOwn placed (source_at placed writes x) x
    source x lx load =
        let l = (e.each x lx).load load in
        subst (λ z. (turn z < turn x) ⊎ IsOwn placed z x) (sym l.1) (elim l.0.seen [
          | inl less ↦ inl less
          | inr own ↦ inr (record {
            processor = (e.each l.0.newest l.0.left.low).processor ∙ (own.processor ∙ sym (e.each x lx).processor);
            before = own.before;
          })
        ])

-- a closing load stands behind all writes on its word
ordered_closed : (rules : List Rule) (v : Valued) (turn : ℕ → ℕ) (placed : List Operation) (writes : List ℕ) → IsOrdered rules v turn placed writes
    → (x y : ℕ) → x < length v.operations.now → y < length v.operations.now → IsClosingOf v.closing v.operations.now x y
    → (operation_at placed y).place ≤ (operation_at placed x).place
ordered_closed rules v turn placed writes e x y lx ly c =
    let l = (e.each x lx).load c.load in
    let f = l.0 in
    let s : ℕ = f.newest in
    let es = (e.each s f.left.low).write f.left.write in
    let low-x = (e.each x lx).low (load_uses (operation_at v.operations.now x).kind c.load) in
    let low-s = (e.each s f.left.low).low (write_uses (operation_at v.operations.now s).kind f.left.write) in
    let at : (operation_at placed s).place ≡ (operation_at placed x).place =
    one_place v.operations.now turn writes e.written (operation_at placed s).place (operation_at placed x).place low-s low-x (es ∙ sym l.1) in
    elim (f.closed y ly c) [
      | inl same ↦ (let there = ap (λ z. (operation_at placed z).place) same in omega (arith, there, at))
      | inr less ↦ (let before = turn_place rules v turn placed writes e y s ly f.left.low c.write f.left.write (sym c.word ∙ sym f.left.word) less in
          omega (arith, before, at))
    ]

pub ordered : (rules : List Rule) (v : Valued) (turn : ℕ → ℕ) → AreGrouped v → IsReplyOrder rules v turn
    → (placed : List Operation) × (writes : List ℕ) × IsValuedPlacing v placed writes × IsMemoryOrder rules placed writes turn
ordered rules v turn groups order =
    let w = written_of v.operations.now turn order.apart in
    let all = chosen Operation (IsLaid v turn w.0) (record { processor = 0; kind = Load; word = 0; place = 0 }) (length v.operations.now)
    (λ x lx. laid v turn w.0 w.1 order.finds x lx (operation_at v.operations.now x).kind refl) in
    let e : IsOrdered rules v turn all.items w.0 = record { order = order; written = w.1; size = all.size; each = all.each } in (
      all.items,
      w.0,
      record {
        size = all.size;
        trace = ordered_trace rules v turn all.items w.0 groups e;
        same = λ x lx. (let l = all.each x lx in record { processor = l.processor; kind = l.kind; word = l.word; fence = l.fence });
        finds = ordered_finds rules v turn all.items w.0 e;
        closed = λ x y lx ly c. ordered_closed rules v turn all.items w.0 e x y lx ly c;
        opened = λ x y lx ly opens. turn_place rules v turn all.items w.0 e x y lx ly opens.first opens.second opens.word (order.opened x y lx ly opens);
      },
      ordered_order rules v turn all.items w.0 e,
    )
