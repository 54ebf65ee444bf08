-- What models of stores that pass one another allow this one allows: of each rule, that the other model keeps the order of its pairs.
use Rattle.std.proofs.Common.{◌≡◌, inl, inr, ℕ, ◌<◌, true, List, length, refl, sym, ◌∙◌, subst, arith}
use Rattle.memory_models.specs.declared.kinds.Kind.{Kind}
use Rattle.memory_models.specs.declared.kinds.Kind.TheVariants.{Load, Store, Atomic, Fence}
use Rattle.memory_models.specs.declared.kinds.Operation.{Operation}
use Rattle.memory_models.specs.declared.kinds.Rule.{Rule}
use Rattle.memory_models.specs.Trace.{has, is_write, operation_at, IsOwn, IsMemoryTrace}
use Rattle.memory_models.specs.Models.{partial_store_order, total_store_order, but_stores, but_loads}
use Rattle.memory_models.specs.Order.{IsMemoryOrder, KeepsOrder}
use Rattle.memory_models.proofs.ByKind.{is_store}
use Rattle.memory_models.proofs.Lasts.{from_write, own_between}
use Rattle.weak_models.specs.declared.notes.Note.{Note}
use Rattle.weak_models.specs.declared.notes.Dependency.{Dependency}
use Rattle.weak_models.specs.declared.notes.DependencyKind.{DependencyKind}
use Rattle.weak_models.specs.declared.verdict.PreservedRule.{PreservedRule}
use Rattle.weak_models.specs.declared.verdict.PreservedRule.TheVariants as by
use Rattle.weak_models.specs.Notes.{note_at, reads, is_rcsc, is_conditional, DependsWithin}
use Rattle.weak_models.specs.Preserved.{IsPreserved, KeepsBy, IsSameWordStore, IsAtomicSource, IsFenced}
use Rattle.weak_models.specs.Order.{IsRvwmo, ArePairsAtomic}
use Rattle.weak_models.specs.Equal.{HasNoPairs, ArePairsOnOne, HasNoRelease, HasNoAcquireOnStores, AreReleasesOfStores, AreOnReads, AreConditionalsKept}
use Rattle.weak_models.proofs.Excluded.{true_and_false, has_all, but_store, but_load, load_or_other, store_is_no_atomic}
use Rattle.weak_models.proofs.Excluded.{store_reads_nothing, load_writes_nothing, fence_from_loads, fence_is, fence_from_stores, none_is_conditional, none_is_some}
use Rattle.weak_models.proofs.Excluded.{rcsc_is_annotated}

-- what is depended on reads
read_depended : (dependencies : List Dependency) (ops : List Operation) (kind : DependencyKind) (x low high : ℕ) → AreOnReads dependencies ops
    → DependsWithin dependencies kind x low high → reads (operation_at ops x).kind ≡ true
read_depended dependencies ops kind x low high on d =
    subst (λ z. reads (operation_at ops z).kind ≡ true) d.within.first (on d.which d.listed)

-- why a store is kept before what comes behind it, where no store has an acquire annotation
data KeptStore (notes : List Note) (ops : List Operation) (writes : List ℕ) (x y : ℕ) : Type 0 where
  by_word : IsSameWordStore ops x y → KeptStore notes ops writes x y
  by_source : is_conditional (note_at notes x).pair ≡ true → IsAtomicSource notes ops writes x y → KeptStore notes ops writes x y
  by_fence : IsFenced notes ops x y → KeptStore notes ops writes x y
  by_release : (note_at notes y).release ≡ true → KeptStore notes ops writes x y
  by_rcsc : is_rcsc (note_at notes x) ≡ true → KeptStore notes ops writes x y

kept_store : (notes : List Note) (dependencies : List Dependency) (ops : List Operation) (writes : List ℕ) (x y : ℕ) (rule : PreservedRule)
    → ArePairsOnOne notes ops → AreOnReads dependencies ops → HasNoAcquireOnStores notes ops → x < length ops → y < length ops → (operation_at ops x).kind ≡ Store
    → KeepsBy notes dependencies ops writes x y rule → KeptStore notes ops writes x y
kept_store notes dependencies ops writes x y by.SameWordStore pairs on none low high store k = by_word k
kept_store notes dependencies ops writes x y by.DifferentReads pairs on none low high store k =
    absurd (store_reads_nothing (operation_at ops x).kind store k.first)
kept_store notes dependencies ops writes x y by.AtomicSource pairs on none low high store k = elim k.atomic [
  | inl atomic ↦ absurd (store_is_no_atomic (operation_at ops x).kind store atomic)
  | inr conditional ↦ by_source conditional k
]
kept_store notes dependencies ops writes x y by.Fenced pairs on none low high store k = by_fence k
kept_store notes dependencies ops writes x y by.Acquire pairs on none low high store k = absurd (true_and_false (note_at notes x).acquire k (none x low store))
kept_store notes dependencies ops writes x y by.Release pairs on none low high store k = by_release k
kept_store notes dependencies ops writes x y by.BothRcsc pairs on none low high store k = by_rcsc k.0
kept_store notes dependencies ops writes x y by.Paired pairs on none low high store k = by_word (pairs x y high k)
kept_store notes dependencies ops writes x y by.AddressDependency pairs on none low high store k =
    absurd (store_reads_nothing (operation_at ops x).kind store (read_depended dependencies ops _ x _ _ on k))
kept_store notes dependencies ops writes x y by.DataDependency pairs on none low high store k =
    absurd (store_reads_nothing (operation_at ops x).kind store (read_depended dependencies ops _ x _ _ on k))
kept_store notes dependencies ops writes x y by.ControlDependency pairs on none low high store k =
    absurd (store_reads_nothing (operation_at ops x).kind store (read_depended dependencies ops _ x _ _ on k.depends))
kept_store notes dependencies ops writes x y by.ThroughStore pairs on none low high store k = absurd (elim k.depends [
  | inl address ↦ store_reads_nothing (operation_at ops x).kind store (read_depended dependencies ops _ x _ _ on address)
  | inr value ↦ store_reads_nothing (operation_at ops x).kind store (read_depended dependencies ops _ x _ _ on value)
])
kept_store notes dependencies ops writes x y by.BehindAddress pairs on none low high store k =
    absurd (store_reads_nothing (operation_at ops x).kind store (read_depended dependencies ops _ x _ _ on k.depends))

-- an order of a model is one of this model, where it keeps the pairs that this one keeps
pub of_order : (notes : List Note) (dependencies : List Dependency) (rules : List Rule) (ops : List Operation) (writes : List ℕ) (turn : ℕ → ℕ)
    → IsMemoryOrder rules ops writes turn → ArePairsAtomic notes ops turn
    → ((x y : ℕ) → y < length ops → IsPreserved notes dependencies ops writes x y → turn x < turn y)
    → IsRvwmo notes dependencies ops writes turn
of_order notes dependencies rules ops writes turn o atomic keeps = record {
  order = record {
    apart = o.apart;
    program = keeps;
    word_order = o.word_order;
    source = o.source;
    newest = o.newest;
  };
  atomic = atomic;
}

-- a fence between two operations of a processor is its own
pub fence_own : (words : ℕ) (notes : List Note) (ops : List Operation) (writes : List ℕ) (x y : ℕ) → IsMemoryTrace words ops writes → y < length ops
    → IsOwn ops x y → (f : IsFenced notes ops x y) → IsOwn ops x f.fence × IsOwn ops f.fence y
fence_own words notes ops writes x y t high own f =
    let behind = f.behind in
    let before = f.before in
    let same = own_between words ops writes t x f.fence y high own (omega (arith, behind)) before in (
      record { processor = own.processor ∙ sym same; before = behind },
      record { processor = same; before = before },
    )

pub no_pairs_are_atomic : (notes : List Note) (ops : List Operation) (turn : ℕ → ℕ) → HasNoPairs notes → ArePairsAtomic notes ops turn
no_pairs_are_atomic notes ops turn none w s low high is = absurd (none_is_some (note_at notes w).pair is.reserved (none w) is.pair)

pub no_pairs_are_on_one : (notes : List Note) (ops : List Operation) → HasNoPairs notes → ArePairsOnOne notes ops
no_pairs_are_on_one notes ops none reserved w low pair = absurd (none_is_some (note_at notes w).pair reserved (none w) pair)

pub no_conditionals : (notes : List Note) (ops : List Operation) (writes : List ℕ) (turn : ℕ → ℕ) → HasNoPairs notes
    → AreConditionalsKept notes ops writes turn
no_conditionals notes ops writes turn none = record {
  one = no_pairs_are_on_one notes ops none;
  atomic = no_pairs_are_atomic notes ops turn none;
  forward = λ x y high own conditional k. absurd (none_is_conditional (note_at notes x).pair (none x) conditional);
}

words_applied : (rules : List Rule) (ops : List Operation) (x y : ℕ) → IsOwn ops x y → is_write (operation_at ops x).kind ≡ true
    → IsSameWordStore ops x y → KeepsOrder rules ops x y
words_applied rules ops x y own write k = inr (record {
  own = own;
  from = from_write (operation_at ops x).kind write;
  to = from_write (operation_at ops y).kind k.store;
  key = k.word;
})

store_writes : (k : Kind) → k ≡ Store → is_write k ≡ true
store_writes Load e = cc
store_writes Store e = refl
store_writes Atomic e = cc
store_writes Fence e = cc

store_from : (k : Kind) → k ≡ Store → k ≡ Load → ⊥
store_from k e f = cc

-- partial store order
pso_other : (ops : List Operation) (x y : ℕ) → IsOwn ops x y → has but_stores (operation_at ops x).kind ≡ true
    → KeepsOrder partial_store_order ops x y
pso_other ops x y own from = inl (0, omega arith, record { own = own; from = from; to = has_all (operation_at ops y).kind; key = refl })

pso_fence : (ops : List Operation) (x m : ℕ) → IsOwn ops x m → (operation_at ops x).kind ≡ Store → (operation_at ops m).kind ≡ Fence
    → KeepsOrder partial_store_order ops x m
pso_fence ops x m own store fence = inl (
  1,
  omega arith,
  record {
    own = own;
    from = but_load (operation_at ops x).kind (store_from (operation_at ops x).kind store);
    to = fence_is (operation_at ops m).kind fence;
    key = refl;
  },
)

pub of_partial_store_order : (words : ℕ) (notes : List Note) (dependencies : List Dependency) (ops : List Operation) (writes : List ℕ) (turn : ℕ → ℕ)
    → IsMemoryTrace words ops writes → AreConditionalsKept notes ops writes turn → AreOnReads dependencies ops → HasNoAcquireOnStores notes ops → HasNoRelease notes
    → IsMemoryOrder partial_store_order ops writes turn → IsRvwmo notes dependencies ops writes turn
of_partial_store_order words notes dependencies ops writes turn t kept on none releases o =
    of_order notes dependencies partial_store_order ops writes turn o kept.atomic keeps
  where
    below : (x y : ℕ) → y < length ops → IsOwn ops x y → x < length ops
    below x y high own = let before = own.before in omega (arith, before, high)

    by_reason : (x y : ℕ) → y < length ops → IsOwn ops x y → (operation_at ops x).kind ≡ Store → KeptStore notes ops writes x y → turn x < turn y
    by_reason x y high own store (by_word k) =
        o.program x y high (words_applied partial_store_order ops x y own (store_writes (operation_at ops x).kind store) k)
    by_reason x y high own store (by_source c k) = kept.forward x y high own c k
    by_reason x y high own store (by_fence f) =
        let both = fence_own words notes ops writes x y t high own f in
        let before = f.before in
        let a : turn x < turn f.fence = o.program x f.fence (omega (arith, before, high)) (pso_fence ops x f.fence both.0 store f.orders.is) in
        let b : turn f.fence < turn y = o.program f.fence y high (pso_other ops f.fence y both.1 (fence_from_stores (operation_at ops f.fence).kind f.orders.is)) in
        omega (arith, a, b)
    by_reason x y high own store (by_release r) = absurd (true_and_false (note_at notes y).release r (releases y))
    by_reason x y high own store (by_rcsc r) = absurd (rcsc_is_annotated (note_at notes x) (none x (below x y high own) store) (releases x) r)

    keeps : (x y : ℕ) → y < length ops → IsPreserved notes dependencies ops writes x y → turn x < turn y
    keeps x y high p = elim (is_store (operation_at ops x).kind) [
      | inl store ↦ by_reason x y high p.1.own store (kept_store notes dependencies ops writes x y p.0 kept.one on none (below x y high p.1.own) high store p.1.keeps)
      | inr other ↦ o.program x y high (pso_other ops x y p.1.own (but_store (operation_at ops x).kind other))
    ]

-- total store order
tso_other : (ops : List Operation) (x y : ℕ) → IsOwn ops x y → has but_stores (operation_at ops x).kind ≡ true
    → KeepsOrder total_store_order ops x y
tso_other ops x y own from = inl (0, omega arith, record { own = own; from = from; to = has_all (operation_at ops y).kind; key = refl })

tso_store : (ops : List Operation) (x y : ℕ) → IsOwn ops x y → (operation_at ops x).kind ≡ Store
    → has but_loads (operation_at ops y).kind ≡ true → KeepsOrder total_store_order ops x y
tso_store ops x y own store to = inl (
  1,
  omega arith,
  record {
    own = own;
    from = but_load (operation_at ops x).kind (store_from (operation_at ops x).kind store);
    to = to;
    key = refl;
  },
)

pub of_total_store_order : (words : ℕ) (notes : List Note) (dependencies : List Dependency) (ops : List Operation) (writes : List ℕ) (turn : ℕ → ℕ)
    → IsMemoryTrace words ops writes → AreConditionalsKept notes ops writes turn → AreOnReads dependencies ops → HasNoAcquireOnStores notes ops → AreReleasesOfStores notes ops
    → IsMemoryOrder total_store_order ops writes turn → IsRvwmo notes dependencies ops writes turn
of_total_store_order words notes dependencies ops writes turn t kept on none releases o =
    of_order notes dependencies total_store_order ops writes turn o kept.atomic keeps
  where
    below : (x y : ℕ) → y < length ops → IsOwn ops x y → x < length ops
    below x y high own = let before = own.before in omega (arith, before, high)

    by_reason : (x y : ℕ) → y < length ops → IsOwn ops x y → (operation_at ops x).kind ≡ Store → (operation_at ops y).kind ≡ Load
        → KeptStore notes ops writes x y → turn x < turn y
    by_reason x y high own store load (by_word k) = absurd (load_writes_nothing (operation_at ops y).kind load k.store)
    by_reason x y high own store load (by_source c k) = kept.forward x y high own c k
    by_reason x y high own store load (by_fence f) =
        let both = fence_own words notes ops writes x y t high own f in
        let before = f.before in
        let a : turn x < turn f.fence = o.program x f.fence (omega (arith, before, high))
        (tso_store ops x f.fence both.0 store (fence_from_loads (operation_at ops f.fence).kind f.orders.is)) in
        let b : turn f.fence < turn y = o.program f.fence y high (tso_other ops f.fence y both.1 (fence_from_stores (operation_at ops f.fence).kind f.orders.is)) in
        omega (arith, a, b)
    by_reason x y high own store load (by_release r) = absurd (true_and_false (note_at notes y).release r (releases.load y high load))
    by_reason x y high own store load (by_rcsc r) = absurd (true_and_false (is_rcsc (note_at notes x)) r (releases.store x (below x y high own) store))

    keeps : (x y : ℕ) → y < length ops → IsPreserved notes dependencies ops writes x y → turn x < turn y
    keeps x y high p = elim (is_store (operation_at ops x).kind) [
      | inl store ↦ elim (load_or_other (operation_at ops y).kind) [
        | inl load ↦ by_reason x y high p.1.own store load (kept_store notes dependencies ops writes x y p.0 kept.one on none (below x y high p.1.own) high store p.1.keeps)
        | inr other ↦ o.program x y high (tso_store ops x y p.1.own store (but_load (operation_at ops y).kind other))
      ]
      | inr other ↦ o.program x y high (tso_other ops x y p.1.own (but_store (operation_at ops x).kind other))
    ]
