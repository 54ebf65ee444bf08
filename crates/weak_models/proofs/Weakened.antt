-- Orders that keep more pairs keep fewer; fewer dependencies, and annotations everywhere.
use Rattle.std.proofs.Common.{◌≡◌, inl, inr, ℕ, ◌+◌, true, List, refl, sym, subst, arith}
use Rattle.memory_models.specs.declared.kinds.Kind.{Kind}
use Rattle.memory_models.specs.declared.kinds.Kind.TheVariants.{Load, Store, Atomic, Fence}
use Rattle.memory_models.specs.declared.kinds.Operation.{Operation}
use Rattle.memory_models.specs.declared.kinds.Rule.{Rule}
use Rattle.memory_models.specs.Models.{sequential}
use Rattle.memory_models.specs.Order.{IsMemoryOrder, KeepsOrder}
use Rattle.memory_models.specs.Trace.{IsOwn, operation_at, uses_word}
use Rattle.weak_models.specs.declared.notes.Note.{Note}
use Rattle.weak_models.specs.declared.notes.Dependency.{Dependency}
use Rattle.weak_models.specs.declared.notes.DependencyKind.{DependencyKind}
use Rattle.weak_models.specs.declared.verdict.PreservedRule.{PreservedRule}
use Rattle.weak_models.specs.declared.verdict.PreservedRule.TheVariants as by
use Rattle.weak_models.specs.Notes.{DependsWithin, IsWithin}
use Rattle.weak_models.specs.Preserved.{IsPreserved, KeepsBy}
use Rattle.weak_models.specs.Order.{IsOrderKeeping, IsRvwmo, ArePairsAtomic}
use Rattle.weak_models.specs.Laws.{HasNoFences, AreAllRcsc, AreListedIn}
use Rattle.weak_models.proofs.Excluded.{has_all}

pub keeps_fewer : (more fewer : ℕ → ℕ → Type 0) (ops : List Operation) (writes : List ℕ) (turn : ℕ → ℕ)
    → ((x y : ℕ) → fewer x y → more x y)
    → IsOrderKeeping more ops writes turn → IsOrderKeeping fewer ops writes turn
keeps_fewer more fewer ops writes turn sub o = record {
  apart = o.apart;
  program = λ x y low k. o.program x y low (sub x y k);
  word_order = o.word_order;
  source = o.source;
  newest = o.newest;
}

pub of_rules : (rules : List Rule) (ops : List Operation) (writes : List ℕ) (turn : ℕ → ℕ)
    → IsMemoryOrder rules ops writes turn → IsOrderKeeping (KeepsOrder rules ops) ops writes turn
of_rules rules ops writes turn o = record {
  apart = o.apart;
  program = o.program;
  word_order = o.word_order;
  source = o.source;
  newest = o.newest;
}

pub to_rules : (rules : List Rule) (ops : List Operation) (writes : List ℕ) (turn : ℕ → ℕ)
    → IsOrderKeeping (KeepsOrder rules ops) ops writes turn → IsMemoryOrder rules ops writes turn
to_rules rules ops writes turn o = record {
  apart = o.apart;
  program = o.program;
  word_order = o.word_order;
  source = o.source;
  newest = o.newest;
}

-- a dependency of the shorter list is one of the longer
within : (fewer more : List Dependency) (kind : DependencyKind) (on low high : ℕ) → AreListedIn fewer more
    → DependsWithin fewer kind on low high → DependsWithin more kind on low high
within fewer more kind on low high listed d =
    let l = listed d.which d.listed in
    record { which = l.0; listed = l.1; within = subst (λ z. IsWithin z kind on low high) (sym l.2) d.within }

kept_by : (notes : List Note) (fewer more : List Dependency) (ops : List Operation) (writes : List ℕ) (x y : ℕ) (rule : PreservedRule)
    → AreListedIn fewer more → KeepsBy notes fewer ops writes x y rule → KeepsBy notes more ops writes x y rule
kept_by notes fewer more ops writes x y by.SameWordStore l k = k
kept_by notes fewer more ops writes x y by.DifferentReads l k = k
kept_by notes fewer more ops writes x y by.AtomicSource l k = k
kept_by notes fewer more ops writes x y by.Fenced l k = k
kept_by notes fewer more ops writes x y by.Acquire l k = k
kept_by notes fewer more ops writes x y by.Release l k = k
kept_by notes fewer more ops writes x y by.BothRcsc l k = k
kept_by notes fewer more ops writes x y by.Paired l k = k
kept_by notes fewer more ops writes x y by.AddressDependency l k = within fewer more _ x y (y + 1) l k
kept_by notes fewer more ops writes x y by.DataDependency l k = within fewer more _ x y (y + 1) l k
kept_by notes fewer more ops writes x y by.ControlDependency l k =
    record { depends = within fewer more _ x (x + 1) (y + 1) l k.depends; store = k.store }
kept_by notes fewer more ops writes x y by.ThroughStore l k = record {
  behind = k.behind;
  before = k.before;
  depends = elim k.depends [
    | inl address ↦ inl (within fewer more _ x _ _ l address)
    | inr data_ ↦ inr (within fewer more _ x _ _ l data_)
  ];
  load = k.load;
  store = k.store;
  word = k.word;
}
kept_by notes fewer more ops writes x y by.BehindAddress l k =
    record { depends = within fewer more _ x (x + 1) y l k.depends; store = k.store }

pub fewer_dependencies : (notes : List Note) (fewer more : List Dependency) (ops : List Operation) (writes : List ℕ) (turn : ℕ → ℕ)
    → AreListedIn fewer more → IsRvwmo notes more ops writes turn → IsRvwmo notes fewer ops writes turn
fewer_dependencies notes fewer more ops writes turn l o = record {
  order = keeps_fewer (IsPreserved notes more ops writes) (IsPreserved notes fewer ops writes) ops writes turn
      (λ x y p. (p.0, record { own = p.1.own; first = p.1.first; second = p.1.second; keeps = kept_by notes fewer more ops writes x y p.0 l p.1.keeps }))
      o.order;
  atomic = o.atomic;
}

sequential_keeps : (ops : List Operation) (x y : ℕ) → IsOwn ops x y → KeepsOrder sequential ops x y
sequential_keeps ops x y own = inl (
  0,
  omega arith,
  record {
    own = own;
    from = has_all (operation_at ops x).kind;
    to = has_all (operation_at ops y).kind;
    key = refl;
  },
)

-- an order of sequential consistency keeps preserved program order
pub of_sequential : (notes : List Note) (dependencies : List Dependency) (ops : List Operation) (writes : List ℕ) (turn : ℕ → ℕ)
    → IsMemoryOrder sequential ops writes turn → ArePairsAtomic notes ops turn → IsRvwmo notes dependencies ops writes turn
of_sequential notes dependencies ops writes turn o atomic = record {
  order = keeps_fewer (KeepsOrder sequential ops) (IsPreserved notes dependencies ops writes) ops writes turn
      (λ x y p. sequential_keeps ops x y p.1.own) (of_rules sequential ops writes turn o);
  atomic = atomic;
}

-- what isn't a fence has a word
has_word : (kind : Kind) → (kind ≡ Fence → ⊥) → uses_word kind ≡ true
has_word Load n = refl
has_word Store n = refl
has_word Atomic n = refl
has_word Fence n = absurd (n refl)

own_of : (ops : List Operation) (x y : ℕ) → KeepsOrder sequential ops x y → IsOwn ops x y
own_of ops x y (inl k) = k.2.own
own_of ops x y (inr a) = a.own

-- and with RCsc annotations everywhere, all program order is kept
pub to_sequential : (notes : List Note) (dependencies : List Dependency) (ops : List Operation) (writes : List ℕ) (turn : ℕ → ℕ)
    → AreAllRcsc notes ops → HasNoFences ops → IsRvwmo notes dependencies ops writes turn → IsMemoryOrder sequential ops writes turn
to_sequential notes dependencies ops writes turn all none o = to_rules sequential ops writes turn (record {
  apart = o.order.apart;
  program = λ x y low k. (let own = own_of ops x y k in
      let before = own.before in
      let first = has_word (operation_at ops x).kind (none x) in
      let second = has_word (operation_at ops y).kind (none y) in
      o.order.program x y low (
        by.BothRcsc,
        record {
          own = own;
          first = first;
          second = second;
          keeps = (all x (omega arith) first, all y low second);
        },
      ));
  word_order = o.order.word_order;
  source = o.order.source;
  newest = o.order.newest;
})
