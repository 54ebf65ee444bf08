-- Total and partial store order are those of machines with buffers of stores.
use Rattle.std.proofs.Common.{◌≡◌, ◌⊎◌, inl, inr, ℕ, zero, suc, true, List, refl, sym, ◌∙◌, arith}
use Rattle.memory_models.specs.declared.kinds.Kind.{Kind}
use Rattle.memory_models.specs.declared.kinds.Kind.TheVariants.{Load, Store, Atomic, Fence}
use Rattle.memory_models.specs.declared.kinds.Operation.{Operation}
use Rattle.memory_models.specs.Trace.{has, operation_at, writes_rule, IsOwn, IsMemoryTrace}
use Rattle.memory_models.specs.Order.{KeepsOrder, IsMemoryOrder}
use Rattle.memory_models.specs.Models.{total_store_order, partial_store_order, but_stores, but_loads, fences}
use Rattle.memory_models.specs.Machines.{effect_at, IsBufferRun}
use Rattle.memory_models.specs.WordBuffers.{IsWordBufferRun}
use Rattle.memory_models.proofs.Blocks.{made_at, left_at}
use Rattle.memory_models.proofs.ByKind.{not_load, not_store, writes_not_load}
use Rattle.memory_models.proofs.RunBy.{IsKept, IsRunBy}
use Rattle.memory_models.proofs.Runs.{run_by_is_order}
use Rattle.memory_models.proofs.Scheduled.{order_is_run_by}

-- kinds
from_other : (k : Kind) → (k ≡ Store → ⊥) → has but_stores k ≡ true
from_other Load f = refl
from_other Store f = absurd (f refl)
from_other Atomic f = refl
from_other Fence f = refl

to_all : (k : Kind) → has (record { load = true; store = true; atomic = true; fence = true }) k ≡ true
to_all Load = refl
to_all Store = refl
to_all Atomic = refl
to_all Fence = refl

from_not_load : (k : Kind) → (k ≡ Load → ⊥) → has but_loads k ≡ true
from_not_load Load f = absurd (f refl)
from_not_load Store f = refl
from_not_load Atomic f = refl
from_not_load Fence f = refl

store_from : (k : Kind) → k ≡ Store → has but_loads k ≡ true
store_from Load e = cc
store_from Store e = refl
store_from Atomic e = cc
store_from Fence e = cc

store_writes : (k : Kind) → k ≡ Store → has writes_rule.from k ≡ true
store_writes Load e = cc
store_writes Store e = refl
store_writes Atomic e = cc
store_writes Fence e = cc

fence_to : (k : Kind) → k ≡ Fence → has fences k ≡ true
fence_to Load e = cc
fence_to Store e = cc
fence_to Atomic e = cc
fence_to Fence e = refl

is_fence : (k : Kind) → has fences k ≡ true → k ≡ Fence
is_fence Load e = cc
is_fence Store e = cc
is_fence Atomic e = cc
is_fence Fence e = refl

fence_no_load : (k : Kind) → k ≡ Fence → k ≡ Load → ⊥
fence_no_load Load e f = cc
fence_no_load Store e f = cc
fence_no_load Atomic e f = cc
fence_no_load Fence e f = cc

-- a processor's store keeps a place before what is no load: a write or a fence
data WriteOrFence (k : Kind) : Type 0 where
  a_write : has writes_rule.to k ≡ true → WriteOrFence k
  a_fence : k ≡ Fence → WriteOrFence k

write_or_fence : (k : Kind) → (k ≡ Load → ⊥) → WriteOrFence k
write_or_fence Load f = absurd (f refl)
write_or_fence Store f = a_write refl
write_or_fence Atomic f = a_write refl
write_or_fence Fence f = a_fence refl

-- in total store order each store waits for those before it, and nothing but loads passes one

total_kept : (ops : List Operation) → IsKept total_store_order ops (λ x y. Unit {0})
total_kept ops = record {
  same = λ x y e. tt;
  kept = kept;
  other = λ x y own other. inl (0, omega arith, record { own = own; from = from_other (operation_at ops x).kind other; to = to_all (operation_at ops y).kind; key = refl });
  store = λ x y own first second both. inl (1, omega arith, record { own = own; from = store_from (operation_at ops x).kind first; to = from_not_load (operation_at ops y).kind second; key = refl });
}
  where
    kept : (x y : ℕ) → KeepsOrder total_store_order ops x y
        → IsOwn ops x y × (((operation_at ops x).kind ≡ Store → ⊥) ⊎ (((operation_at ops y).kind ≡ Load → ⊥) × Unit {0}))
    kept x y (inl (zero, low, a)) = (a.own, inl (not_store (operation_at ops x).kind a.from))
    kept x y (inl (suc zero, low, a)) = (a.own, inr (not_load (operation_at ops y).kind a.to, tt))
    kept x y (inl (suc (suc k), low, a)) = absurd (omega arith)
    kept x y (inr a) = (a.own, inr (writes_not_load (operation_at ops y).kind a.to, tt))

pub total_run : (ops : List Operation) (writes : List ℕ) (made left : ℕ → ℕ) → IsBufferRun ops writes made left → IsRunBy (λ x y. Unit {0}) ops writes made left
total_run ops writes made left run = record {
  made_apart = run.made_apart;
  left_apart = run.left_apart;
  both_apart = run.both_apart;
  program = run.program;
  waits = run.waits;
  first_out = λ x y low own first second both. run.first_out x y low own first second;
  drained = λ x y low own first second both. run.drained x y low own first second;
  word_order = run.word_order;
  forwarded = run.forwarded;
  read = run.read;
  last = run.last;
}

pub run_is_order : (words : ℕ) (ops : List Operation) (writes : List ℕ) (made left : ℕ → ℕ) → IsMemoryTrace words ops writes
    → IsBufferRun ops writes made left → IsMemoryOrder total_store_order ops writes (effect_at ops made left)
run_is_order words ops writes made left t run =
    run_by_is_order total_store_order (λ x y. Unit {0}) words ops writes made left (total_kept ops) t (total_run ops writes made left run)

pub order_is_run : (words : ℕ) (ops : List Operation) (writes : List ℕ) (turn : ℕ → ℕ) → IsMemoryTrace words ops writes
    → IsMemoryOrder total_store_order ops writes turn → IsBufferRun ops writes (made_at ops turn) (left_at ops turn)
order_is_run words ops writes turn t o =
    let run = order_is_run_by total_store_order (λ x y. Unit {0}) words ops writes turn (total_kept ops) t o in
    record {
      made_apart = run.made_apart;
      left_apart = run.left_apart;
      both_apart = run.both_apart;
      program = run.program;
      waits = run.waits;
      first_out = λ x y low own first second. run.first_out x y low own first second tt;
      drained = λ x y low own first second. run.drained x y low own first second tt;
      word_order = run.word_order;
      forwarded = run.forwarded;
      read = run.read;
      last = run.last;
    }

-- in partial store order a store waits for those on its word, and a fence for all
abbrev pub OnWordOrFence : List Operation → ℕ → ℕ → Type 0
OnWordOrFence ops x y = ((operation_at ops x).word ≡ (operation_at ops y).word) ⊎ ((operation_at ops y).kind ≡ Fence)

partial_kept : (ops : List Operation) → IsKept partial_store_order ops (OnWordOrFence ops)
partial_kept ops = record {
  same = λ x y e. inl e;
  kept = kept;
  other = λ x y own other. inl (0, omega arith, record { own = own; from = from_other (operation_at ops x).kind other; to = to_all (operation_at ops y).kind; key = refl });
  store = store;
}
  where
    kept : (x y : ℕ) → KeepsOrder partial_store_order ops x y
        → IsOwn ops x y × (((operation_at ops x).kind ≡ Store → ⊥) ⊎ (((operation_at ops y).kind ≡ Load → ⊥) × OnWordOrFence ops x y))
    kept x y (inl (zero, low, a)) = (a.own, inl (not_store (operation_at ops x).kind a.from))
    kept x y (inl (suc zero, low, a)) = (let fence = is_fence (operation_at ops y).kind a.to in
        (a.own, inr (fence_no_load (operation_at ops y).kind fence, inr fence)))
    kept x y (inl (suc (suc k), low, a)) = absurd (omega arith)
    kept x y (inr a) = (a.own, inr (writes_not_load (operation_at ops y).kind a.to, inl a.key))

    before_fence : (x y : ℕ) → IsOwn ops x y → (operation_at ops x).kind ≡ Store → (operation_at ops y).kind ≡ Fence → KeepsOrder partial_store_order ops x y
    before_fence x y own first fence =
        inl (1, omega arith, record { own = own; from = store_from (operation_at ops x).kind first; to = fence_to (operation_at ops y).kind fence; key = refl })

    store : (x y : ℕ) → IsOwn ops x y → (operation_at ops x).kind ≡ Store → ((operation_at ops y).kind ≡ Load → ⊥) → OnWordOrFence ops x y
        → KeepsOrder partial_store_order ops x y
    store x y own first second (inr fence) = before_fence x y own first fence
    store x y own first second (inl word) = elim (write_or_fence (operation_at ops y).kind second) [
      | a_fence fence ↦ before_fence x y own first fence
      | a_write to ↦ inr (record { own = own; from = store_writes (operation_at ops x).kind first; to = to; key = word })
    ]

pub partial_run : (ops : List Operation) (writes : List ℕ) (made left : ℕ → ℕ) → IsWordBufferRun ops writes made left → IsRunBy (OnWordOrFence ops) ops writes made left
partial_run ops writes made left run = record {
  made_apart = run.made_apart;
  left_apart = run.left_apart;
  both_apart = run.both_apart;
  program = run.program;
  waits = run.waits;
  first_out = λ x y low own first second both. elim both [
    | inl word ↦ run.first_out x y low own first second word
    | inr fence ↦ absurd (let bad : Store ≡ Fence = sym second ∙ fence in cc)
  ];
  drained = λ x y low own first second both. elim second [
    | inr fence ↦ run.fenced x y low own first fence
    | inl atomic ↦ elim both [
      | inl word ↦ run.drained x y low own first atomic word
      | inr fence ↦ run.fenced x y low own first fence
    ]
  ];
  word_order = run.word_order;
  forwarded = run.forwarded;
  read = run.read;
  last = run.last;
}

pub word_run_is_order : (words : ℕ) (ops : List Operation) (writes : List ℕ) (made left : ℕ → ℕ) → IsMemoryTrace words ops writes
    → IsWordBufferRun ops writes made left → IsMemoryOrder partial_store_order ops writes (effect_at ops made left)
word_run_is_order words ops writes made left t run =
    run_by_is_order partial_store_order (OnWordOrFence ops) words ops writes made left (partial_kept ops) t (partial_run ops writes made left run)

pub order_is_word_run : (words : ℕ) (ops : List Operation) (writes : List ℕ) (turn : ℕ → ℕ) → IsMemoryTrace words ops writes
    → IsMemoryOrder partial_store_order ops writes turn → IsWordBufferRun ops writes (made_at ops turn) (left_at ops turn)
order_is_word_run words ops writes turn t o =
    let run = order_is_run_by partial_store_order (OnWordOrFence ops) words ops writes turn (partial_kept ops) t o in
    record {
      made_apart = run.made_apart;
      left_apart = run.left_apart;
      both_apart = run.both_apart;
      program = run.program;
      waits = run.waits;
      first_out = λ x y low own first second word. run.first_out x y low own first second (inl word);
      drained = λ x y low own first atomic word. run.drained x y low own first (inl atomic) (inl word);
      fenced = λ x y low own first fence. run.drained x y low own first (inr fence) (inr fence);
      word_order = run.word_order;
      forwarded = run.forwarded;
      read = run.read;
      last = run.last;
    }
