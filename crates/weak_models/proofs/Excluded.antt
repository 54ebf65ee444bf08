-- What kinds of operations and notes exclude.
use Rattle.std.proofs.Common.{◌≡◌, ◌⊎◌, inl, inr, ℕ, Bool, true, false, refl, sym, subst}
use Rattle.std.specs.Prelude.{Option, Some, None, ◌||◌, ◌&&◌, not}
use Rattle.memory_models.specs.declared.kinds.Kind.{Kind}
use Rattle.memory_models.specs.declared.kinds.Kind.TheVariants.{Load, Store, Atomic, Fence}
use Rattle.memory_models.specs.Trace.{has, is_load, is_write, uses_word}
use Rattle.memory_models.specs.Models.{all_kinds, but_stores, but_loads, but_fences, fences}
use Rattle.weak_models.specs.declared.notes.FenceOrder.{FenceOrder}
use Rattle.weak_models.specs.declared.notes.FenceOrder.TheVariants.{Sets}
use Rattle.weak_models.specs.declared.notes.Note.{Note}
use Rattle.weak_models.specs.Notes.{all_accesses, reads, orders, is_rcsc, is_conditional}
use Rattle.weak_models.specs.Equal.{IsZtsoNote}

pub true_and_false : (b : Bool) → b ≡ true → b ≡ false → ⊥
true_and_false true e f = cc
true_and_false false e f = cc

pub has_all : (k : Kind) → has all_kinds k ≡ true
has_all Load = refl
has_all Store = refl
has_all Atomic = refl
has_all Fence = refl

pub load_or_write : (k : Kind) → uses_word k ≡ true → (is_load k ≡ true) ⊎ (is_write k ≡ true)
load_or_write Load h = inl refl
load_or_write Store h = inr refl
load_or_write Atomic h = inr refl
load_or_write Fence h = absurd cc

pub write_is_word : (k : Kind) → is_write k ≡ true → uses_word k ≡ true
write_is_word Load h = cc
write_is_word Store h = refl
write_is_word Atomic h = refl
write_is_word Fence h = cc

pub load_reads : (k : Kind) → is_load k ≡ true → reads k ≡ true
load_reads Load h = refl
load_reads Store h = cc
load_reads Atomic h = cc
load_reads Fence h = cc

pub reads_word : (k : Kind) → reads k ≡ true → uses_word k ≡ true
reads_word Load h = refl
reads_word Store h = cc
reads_word Atomic h = refl
reads_word Fence h = cc

pub load_or_other : (k : Kind) → (k ≡ Load) ⊎ (k ≡ Load → ⊥)
load_or_other Load = inl refl
load_or_other Store = inr (λ e. cc)
load_or_other Atomic = inr (λ e. cc)
load_or_other Fence = inr (λ e. cc)

pub no_word : (k : Kind) → (uses_word k ≡ true → ⊥) → k ≡ Fence
no_word Load n = absurd (n refl)
no_word Store n = absurd (n refl)
no_word Atomic n = absurd (n refl)
no_word Fence n = refl

pub word_no_fence : (k : Kind) → uses_word k ≡ true → has but_fences k ≡ true
word_no_fence Load h = refl
word_no_fence Store h = refl
word_no_fence Atomic h = refl
word_no_fence Fence h = cc

-- what isn't a store, and what isn't a load
pub but_store : (k : Kind) → (k ≡ Store → ⊥) → has but_stores k ≡ true
but_store Load n = refl
but_store Store n = absurd (n refl)
but_store Atomic n = refl
but_store Fence n = refl

pub but_load : (k : Kind) → (k ≡ Load → ⊥) → has but_loads k ≡ true
but_load Load n = absurd (n refl)
but_load Store n = refl
but_load Atomic n = refl
but_load Fence n = refl

pub store_is_no_atomic : (k : Kind) → k ≡ Store → k ≡ Atomic → ⊥
store_is_no_atomic k e f = cc

pub store_reads_nothing : (k : Kind) → k ≡ Store → reads k ≡ true → ⊥
store_reads_nothing Load e h = cc
store_reads_nothing Store e h = cc
store_reads_nothing Atomic e h = cc
store_reads_nothing Fence e h = cc

pub load_writes_nothing : (k : Kind) → k ≡ Load → is_write k ≡ true → ⊥
load_writes_nothing Load e h = cc
load_writes_nothing Store e h = cc
load_writes_nothing Atomic e h = cc
load_writes_nothing Fence e h = cc

pub write_from_loads : (k : Kind) → is_write k ≡ true → has but_loads k ≡ true
write_from_loads Load e = cc
write_from_loads Store e = refl
write_from_loads Atomic e = refl
write_from_loads Fence e = cc

pub fence_from_loads : (k : Kind) → k ≡ Fence → has but_loads k ≡ true
fence_from_loads Load e = cc
fence_from_loads Store e = refl
fence_from_loads Atomic e = refl
fence_from_loads Fence e = refl

pub fence_is : (k : Kind) → k ≡ Fence → has fences k ≡ true
fence_is Load e = cc
fence_is Store e = cc
fence_is Atomic e = cc
fence_is Fence e = refl

pub fence_from_stores : (k : Kind) → k ≡ Fence → has but_stores k ≡ true
fence_from_stores Load e = cc
fence_from_stores Store e = cc
fence_from_stores Atomic e = cc
fence_from_stores Fence e = refl

-- pairs that there aren't
pub none_is_conditional : (p : Option ℕ) → p ≡ None → is_conditional p ≡ true → ⊥
none_is_conditional None e h = cc
none_is_conditional (Some r) e h = cc

pub none_is_some : (p : Option ℕ) (x : ℕ) → p ≡ None → p ≡ Some x → ⊥
none_is_some p x e f = cc

-- notes without annotations
pub rcsc_is_annotated : (n : Note) → n.acquire ≡ false → n.release ≡ false → is_rcsc n ≡ true → ⊥
rcsc_is_annotated n a r h = by n.acquire n.release n.rcpc a r h
  where
    by : (a r c : Bool) → a ≡ false → r ≡ false → ((a || r) && not c) ≡ true → ⊥
    by true r c e f h = cc
    by false true c e f h = cc
    by false false c e f h = cc

-- Ztso's annotations: what isn't a store has an acquire, what isn't a load a release, and a store's isn't RCsc
pub ztso_acquires : (k : Kind) (n : Note) → IsZtsoNote k n → uses_word k ≡ true → has but_stores k ≡ true → n.acquire ≡ true
ztso_acquires Load n z w h = z.0
ztso_acquires Store n z w h = cc
ztso_acquires Atomic n z w h = z.0
ztso_acquires Fence n z w h = cc

pub ztso_releases : (k : Kind) (n : Note) → IsZtsoNote k n → uses_word k ≡ true → has but_loads k ≡ true → n.release ≡ true
ztso_releases Load n z w h = cc
ztso_releases Store n z w h = z.1
ztso_releases Atomic n z w h = z.1
ztso_releases Fence n z w h = cc

pub ztso_load : (k : Kind) (n : Note) → IsZtsoNote k n → k ≡ Load → n.release ≡ false
ztso_load Load n z e = z.1
ztso_load Store n z e = cc
ztso_load Atomic n z e = cc
ztso_load Fence n z e = cc

pub ztso_store : (k : Kind) (n : Note) → IsZtsoNote k n → k ≡ Store → (n.acquire ≡ false) × (is_rcsc n ≡ false)
ztso_store Load n z e = cc
ztso_store Store n z e = (z.0, by n.acquire n.release n.rcpc z.2)
  where
    by : (a r c : Bool) → c ≡ true → ((a || r) && not c) ≡ false
    by true r true e = refl
    by true r false e = cc
    by false true true e = refl
    by false true false e = cc
    by false false c e = refl
ztso_store Atomic n z e = cc
ztso_store Fence n z e = cc

pub ztso_fence : (k : Kind) (n : Note) → IsZtsoNote k n → k ≡ Fence → n.fence ≡ Sets all_accesses all_accesses
ztso_fence Load n z e = cc
ztso_fence Store n z e = cc
ztso_fence Atomic n z e = cc
ztso_fence Fence n z e = z

-- a full fence keeps all that have a word
pub full_orders : (f : FenceOrder) (k m : Kind) → f ≡ Sets all_accesses all_accesses → uses_word k ≡ true → uses_word m ≡ true → orders f k m ≡ true
full_orders f k m e a b = subst (λ g. orders g k m ≡ true) (sym e) (by k m a b)
  where
    by : (k m : Kind) → uses_word k ≡ true → uses_word m ≡ true → orders (Sets all_accesses all_accesses) k m ≡ true
    by Load Load a b = refl
    by Load Store a b = refl
    by Load Atomic a b = refl
    by Load Fence a b = cc
    by Store Load a b = refl
    by Store Store a b = refl
    by Store Atomic a b = refl
    by Store Fence a b = cc
    by Atomic Load a b = refl
    by Atomic Store a b = refl
    by Atomic Atomic a b = refl
    by Atomic Fence a b = cc
    by Fence m a b = cc
