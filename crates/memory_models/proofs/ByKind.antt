-- What a kind of operation is, from the tests of it.
use Rattle.std.proofs.Common.{◌≡◌, ◌⊎◌, inl, inr, true, refl}
use Rattle.memory_models.specs.declared.kinds.Kind.{Kind}
use Rattle.memory_models.specs.declared.kinds.Kind.TheVariants.{Load, Store, Atomic, Fence}
use Rattle.memory_models.specs.Trace.{has, is_load, is_write, writes_rule}
use Rattle.memory_models.specs.Models.{but_stores, but_loads}

-- kinds
pub load_is : (k : Kind) → is_load k ≡ true → k ≡ Load
load_is Load e = refl
load_is Store e = cc
load_is Atomic e = cc
load_is Fence e = cc

pub write_is : (k : Kind) → is_write k ≡ true → (k ≡ Store) ⊎ (k ≡ Atomic)
write_is Load e = cc
write_is Store e = inl refl
write_is Atomic e = inr refl
write_is Fence e = cc

pub is_store : (k : Kind) → (k ≡ Store) ⊎ (k ≡ Store → ⊥)
is_store Load = inr (λ e. cc)
is_store Store = inl refl
is_store Atomic = inr (λ e. cc)
is_store Fence = inr (λ e. cc)

-- kinds that aren't stores, and that aren't loads
pub not_store : (k : Kind) → has but_stores k ≡ true → k ≡ Store → ⊥
not_store Load e f = cc
not_store Store e f = cc
not_store Atomic e f = cc
not_store Fence e f = cc

pub not_load : (k : Kind) → has but_loads k ≡ true → k ≡ Load → ⊥
not_load Load e f = cc
not_load Store e f = cc
not_load Atomic e f = cc
not_load Fence e f = cc

pub writes_not_load : (k : Kind) → has writes_rule.to k ≡ true → k ≡ Load → ⊥
writes_not_load Load e f = cc
writes_not_load Store e f = cc
writes_not_load Atomic e f = cc
writes_not_load Fence e f = cc
