-- Worked traces, each with an order under one model and none under a stronger one.
use Rattle.std.proofs.Common.{◌≡◌, ◌⊎◌, inl, inr, ℕ, ◌<◌, List, [], ◌∷◌, refl, arith}
use Rattle.std.specs.Prelude.{slice_index}
use Rattle.memory_models.specs.declared.kinds.Kind.{Kind}
use Rattle.memory_models.specs.declared.kinds.Kind.TheVariants.{Load, Store}
use Rattle.memory_models.specs.declared.kinds.Operation.{Operation}
use Rattle.memory_models.specs.Trace.{rule_at, IsOwn}
use Rattle.memory_models.specs.Models.{sequential, total_store_order, partial_store_order, coherent, fenced}
use Rattle.memory_models.specs.Order.{IsMemoryOrder}
use Rattle.memory_models.proofs.Deciding.{order_is}
use Rattle.memory_models.proofs.Tested.{applies_is}

abbrev op : ℕ → Kind → ℕ → ℕ → Operation
op processor kind word place = record { processor = processor; kind = kind; word = word; place = place }

-- what a load read is before it, if it isn't of its processor
from_other : (ops : List Operation) (turn : ℕ → ℕ) (s x : ℕ) → (IsOwn ops s x → ⊥) → (turn s < turn x) ⊎ IsOwn ops s x → turn s < turn x
from_other ops turn s x other (inl less) = less
from_other ops turn s x other (inr own) = absurd (other own)

-- store buffering: processors 2 and 3 each store a word, and load the opening value of the other's. Processors 0 and
-- 1 store the opening words, here and below
abbrev buffering : List Operation
buffering =
    op 0 Store 0 0 ∷ op 1 Store 1 2
    ∷ op 2 Store 0 1 ∷ op 2 Load 1 2
    ∷ op 3 Store 1 3 ∷ op 3 Load 0 0 ∷ []

abbrev buffering_writes : List ℕ
buffering_writes = 0 ∷ 2 ∷ 1 ∷ 4 ∷ []

-- total store order has an order of it: both loads, and then both stores
buffering_is_total_store_order : IsMemoryOrder total_store_order buffering buffering_writes (slice_index (0 ∷ 1 ∷ 4 ∷ 2 ∷ 5 ∷ 3 ∷ []))
buffering_is_total_store_order =
    order_is total_store_order buffering buffering_writes (slice_index (0 ∷ 1 ∷ 4 ∷ 2 ∷ 5 ∷ 3 ∷ [])) refl

-- one memory has none
buffering_is_not_sequential : (turn : ℕ → ℕ) → IsMemoryOrder sequential buffering buffering_writes turn → ⊥
buffering_is_not_sequential turn o =
    let a : turn 2 < turn 3 = o.program 2 3 (omega arith) (inl (0, omega arith, applies_is (rule_at sequential 0) buffering 2 3 refl)) in
    let b : turn 4 < turn 5 = o.program 4 5 (omega arith) (inl (0, omega arith, applies_is (rule_at sequential 0) buffering 4 5 refl)) in
    let c = o.newest 3 4 (omega arith) (omega arith) refl refl (record { first = refl; second = refl; word = refl }) (omega arith) in
    let d = o.newest 5 2 (omega arith) (omega arith) refl refl (record { first = refl; second = refl; word = refl }) (omega arith) in
    let c0 : turn 3 < turn 4 = c.0 in
    let d0 : turn 5 < turn 2 = d.0 in
    absurd (omega (arith, a, b, c0, d0))

-- message passing without a fence: processor 2 stores word 0 and then word 1; processor 3 loads the new word 1
-- and then the old word 0
abbrev passing : List Operation
passing =
    op 0 Store 0 0 ∷ op 1 Store 1 2
    ∷ op 2 Store 0 1 ∷ op 2 Store 1 3
    ∷ op 3 Load 1 3 ∷ op 3 Load 0 0 ∷ []

abbrev passing_writes : List ℕ
passing_writes = 0 ∷ 2 ∷ 1 ∷ 3 ∷ []

abbrev passing_turns : List ℕ
passing_turns = 0 ∷ 1 ∷ 5 ∷ 2 ∷ 3 ∷ 4 ∷ []

-- where stores on different words pass one another it has an order, and so it has by words alone or with fences
passing_is_partial_store_order : IsMemoryOrder partial_store_order passing passing_writes (slice_index passing_turns)
passing_is_partial_store_order = order_is partial_store_order passing passing_writes (slice_index passing_turns) refl

passing_is_coherent : IsMemoryOrder coherent passing passing_writes (slice_index passing_turns)
passing_is_coherent = order_is coherent passing passing_writes (slice_index passing_turns) refl

passing_is_fenced : IsMemoryOrder fenced passing passing_writes (slice_index passing_turns)
passing_is_fenced = order_is fenced passing passing_writes (slice_index passing_turns) refl

-- total store order has none
passing_is_not_total_store_order : (turn : ℕ → ℕ) → IsMemoryOrder total_store_order passing passing_writes turn → ⊥
passing_is_not_total_store_order turn o =
    let a : turn 2 < turn 3 = o.program 2 3 (omega arith) (inl (1, omega arith, applies_is (rule_at total_store_order 1) passing 2 3 refl)) in
    let b : turn 4 < turn 5 = o.program 4 5 (omega arith) (inl (0, omega arith, applies_is (rule_at total_store_order 0) passing 4 5 refl)) in
    let c : turn 3 < turn 4 = from_other passing turn 3 4 (λ own. let bad : 2 ≡ 3 = own.processor in absurd (omega (arith, bad))) (o.source 4 (omega arith) refl) in
    let d = o.newest 5 2 (omega arith) (omega arith) refl refl (record { first = refl; second = refl; word = refl }) (omega arith) in
    let d0 : turn 5 < turn 2 = d.0 in
    absurd (omega (arith, a, b, c, d0))

-- two loads of a word by one processor, the first of the new value and the second of the old one: no coherent order
abbrev backwards : List Operation
backwards = op 0 Store 0 0 ∷ op 1 Store 0 1 ∷ op 2 Load 0 1 ∷ op 2 Load 0 0 ∷ []

backwards_is_not_coherent : (turn : ℕ → ℕ) → IsMemoryOrder coherent backwards (0 ∷ 1 ∷ []) turn → ⊥
backwards_is_not_coherent turn o =
    let a : turn 2 < turn 3 = o.program 2 3 (omega arith) (inl (0, omega arith, applies_is (rule_at coherent 0) backwards 2 3 refl)) in
    let b : turn 1 < turn 2 = from_other backwards turn 1 2 (λ own. let bad : 1 ≡ 2 = own.processor in absurd (omega (arith, bad))) (o.source 2 (omega arith) refl) in
    let c = o.newest 3 1 (omega arith) (omega arith) refl refl (record { first = refl; second = refl; word = refl }) (omega arith) in
    let c0 : turn 3 < turn 1 = c.0 in
    absurd (omega (arith, a, b, c0))
