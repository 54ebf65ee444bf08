-- The verdicts in the words of a machine.
use Rattle.std.proofs.Common.{◌⊎◌, inl, inr, ℕ, zero, suc, ◌<◌, List, length, refl, arith}
use Rattle.std.specs.Prelude.{slice_index}
use Rattle.memory_models.specs.declared.kinds.Kind.{Kind}
use Rattle.memory_models.specs.declared.kinds.Kind.TheVariants.{Load, Store, Atomic, Fence}
use Rattle.memory_models.specs.declared.kinds.Operation.{Operation}
use Rattle.memory_models.specs.declared.kinds.Verdict.{Verdict}
use Rattle.memory_models.specs.declared.kinds.Verdict.TheVariants.{Ordered, Cycle}
use Rattle.memory_models.specs.Trace.{IsMemoryTrace, rule_at}
use Rattle.memory_models.specs.Arcs.{IsChained}
use Rattle.memory_models.specs.Following.{IsChainedOn}
use Rattle.memory_models.specs.Models.{sequential, total_store_order, partial_store_order, coherent, fenced}
use Rattle.memory_models.specs.Machines.{effect_at}
use Rattle.memory_models.specs.Verdict.{IsModelVerdict}
use Rattle.memory_models.specs.Headline.{IsSequentialVerdict, IsBufferVerdict, IsWordBufferVerdict, IsWordVerdict}
use Rattle.memory_models.proofs.Sequential.{order_is_sequential, sequential_is_order}
use Rattle.memory_models.proofs.Buffers.{run_is_order, order_is_run, word_run_is_order, order_is_word_run}
use Rattle.memory_models.proofs.Coherent.{coherent_is_sequential_on, sequential_on_is_coherent, merged}
use Rattle.memory_models.proofs.Blocks.{made_at, left_at}

pub sequential_verdict : {A : Type 0} (words : ℕ) (ops : List Operation) (writes : List ℕ) (v : Verdict A) → IsMemoryTrace words ops writes
    → IsModelVerdict sequential ops writes v → IsSequentialVerdict ops writes v
sequential_verdict words ops writes (Ordered turns) t v = (v.0, order_is_sequential words ops writes (slice_index turns.items) t v.1)
sequential_verdict words ops writes (Cycle steps) t v = (v.0, λ turn q. v.1 turn (sequential_is_order words ops writes turn t q))

pub buffer_verdict : {A : Type 0} (words : ℕ) (ops : List Operation) (writes : List ℕ) (v : Verdict A) → IsMemoryTrace words ops writes
    → IsModelVerdict total_store_order ops writes v → IsBufferVerdict ops writes v
buffer_verdict words ops writes (Ordered turns) t v =
    let turn : ℕ → ℕ = slice_index turns.items in
    (v.0, v.1, (made_at ops turn, left_at ops turn, order_is_run words ops writes turn t v.1))
buffer_verdict words ops writes (Cycle steps) t v =
    (v.0, λ made left run. v.1 (effect_at ops made left) (run_is_order words ops writes made left t run))

pub word_buffer_verdict : {A : Type 0} (words : ℕ) (ops : List Operation) (writes : List ℕ) (v : Verdict A) → IsMemoryTrace words ops writes
    → IsModelVerdict partial_store_order ops writes v → IsWordBufferVerdict ops writes v
word_buffer_verdict words ops writes (Ordered turns) t v =
    let turn : ℕ → ℕ = slice_index turns.items in
    (v.0, v.1, (made_at ops turn, left_at ops turn, order_is_word_run words ops writes turn t v.1))
word_buffer_verdict words ops writes (Cycle steps) t v =
    (v.0, λ made left run. v.1 (effect_at ops made left) (word_run_is_order words ops writes made left t run))

pub word_verdict : {A : Type 0} (words : ℕ) (ops : List Operation) (writes : List ℕ) (v : Verdict A) → IsMemoryTrace words ops writes
    → IsModelVerdict coherent ops writes v → IsWordVerdict ops writes v
word_verdict words ops writes (Ordered turns) t v = (v.0, coherent_is_sequential_on words ops writes (slice_index turns.items) t v.1)
word_verdict words ops writes (Cycle steps) t v =
    (v.0, λ turns all. v.1 (merged words ops turns) (sequential_on_is_coherent words ops writes turns t all))

pub sequential_chained : (k : ℕ) → k < length sequential → IsChained (rule_at sequential k) ⊎ IsChainedOn (rule_at sequential k)
sequential_chained zero low = inl (λ kind e. e)
sequential_chained (suc k) low = absurd (omega arith)

all_of : (kind : Kind) → IsChained (rule_at total_store_order 0)
all_of kind Load e = refl
all_of kind Store e = refl
all_of kind Atomic e = refl
all_of kind Fence e = refl

pub total_store_order_chained : (k : ℕ) → k < length total_store_order
    → IsChained (rule_at total_store_order k) ⊎ IsChainedOn (rule_at total_store_order k)
total_store_order_chained zero low = inl (all_of Load)
total_store_order_chained (suc zero) low = inl (λ kind e. e)
total_store_order_chained (suc (suc k)) low = absurd (omega arith)

-- the other models' rules are of one of the two shapes
fences_on_last : (kind : Kind) → IsChainedOn (rule_at partial_store_order 1)
fences_on_last kind Load e = cc
fences_on_last kind Store e = cc
fences_on_last kind Atomic e = cc
fences_on_last kind Fence e = refl

pub partial_store_order_chained : (k : ℕ) → k < length partial_store_order
    → IsChained (rule_at partial_store_order k) ⊎ IsChainedOn (rule_at partial_store_order k)
partial_store_order_chained zero low = inl (all_of Load)
partial_store_order_chained (suc zero) low = inr (fences_on_last Load)
partial_store_order_chained (suc (suc k)) low = absurd (omega arith)

pub coherent_chained : (k : ℕ) → k < length coherent → IsChained (rule_at coherent k) ⊎ IsChainedOn (rule_at coherent k)
coherent_chained zero low = inl (λ kind e. e)
coherent_chained (suc k) low = absurd (omega arith)

fence_first : (kind : Kind) → IsChained (rule_at fenced 1)
fence_first kind Load e = refl
fence_first kind Store e = refl
fence_first kind Atomic e = refl
fence_first kind Fence e = refl

fence_last : (kind : Kind) → IsChainedOn (rule_at fenced 2)
fence_last kind Load e = cc
fence_last kind Store e = cc
fence_last kind Atomic e = cc
fence_last kind Fence e = refl

pub fenced_chained : (k : ℕ) → k < length fenced → IsChained (rule_at fenced k) ⊎ IsChainedOn (rule_at fenced k)
fenced_chained zero low = inl (λ kind e. e)
fenced_chained (suc zero) low = inl (fence_first Load)
fenced_chained (suc (suc zero)) low = inr (fence_last Load)
fenced_chained (suc (suc (suc k))) low = absurd (omega arith)
