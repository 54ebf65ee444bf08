-- The models that are asked of a log.
use Rattle.std.proofs.Common.{◌≡◌, ◌⊎◌, ℕ, ◌<◌, true, false, List, length, sym, subst}
use Rattle.std.specs.Prelude.{slice_index}
use Rattle.memory_models.specs.declared.kinds.Operation.{Operation}
use Rattle.memory_models.specs.declared.kinds.Rule.{Rule}
use Rattle.memory_models.specs.declared.kinds.Verdict.{Verdict}
use Rattle.memory_models.specs.declared.kinds.Verdict.TheVariants.{Ordered, Cycle}
use Rattle.memory_models.specs.Arcs.{IsChained}
use Rattle.memory_models.specs.Following.{IsChainedOn}
use Rattle.memory_models.specs.Machines.{IsSequential, IsBufferRun}
use Rattle.memory_models.specs.Models.{partial_store_order, coherent, fenced}
use Rattle.memory_models.specs.Trace.{IsMemoryTrace, rule_at}
use Rattle.memory_models.specs.Verdict.{IsModelVerdict}
use Rattle.memory_models.specs.Headline.{IsSequentialVerdict, IsBufferVerdict, IsWordBufferVerdict, IsWordVerdict}
use Rattle.memory_models.specs.WordBuffers.{IsWordBufferRun}
use Rattle.memory_models.specs.WordOrders.{IsSequentialOn}
use Rattle.memory_models.proofs.Headlined.{coherent_chained, fenced_chained, partial_store_order_chained, total_store_order_chained, sequential_chained}
use Rattle.memory_models.proofs.Headlined.{sequential_verdict, buffer_verdict, word_buffer_verdict, word_verdict}
use Rattle.model_answer.specs.declared.judged.Verdicts.{Verdicts}
use Rattle.model_answer.specs.declared.model.MemoryModel.{MemoryModel}
use Rattle.model_answer.specs.declared.model.MemoryModel.TheVariants.{Coherent, Fenced, Pso, Tso, Sc}
use Rattle.model_answer.specs.Answer.{obeys_of, verdict_by}
use Rattle.model_answer.specs.Judged.{AreVerdicts, TellsObeyed, TellsOrder, is_ordered}
use Rattle.model_answer.specs.Model.{rules_of_model}

-- the rules of each model are of the two shapes
pub chained_by : (model : MemoryModel) (k : ℕ) → k < length (rules_of_model model)
    → IsChained (rule_at (rules_of_model model) k) ⊎ IsChainedOn (rule_at (rules_of_model model) k)
chained_by Coherent k l = coherent_chained k l
chained_by Fenced k l = fenced_chained k l
chained_by Pso k l = partial_store_order_chained k l
chained_by Tso k l = total_store_order_chained k l
chained_by Sc k l = sequential_chained k l

pub chained_so : (model : MemoryModel) (rules : List Rule) → rules ≡ rules_of_model model → (k : ℕ) → k < length rules
    → IsChained (rule_at rules k) ⊎ IsChainedOn (rule_at rules k)
chained_so model rules is = subst (λ (rs : List Rule). (k : ℕ) → k < length rs → IsChained (rule_at rs k) ⊎ IsChainedOn (rule_at rs k)) (sym is) (chained_by model)

-- the verdict of a model
pub verdict_of : {A : Type 0} (ops : List Operation) (writes : List ℕ) (v : Verdicts A) (model : MemoryModel) → AreVerdicts ops writes v
    → IsModelVerdict (rules_of_model model) ops writes (verdict_by model v)
verdict_of ops writes v Coherent are = are.by_coherent
verdict_of ops writes v Fenced are = are.by_fenced
verdict_of ops writes v Pso are = are.by_pso
verdict_of ops writes v Tso are = are.by_tso
verdict_of ops writes v Sc are = are.by_sc

-- what it tells
order_told : {A : Type 0} (rules : List Rule) (ops : List Operation) (writes : List ℕ) (v : Verdict A) → IsModelVerdict rules ops writes v
    → TellsOrder rules ops writes (is_ordered v)
order_told rules ops writes (Ordered turns) is = record { yes = λ e. (slice_index turns.items, is.1); no = λ e. cc }
order_told rules ops writes (Cycle steps) is = record { yes = λ e. cc; no = λ e. is.1 }

runs_told : {A : Type 0} (ops : List Operation) (writes : List ℕ) (v : Verdict A) → IsBufferVerdict ops writes v → is_ordered v ≡ true
    → (made : ℕ → ℕ) × (left : ℕ → ℕ) × IsBufferRun ops writes made left
runs_told ops writes (Ordered turns) is e = is.2
runs_told ops writes (Cycle steps) is e = cc

no_run_told : {A : Type 0} (ops : List Operation) (writes : List ℕ) (v : Verdict A) → IsBufferVerdict ops writes v → is_ordered v ≡ false
    → (made left : ℕ → ℕ) → IsBufferRun ops writes made left → ⊥
no_run_told ops writes (Ordered turns) is e = cc
no_run_told ops writes (Cycle steps) is e = is.1

word_runs_told : {A : Type 0} (ops : List Operation) (writes : List ℕ) (v : Verdict A) → IsWordBufferVerdict ops writes v → is_ordered v ≡ true
    → (made : ℕ → ℕ) × (left : ℕ → ℕ) × IsWordBufferRun ops writes made left
word_runs_told ops writes (Ordered turns) is e = is.2
word_runs_told ops writes (Cycle steps) is e = cc

no_word_run_told : {A : Type 0} (ops : List Operation) (writes : List ℕ) (v : Verdict A) → IsWordBufferVerdict ops writes v → is_ordered v ≡ false
    → (made left : ℕ → ℕ) → IsWordBufferRun ops writes made left → ⊥
no_word_run_told ops writes (Ordered turns) is e = cc
no_word_run_told ops writes (Cycle steps) is e = is.1

word_memories_told : {A : Type 0} (ops : List Operation) (writes : List ℕ) (v : Verdict A) → IsWordVerdict ops writes v → is_ordered v ≡ true
    → (turn : ℕ → ℕ) × ((word : ℕ) → IsSequentialOn word ops writes turn)
word_memories_told ops writes (Ordered turns) is e = (slice_index turns.items, is.1)
word_memories_told ops writes (Cycle steps) is e = cc

no_memories_told : {A : Type 0} (ops : List Operation) (writes : List ℕ) (v : Verdict A) → IsWordVerdict ops writes v → is_ordered v ≡ false
    → (turns : ℕ → ℕ → ℕ) → ((word : ℕ) → IsSequentialOn word ops writes (turns word)) → ⊥
no_memories_told ops writes (Ordered turns) is e = cc
no_memories_told ops writes (Cycle steps) is e = is.1

memory_told : {A : Type 0} (ops : List Operation) (writes : List ℕ) (v : Verdict A) → IsSequentialVerdict ops writes v → is_ordered v ≡ true
    → (turn : ℕ → ℕ) × IsSequential ops writes turn
memory_told ops writes (Ordered turns) is e = (slice_index turns.items, is.1)
memory_told ops writes (Cycle steps) is e = cc

no_memory_told : {A : Type 0} (ops : List Operation) (writes : List ℕ) (v : Verdict A) → IsSequentialVerdict ops writes v → is_ordered v ≡ false
    → (turn : ℕ → ℕ) → IsSequential ops writes turn → ⊥
no_memory_told ops writes (Ordered turns) is e = cc
no_memory_told ops writes (Cycle steps) is e = is.1

-- what all tell
pub obeyed : {A : Type 0} (words : ℕ) (ops : List Operation) (writes : List ℕ) (v : Verdicts A) → IsMemoryTrace words ops writes
    → AreVerdicts ops writes v → TellsObeyed ops writes (obeys_of v)
obeyed words ops writes v t are =
    let buffers = buffer_verdict words ops writes v.tso t are.by_tso in
    let memory = sequential_verdict words ops writes v.sc t are.by_sc in
    let word_buffers = word_buffer_verdict words ops writes v.pso t are.by_pso in
    let memories = word_verdict words ops writes v.coherent t are.by_coherent in
    record {
      by_coherent = order_told coherent ops writes v.coherent are.by_coherent;
      word_memories = word_memories_told ops writes v.coherent memories;
      no_memories = no_memories_told ops writes v.coherent memories;
      by_fenced = order_told fenced ops writes v.fenced are.by_fenced;
      by_pso = order_told partial_store_order ops writes v.pso are.by_pso;
      word_runs = word_runs_told ops writes v.pso word_buffers;
      no_word_run = no_word_run_told ops writes v.pso word_buffers;
      runs = runs_told ops writes v.tso buffers;
      no_run = no_run_told ops writes v.tso buffers;
      one_memory = memory_told ops writes v.sc memory;
      no_memory = no_memory_told ops writes v.sc memory;
    }
