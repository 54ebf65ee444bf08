-- Turns that were looked at are an order that explains the trace.
use Rattle.std.proofs.Common.{◌≡◌, ℕ, List, length, subst}
use Rattle.std.specs.Prelude.{slice_index}
use Rattle.rising.specs.declared.edge.Edge.{Edge}
use Rattle.rising.specs.Found.{IsPermutationBelow}
use Rattle.rising.specs.Graph.{RisesOnEdges}
use Rattle.memory_models.specs.declared.kinds.Operation.{Operation}
use Rattle.memory_models.specs.Trace.{IsMemoryTrace}
use Rattle.memory_models.specs.Models.{coherent}
use Rattle.weak_models.specs.declared.bounds.Bounds.{Bounds}
use Rattle.weak_models.specs.declared.notes.Dependency.{Dependency}
use Rattle.weak_models.specs.declared.notes.Note.{Note}
use Rattle.weak_models.specs.Arcs.{AreOtherArcs}
use Rattle.weak_models.specs.Bounds.{AreKept, AreChained, AreDependenciesKept}
use Rattle.weak_models.specs.Equal.{HasOrder}
use Rattle.weak_models.specs.Verdict.{IsOrderOf}
use Rattle.weak_models.proofs.Bounded.{keeps_preserved}
use Rattle.weak_models.proofs.Exact.{words_order, rvwmo_of}

pub judged : (words : ℕ) (notes : List Note) (dependencies : List Dependency) (ops : List Operation) (writes : List ℕ) (arcs : List Edge) (turns : List ℕ)
    (bounds : List Bounds) → IsMemoryTrace words ops writes → AreOtherArcs notes ops writes arcs → IsPermutationBelow (length turns) turns
    → length turns ≡ length ops → RisesOnEdges arcs (slice_index turns) → AreKept notes ops writes turns bounds → AreChained notes ops turns bounds
    → AreDependenciesKept dependencies ops turns bounds → HasOrder coherent ops writes
    → IsOrderOf notes dependencies ops writes turns
judged words notes dependencies ops writes arcs turns bounds t are p size up kept chain depend h =
    let q : IsPermutationBelow (length ops) turns = subst (λ n. IsPermutationBelow n turns) size p in
    let o = words_order words ops writes are.first (slice_index turns) t are.words (are.more (slice_index turns) up) q.apart in (
      q,
      rvwmo_of words notes dependencies ops writes arcs (slice_index turns) t o are.pairs up
          (keeps_preserved words notes dependencies ops writes turns bounds t kept chain depend h.0 h.1 o),
    )
