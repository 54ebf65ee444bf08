-- One edge more.
use Rattle.std.proofs.Common.{◌≡◌, inl, inr, ℕ, ◌<◌, Bool, true, false, List, [], ◌∷◌, ◌++◌, length, refl, sym, subst, arith}
use Rattle.std.proofs.lemmas.Bool.{cases_lt}
use Rattle.std.proofs.lemmas.List.{length_push, get_or_push, get_or_append_left}
use Rattle.rising.specs.declared.edge.Edge.{Edge}
use Rattle.rising.specs.Graph.{edge_at, RisesOnEdges}
use Rattle.memory_models.specs.declared.kinds.Operation.{Operation}
use Rattle.memory_models.specs.declared.kinds.Rule.{Rule}
use Rattle.memory_models.specs.Arcs.{IsArc, AreArcs, ExtendsEdges, pushed_if}

-- the edges before, and the new one
old_at : (edges : List Edge) (e : Edge) (k : ℕ) → k < length edges → edge_at (edges ++ e ∷ []) k ≡ edge_at edges k
old_at edges e k low = get_or_append_left edges (e ∷ []) (record { from = 0; to = 0 }) k low

new_at : (edges : List Edge) (e : Edge) → edge_at (edges ++ e ∷ []) (length edges) ≡ e
new_at edges e = get_or_push edges e (record { from = 0; to = 0 }) (length edges) refl

pushed_extends : (edges : List Edge) (e : Edge) → ExtendsEdges edges (edges ++ e ∷ [])
pushed_extends edges e number rises k low =
    let long = length_push edges e in
    subst (λ (z : Edge). number z.from < number z.to) (old_at edges e k low) (rises k (omega arith))

pushed_rises : (edges : List Edge) (e : Edge) (number : ℕ → ℕ) → RisesOnEdges (edges ++ e ∷ []) number → number e.from < number e.to
pushed_rises edges e number rises =
    let long = length_push edges e in
    subst (λ (z : Edge). number z.from < number z.to) (new_at edges e) (rises (length edges) (omega arith))

pushed_arcs : (rules : List Rule) (ops : List Operation) (writes : List ℕ) (edges : List Edge) (e : Edge) → AreArcs rules ops writes edges
    → IsArc rules ops writes e.from e.to → AreArcs rules ops writes (edges ++ e ∷ [])
pushed_arcs rules ops writes edges e are is = record {
  each = λ k low. (let long = length_push edges e in
      elim (cases_lt k (length edges)) [
        | inl less ↦ subst (λ (z : Edge). IsArc rules ops writes z.from z.to) (sym (old_at edges e k less)) (are.each k less)
        | inr high ↦ (let same : length edges ≡ k = omega arith in
            subst (λ z. IsArc rules ops writes (edge_at (edges ++ e ∷ []) z).from (edge_at (edges ++ e ∷ []) z).to) same
            (subst (λ (z : Edge). IsArc rules ops writes z.from z.to) (sym (new_at edges e)) is))
      ]);
}

-- an edge that is pushed, if it is wanted, extends the edges
pub if_extends : (wanted : Bool) (e : Edge) (old new : List Edge) → new ≡ pushed_if wanted e old → ExtendsEdges old new
if_extends true e old new same = subst (λ z. ExtendsEdges old z) (sym same) (pushed_extends old e)
if_extends false e old new same = λ number rises. subst (λ z. RisesOnEdges z number) same rises

pub if_rises : (wanted : Bool) (e : Edge) (old new : List Edge) → new ≡ pushed_if wanted e old → (number : ℕ → ℕ) → RisesOnEdges new number
    → wanted ≡ true → number e.from < number e.to
if_rises true e old new same number rises is = pushed_rises old e number (subst (λ z. RisesOnEdges z number) same rises)
if_rises false e old new same number rises is = cc

pub if_arcs : (rules : List Rule) (ops : List Operation) (writes : List ℕ) (wanted : Bool) (e : Edge) (old new : List Edge)
    → new ≡ pushed_if wanted e old → AreArcs rules ops writes old → (wanted ≡ true → IsArc rules ops writes e.from e.to)
    → AreArcs rules ops writes new
if_arcs rules ops writes true e old new same are is =
    subst (λ z. AreArcs rules ops writes z) (sym same) (pushed_arcs rules ops writes old e are (is refl))
if_arcs rules ops writes false e old new same are is = subst (λ z. AreArcs rules ops writes z) (sym same) are
