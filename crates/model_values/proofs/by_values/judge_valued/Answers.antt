use Rattle.std.proofs.Common.{ℕ, List, refl, sym, subst}
use Rattle.memory_models.specs.declared.kinds.Operation.{Operation}
use Rattle.model_values.specs.Unordered.{IsPlacing}
use Rattle.model_values.specs.Values.{AreKnownSources, AreSourcesOf, IsValuedPlacing}
use Rattle.model_values.proofs.ValuedVerdicts.{judged_ok}
use Rattle.model_values.proofs.by_values.judge_valued.Goals as goal

pub returns : goal.returns
returns g c =
    let v = c.args.valued.now in
    let known : AreKnownSources v c.in-Told.sources.items =
    subst (λ z. AreSourcesOf {A = g.row.A.Denot} v z) c.in-Told.is c.requires.sources in
    judged_ok {A = g.row.A.Denot} c.args.rules.now v _ c.args.nodes c.judge_unordered.result refl refl
    (subst (λ (s : List ℕ). (placed : List Operation) (writes : List ℕ)
    → (IsValuedPlacing v placed writes → IsPlacing v.operations.now s v.words v.openings v.closing placed writes)
    × (IsPlacing v.operations.now s v.words v.openings v.closing placed writes → IsValuedPlacing v placed writes))
    (sym c.deref.ensures.value) known.same)
    c.judge_unordered.ensures
