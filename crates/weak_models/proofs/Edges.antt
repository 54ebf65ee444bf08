-- One edge more.
use Rattle.std.proofs.Common.{◌≡◌, inl, inr, ℕ, ◌+◌, ◌<◌, Bool, true, false, List, [], ◌∷◌, ◌++◌, length, refl, sym, subst, arith}
use Rattle.std.specs.Prelude.{Option, Some, None, MatchOption}
use Rattle.std.proofs.lemmas.Bool.{cases_lt}
use Rattle.std.proofs.lemmas.List.{length_push, get_or_push, get_or_append_left}
use Rattle.rising.specs.declared.edge.Edge.{Edge}
use Rattle.rising.specs.Graph.{edge_at, RisesOnEdges}
use Rattle.memory_models.specs.declared.kinds.Operation.{Operation}
use Rattle.memory_models.specs.Arcs.{ExtendsEdges, pushed_if}
use Rattle.memory_models.proofs.Pushed.{if_extends, if_rises}
use Rattle.weak_models.specs.declared.notes.Note.{Note}
use Rattle.weak_models.specs.declared.notes.Dependency.{Dependency}
use Rattle.weak_models.specs.declared.verdict.Reason.TheVariants as why
use Rattle.weak_models.specs.Preserved.{IsPreserved}
use Rattle.weak_models.specs.Order.{IsBehindPair}
use Rattle.weak_models.specs.Arcs.{IsRvwmoArc, AreRvwmoArcs, RisesOnto, RisesByProgram, RisesOverPairs, IsFirstBehind, pushed_to}

old_at : (edges : List Edge) (e : Edge) (k : ℕ) → k < length edges → edge_at (edges ++ e ∷ []) k ≡ edge_at edges k
old_at edges e k low = get_or_append_left edges (e ∷ []) (record { from = 0; to = 0 }) k low

new_at : (edges : List Edge) (e : Edge) → edge_at (edges ++ e ∷ []) (length edges) ≡ e
new_at edges e = get_or_push edges e (record { from = 0; to = 0 }) (length edges) refl

pub arcs_more : (notes : List Note) (dependencies : List Dependency) (ops : List Operation) (writes : List ℕ) (edges new : List Edge) (e : Edge)
    → new ≡ edges ++ e ∷ []
    → AreRvwmoArcs notes dependencies ops writes edges → IsRvwmoArc notes dependencies ops writes e.from e.to
    → AreRvwmoArcs notes dependencies ops writes new
arcs_more notes dependencies ops writes edges new e same are is = subst (λ z. AreRvwmoArcs notes dependencies ops writes z) (sym same) (record {
  each = λ k low. (let long = length_push edges e in
      elim (cases_lt k (length edges)) [
        | inl less ↦ subst (λ (z : Edge). IsRvwmoArc notes dependencies ops writes z.from z.to) (sym (old_at edges e k less)) (are.each k less)
        | inr high ↦ (let at : length edges ≡ k = omega arith in
            subst (λ z. IsRvwmoArc notes dependencies ops writes (edge_at (edges ++ e ∷ []) z).from (edge_at (edges ++ e ∷ []) z).to) at
            (subst (λ (z : Edge). IsRvwmoArc notes dependencies ops writes z.from z.to) (sym (new_at edges e)) is))
      ]);
})

-- edges that have grown, and what rises along them
pub record HasGrown (notes : List Note) (dependencies : List Dependency) (ops : List Operation) (writes : List ℕ) (old new : List Edge)
    (Done : Type 0) : Type 0 where
  pub arcs : AreRvwmoArcs notes dependencies ops writes new
  pub more : ExtendsEdges old new
  pub rises : Done

if_arcs : (notes : List Note) (dependencies : List Dependency) (ops : List Operation) (writes : List ℕ) (wanted : Bool) (e : Edge) (old new : List Edge)
    → new ≡ pushed_if wanted e old → AreRvwmoArcs notes dependencies ops writes old
    → (wanted ≡ true → IsRvwmoArc notes dependencies ops writes e.from e.to) → AreRvwmoArcs notes dependencies ops writes new
if_arcs notes dependencies ops writes true e old new same are is = arcs_more notes dependencies ops writes old new e same are (is refl)
if_arcs notes dependencies ops writes false e old new same are is = subst (λ z. AreRvwmoArcs notes dependencies ops writes z) (sym same) are

-- one operation before y more
pub onto_step : (notes : List Note) (dependencies : List Dependency) (ops : List Operation) (writes : List ℕ) (y x : ℕ) (wanted : Bool)
    (old new : List Edge) → y < length ops → x < y
    → (wanted ≡ true → IsPreserved notes dependencies ops writes x y)
    → (wanted ≡ false → IsPreserved notes dependencies ops writes x y → ⊥)
    → new ≡ pushed_if wanted (record { from = x; to = y }) old
    → AreRvwmoArcs notes dependencies ops writes old → RisesOnto notes dependencies ops writes y x old
    → HasGrown notes dependencies ops writes old new (RisesOnto notes dependencies ops writes y (x + 1) new)
onto_step notes dependencies ops writes y x wanted old new high low kept none same are before = record {
  arcs = if_arcs notes dependencies ops writes wanted e old new same are (λ w. (let p = kept w in
      record { from = omega arith; to = high; why = why.Preserved p.0; is = p.1 }));
  more = if_extends wanted e old new same;
  rises = λ number up z less preserved. elim (cases_lt z x) [
    | inl under ↦ before number (if_extends wanted e old new same number up) z under preserved
    | inr over ↦ (let at : x ≡ z = omega arith in
        let here : IsPreserved notes dependencies ops writes x y = subst (λ v. IsPreserved notes dependencies ops writes v y) (sym at) preserved in
        subst (λ v. number v < number y) at (if_rises wanted e old new same number up (is_wanted wanted (λ w. none w here))))
  ];
}
  where
    e : Edge
    e = record { from = x; to = y }

    is_wanted : (b : Bool) → (b ≡ false → ⊥) → b ≡ true
    is_wanted true n = refl
    is_wanted false n = absurd (n refl)

-- one operation more, onto which it rises
pub program_more : (notes : List Note) (dependencies : List Dependency) (ops : List Operation) (writes : List ℕ) (y : ℕ) (edges new : List Edge)
    → ExtendsEdges edges new → RisesOnto notes dependencies ops writes y y new → RisesByProgram notes dependencies ops writes y edges
    → RisesByProgram notes dependencies ops writes (y + 1) new
program_more notes dependencies ops writes y edges new more onto before number up x z low kept = elim (cases_lt z y) [
  | inl less ↦ before number (more number up) x z less kept
  | inr high ↦ (let at : y ≡ z = omega arith in
      let own = kept.1.own.before in
      subst (λ v. number x < number v) at
      (onto number up x (omega arith) (subst (λ v. IsPreserved notes dependencies ops writes x v) (sym at) kept)))
]

-- one store conditional more, from which there may be an edge
pub pair_step : (notes : List Note) (dependencies : List Dependency) (ops : List Operation) (writes : List ℕ) (w : ℕ) (found : Option ℕ)
    (old new : List Edge) → w < length ops
    → MatchOption found ((z : ℕ) → z < length ops → IsBehindPair notes ops w z → ⊥) (IsFirstBehind notes ops w)
    → new ≡ pushed_to w found old
    → AreRvwmoArcs notes dependencies ops writes old → RisesOverPairs notes ops w old
    → HasGrown notes dependencies ops writes old new (RisesOverPairs notes ops (w + 1) new)
pair_step notes dependencies ops writes w None old new low none same are before = record {
  arcs = subst (λ z. AreRvwmoArcs notes dependencies ops writes z) (sym same) are;
  more = λ number up. subst (λ z. RisesOnEdges z number) same up;
  rises = λ number up v z less high is. elim (cases_lt v w) [
    | inl under ↦ before number (subst (λ z. RisesOnEdges z number) same up) v z under high is
    | inr over ↦ (let at : v ≡ w = omega arith in absurd (none z high (subst (λ u. IsBehindPair notes ops u z) at is)))
  ];
}
pair_step notes dependencies ops writes w (Some s) old new low first same are before =
    let e : Edge = record { from = w; to = s } in
    record {
      arcs = if_arcs notes dependencies ops writes true e old new same are (λ u. record { from = low; to = first.low; why = why.Atomicity; is = first.is });
      more = if_extends true e old new same;
      rises = λ number up v z less high is. elim (cases_lt v w) [
        | inl under ↦ before number (if_extends true e old new same number up) v z under high is
        | inr over ↦ (let at : w ≡ v = omega arith in
            subst (λ u. (s : ℕ) × IsFirstBehind notes ops u s × (number u < number s)) at
            (s, first, if_rises true e old new same number up refl))
      ];
    }
