-- A way between two channels is an extended dependency.
use Rattle.std.proofs.Common.{◌≡◌, inl, inr, ℕ, ◌+◌, ◌-◌, Bool, true, List, [], ◌∷◌, length}
use Rattle.network_adaptive.specs.Choices.{AdaptiveNet, Comes, Roams, FromHere, ByNoEscape, ExtendedDependency}
use Rattle.network_adaptive.specs.Verdicts.{IsEdge, IsDependencyCycle}
use Rattle.network_adaptive.specs.declared.verdict.Dependency as dependency
use Rattle.network_adaptive.specs.declared.verdict.How.{How}
use Rattle.network_adaptive.specs.declared.verdict.How.TheVariants.{Over, Replied}
use Rattle.network_adaptive.specs.Between.{WaitsOver, IsDependencyBy, IsCycleBy, dependency_at}

module _ (n : AdaptiveNet) (x j y : ℕ) (held : n.marked x ≡ true) (come : Comes n j x) where
  from : (z : ℕ) (over : List ℕ) → Roams n j x z → WaitsOver n j z over y → ExtendedDependency n x j y
  from z [] r w = record { held = held; comes = come; head = z; roams = r; input = w.0; escape = w.1 }
  from z (u ∷ over) r w = from u over (ByNoEscape z u r w.0 w.1) w.2

  pub way_depends : (over : List ℕ) → WaitsOver n j x over y → ExtendedDependency n x j y
  way_depends over w = from x over FromHere w

pub edge_by : {A : Type 0} (n : AdaptiveNet) (answers : ℕ → ℕ → Bool) (x y : ℕ) (how : How A) → IsDependencyBy n answers x how y → IsEdge n answers x y
edge_by n answers x y (Over j over) d = inl (j, way_depends n x j y d.0 d.1 over.items d.2)
edge_by n answers x y (Replied z) d = inr d.1

pub cycle_by : {A : Type 0} (n : AdaptiveNet) (answers : ℕ → ℕ → Bool) (edges : List (dependency.Dependency A)) → IsCycleBy n answers edges
    → IsDependencyCycle n answers (length edges) (λ k. (dependency_at edges k).channel)
cycle_by n answers edges c = record {
  some = c.some;
  each = λ k l. edge_by n answers (dependency_at edges k).channel (dependency_at edges (k + 1)).channel (dependency_at edges k).how (c.each k l);
  last = edge_by n answers (dependency_at edges (length edges - 1)).channel (dependency_at edges 0).channel (dependency_at edges (length edges - 1)).how c.last;
}
