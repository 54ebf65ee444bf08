-- The dependencies of a cycle, one by one.
use Rattle.std.proofs.Common.{◌≡◌, inl, inr, ℕ, suc, ◌<◌, Bool, List, [], ◌∷◌, ◌++◌, length, sym, subst, arith}
use Rattle.std.proofs.lemmas.Bool.{cases_lt}
use Rattle.std.proofs.lemmas.List.{get_or_append_left, get_or_push}
use Rattle.network_judge.specs.declared.table.Kind.{Kind}
use Rattle.network_judge.specs.declared.table.Join.{Join}
use Rattle.network_judge.specs.declared.table.Reply.{Reply}
use Rattle.rising.specs.declared.search.Look.{Look}
use Rattle.rising.specs.declared.edge.Edge.{Edge}
use Rattle.rising.specs.Graph.{edge_at}
use Rattle.rising.specs.Search.{path_look}
use Rattle.network_adaptive.specs.declared.verdict.Dependency as dependency
use Rattle.network_adaptive.specs.declared.verdict.How.{How}
use Rattle.network_adaptive.specs.declared.verdict.How.TheVariants.{Over, Replied}
use Rattle.network_adaptive.specs.Between.{dependency_at, IsHowOver, IsHow, IsDependencyOf}

module _ (kinds : List Kind) (joins : List Join) (replies : List Reply) (choices : List ℕ) (ways : ℕ) (marks none : List Bool) (waits : List Edge) where
  -- a way to the channel of a column is how a channel leads on in it
  pub how_over : {A : Type 0} (look : Look) (how : How A) → look.column < length waits
      → IsHowOver kinds joins choices ways marks none look.node (edge_at waits look.column).to how → IsHow kinds joins replies choices ways marks none waits look how
  how_over look (Over j over) low h = (low, h)
  how_over look (Replied z) low h = absurd h

  -- one dependency more
  pub each_more : {A : Type 0} (looks : List Look) (edges : List (dependency.Dependency A)) (edge : dependency.Dependency A) (k m : ℕ) → m ≡ suc k
      → length edges ≡ k → IsDependencyOf kinds joins replies choices ways marks none waits (path_look looks k) edge
      → ((i : ℕ) → i < k → IsDependencyOf kinds joins replies choices ways marks none waits (path_look looks i) (dependency_at edges i))
      → (i : ℕ) → i < m → IsDependencyOf kinds joins replies choices ways marks none waits (path_look looks i) (dependency_at (edges ++ edge ∷ []) i)
  each_more {A} looks edges edge k m e size here before i l = elim (cases_lt i k) [
    | inl low ↦ subst (λ (d : dependency.Dependency A). IsDependencyOf kinds joins replies choices ways marks none waits (path_look looks i) d)
        (sym (get_or_append_left edges (edge ∷ []) (record { channel = 0; how = Replied 0 }) i (omega arith))) (before i low)
    | inr high ↦ (let same : k ≡ i = omega arith in
        subst (λ z. IsDependencyOf kinds joins replies choices ways marks none waits (path_look looks z) (dependency_at (edges ++ edge ∷ []) z)) same
        (subst (λ (d : dependency.Dependency A). IsDependencyOf kinds joins replies choices ways marks none waits (path_look looks k) d)
        (sym (get_or_push edges edge (record { channel = 0; how = Replied 0 }) k size)) here))
  ]
