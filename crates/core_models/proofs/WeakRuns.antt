-- Orders of RISC-V's memory model of runs.
use Rattle.std.proofs.Common.{◌≡◌, ◌⊎◌, inl, inr, ℕ, List, [], length}
use Rattle.torus.specs.declared.step.Step.{Step}
use Rattle.memory_models.specs.declared.kinds.Operation.{Operation}
use Rattle.memory_models.specs.Machines.{IsSequential}
use Rattle.memory_models.proofs.Sequential.{sequential_is_order}
use Rattle.weak_models.specs.declared.notes.Note.{Note}
use Rattle.weak_models.specs.declared.notes.Dependency.{Dependency}
use Rattle.weak_models.specs.Equal.{HasRvwmoOrder, HasNoPairs, HasNoAnnotations}
use Rattle.weak_models.proofs.Weakened.{of_sequential}
use Rattle.weak_models.proofs.Stronger.{no_pairs_are_atomic, no_pairs_are_on_one}
use Rattle.weak_models.proofs.Bare.{of_fenced}
use Rattle.one_order.specs.declared.ordered.Ordered.{Ordered}
use Rattle.core_laws.specs.Core.{Load}
use Rattle.core_laws.specs.Runs.{IsAcceptedLoad}
use Rattle.core_laws.specs.Machine.{IsLawful}
use Rattle.core_models.specs.Runs.{IsTraceOfRun, AreFencedApart, RepliesInTurn}
use Rattle.core_models.proofs.OfRuns.{is_trace, is_fenced, sequential_by_fences, sequential_by_one_tag}

module _ (l : Load) (steps : List Step) (rows : List Ordered) (ok : IsAcceptedLoad l) (lawful : IsLawful l steps rows)
    (ops : List Operation) (writes : List ℕ) (t : IsTraceOfRun l steps rows ops writes) where
  pub every_run : (notes : List Note) → HasNoAnnotations notes → HasNoPairs notes → HasRvwmoOrder notes [] ops writes
  every_run notes none pairs =
      let f = is_fenced l steps rows ok lawful ops writes t in (
        f.0,
        of_fenced (length l.opening) notes ops writes f.0 (is_trace l steps rows ok lawful ops writes t) (no_pairs_are_on_one notes ops pairs)
            (no_pairs_are_atomic notes ops f.0 pairs) none f.1,
      )

  one_order : AreFencedApart l.scripts ⊎ (l.tags ≡ 1) → (turn : ℕ → ℕ) × IsSequential ops writes turn × RepliesInTurn l steps rows turn
  one_order (inl apart) = sequential_by_fences l steps rows ok lawful ops writes t apart
  one_order (inr one) = sequential_by_one_tag l steps rows ok lawful ops writes t one

  pub in_one_order : AreFencedApart l.scripts ⊎ (l.tags ≡ 1) → (notes : List Note) (dependencies : List Dependency) → HasNoPairs notes
      → HasRvwmoOrder notes dependencies ops writes
  in_one_order how notes dependencies pairs =
      let s = one_order how in (
        s.0,
        of_sequential notes dependencies ops writes s.0
            (sequential_is_order (length l.opening) ops writes s.0 (is_trace l steps rows ok lawful ops writes t) s.1)
            (no_pairs_are_atomic notes ops s.0 pairs),
      )
