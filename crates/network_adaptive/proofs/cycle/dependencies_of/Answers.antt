use Rattle.std.proofs.Common.{◌≡◌, ◌+◌, ◌<◌, ◌∙◌, ℕ, List, length, sym, ap, subst, arith}
use Rattle.std.proofs.lemmas.List.{length_push}
use Rattle.rising.specs.Search.{path_look}
use Rattle.network_adaptive.specs.declared.verdict.Dependency as dependency
use Rattle.network_adaptive.specs.Between.{IsDependencyOf, dependency_at}
use Rattle.network_adaptive.proofs.Depends.{each_more}
use Rattle.network_adaptive.proofs.cycle.dependencies_of.Goals as goal

pub dependency_of-requires-clause-look : goal.dependency_of-requires-clause-look
dependency_of-requires-clause-look g c = c.requires.looks c.loop-k.k (omega arith)

pub loop-k-preserved : goal.loop-k-preserved
loop-k-preserved g c =
    let a = c.args in
    let k : ℕ = c.loop-k.k in
    let edges : List (dependency.Dependency g.row.A.Denot) = c.loop-k.edges.items in
    let edge : dependency.Dependency g.row.A.Denot = c.in_ok-dependency_of.field-0 in
    record {
      size = ap length c.in_ok-push.ensures.items ∙ (length_push edges edge ∙ ap (λ z. z + 1) c.loop-k.invariant.size);
      each = subst (λ (v : List (dependency.Dependency g.row.A.Denot)). (i : ℕ) → i < k + 1
          → IsDependencyOf a.kinds.now a.joins.now a.replies.now a.choices.now a.ways a.marks.now a.none.now a.waits.now (path_look a.looks.now i) (dependency_at v i))
          (sym c.in_ok-push.ensures.items)
          (each_more a.kinds.now a.joins.now a.replies.now a.choices.now a.ways a.marks.now a.none.now a.waits.now a.looks.now edges edge k (k + 1) (omega arith)
          c.loop-k.invariant.size c.in_ok-dependency_of.ensures c.loop-k.invariant.each);
    }

pub returns : goal.returns
returns g c =
    let end : c.loop-k.k ≡ length c.args.looks.now = omega arith in
    record { size = c.loop-k.invariant.size ∙ end; each = λ k l. c.loop-k.invariant.each k (omega arith) }
