use denote.Param.Send.{Quiet-if}
use denote.Exit.{unseen}
use mir.Syntax.{of_param}
use Rattle.std.proofs.Common.{◌≡◌, ℕ, ◌<◌, length, rules, sym, subst}
use Rattle.std.proofs.lemmas.List.Elements.{All-get_or}
use Rattle.fabric.specs.Seats.{IsSeatOf}
use Rattle.std.specs.Prelude.{slice_index_or}
use Rattle.worker_run.specs.Watching.{IsWatched}
use Rattle.worker_run.specs.Working.{Working, HasWorked}
use Rattle.worker_run.proofs.working.run_workers.Goals as goal

pub returns-clause-worked : goal.returns-clause-worked
returns-clause-worked g c = λ i d lt.
    let h = (c.for_each_mut.ensures i d lt).1 in
    let ran : Working → Working → Type 0 = λ v w. HasWorked (g.G.Gate.holds c.args.gate.now i) (g.G.Gate.stops c.args.gate.now i) c.args.turns v w in
    let p : ran h.argument.now h.after_call.now = search (rules, h.call) in
    subst (λ (k : Working). ran k (slice_index_or c.for_each_mut.new.s i d)) h.argument_is
    (subst (λ (k : Working). ran h.argument.now k) h.left p)

pub returns-clause-told : goal.returns-clause-told
returns-clause-told g c = λ i d lt.
    let h = (c.for_each_mut.ensures i d lt).1 in
    let told : Working → Working → Type 0 = λ v w. IsWatched (g.V.Watch.over c.args.watch.now i) (g.G.Gate.stops c.args.gate.now i) c.args.turns v w in
    let p : told h.argument.now h.after_call.now = search (rules, h.call) in
    subst (λ (k : Working). told k (slice_index_or c.for_each_mut.new.s i d)) h.argument_is
    (subst (λ (k : Working). told h.argument.now k) h.left p)

pub for_each_mut-requires-clause-accepts : goal.for_each_mut-requires-clause-accepts
for_each_mut-requires-clause-accepts g c =
    let own : (i : ℕ) (w : Working) → i < length c.args.workers.now → w ≡ slice_index_or c.args.workers.now i w → IsSeatOf c.args.fabric.now w.knows =
    λ i w low same. subst (λ (x : Working). IsSeatOf c.args.fabric.now x.knows) (sym same)
    (All-get_or (λ (x : Working). IsSeatOf c.args.fabric.now x.knows) c.args.workers.now i w low c.requires.own) in
    λ κs lives i p low same. (
      own i _ low same,
      (
        record { owned = c.type_bounds.send-A.owned; leaving = λ k. Quiet-if (k (of_param 0)) unseen unseen (λ x w. tt) (λ x w. tt) },
        record { shared = c.type_bounds.sync-A.shared },
        record { shared = c.type_bounds.sync-G.shared },
        record { shared = c.type_bounds.sync-V.shared },
        c.type_bounds.frees-A-Allocator,
      ),
    )
