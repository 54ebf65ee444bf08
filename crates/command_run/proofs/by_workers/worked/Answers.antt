-- The workers are of the fabric, and each has made its turns.
use Rattle.std.proofs.Common.{◌≡◌, ◌++◌, ℕ, All, List, take, drop, length, sym, ap, ◌∙◌, subst, arith}
use Rattle.std.specs.Prelude.{slice_index_or}
use Rattle.std.proofs.lemmas.List.{length-map}
use Rattle.std.proofs.lemmas.List.Elements.{All-map}
use Rattle.history.specs.Seats.{IsSeatOf}
use Rattle.worker_run.specs.Watching.{IsWatched}
use Rattle.worker_run.specs.Working.{Working, HasWorked}
use Rattle.command_run.specs.Workers.{new_worker}
use Rattle.command_run.proofs.ByWorkers.{own_after, worked_open}
use Rattle.command_run.proofs.Lent.{lent}
use Rattle.command_run.proofs.Watched.{watched_open}
use Rattle.command_run.proofs.by_workers.worked.Goals as goal

pub run_workers-requires-clause-own : goal.run_workers-requires-clause-own
run_workers-requires-clause-own g c κs within =
    let is = c.as_mut_slice.ensures.value ∙ c.in_ok-workers.ensures in
    subst (All (λ (w : Working). IsSeatOf c.args.fabric.now w.knows)) (sym is)
    (All-map (λ (w : Working). IsSeatOf c.args.fabric.now w.knows) new_worker c.args.seats.items c.requires.own)

pub run_workers-requires-clause-few : goal.run_workers-requires-clause-few
run_workers-requires-clause-few g c κs within =
    let is = ap length (c.as_mut_slice.ensures.value ∙ c.in_ok-workers.ensures) ∙ length-map c.args.seats.items new_worker in
    let few = c.requires.few in
    omega (arith, is, few)

-- what came back of the list
module _ (n : ℕ) (old lend new : List Working) (size : length old ≡ n) (value : lend ≡ old) (count : length new ≡ length lend) where
  back : take n (new ++ drop (length new) old) ≡ new
  back = lent n old new size (count ∙ ap length value)

pub returns-clause-own : goal.returns-clause-own
returns-clause-own g c =
    let v = c.in_ok-workers.workers in
    let old : List Working = v.items in
    let new : List Working = c.run_workers.new.workers in
    let size : length old ≡ v.len = (let n = v.ok.0 in omega (arith, n)) in
    let is = c.as_mut_slice.ensures.value ∙ c.in_ok-workers.ensures in
    let own : All (λ (w : Working). IsSeatOf c.args.fabric.now w.knows) c.as_mut_slice.result.now =
    subst (All (λ (w : Working). IsSeatOf c.args.fabric.now w.knows)) (sym is)
    (All-map (λ (w : Working). IsSeatOf c.args.fabric.now w.knows) new_worker c.args.seats.items c.requires.own) in
    subst (All (λ (w : Working). IsSeatOf c.args.fabric.now w.knows))
    (sym (back v.len old c.as_mut_slice.result.now new size c.as_mut_slice.ensures.value c.run_workers.ensures.count))
    (own_after c.args.fabric.now c.args.turns c.as_mut_slice.result.now new c.run_workers.ensures.count own
    (λ i d lt. worked_open (g.G.Gate.holds c.args.gate.now) (g.G.Gate.stops c.args.gate.now) c.args.turns i
    (slice_index_or c.as_mut_slice.result.now i d) (slice_index_or new i d) c.requires.gate (c.run_workers.ensures.worked i d lt)))

pub returns-clause-count : goal.returns-clause-count
returns-clause-count g c =
    let v = c.in_ok-workers.workers in
    let old : List Working = v.items in
    let new : List Working = c.run_workers.new.workers in
    let size : length old ≡ v.len = (let n = v.ok.0 in omega (arith, n)) in
    ap length (back v.len old c.as_mut_slice.result.now new size c.as_mut_slice.ensures.value c.run_workers.ensures.count)
    ∙ (c.run_workers.ensures.count ∙ (ap length (c.as_mut_slice.ensures.value ∙ c.in_ok-workers.ensures) ∙ length-map c.args.seats.items new_worker))

pub returns-clause-worked : goal.returns-clause-worked
returns-clause-worked g c = λ i d lt.
    let v = c.in_ok-workers.workers in
    let old : List Working = v.items in
    let new : List Working = c.run_workers.new.workers in
    let size : length old ≡ v.len = (let n = v.ok.0 in omega (arith, n)) in
    let is = c.as_mut_slice.ensures.value ∙ c.in_ok-workers.ensures in
    let many = ap length is ∙ length-map c.args.seats.items new_worker in
    let same = back v.len old c.as_mut_slice.result.now new size c.as_mut_slice.ensures.value c.run_workers.ensures.count in
    subst (λ (p : List Working × List Working). HasWorked ⊥ (λ step. ⊥) c.args.turns (slice_index_or p.0 i d) (slice_index_or p.1 i d))
    (λ j. (is j, sym same j))
    (worked_open (g.G.Gate.holds c.args.gate.now) (g.G.Gate.stops c.args.gate.now) c.args.turns i
    (slice_index_or c.as_mut_slice.result.now i d) (slice_index_or new i d) c.requires.gate (c.run_workers.ensures.worked i d (omega (arith, lt, many))))

pub returns-clause-told : goal.returns-clause-told
returns-clause-told g c = λ i d lt.
    let v = c.in_ok-workers.workers in
    let old : List Working = v.items in
    let new : List Working = c.run_workers.new.workers in
    let size : length old ≡ v.len = (let n = v.ok.0 in omega (arith, n)) in
    let is = c.as_mut_slice.ensures.value ∙ c.in_ok-workers.ensures in
    let many = ap length is ∙ length-map c.args.seats.items new_worker in
    let same = back v.len old c.as_mut_slice.result.now new size c.as_mut_slice.ensures.value c.run_workers.ensures.count in
    subst (λ (p : List Working × List Working). IsWatched (g.V.Watch.over c.args.watch.now i) (λ step. ⊥) c.args.turns (slice_index_or p.0 i d)
    (slice_index_or p.1 i d))
    (λ j. (is j, sym same j))
    (watched_open (g.V.Watch.over c.args.watch.now i) (g.G.Gate.holds c.args.gate.now) (g.G.Gate.stops c.args.gate.now) c.args.turns i
    (slice_index_or c.as_mut_slice.result.now i d) (slice_index_or new i d) c.requires.gate (c.run_workers.ensures.told i d (omega (arith, lt, many))))
