-- The seat of all workers is whole, and knows a run to which each did its part.
use Rattle.std.proofs.Common.{◌≡◌, List, [], map, refl, rules, sym, ap, ◌∙◌, arith}
use Rattle.std.specs.Prelude.{min}
use Rattle.std.proofs.lemmas.List.{length-map}
use Rattle.torus.specs.Shape.{tiles_of}
use Rattle.history.specs.Seats.{Knowing}
use Rattle.core_laws.specs.Machine.{core_after}
use Rattle.command_run.specs.Workers.{crew, new_worker}
use Rattle.command_run.proofs.ByWorkers.{IsCrew, crew_made, crew_whole, made_by_workers, seats_count, seats_own}
use Rattle.command_run.proofs.Watched.{hears_workers}
use Rattle.command_run.proofs.by_workers.closed_run.Goals as goal

pub worked-requires-clause-own : goal.worked-requires-clause-own
worked-requires-clause-own g c κs within =
    seats_own c.in_ok-fabric.fabric c.tiles-tiles.result c.crew_of-crew.result c.in_ok-fabric.seats.items c.in_ok-fabric.ensures.seats

pub worked-requires-clause-few : goal.worked-requires-clause-few
worked-requires-clause-few g c κs within =
    let count = seats_count c.in_ok-fabric.fabric c.tiles-tiles.result c.crew_of-crew.result c.in_ok-fabric.seats.items c.in_ok-fabric.ensures.seats in
    let few = c.crew_of-crew.ensures.within.1 in
    omega (arith, count, few)

pub joined-whole-requires-clause-some : goal.joined-whole-requires-clause-some
joined-whole-requires-clause-some g c =
    let count = seats_count c.in_ok-fabric.fabric c.tiles-tiles.result c.crew_of-crew.result c.in_ok-fabric.seats.items c.in_ok-fabric.ensures.seats in
    let same = c.in-Ok.ensures.count in
    let some = c.crew_of-crew.ensures.within.0 in
    omega (arith, count, same, some)

pub close-requires : goal.close-requires
close-requires g c =
    let seats : List Knowing = c.in_ok-fabric.seats.items in
    let whole : Knowing = c.joined-whole.result in
    let size = ap tiles_of (sym c.in_ok-fabric.ensures.load.shape) ∙ sym (c.tiles-tiles.ensures.value ∙ ap tiles_of c.torus.ensures) in
    let count = c.in-Ok.ensures.count ∙ sym (length-map seats new_worker) in
    let worked = c.in-Ok.ensures.worked in
    let k : IsCrew c.in_ok-fabric.fabric c.tiles-tiles.result c.crew_of-crew.result c.args.turns whole =
    crew_made c.in_ok-fabric.fabric c.tiles-tiles.result c.crew_of-crew.result c.args.turns whole seats (map new_worker seats) c.in-Ok.workers.items
    c.joined-whole.ensures.own
    c.in_ok-fabric.ensures.seats refl count (λ i d lt. (let many = length-map seats new_worker in worked i d (omega (arith, lt, many))))
    c.joined-whole.ensures.all in (
      k.own,
      crew_whole c.in_ok-fabric.fabric c.tiles-tiles.result c.crew_of-crew.result c.args.turns whole k c.crew_of-crew.ensures.within.0
          c.crew_of-crew.ensures.within.2 size,
    )

pub returns-clause-run : goal.returns-clause-run
returns-clause-run g c = λ l from.
    let seats : List Knowing = c.in_ok-fabric.seats.items in
    let whole : Knowing = c.joined-whole.result in
    let size = c.tiles-tiles.ensures.value ∙ ap tiles_of c.torus.ensures in
    let count = c.in-Ok.ensures.count ∙ sym (length-map seats new_worker) in
    let worked = c.in-Ok.ensures.worked in
    let k : IsCrew c.in_ok-fabric.fabric c.tiles-tiles.result c.crew_of-crew.result c.args.turns whole =
    crew_made c.in_ok-fabric.fabric c.tiles-tiles.result c.crew_of-crew.result c.args.turns whole seats (map new_worker seats) c.in-Ok.workers.items
    c.joined-whole.ensures.own
    c.in_ok-fabric.ensures.seats refl count (λ i d lt. (let many = length-map seats new_worker in worked i d (omega (arith, lt, many))))
    c.joined-whole.ensures.all in
    let is : c.close.result ≡ record { load = whole.load; run = whole.run } = search rules in
    made_by_workers c.in_ok-fabric.fabric c.tiles-tiles.result c.crew_of-crew.result c.args.turns whole k c.crew_of-crew.ensures.within.0
    c.crew_of-crew.ensures.within.2
    l c.args.machine from c.in_ok-fabric.ensures.load size c.args.workers c.crew_of-crew.ensures.is c.close.result is
    c.steps_lead_to_a_machine.ensures.reports c.steps_lead_on.ensures.steps c.steps_decide_the_machine.ensures.named

pub returns-clause-told : goal.returns-clause-told
returns-clause-told g c = λ l from.
    let f = c.in_ok-fabric.fabric in
    let n = c.tiles-tiles.result in
    let seats : List Knowing = c.in_ok-fabric.seats.items in
    let whole : Knowing = c.joined-whole.result in
    let size = c.tiles-tiles.ensures.value ∙ ap tiles_of c.torus.ensures in
    let many = seats_count f n c.crew_of-crew.result seats c.in_ok-fabric.ensures.seats in
    let worked = c.in-Ok.ensures.worked in
    let watched = c.in-Ok.ensures.told in
    let start = c.in_ok-fabric.ensures.load in
    let lead = c.steps_lead_on.ensures.steps in
    let named = c.steps_decide_the_machine.ensures.named in
    let tiles : tiles_of l.shape ≡ n = ap tiles_of (sym from.shape) ∙ sym size in
    let hired : crew c.args.workers l ≡ c.crew_of-crew.result = ap (min c.args.workers) tiles ∙ sym c.crew_of-crew.ensures.is in
    hears_workers f c.args.turns l
    (λ steps. sym (named f.load (core_after c.args.machine steps) steps (lead f.load c.args.machine [] steps start))
    ∙ named l (core_after c.args.machine steps) steps (lead l c.args.machine [] steps from))
    (g.V.Watch.over c.args.watch.now) n c.crew_of-crew.result c.args.workers seats (map new_worker seats) c.in-Ok.workers.items
    c.in_ok-fabric.ensures.seats refl
    (λ i d lt. worked i d (omega (arith, lt, many))) (λ i d lt. watched i d (omega (arith, lt, many))) tiles hired
