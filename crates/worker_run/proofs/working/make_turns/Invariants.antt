use Rattle.std.proofs.Common.{◌≡◌, ◌≤◌}
use Rattle.fabric.specs.Seats.{IsSeatOf}
use Rattle.worker_run.specs.Places.{IsPlaceOf}
use Rattle.worker_run.proofs.Going.{IsHeardSoFar}
use Rattle.worker_run.proofs.working.make_turns.Given as goal

-- the turns so far follow the rounds, from their first place, and who watches was told of them
abbrev pub invariant-loop : goal.invariant-loop
invariant-loop g l = record {
  own : IsSeatOf l.fabric l.seat;
  within : IsPlaceOf l.ports l.place;
  start : l.place.at ≡ 0;
  counted : l.counter ≤ l.run.made;
  so_far : IsHeardSoFar (g.G.Gate.stops l.gate l.worker) l.turns l.ports l.initial.seat l.initial.place l.run l.seat l.place
      (g.V.Watch.heard l.watch l.worker l.fn.kept) (g.V.Watch.heard l.watch l.worker l.kept);
}
