use Rattle.std.proofs.Common.{◌≡◌, [], replicate, length}
use Rattle.fabric.specs.Opening.{fresh, HasRest}
use Rattle.fabric.proofs.opening.lookers.Given as goal

abbrev pub invariant-loop : goal.invariant-loop
invariant-loop g l = record {
  seat : HasRest l.row.table_id l.initial.seat.me.0.load [] l.seat;
  count : length l.seats.items ≡ l.counter;
  seats : l.seats.items ≡ replicate l.counter (fresh l.row.table_id l.initial.seat.me.0.load []);
}
