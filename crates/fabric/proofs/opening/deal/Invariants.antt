use Rattle.std.proofs.Common.{◌≡◌, ◌++◌, map, drop}
use Rattle.fabric.specs.Key.{ranges, Rises}
use Rattle.fabric.specs.Opening.{fresh, Rest, HasRest}
use Rattle.fabric.proofs.opening.deal.Given as goal

abbrev pub invariant-loop-cut : goal.invariant-loop-cut
invariant-loop-cut g l = record {
  seat : HasRest l.row.table_id l.fn.seat.me.0.load (ranges l.from (drop l.cut-index l.cuts) l.count) l.rest;
  rises : Rises l.from (drop l.cut-index l.cuts) l.count;
  all : Rest l.fn.seat.me.0.load l.all.items l.from;
  seats : l.seats.items ++ map (fresh l.row.table_id l.fn.seat.me.0.load) (ranges l.from (drop l.cut-index l.cuts) l.count)
      ≡ map (fresh l.row.table_id l.fn.seat.me.0.load) (ranges 0 l.cuts l.count);
}
