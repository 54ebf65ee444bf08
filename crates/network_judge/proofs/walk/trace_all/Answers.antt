use Rattle.std.proofs.Common.{refl, arith}
use Rattle.network_judge.specs.Table.{Table, table_of}
use Rattle.network_judge.proofs.Marking.{marked_more}
use Rattle.network_judge.proofs.walk.trace_all.Goals as goal

pub loop-place-preserved : goal.loop-place-preserved
loop-place-preserved c =
    let t : Table = table_of c.args.kinds.now c.args.joins.now c.args.choices.now in
    let w = c.in-Ok.ensures.way in
    marked_more t c.loop-place.place w.steps c.loop-place.used c.trace.new.used c.loop-place.invariant (omega arith) w.way w.traced

pub returns-in-Err-clause-fails : goal.returns-in-Err-clause-fails
returns-in-Err-clause-fails c = record {
  place = c.loop-place.place;
  here = omega arith;
  join = refl;
  fails = c.in-Err.ensures.fails;
  before = λ p l. (let m = c.loop-place.invariant.each p l in (m.steps, m.way));
}
