use Rattle.std.proofs.Common.{◌-◌, refl, arith}
use Rattle.std.specs.Prelude.{slice_index}
use Rattle.dead_sets.proofs.Zeros.{numbers_more, numbers_end}
use Rattle.dead_sets.proofs.greatest.numbers_of.Goals as goal

pub back-preserved : goal.back-preserved
back-preserved g c =
    let a = c.args in
    let l = c.back in
    let inside = l.invariant.inside in
    numbers_more a.count a.order.now l.numbers.items l.at (l.at - 1) (slice_index a.order.now (l.at - 1)) (a.count - 1 - (l.at - 1)) (omega arith) refl
    (c.requires.low (l.at - 1) (omega arith)) c.requires.few (omega arith) l.invariant

pub returns : goal.returns
returns g c = numbers_end c.args.count c.args.order.now c.back.numbers.items c.back.at (omega arith) c.back.invariant
