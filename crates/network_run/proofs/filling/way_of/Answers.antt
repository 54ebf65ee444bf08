use Rattle.std.proofs.Common.{arith}
use Rattle.network_judge.specs.Table.{table_of}
use Rattle.network_run.proofs.Ways.{own_table, before_more, one_further, goes_on}
use Rattle.network_run.proofs.filling.way_of.Goals as goal

pub loop-step-preserved : goal.loop-step-preserved
loop-step-preserved g c =
    let t = c.args.network.now.table in
    let f = c.args.fill in
    let l = c.loop-step in
    let same = own_table t c.kinds-kinds.result.now c.joins-joins.result.now c.choices-choices.result.now c.kinds-kinds.ensures.value c.joins-joins.ensures c.choices-choices.ensures in
    record {
      before = before_more t f.to f.from l._step l.last l.before.items c.push.new.self.items l.invariant.before l.invariant.last c.in_ok-push-in-Some.ensures.items;
      last = one_further (table_of c.kinds-kinds.result.now c.joins-joins.result.now c.choices-choices.result.now) t f.from f.to l._step l.last c.in-Some.next same
          l.invariant.last c.in-Some.ensures.some;
    }

pub returns-in-None : goal.returns-in-None
returns-in-None g c =
    let t = c.args.network.now.table in
    let f = c.args.fill in
    let l = c.loop-step in
    let same = own_table t c.kinds-kinds.result.now c.joins-joins.result.now c.choices-choices.result.now c.kinds-kinds.ensures.value c.joins-joins.ensures c.choices-choices.ensures in
    let less = c.loop-step-test.true in
    λ len way low. absurd (goes_on (table_of c.kinds-kinds.result.now c.joins-joins.result.now c.choices-choices.result.now) t f.from f.to l._step l.last len same
    l.invariant.last way (omega arith) c.in-None.ensures.none)
