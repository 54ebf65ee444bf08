use Rattle.std.proofs.Common.{◌≡◌, List, subst}
use Rattle.network_judge.specs.declared.fill.Fill.{Fill}
use Rattle.network_judge.specs.Table.{table_of}
use Rattle.network_judge.specs.Jams.{AreFilledInTurn}
use Rattle.network_run.specs.Filling.{jam_moves}
use Rattle.network_run.proofs.Ways.{own_table, own_jam, some_found, run_found}
use Rattle.network_run.proofs.running.run_of_cycle.Goals as goal

pub returns-in-None : goal.returns-in-None
returns-in-None g c =
    let n = c.args.network.now in
    let same = own_table n.table c.kinds.result.now c.joins.result.now c.choices.result.now c.kinds.ensures.value c.joins.ensures c.choices.ensures in
    absurd (some_found n (table_of c.kinds.result.now c.joins.result.now c.choices.result.now) c.replies.result.now c.args.links.now same c.replies.ensures
    c.kinds.ensures.replies c.requires.cycle (rw c.in-None.is at c.in_ok-found.ensures.found))

pub returns-in_ok-filling_moves-in-Some : goal.returns-in_ok-filling_moves-in-Some
returns-in_ok-filling_moves-in-Some g c =
    let n = c.args.network.now in
    let same = own_table n.table c.kinds.result.now c.joins.result.now c.choices.result.now c.kinds.ensures.value c.joins.ensures c.choices.ensures in
    run_found n c.args.depth c.in_ok-filling_moves-in-Some.field-0 c.in-Some.fills.items c.if-depth-eq0.false
    (own_jam n (table_of c.kinds.result.now c.joins.result.now c.choices.result.now) c.replies.result.now c.in-Some.fills.items same c.replies.ensures
    (rw c.in-Some.is at c.in_ok-found.ensures.jam))
    (subst (λ (fs : List Fill). AreFilledInTurn n.table fs → c.in_ok-filling_moves-in-Some.field-0.items ≡ jam_moves n.table c.args.depth fs) c.deref.ensures.value
    c.in_ok-filling_moves-in-Some.ensures)
