use Rattle.network_judge.specs.Table.{table_of}
use Rattle.network_text.proofs.Refused.{moved}
use Rattle.network_run.proofs.Locking.{opened_in, run_ends}
use Rattle.network_run.proofs.replaying.make_moves.Goals as goal

pub open-requires-clause-replies : goal.open-requires-clause-replies
open-requires-clause-replies g c =
    moved c.args.network.now.table (table_of c.kinds.result.now c.joins.result.now c.choices.result.now)
    c.args.network.now.replies c.replies.result.now c.kinds.ensures.value c.replies.ensures c.kinds.ensures.replies

pub returns-in-Ok : goal.returns-in-Ok
returns-in-Ok g c =
    let n = c.args.network.now in
    run_ends n c.args.depth c.args.moves.now c.ending.result c.in_ok-machine.machine c.replay.new.self
    (opened_in n.table n.replies c.kinds.result.now c.joins.result.now c.choices.result.now c.replies.result.now c.args.depth c.in_ok-machine.machine
    c.kinds.ensures.value c.joins.ensures c.choices.ensures c.replies.ensures c.in_ok-machine.ensures)
    c.in-Ok.ensures.runs c.in-Ok.ensures.same c.ending.ensures
