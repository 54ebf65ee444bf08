use Rattle.std.proofs.Common.{arith}
use Rattle.model_text.proofs.NumberLists.{pushed}
use Rattle.model_text.proofs.rows.push_number.Goals as goal

pub returns : goal.returns
returns g c =
    pushed c.args.lists.now.items c.args.k c.index_mut-list.result.now c.push.new.self c.args.number (omega arith) c.index_mut-list.ensures.value
    c.in_ok-push.ensures.items
