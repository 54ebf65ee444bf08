use Rattle.std.proofs.Common.{arith}
use Rattle.trace_text.proofs.NumberLists.{pushed}
use Rattle.trace_text.proofs.issue_numbers.push_number.Goals as goal

pub returns-in-Ok-clause-value : goal.returns-in-Ok-clause-value
returns-in-Ok-clause-value g c =
    pushed c.args.lists.now.items c.args.p c.index_mut-list.result.now c.push.new.self c.args.number (omega arith) c.index_mut-list.ensures.value
    c.in-Ok.ensures.items
