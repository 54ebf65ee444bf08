use Rattle.std.proofs.Common.{arith}
use Rattle.script.proofs.LineLists.{pushed, kept}
use Rattle.script.proofs.lists.push_line.Goals as goal

pub returns-in-Ok-clause-value : goal.returns-in-Ok-clause-value
returns-in-Ok-clause-value g c =
    pushed c.args.lists.now.items c.args.p c.index_mut-list.result.now (record { lines = c.push.new.self }) c.args.line (omega arith)
    c.index_mut-list.ensures.value c.in-Ok.ensures.items

pub returns-in-Err-clause-value : goal.returns-in-Err-clause-value
returns-in-Err-clause-value g c =
    kept c.args.lists.now.items c.args.p c.index_mut-list.result.now (record { lines = c.push.new.self }) c.index_mut-list.ensures.value c.in-Err.ensures.items
