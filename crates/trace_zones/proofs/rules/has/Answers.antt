use Rattle.std.proofs.Common.{sym}
use Rattle.trace_zones.proofs.Among.{unlisted_where_none}
use Rattle.trace_zones.proofs.rules.has.Goals as goal

pub returns-in-Err : goal.returns-in-Err
returns-in-Err c = sym (unlisted_where_none c.args.set.now c.args.value _ c.binary_search.result c.in-Err.is c.binary_search.ensures.position c.requires)
