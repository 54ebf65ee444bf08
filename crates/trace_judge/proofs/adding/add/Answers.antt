use Rattle.std.proofs.Common.{List, subst}
use Rattle.trace_laws.specs.declared.opened.Branch.{Branch}
use Rattle.trace_laws.specs.Configs.{HasAsGood}
use Rattle.trace_laws.specs.Searches.{configs_of}
use Rattle.trace_judge.proofs.Joining.{settled_has, settled_pushed, joins_push}
use Rattle.trace_judge.proofs.adding.add.Goals as goal

pub returns-in_default-clause-there : goal.returns-in_default-clause-there
returns-in_default-clause-there g c =
    settled_has c.args.table.now c.args.address c.args.idles.now c.args.from.config c.settle-config.result
    (configs_of c.args.found.now.items) c.requires.low c.requires.listed c.settle-config.ensures
    (subst (λ (bs : List Branch). HasAsGood c.args.table.now c.args.address (configs_of bs) c.settle-config.result)
    c.deref.ensures.value (c.new_place.ensures c.in_default.is))

pub returns-clause-there : goal.returns-clause-there
returns-clause-there g c =
    settled_pushed c.args.table.now c.args.address c.args.idles.now c.args.from.config c.args.found.now.items
    c.put.new.found.items c.in_ok-branch.branch c.requires.low c.requires.listed c.in_ok-branch.ensures.config c.in_ok-put.ensures

pub returns-clause-ways : goal.returns-clause-ways
returns-clause-ways g c =
    joins_push c.args.table.now c.args.address c.args.from c.in_ok-branch.branch c.args.found.now.items c.put.new.found.items
    c.args.nodes.now.items c.follow.new.nodes.items
    (c.in_ok-branch.ensures.ways c.args.table.now c.args.address c.requires.listed) c.in_ok-put.ensures
