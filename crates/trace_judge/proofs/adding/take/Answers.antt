use Rattle.std.proofs.Common.{◌≡◌, ℕ, List, Some, length, arith, subst}
use Rattle.trace_laws.specs.declared.opened.Branch.{Branch}
use Rattle.trace_laws.specs.Configs.{HasAsGood}
use Rattle.trace_laws.specs.Searches.{configs_of}
use Rattle.trace_judge.specs.Sets.{Replaces}
use Rattle.trace_judge.proofs.Joining.{settled_has, settled_pushed, takes_push}
use Rattle.trace_judge.proofs.adding.take.Goals as goal

pub returns-in_default-clause-there : goal.returns-in_default-clause-there
returns-in_default-clause-there g c =
    settled_has c.args.table.now c.args.address c.args.idles.now c.args.config c.settle-settled.result
    (configs_of c.args.found.now.items) c.requires.low c.requires.listed c.settle-settled.ensures
    (subst (λ (bs : List Branch). HasAsGood c.args.table.now c.args.address (configs_of bs) c.settle-settled.result)
    c.deref.ensures.value (c.new_place.ensures c.in_default.is))

pub returns-clause-there : goal.returns-clause-there
returns-clause-there g c =
    settled_pushed c.args.table.now c.args.address c.args.idles.now c.args.config c.args.found.now.items
    c.put.new.found.items c.in_ok-branch.branch c.requires.low c.requires.listed c.in_ok-branch.ensures.config c.in_ok-put.ensures

pub returns-clause-ways : goal.returns-clause-ways
returns-clause-ways g c =
    let sized = c.args.nodes.now.ok.0 in
    let told = c.len.ensures in
    let long : c.len.result ≡ length c.args.nodes.now.items = omega arith in
    takes_push c.args.table.now c.args.address c.args.from c.in_ok-branch.branch c.args.opened c.args.config
    c.args.found.now.items c.put.new.found.items c.args.nodes.now.items c.push_node.new.nodes.items c.follow.new.nodes.items
    c.in_ok-push_node.ensures
    (subst (λ (n : ℕ). Replaces c.args.table.now c.args.address (record { config = c.args.config; trail = Some n })
    c.push_node.new.nodes.items c.in_ok-branch.branch c.follow.new.nodes.items) long
    (c.in_ok-branch.ensures.ways c.args.table.now c.args.address c.requires.listed))
    c.in_ok-put.ensures
