use Rattle.std.proofs.Common.{◌≡◌, length, arith, sym, ◌∙◌}
use Rattle.trace_laws.specs.Configs.{with_bit}
use Rattle.trace_judge.proofs.Calm.{leads_one, branch_is}
use Rattle.trace_judge.proofs.idles.follow_one.Goals as goal

pub returns-clause-ways : goal.returns-clause-ways
returns-clause-ways g c = λ table w is.
    let sized = c.args.nodes.now.ok.0 in
    let told = c.len.ensures in
    let long : c.len.result ≡ length c.args.nodes.now.items = omega arith in
    leads_one table w c.args.from _ c.args.nodes.now.items c.push.new.self.items c.args.idle is
    (sym c.may_take.ensures ∙ c.if-not-may_take.false)
    (branch_is c.args.from.config.word c.with.result (with_bit c.args.from.config.taken c.args.idle.slot) c.len.result
    (length c.args.nodes.now.items) c.with.ensures long)
    c.in_ok-push.ensures.items
