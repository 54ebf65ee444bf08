use Rattle.std.proofs.Common.{rules, true, ◌≡◌, cond, Some, None, ◌∙◌}
use Rattle.std.specs.Prelude.{slice_index_or}
use Rattle.network_machine.proofs.Knowing.{owners_on}
use Rattle.network_machine.proofs.Forwards.{needs_credit, forwards_at, after}
use Rattle.network_machine.proofs.steps.forward_at.Goals as goal

pub returns-then-not-put_at-clause-lines : goal.returns-then-not-put_at-clause-lines
returns-then-not-put_at-clause-lines c = λ n ls out all e.
    c.if-not-put_at.ensures.lines ls all (needs_credit n ls c.args.x c.args.y c.args.flit c.args.is_head e)

pub returns-clause-lines : goal.returns-clause-lines
returns-clause-lines c = λ n ls out all.
    (let r = c.if-not-put_at.ensures.lines ls all in
    let gone = c.unlatch_at.ensures.lines (after ls c.args.x c.args.y c.args.flit c.args.is_tail) r.1 in
    let owner : (slice_index_or c.args.channels.now c.args.y c.index-channels-y.result).owner ≡ cond c.args.is_head None (Some c.args.x) = search rules in
    forwards_at n ls c.unlatch_at.new.channels c.args.x c.args.y c.args.flit c.args.is_head c.args.is_tail c.requires.apart out
    ((all c.args.y c.index-channels-y.result c.requires.y).owner ∙ owner) r.0 gone)

pub returns-clause-owners : goal.returns-clause-owners
returns-clause-owners c =
    owners_on c.args.channels.now c.put_at.new.channels c.unlatch_at.new.channels c.args.x c.args.y c.args.is_tail true c.requires.y c.put_at.ensures.count
    c.if-not-put_at.ensures.owners c.unlatch_at.ensures.owners
