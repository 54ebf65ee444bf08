use Rattle.std.proofs.Common.{◌<◌, List, Option, length, refl, subst, arith}
use Rattle.trace_laws.specs.declared.opened.Open.{Open}
use Rattle.trace_judge.specs.Slots.{IsFullWord}
use Rattle.trace_judge.specs.Sets.{lists_of}
use Rattle.trace_judge.proofs.Crowds.{crowded}
use Rattle.trace_judge.proofs.Parting.{begun_first, first_low}
use Rattle.trace_judge.proofs.Searching.{holds_issue, holds_unanswered, read_set}
use Rattle.trace_judge.proofs.search.Search.issue.Goals as goal

pub put-requires : goal.put-requires
put-requires g c =
    first_low c.args.whole.now c.args.call.id c.first_slot-first.result
    (begun_first (length c.args.opening.now) c.args.events.now c.args.whole.now c.args.k c.args.call c.promise_of-promise.result
    c.first_slot-first.result c.requires.trace c.requires.beginning c.requires.issued c.promise_of-promise.ensures c.first_slot-first.ensures)

pub returns-else-branch-clause-undecided : goal.returns-else-branch-clause-undecided
returns-else-branch-clause-undecided g c =
    let s = c.args.self.now in
    let w = c.args.call.operation.address in
    let first = c.first_slot-first.result in
    let far : w < length c.args.opening.now = c.requires.trace.inside c.args.k c.args.call c.requires.issued in
    let inside : w < length s.tables.items = let e = c.requires.holds.tabled in omega arith in
    crowded c.args.events.now c.args.whole.now c.args.k first (lists_of s.tables.items w) c.args.call c.requires.beginning c.requires.inside
    (begun_first (length c.args.opening.now) c.args.events.now c.args.whole.now c.args.k c.args.call c.promise_of-promise.result
    first c.requires.trace c.requires.beginning c.requires.issued c.promise_of-promise.ensures c.first_slot-first.ensures)
    (c.requires.holds.parted w) (c.requires.holds.searched.tabled w far)
    (subst (λ (ts : List (Option Open)). IsFullWord first ts)
    (read_set s.tables.items w c.index_mut.result.now inside c.index_mut.ensures.value)
    (c.in_ok-put.ensures.full c.if-branch.false))
    c.requires.issued

pub returns-then-branch-clause-holds : goal.returns-then-branch-clause-holds
returns-then-branch-clause-holds g c =
    holds_issue c.args.opening.now c.args.events.now c.args.whole.now c.args.k c.args.self.now _ c.index_mut.result.now c.put.new.table
    c.first_slot-first.result c.args.call c.promise_of-promise.result c.index_mut.ensures.value refl c.requires.trace c.requires.issued
    c.requires.beginning c.first_slot-first.ensures (c.in_ok-put.ensures.put c.if-branch.true) c.promise_of-promise.ensures c.requires.holds

pub returns-then-is_unanswered_load-clause-holds : goal.returns-then-is_unanswered_load-clause-holds
returns-then-is_unanswered_load-clause-holds g c =
    let is = c.is_unanswered_load.ensures c.if-is_unanswered_load.true in
    holds_unanswered c.args.opening.now c.args.events.now c.args.whole.now c.args.k c.args.self.now c.args.call
    c.promise_of-promise.result c.requires.trace c.requires.issued is.0 is.1 c.promise_of-promise.ensures c.requires.holds
