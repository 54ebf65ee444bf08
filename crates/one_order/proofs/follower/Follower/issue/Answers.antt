use Rattle.std.proofs.Common.{◌∙◌, ap, arith}
use Rattle.one_order.specs.Following.{Following, after_issue}
use Rattle.one_order.proofs.Kept.{open_has_left, line_is_there, issued_fits, issued_as}
use Rattle.one_order.proofs.follower.Follower.issue.Goals as goal

pub moved_on-spin-requires-clause-left : goal.moved_on-spin-requires-clause-left
moved_on-spin-requires-clause-left g c = open_has_left c.self.inside c.self.invariant c.args.self.now c.self.view_is c.requires

pub moved_on-spin-requires-clause-line : goal.moved_on-spin-requires-clause-line
moved_on-spin-requires-clause-line g c =
    line_is_there c.self.inside c.self.invariant c.args.self.now c.self.view_is c.requires c.as_slice.result.now c.as_slice.ensures.value

pub overflow_add-self : goal.overflow_add-self
overflow_add-self g c =
    let fits = issued_fits c.self.inside c.self.invariant c.args.self.now c.self.view_is c.requires in omega arith

pub overflow_add-self-2 : goal.overflow_add-self-2
overflow_add-self-2 g c =
    let fits = issued_fits c.self.inside c.self.invariant c.args.self.now c.self.view_is c.requires in
    let few = c.self.invariant.waiting in omega arith

pub invariant_of-self : goal.invariant_of-self
invariant_of-self g c =
    (issued_as c.self.inside c.self.invariant c.args.self.now c.self.view_is c.requires c.as_slice.result.now c.moved_on-spin.result.1 c.moved_on-spin.result.0
    c.as_slice.ensures.value c.moved_on-spin.ensures.within c.moved_on-spin.ensures.spin c.moved_on-spin.ensures.ahead).kept

pub returns-clause-state : goal.returns-clause-state
returns-clause-state g c =
    (issued_as c.self.inside c.self.invariant c.args.self.now c.self.view_is c.requires c.as_slice.result.now c.moved_on-spin.result.1 c.moved_on-spin.result.0
    c.as_slice.ensures.value c.moved_on-spin.ensures.within c.moved_on-spin.ensures.spin c.moved_on-spin.ensures.ahead).shows
    ∙ ap (λ (f : Following). after_issue f) c.self.view_is
