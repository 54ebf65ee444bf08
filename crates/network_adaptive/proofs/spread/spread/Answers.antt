use Rattle.std.proofs.Common.{◌+◌, ◌<◌, ◌∙◌, length, sym, arith}
use Rattle.std.proofs.lemmas.List.{get_or_read}
use Rattle.network_adaptive.proofs.Listed.{listed_low}
use Rattle.network_adaptive.proofs.Spreading.{look_begin, look_more}
use Rattle.network_adaptive.proofs.spread.spread.Goals as goal

pub steps-init : goal.steps-init
steps-init g c = look_begin c.args.kinds.now c.args.choices.now c.args.base c.args.ways c.args.shut.now c.args.seen.now c.args.list.now.items c.requires.listed

pub goes_on-requires : goal.goes_on-requires
goes_on-requires g c =
    let low : c.steps.at < length c.steps.list.items = omega arith in
    let inside = listed_low c.steps.seen c.steps.list.items c.steps.at c.index-x.result.now c.steps.invariant.listed low c.index-x.ensures in
    let size = c.steps.invariant.size in
    let fits = c.requires.size in
    omega arith

pub more_from-requires-clause-x : goal.more_from-requires-clause-x
more_from-requires-clause-x g c =
    let low : c.steps.at < length c.steps.list.items = omega arith in
    let inside = listed_low c.steps.seen c.steps.list.items c.steps.at c.index-x.result.now c.steps.invariant.listed low c.index-x.ensures in
    let size = c.steps.invariant.size in
    let fits = c.requires.size in
    omega arith

pub steps-preserved : goal.steps-preserved
steps-preserved g c =
    let a = c.args in
    let low : c.steps.at < length c.steps.list.items = omega arith in
    look_more a.kinds.now a.choices.now a.base a.ways a.shut.now c.steps.at (c.steps.at + 1) c.index-x.result.now a.seen.now c.steps.seen
    c.more_from.new.seen c.steps.list.items c.more_from.new.list.items (omega arith) low
    (sym (get_or_read c.steps.list.items c.steps.at c.index-x.result.now low c.index-x.ensures 0))
    (sym c.goes_on.ensures ∙ c.if-not-goes_on.false) c.steps.invariant c.in_ok-more_from.ensures
