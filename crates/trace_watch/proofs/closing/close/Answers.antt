use Rattle.std.proofs.Common.{◌<◌, List, length, sym, ap, subst, arith}
use Rattle.std.proofs.lemmas.Result.{err_from_is_err_and}
use Rattle.trace_watch.specs.declared.state.State.{State}
use Rattle.trace_watch.specs.States.{config_of, configs_of}
use Rattle.trace_watch.specs.Chains.{IsIndexed}
use Rattle.trace_watch.proofs.Crowding.{add_overfull, close_overfull}
use Rattle.trace_watch.proofs.Grown.{long_configs, more_goes}
use Rattle.trace_watch.proofs.Growth.{Closing, closing_none, goes_longer}
use Rattle.trace_watch.proofs.Loops.{index_there, close_more, close_all}
use Rattle.trace_watch.proofs.closing.close.Goals as goal

pub loop-i-init : goal.loop-i-init
loop-i-init g c = record {
  was = subst (λ (ss : List (State _)). Closing c.args.calls.now c.args.newest.now (configs_of c.args.states.now) 0
      (configs_of ss)) (sym c.new-found.ensures.items)
      (closing_none c.args.calls.now c.args.newest.now (configs_of c.args.states.now));
  few = let e = ap (λ (ss : List (State _)). length ss) c.new-found.ensures.items in omega arith;
  indexed = subst (λ (ss : List (State _)). IsIndexed c.args.index.now (configs_of ss))
      (sym c.new-found.ensures.items) c.requires.indexed;
}

pub catch_up-requires-clause-inside : goal.catch_up-requires-clause-inside
catch_up-requires-clause-inside g c =
    let sized = c.loop-i.found.ok.0 in
    let told = c.len-from.ensures in
    let before = long_configs c.loop-i.found.items in
    let behind = long_configs c.add_within.new.found.items in
    let grown = goes_longer (configs_of c.loop-i.found.items) (configs_of c.add_within.new.found.items)
    (more_goes (configs_of c.loop-i.found.items) (configs_of c.add_within.new.found.items) (config_of c.in_ok-copy.copy)
    c.in_ok-add_within.ensures.added) in
    omega arith

pub loop-i-preserved : goal.loop-i-preserved
loop-i-preserved g c =
    let l : c.loop-i.i < length c.args.states.now = omega arith in
    let sized = c.loop-i.found.ok.0 in
    let told = c.len-from.ensures in
    record {
      was = close_more c.args.calls.now c.args.newest.now c.args.states.now c.loop-i.i c.len-from.result
          c.loop-i.found.items c.add_within.new.found.items c.catch_up.new.found.items _ c.in_ok-copy.copy (omega arith)
          (index_there c.args.states.now c.loop-i.i _ l c.index-states-i.is) c.in_ok-copy.ensures
          c.in_ok-add_within.ensures.added c.in_ok-catch_up.ensures.expands c.loop-i.invariant.was;
      few = let m = c.in_ok-catch_up.ensures.few in let n = c.in_ok-add_within.ensures.few in omega arith;
      indexed = c.in_ok-catch_up.ensures.indexed;
    }

pub returns-in_err-add_within-clause-full : goal.returns-in_err-add_within-clause-full
returns-in_err-add_within-clause-full g c =
    let p = err_from_is_err_and c.from_residual-in_err-add_within.result c.from_residual-in_err-add_within.ensures.1 in
    let l : c.loop-i.i < length c.args.states.now = omega arith in
    rw (p.1, p.2) (λ e.
    let r = c.in_err-add_within.ensures.full e in
    add_overfull c.args.calls.now c.args.newest.now c.args.bound c.args.states.now c.loop-i.i c.loop-i.found.items
    c.add_within.new.found.items _ c.in_ok-copy.copy (index_there c.args.states.now c.loop-i.i _ l c.index-states-i.is)
    c.in_ok-copy.ensures r.0 r.1 c.loop-i.invariant.was)

pub returns-in_err-catch_up-clause-full : goal.returns-in_err-catch_up-clause-full
returns-in_err-catch_up-clause-full g c =
    let p = err_from_is_err_and c.from_residual-in_err-catch_up.result c.from_residual-in_err-catch_up.ensures.1 in
    let l : c.loop-i.i < length c.args.states.now = omega arith in
    rw (p.1, p.2) (λ e.
    close_overfull c.args.calls.now c.args.newest.now c.args.bound c.args.states.now c.loop-i.i c.loop-i.found.items
    c.add_within.new.found.items c.catch_up.new.found.items _ c.in_ok-copy.copy
    (index_there c.args.states.now c.loop-i.i _ l c.index-states-i.is) c.in_ok-copy.ensures c.in_ok-add_within.ensures.added
    (c.in_err-catch_up.ensures.full e) c.loop-i.invariant.was)

pub returns-clause-closes : goal.returns-clause-closes
returns-clause-closes g c =
    close_all c.args.calls.now c.args.newest.now c.args.states.now c.loop-i.i c.loop-i.found.items (omega arith)
    c.loop-i.invariant.was
