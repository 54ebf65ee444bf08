use Rattle.std.proofs.Common.{◌<◌, length, arith}
use Rattle.std.proofs.lemmas.Result.{err_from_is_err_and}
use Rattle.trace_watch.specs.States.{configs_of}
use Rattle.trace_watch.proofs.Crowding.{catching_gives_up}
use Rattle.trace_watch.proofs.Grown.{long_configs}
use Rattle.trace_watch.proofs.Growth.{catching_none}
use Rattle.trace_watch.proofs.Loops.{catch_more, catch_all}
use Rattle.trace_watch.proofs.closing.catch_up.Goals as goal

pub loop-next-init : goal.loop-next-init
loop-next-init g c = record {
  was = catching_none c.args.from c.args.calls.now c.args.newest.now (configs_of c.args.found.now.items)
      (let e = long_configs c.args.found.now.items in let l = c.requires.inside in omega arith);
  few = omega arith;
  indexed = c.requires.indexed;
}

pub loop-next-preserved : goal.loop-next-preserved
loop-next-preserved g c =
    let l : c.loop-next.next < length c.loop-next.found.items = omega arith in
    record {
      was = catch_more c.args.from c.args.calls.now c.args.newest.now (configs_of c.args.found.now.items) c.loop-next.next
          c.loop-next.found.items c.expand.new.found.items l c.in_ok-expand.ensures.expands c.loop-next.invariant.was;
      few = let m = c.in_ok-expand.ensures.few in let n = c.loop-next.invariant.few in omega arith;
      indexed = c.in_ok-expand.ensures.indexed;
    }

pub returns-in_err-expand-clause-full : goal.returns-in_err-expand-clause-full
returns-in_err-expand-clause-full g c =
    let p = err_from_is_err_and c.from_residual-in_err-expand.result c.from_residual-in_err-expand.ensures.1 in
    rw (p.1, p.2) (λ e.
    catching_gives_up c.args.from c.args.calls.now c.args.newest.now c.args.bound (configs_of c.args.found.now.items)
    c.loop-next.next (configs_of c.loop-next.found.items) (configs_of c.expand.new.found.items)
    (c.in_err-expand.ensures.full e) c.loop-next.invariant.was)

pub returns-then-next-len-clause-expands : goal.returns-then-next-len-clause-expands
returns-then-next-len-clause-expands g c =
    catch_all c.args.from c.args.calls.now c.args.newest.now (configs_of c.args.found.now.items) c.loop-next.next
    c.loop-next.found.items (omega arith) c.loop-next.invariant.was
