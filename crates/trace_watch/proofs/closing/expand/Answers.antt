use Rattle.std.proofs.Common.{◌<◌, ◌∙◌, ℕ, Bool, List, Some, length, refl, sym, ap, subst, arith}
use Rattle.std.proofs.lemmas.Option.{slice_get-get_or, slice_get_read}
use Rattle.std.proofs.lemmas.Result.{err_from_is_err_and}
use Rattle.trace_watch.specs.States.{configs_of}
use Rattle.trace_watch.specs.Matchings.{ArePartners}
use Rattle.trace_watch.proofs.Crowding.{more_give_up}
use Rattle.trace_watch.proofs.Grown.{low_config}
use Rattle.trace_watch.proofs.Growth.{expanding_none, expanding_more, expanding_all}
use Rattle.trace_watch.proofs.Loops.{at_inside, expand_stuck, partners_read}
use Rattle.trace_watch.proofs.closing.expand.Goals as goal

pub loop-i-init : goal.loop-i-init
loop-i-init g c = record {
  was = expanding_none c.args.at c.args.calls.now c.args.newest.now (configs_of c.args.found.now.items);
  few = omega arith;
  indexed = c.requires.indexed;
}

pub attempt-requires-clause-inside : goal.attempt-requires-clause-inside
attempt-requires-clause-inside g c =
    at_inside c.args.found.now.items c.loop-i.found.items c.args.at c.requires.inside c.loop-i.invariant.was.grows

pub loop-i-preserved : goal.loop-i-preserved
loop-i-preserved g c =
    let l : c.loop-i.i < length c.args.newest.now = omega arith in
    record {
      was = expanding_more c.args.at c.args.calls.now c.args.newest.now (configs_of c.args.found.now.items) c.loop-i.i
          (configs_of c.loop-i.found.items) (configs_of c.attempt.new.found.items) _
          (slice_get-get_or c.args.newest.now c.loop-i.i _ l)
          (low_config c.args.found.now.items c.args.at c.requires.inside) c.in_ok-attempt.ensures.expands c.loop-i.invariant.was;
      few = let m = c.in_ok-attempt.ensures.few in let n = c.loop-i.invariant.few in omega arith;
      indexed = c.in_ok-attempt.ensures.indexed;
    }

pub returns-in_err-attempt-clause-full : goal.returns-in_err-attempt-clause-full
returns-in_err-attempt-clause-full g c =
    let p = err_from_is_err_and c.from_residual-in_err-attempt.result c.from_residual-in_err-attempt.ensures.1 in
    let l : c.loop-i.i < length c.args.newest.now = omega arith in
    rw (p.1, p.2) (λ e.
    more_give_up c.args.at c.args.calls.now c.args.newest.now c.args.bound (configs_of c.args.found.now.items) c.loop-i.i
    (configs_of c.loop-i.found.items) (configs_of c.attempt.new.found.items) _
    (slice_get-get_or c.args.newest.now c.loop-i.i _ l) (c.in_err-attempt.ensures.full e) c.loop-i.invariant.was)

pub returns-clause-expands : goal.returns-clause-expands
returns-clause-expands g c =
    expanding_all c.args.at c.args.calls.now c.args.newest.now (configs_of c.args.found.now.items) c.loop-i.i
    (configs_of c.loop-i.found.items) (omega arith) c.loop-i.invariant.was

pub returns-then-not-enough-clause-expands : goal.returns-then-not-enough-clause-expands
returns-then-not-enough-clause-expands g c =
    expand_stuck c.args.at c.args.calls.now c.args.newest.now c.args.found.now.items c.index.result.now c.deref.result.now
    (slice_get_read c.args.found.now.items (length c.args.found.now.items) c.args.at c.index.result.now refl
    c.requires.inside c.index.ensures) c.deref.ensures.value
    (c.in_ok-enough.ensures.no c.if-not-enough.true)

pub attempt-requires-clause-partners : goal.attempt-requires-clause-partners
attempt-requires-clause-partners g c = λ d here.
    subst (λ (ns : List ℕ). ArePartners c.args.calls.now d.effects ns) (sym c.deref-in-loop-i.ensures.value)
    (partners_read c.args.calls.now c.partners.new.taken.items c.args.found.now.items c.loop-i.found.items c.args.at
    c.index.result.now c.deref.result.now c.requires.inside
    (slice_get_read c.args.found.now.items (length c.args.found.now.items) c.args.at c.index.result.now refl
    c.requires.inside c.index.ensures) c.deref.ensures.value
    (c.in_ok-enough.ensures.yes c.if-not-enough.false)
    c.loop-i.invariant.was.grows d here)

pub attempt-requires-clause-open : goal.attempt-requires-clause-open
attempt-requires-clause-open g c =
    let l : c.loop-i.i < length c.args.newest.now = omega arith in
    c.requires.latest.from _ (c.loop-i.i, slice_get-get_or c.args.newest.now c.loop-i.i _ l)

pub attempt-requires-clause-alone : goal.attempt-requires-clause-alone
attempt-requires-clause-alone g c = λ yes.
    let l : c.loop-i.i < length c.args.newest.now = omega arith in
    let long = c.requires.alone.long in
    let m : c.loop-i.i < length c.args.alone.now = omega arith in
    c.requires.alone.yes c.loop-i.i _ (slice_get-get_or c.args.newest.now c.loop-i.i _ l)
    (slice_get-get_or c.args.alone.now c.loop-i.i _ m ∙ ap (λ (b : Bool). Some b) yes)
