use Rattle.std.proofs.Common.{◌<◌, ℕ, length, ◌∙◌, ap, arith, slice_get}
use Rattle.trace_watch.specs.States.{config_of, configs_of}
use Rattle.trace_watch.proofs.Grown.{get_config}
use Rattle.trace_watch.proofs.Loops.{index_there}
use Rattle.trace_watch.proofs.index.index_with.Goals as goal

pub loop-at-preserved : goal.loop-at-preserved
loop-at-preserved g c =
    let l : c.loop-at.at < length c.args.found.now = omega arith in
    let was = c.loop-at.invariant.long in
    let some = c.loop-at.invariant.places in
    let more = c.in_ok-note.ensures.long in
    let same = c.in_ok-note.ensures.places in
    record {
      chained = c.in_ok-note.ensures.chained (configs_of c.args.found.now) (config_of c.index-found-at.result)
          c.place-place.ensures.place c.loop-at.invariant.chained
          (ap (λ (k : ℕ). slice_get (configs_of c.args.found.now) k) was
          ∙ get_config c.args.found.now c.loop-at.at c.index-found-at.result
          (index_there c.args.found.now c.loop-at.at c.index-found-at.result l c.index-found-at.is));
      long = omega arith;
      places = omega arith;
    }
