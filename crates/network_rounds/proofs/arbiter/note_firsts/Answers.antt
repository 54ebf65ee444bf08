use Rattle.std.proofs.Common.{◌∙◌, ◌+◌, Option, None, ℕ, drop, refl, ap}
use Rattle.std.specs.Prelude.{slice_index, slice_index_or}
use Rattle.network_rounds.specs.Arbiters.{first_among, asking}
use Rattle.network_rounds.proofs.Firsts.{notes_next, noted_all}
use Rattle.network_rounds.proofs.arbiter.note_firsts.Goals as goal

pub loop-k-init : goal.loop-k-init
loop-k-init g c = record {
  size = refl;
  so_far = λ y low. ap (λ (o : Option ℕ). first_among (slice_index c.args.lasts.now y) o (asking c.args.machine.now c.args.moves.now y)) (c.clear_firsts.ensures y);
}

pub loop-k-preserved : goal.loop-k-preserved
loop-k-preserved g c = record {
  size = c.note_first.auto.firsts ∙ c.loop-k.invariant.size;
  so_far = λ y low. notes_next c.args.machine.now c.args.moves.now c.loop-k.k y (slice_index c.args.lasts.now y) _ (slice_index_or c.loop-k.firsts y None)
      (slice_index_or c.note_first.new.firsts y None) c.loop-k-test.true (c.loop-k.invariant.so_far y low) (c.note_first.ensures (drop (c.loop-k.k + 1) c.args.moves.now) y low);
}

pub returns : goal.returns
returns g c = λ y low. noted_all c.args.machine.now c.args.moves.now c.loop-k.k y (slice_index c.args.lasts.now y) (slice_index_or c.loop-k.firsts y None)
    c.loop-k-test.false (c.loop-k.invariant.so_far y low)
