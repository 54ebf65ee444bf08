-- Nothing is counted of any processor.
use Rattle.std.proofs.Common.{refl}
use Rattle.command_watch.proofs.stream.StreamReading.none.Goals as goal

pub returns : goal.returns
returns g c = rw (
  c.none.ensures,
  c.new.ensures.items,
  c.in_ok-counts.ensures.items_if_clones_equal (λ y h. h),
) refl
