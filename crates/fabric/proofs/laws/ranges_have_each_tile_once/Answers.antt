use Rattle.std.proofs.Common.{arith}
use Rattle.fabric.proofs.Ranges.{in_ranges, range_within, ranges_apart}
use Rattle.fabric.proofs.laws.ranges_have_each_tile_once.Goals as goal

pub returns : goal.returns
returns c = record {
  every = λ cuts n t rises lt. in_ranges 0 cuts n t rises (omega arith) lt;
  no_others = λ cuts n t rises i. range_within 0 cuts n t rises i;
  once = λ cuts n rises. ranges_apart 0 cuts n rises;
}
