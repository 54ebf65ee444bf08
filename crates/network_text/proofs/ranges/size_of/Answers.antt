use Rattle.std.proofs.Common.{◌+◌, min, ap, ◌∙◌}
use Rattle.network_text.proofs.ListedRanges.{size_more}
use Rattle.network_text.proofs.ranges.size_of.Goals as goal

pub loop-range-preserved : goal.loop-range-preserved
loop-range-preserved c =
    c.min-size.ensures ∙ ap (λ n. min (c.loop-range.size + n) 4194305) c.saturating_sub.ensures
    ∙ size_more c.args.ranges.now c.loop-range.range-index (record { first = 0; last = 0 }) c.loop-range.size c.loop-range-test.true c.loop-range.invariant
