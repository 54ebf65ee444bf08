use Rattle.std.proofs.Common.{◌≡◌, map, take}
use Rattle.std.specs.Prelude.{Ok}
use Rattle.network_text.specs.Ranges.{ranges_of}
use Rattle.network_text.proofs.ranges.ranges_of.Given as goal

-- what the parts so far name
abbrev pub invariant-loop-part : goal.invariant-loop-part
invariant-loop-part g l = ranges_of l.place (map (λ part. part.now) (take l.part-index l.parts)) ≡ Ok l.ranges.items
