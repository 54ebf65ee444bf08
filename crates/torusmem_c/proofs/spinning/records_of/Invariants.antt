use Rattle.std.proofs.Common.{◌≡◌, map, take}
use Rattle.torusmem_c.specs.Spins.{spin_record}
use Rattle.torusmem_c.proofs.spinning.records_of.Given as goal

-- the spins so far, as C sees them
abbrev pub invariant-loop-spin : goal.invariant-loop-spin
invariant-loop-spin l = l.records.items ≡ map spin_record (take l.spin-index l.spins)
