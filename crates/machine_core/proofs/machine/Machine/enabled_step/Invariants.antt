use Rattle.std.proofs.Common.{◌≡◌}
use Rattle.torus.specs.Shape.{tiles_of}
use Rattle.machine_parts.specs.Core.{round}
use Rattle.machine_core.specs.Rounds.{first_in}
use Rattle.machine_core.proofs.FirstEnabled.{from_tile}
use Rattle.machine_core.proofs.machine.Machine.enabled_step.Given as goal

-- the tiles that are left have the first that the whole round has
abbrev pub invariant-loop-tile : goal.invariant-loop-tile
invariant-loop-tile g l = first_in l.self (from_tile l.ports (tiles_of l.self.shape) l.tile) ≡ first_in l.self (round l.self.shape)
