use Rattle.std.proofs.Common.{◌≡◌, ◌++◌, ◌∷◌, take}
use Rattle.std.specs.List.{flat_map}
use Rattle.network_machine.specs.declared.moves.Move.TheVariants.{Send}
use Rattle.network_run.specs.Filling.{through}
use Rattle.network_run.proofs.filling.put_packet.Given as goal

-- the moves through the first channels
abbrev pub invariant-loop-x : goal.invariant-loop-x
invariant-loop-x g l = l.moves.items ≡ l.fn.moves.items ++ Send l.fn.packet ∷ flat_map through (take l.x-index l.before)
