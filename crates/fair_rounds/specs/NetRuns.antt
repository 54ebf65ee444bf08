-- The network that is noted beside a list of attempts.
use Rattle.std.specs.Prelude.{List, [], ◌∷◌}
use Rattle.torus.specs.declared.step.Step.{Step}
use Rattle.wormhole.specs.State.{NetState}
use Rattle.wormhole.specs.Events.{network_after}
use Rattle.tile.specs.Tile.{Design}
use Rattle.core_laws.specs.Core.{State, next}
use Rattle.core_laws.specs.Network.{net_of, network_event}

abbrev pub net_run : Design → NetState → State → List Step → NetState
net_run d g s [] = g
net_run d g s (a ∷ steps) = net_run d (network_after (net_of d) g (network_event d s a)) (next d s a) steps
