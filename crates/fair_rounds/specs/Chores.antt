-- What a machine has still to do for the operations that are out.
use Rattle.std.specs.Prelude.{ℕ, ◌+◌, ◌*◌, if◌then◌else◌, List, [], ◌∷◌, length}
use Rattle.torus.specs.Shape.{tiles_of}
use Rattle.torus.specs.declared.step.Step.{Step}
use Rattle.wormhole.specs.Weight.{sum_below}
use Rattle.tile.specs.Tile.{Design}
use Rattle.core_laws.specs.Heads.{carries_route}
use Rattle.core_laws.specs.Core.{Load, State, design_of}
use Rattle.core_laws.specs.Runs.{state_after}
use Rattle.core_laws.specs.Mirrors.{tile_at}
use Rattle.core_laws.specs.Network.{net_of}
use Rattle.core_laws.specs.Noted.{noted}
use Rattle.fair_rounds.specs.Burden.{burden}

-- the flits of a reply of which none is put
abbrev pub unsent_of : List ℕ → ℕ
unsent_of [] = 0
unsent_of (flit ∷ flits) = if carries_route flit then length (flit ∷ flits) else 0

-- how many operations all processors have issued, all banks have served, and have been answered to all
-- processors
abbrev pub issued_count : Design → State → ℕ
issued_count d s = sum_below (tiles_of d.shape) (λ p. length (tile_at s p).processor.operations.issued)

abbrev pub served_count : Design → State → ℕ
served_count d s = sum_below (tiles_of d.shape) (λ b. length (tile_at s b).bank.entries)

abbrev pub answered_count : Design → State → ℕ
answered_count d s = sum_below (tiles_of d.shape) (λ p. length (tile_at s p).processor.operations.answers)

-- what the packets that are sent have still to do, and the replies that aren't begun, 30 for each flit
-- of them
abbrev pub chores : Load → List Step → ℕ → ℕ
chores l steps n = burden (net_of (design_of l)) (noted l steps n).net
    + 30 * sum_below (tiles_of l.shape) (λ b. unsent_of (tile_at (state_after l steps n) b).bank.to_put)
