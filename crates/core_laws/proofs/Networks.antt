-- The machine's network is one.
use Rattle.torus.specs.Shape.{IsAccepted}
use Rattle.wormhole.specs.Net.{IsNet}
use Rattle.core_laws.proofs.Facts.{is_net}
use Rattle.tile.specs.Tile.{Design}
use Rattle.core_laws.proofs.Projection.{net_of}

pub network : (d : Design) → IsAccepted d.shape → IsNet (net_of d)
unfolding net_of
network d h = is_net d.shape d.depth h
