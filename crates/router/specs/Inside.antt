-- How the fields of a router stand for its state.
use Rattle.std.specs.Prelude.{◌≡◌, ℕ, ◌<◌, length, slice_index_or}
use Rattle.torus.specs.Shape.{tiles_of, dims_of}
use Rattle.torus.specs.declared.shape.Class.TheVariants.{Request}
use Rattle.dateline_route.specs.declared.channel.Input.TheVariants.{Inject}
use Rattle.dateline_route.specs.Next.{next_of}
use Rattle.channel_number.specs.Ports.{port_count, output_number}
use Rattle.router.specs.Table.{RouterPlace}
use Rattle.router.specs.Kept.{AreTargets}
use Rattle.router.specs.declared.router.Router.TheInside.{Inside}

-- the router that the fields stand for
abbrev pub router_place_of : {A : Type 0} → Inside A → RouterPlace
router_place_of r = record {
  torus = r.torus;
  tile = r.tile;
  agent = record {
    state = record { latches = r.latches; owned = r.owners };
    ports = r.ports;
  };
}

-- the tile is there; latches, owners and ports are as many as inputs and outputs; ways lead to the
-- next channel; targets are the outputs for the latched heads (this project's own format)
pub record IsRouter {A : Type 0} (r : Inside A) : Type 0 where
  pub tile : r.tile < tiles_of r.torus
  pub latches : length r.latches ≡ port_count (dims_of r.torus)
  pub owners : length r.owners ≡ port_count (dims_of r.torus)
  pub inputs : length r.ports.inputs ≡ port_count (dims_of r.torus)
  pub outputs : length r.ports.outputs ≡ port_count (dims_of r.torus)
  pub ways : length r.ways.items ≡ tiles_of r.torus
  pub ways_are_next : (dst : ℕ) → dst < tiles_of r.torus
      → slice_index_or r.ways.items dst 0
      ≡ output_number (dims_of r.torus) Request (next_of r.torus r.tile Inject dst)
  pub counts : length r.targets.items ≡ port_count (dims_of r.torus)
  pub targets : AreTargets r.torus r.tile r.latches r.targets.items
