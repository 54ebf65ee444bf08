-- What a step of a tile's agent leaves.
use Rattle.std.specs.Prelude.{◌≡◌, ℕ, Some}
use Rattle.torus.specs.Shape.{tiles_of}
use Rattle.torus.specs.declared.step.Choice.{Choice}
use Rattle.flit_buffer.specs.declared.want.Want.{Want}
use Rattle.flit_buffer.specs.Surroundings.{Surroundings, surroundings_after}
use Rattle.router.specs.Table.{router_wants}
use Rattle.router.specs.Beginning.{router_wiring}
use Rattle.one_order.specs.ProcessorTable.{processor_wants}
use Rattle.home_bank.specs.BankTable.{bank_wants}
use Rattle.tile.specs.Wiring.{processor_wiring, bank_wiring}
use Rattle.tile.specs.Tile.{Design, TileState}

-- from a tile and its surroundings to those after a choice
module _ (d : Design) (t : ℕ) (tile : TileState) (around : Surroundings) (c : Choice)
    (left : TileState) (after : Surroundings) where
  -- the tile's router and bank stay, and of the surroundings all but what the processor wanted
  pub record ProcessorAlone : Type 0 where
    pub want : Want
    pub wanted : processor_wants (tiles_of d.shape) d.words t tile.processor c ≡ Some want
    pub router : left.router ≡ tile.router
    pub bank : left.bank ≡ tile.bank
    pub shared : after ≡ surroundings_after d.depth around (processor_wiring d.shape t) want

  -- the tile's processor and bank stay, and of the surroundings all but what the router wanted
  pub record RouterAlone : Type 0 where
    pub want : Want
    pub wanted : router_wants d.shape t tile.router c ≡ Some want
    pub processor : left.processor ≡ tile.processor
    pub bank : left.bank ≡ tile.bank
    pub shared : after ≡ surroundings_after d.depth around (router_wiring d.shape t) want

  -- the tile's processor and router stay, and of the surroundings all but what the bank wanted
  pub record BankAlone : Type 0 where
    pub want : Want
    pub wanted : bank_wants (tiles_of d.shape) t tile.bank c ≡ Some want
    pub processor : left.processor ≡ tile.processor
    pub router : left.router ≡ tile.router
    pub shared : after ≡ surroundings_after d.depth around (bank_wiring d.shape t) want
