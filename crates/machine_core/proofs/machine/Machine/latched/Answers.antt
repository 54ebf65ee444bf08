use Rattle.std.proofs.Common.{sym, ◌∙◌, ap}
use Rattle.router.specs.Table.{latch_of}
use Rattle.tile.specs.Tile.{TileState}
use Rattle.machine_core.proofs.Agents.{tile_within}
use Rattle.machine_core.proofs.Fields.{vec_at}
use Rattle.machine_core.proofs.LatchAges.{tile_told}
use Rattle.machine_core.proofs.machine.Machine.latched.Goals as goal

pub returns : goal.returns
returns g c =
    let low = tile_within c.self.inside c.self.invariant c.args.self.now c.self.view_is c.args.tile c.requires in
    let there = vec_at c.self.inside.tiles c.args.tile c.index.result.now low c.index.ensures in
    let told = tile_told c.self.inside c.args.self.now c.self.view_is c.args.tile c.index.result.now there in
    c.latched.ensures ∙ ap (λ (u : TileState). latch_of u.router c.args.input) (sym told)
