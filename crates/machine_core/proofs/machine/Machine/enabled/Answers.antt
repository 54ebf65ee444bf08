use Rattle.std.proofs.Common.{◌≡◌, Some, sym, ◌∙◌, ap, arith, slice_get}
use Rattle.tile.specs.Agents.{agent_tile}
use Rattle.machine_core.proofs.Fields.{vec_at}
use Rattle.machine_core.proofs.Attempting.{word_in}
use Rattle.machine_core.proofs.AskedSteps.{past_asked, tile_asked}
use Rattle.machine_core.proofs.machine.Machine.enabled.Goals as goal

pub returns-then-tile-len : goal.returns-then-tile-len
returns-then-tile-len g c =
    let past = c.self.inside.tiles.ok.0 in
    let tile = c.agent_tile-tile.ensures in
    rw (← c.self.view_is) (past_asked c.self.inside c.self.invariant c.args.attempt (omega arith))

pub would_move-requires : goal.would_move-requires
would_move-requires g c =
    let there : slice_get c.self.inside.tiles.items (agent_tile c.args.attempt.agent) ≡ Some c.index.result.now =
    ap (slice_get c.self.inside.tiles.items) (sym c.agent_tile-tile.ensures)
    ∙ vec_at c.self.inside.tiles c.agent_tile-tile.result c.index.result.now (omega arith) c.index.ensures in
    record { room = word_in c.self.inside c.self.invariant c.args.attempt c.index.result.now there }

pub returns : goal.returns
returns g c =
    let there : slice_get c.self.inside.tiles.items (agent_tile c.args.attempt.agent) ≡ Some c.index.result.now =
    ap (slice_get c.self.inside.tiles.items) (sym c.agent_tile-tile.ensures)
    ∙ vec_at c.self.inside.tiles c.agent_tile-tile.result c.index.result.now (omega arith) c.index.ensures in
    rw (← c.self.view_is) (c.would_move.ensures ∙ tile_asked c.self.inside c.self.invariant c.args.attempt c.index.result.now there)
