-- One tile more, and all tiles.
use Rattle.std.proofs.Common.{◌≡◌, ℕ, ◌+◌, ◌*◌, ◌∙◌, ap, arith}
use Rattle.torus.specs.Shape.{dims_of, tiles_of}
use Rattle.channel_number.specs.Ports.{port_count}
use Rattle.machine_core.specs.Clocked.{turned_at}
use Rattle.outcome_search.proofs.Pushed.{part_more}
use Rattle.command_schedule.proofs.Turned.{all_turned}
use Rattle.command_schedule.proofs.turned_list.turned_tiles.Goals as goal

pub push_turned-requires-clause-first : goal.push_turned-requires-clause-first
push_turned-requires-clause-first g c = let dims = c.dims.ensures.value in let below = c.requires in omega (arith, dims, below)

pub loop-tile-preserved : goal.loop-tile-preserved
loop-tile-preserved g c =
    part_more (turned_at (8 * c.dims.result + 2) c.args.first) c.loop-tile.tile c.loop-tile.steps.items c.push_turned.new.steps.items
    c.loop-tile.invariant c.in_ok-push_turned.ensures

pub returns : goal.returns
returns g c =
    let end : c.loop-tile.tile ≡ tiles_of c.args.torus.now = omega arith in
    c.loop-tile.invariant
    ∙ all_turned c.args.torus.now (8 * c.dims.result + 2) c.args.first c.loop-tile.tile (ap port_count c.dims.ensures.value) c.requires end
