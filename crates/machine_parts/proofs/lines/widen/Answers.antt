use Rattle.std.proofs.lemmas.Result.{on_ok_weaker, on_err_weaker}
use Rattle.machine_parts.specs.Grown.{tile_wider}
use Rattle.machine_parts.proofs.Items.{seen_at, same_there, changed_to}
use Rattle.machine_parts.proofs.lines.widen.Goals as goal

pub reserve-requires : goal.reserve-requires
reserve-requires g c =
    c.requires.few c.index_mut.result.now
    (seen_at c.args.tiles.now.items c.args.home c.index_mut.result.now c.requires.tile c.index_mut.ensures.value)

pub returns-clause-wider : goal.returns-clause-wider
returns-clause-wider g c = on_ok_weaker c.reserve.result
    (changed_to (tile_wider c.args.more) c.args.tiles.now.items c.args.home c.index_mut.result.now c.reserve.new.self c.requires.tile
    c.index_mut.ensures.value)
    c.reserve.ensures.room

pub returns-clause-same : goal.returns-clause-same
returns-clause-same g c = on_err_weaker c.reserve.result
    (same_there c.args.tiles.now.items c.args.home c.index_mut.result.now c.reserve.new.self c.requires.tile c.index_mut.ensures.value)
    c.reserve.ensures.same
