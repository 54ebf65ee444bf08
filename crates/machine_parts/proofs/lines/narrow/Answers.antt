use Rattle.machine_parts.specs.Grown.{tile_narrower}
use Rattle.machine_parts.proofs.Items.{seen_at, changed_to}
use Rattle.machine_parts.proofs.lines.narrow.Goals as goal

pub release-requires : goal.release-requires
release-requires g c =
    c.requires.room c.index_mut.result.now
    (seen_at c.args.tiles.now.items c.args.home c.index_mut.result.now c.requires.tile c.index_mut.ensures.value)

pub returns : goal.returns
returns g c =
    changed_to (tile_narrower c.args.fewer) c.args.tiles.now.items c.args.home c.index_mut.result.now c.release.new.self c.requires.tile
    c.index_mut.ensures.value c.release.ensures
