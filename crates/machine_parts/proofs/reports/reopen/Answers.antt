use Rattle.std.proofs.Common.{List, length, ◌∙◌, ap, arith}
use Rattle.tile.specs.Placed.{PlacedTile}
use Rattle.machine_parts.specs.Grown.{tile_reopened}
use Rattle.machine_parts.proofs.Items.{seen_at, further, all_changed, up_to_long}
use Rattle.machine_parts.proofs.reports.reopen.Goals as goal

pub loop-tile-preserved : goal.loop-tile-preserved
loop-tile-preserved g c =
    let long = c.loop-tile.tiles.ok.0 in
    let same = ap (λ (vs : List PlacedTile). length vs) c.loop-tile.invariant in
    let as_many = up_to_long tile_reopened c.loop-tile.tile c.args.tiles.now.items in
    let low = c.loop-tile-test.true in
    let counted = c.len-tile-end.ensures in
    let begun = c.args.tiles.now.ok.0 in
    further tile_reopened c.loop-tile.tile c.args.tiles.now.items c.loop-tile.tiles.items c.index_mut.result.now c.reopen.new.self c.loop-tile.invariant
    (seen_at c.loop-tile.tiles.items c.loop-tile.tile c.index_mut.result.now (omega
    (arith, long, same, as_many, low, counted, begun)) c.index_mut.ensures.value)
    c.reopen.ensures

pub returns : goal.returns
returns g c =
    let past = c.loop-tile-test.false in
    let counted = c.len-tile-end.ensures in
    let begun = c.args.tiles.now.ok.0 in
    c.loop-tile.invariant ∙ all_changed tile_reopened c.loop-tile.tile c.args.tiles.now.items (omega (arith, past, counted, begun))
