use Rattle.std.proofs.Common.{◌≡◌, ◌<◌, ◌≤◌, length, slice_index, sym, ◌∙◌, ap, arith, vec_len}
use Rattle.std.specs.Vec.Iter.{into_iter_items, into_iter_len}
use Rattle.torus.specs.Shape.{tiles_of}
use Rattle.script_lines.specs.Lines.{operation_count}
use Rattle.one_order.specs.Scripts.{IsFollowable}
use Rattle.tile.specs.Tile.{Design}
use Rattle.machine_core.proofs.BeginsTiles.{as_many, one_more, one_taken, below, next_lines, none_left, all_made}
use Rattle.machine_core.proofs.loading.first_tiles.Given.{Over}
use Rattle.machine_core.proofs.loading.first_tiles.Goals as goal

-- what is built
abbrev built : (g : Over) (c : goal.After-room-1 g) → Design
built g c = record { shape = c.args.torus; depth = c.args.depth; words = c.args.words }

-- the number of the next tile is below the number of tiles
low_cast : (g : Over) (c : goal.After-len-tile g) → c.len-tile.result < tiles_of c.args.torus
low_cast g c = below (record { shape = c.args.torus; depth = c.args.depth; words = c.args.words }) c.args.tags (slice_index c.args.rooms.now)
    c.loop-script.tiles.items c.args.scripts.items c.loop-script.yielded
    (into_iter_items c.loop-script.script-iterator) (into_iter_items c.next.new.self) c.in-Some.script c.len-tile.result (vec_len c.loop-script.tiles)
    (tiles_of c.args.torus)
    c.len-tile.ensures c.loop-script.tiles.ok.0 c.loop-script.invariant.tiles c.loop-script.invariant.scripts c.in-Some.ensures.steps.0 c.requires.tiles

pub overflow_cast-tile : goal.overflow_cast-tile
overflow_cast-tile g c = omega (arith, low_cast g c, c.requires.few_tiles)

pub offset_bounds-rooms-tile : goal.offset_bounds-rooms-tile
offset_bounds-rooms-tile g c = omega (arith, low_cast g c, c.requires.few_tiles)

low_index : (g : Over) (c : goal.After-way_told-1 g) → c.len-tile.result < tiles_of c.args.torus
low_index g c = below (record { shape = c.args.torus; depth = c.args.depth; words = c.args.words }) c.args.tags (slice_index c.args.rooms.now)
    c.loop-script.tiles.items c.args.scripts.items c.loop-script.yielded
    (into_iter_items c.loop-script.script-iterator) (into_iter_items c.next.new.self) c.in-Some.script c.len-tile.result (vec_len c.loop-script.tiles)
    (tiles_of c.args.torus)
    c.len-tile.ensures c.loop-script.tiles.ok.0 c.loop-script.invariant.tiles c.loop-script.invariant.scripts c.in-Some.ensures.steps.0 c.requires.tiles

pub bounds-rooms-tile : goal.bounds-rooms-tile
bounds-rooms-tile g c = omega (arith, low_index g c, c.requires.few_tiles)

low : (g : Over) (c : goal.After-room-1 g) → c.len-tile.result < tiles_of c.args.torus
low g c = below (built g c) c.args.tags (slice_index c.args.rooms.now) c.loop-script.tiles.items c.args.scripts.items c.loop-script.yielded
    (into_iter_items c.loop-script.script-iterator) (into_iter_items c.next.new.self) c.in-Some.script c.len-tile.result (vec_len c.loop-script.tiles)
    (tiles_of c.args.torus)
    c.len-tile.ensures c.loop-script.tiles.ok.0 c.loop-script.invariant.tiles c.loop-script.invariant.scripts c.in-Some.ensures.steps.0 c.requires.tiles

pub new-requires-clause-tile : goal.new-requires-clause-tile
new-requires-clause-tile g c = low g c

-- the script that comes next is accepted
accepted : (g : Over) (c : goal.After-room-1 g) → IsFollowable c.in-Some.script.lines.items × (operation_count c.in-Some.script.lines.items ≤ 4096)
accepted g c =
    c.requires.accepted (length c.loop-script.yielded) c.in-Some.script.lines.items
    (next_lines c.args.scripts.items c.loop-script.yielded (into_iter_items c.loop-script.script-iterator) (into_iter_items c.next.new.self) c.in-Some.script
    c.loop-script.invariant.scripts c.in-Some.ensures.steps.0)

pub new-requires-clause-followable : goal.new-requires-clause-followable
new-requires-clause-followable g c = (accepted g c).0

pub new-requires-clause-count : goal.new-requires-clause-count
new-requires-clause-count g c = (accepted g c).1

pub new-requires-clause-room : goal.new-requires-clause-room
new-requires-clause-room g c = c.requires.rooms c.len-tile.result (low g c)

-- one fewer is left
left_after : (g : Over) (c : goal.In_ok-push g) → into_iter_len c.next.new.self ≡ length (into_iter_items c.next.new.self)
left_after g c =
    let short = ap length c.in-Some.ensures.steps.0 in
    let was : into_iter_len c.loop-script.script-iterator ≡ length (into_iter_items c.loop-script.script-iterator) = c.loop-script.invariant.left in
    omega (arith, c.in-Some.ensures.steps.1)

pub loop-script-preserved : goal.loop-script-preserved
loop-script-preserved g c =
    let d : Design = record { shape = c.args.torus; depth = c.args.depth; words = c.args.words } in
    let counted = c.loop-script.tiles.ok.0 in
    let same = as_many d c.args.tags (slice_index c.args.rooms.now) c.loop-script.tiles.items c.loop-script.yielded c.loop-script.invariant.tiles in
    let number : c.len-tile.result ≡ length c.loop-script.yielded = omega (arith, c.len-tile.ensures) in
    record {
      scripts = one_taken c.args.scripts.items c.loop-script.yielded (into_iter_items c.loop-script.script-iterator) (into_iter_items c.next.new.self)
          c.in-Some.script
          c.loop-script.invariant.scripts c.in-Some.ensures.steps.0;
      left = left_after g c;
      tiles = one_more d c.args.tags (slice_index c.args.rooms.now) c.loop-script.tiles.items c.loop-script.yielded c.loop-script.invariant.tiles
          c.push.new.self.items c.in_ok-agents.agents c.in-Some.script c.len-tile.result c.in_ok-push.ensures.items number c.in_ok-agents.ensures;
    }

-- all scripts were taken
pub returns : goal.returns
returns g c =
    all_made (record { shape = c.args.torus; depth = c.args.depth; words = c.args.words }) c.args.tags (slice_index c.args.rooms.now) c.loop-script.tiles.items
    c.args.scripts.items c.loop-script.yielded
    (into_iter_items c.loop-script.script-iterator) c.loop-script.invariant.tiles c.loop-script.invariant.scripts
    (none_left (into_iter_items c.loop-script.script-iterator) (sym c.loop-script.invariant.left ∙ c.in-None.ensures.steps.0))
