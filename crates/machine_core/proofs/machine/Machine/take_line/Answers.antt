use Rattle.std.proofs.Common.{◌≡◌, ℕ, ◌+◌, ◌*◌, ◌≤◌, List, length, refl, ◌∙◌, ap, subst, arith, slice_get, slice_index}
use Rattle.std.proofs.Common.{Some}
use Rattle.std.specs.Prelude.{sum}
use Rattle.std.specs.Vec.{with_item}
use Rattle.torus.specs.Shape.{tiles_of}
use Rattle.script_lines.specs.Lines.{operations_of}
use Rattle.one_order.specs.Homes.{line_home_count}
use Rattle.machine_parts.specs.Placed.{PlacedTile}
use Rattle.machine_parts.specs.Appended.{changed_at}
use Rattle.machine_parts.specs.Grown.{tile_given, tile_wider, tiles_given, AreAsReported}
use Rattle.machine_parts.proofs.Items.{seen_at, changed_long}
use Rattle.machine_core.proofs.Standing.{few_tiles, tiles_counted}
use Rattle.machine_core.proofs.Handing as handing
use Rattle.machine_core.proofs.HandedMachines as machines
use Rattle.machine_core.proofs.machine.Machine.take_line.Given.{Over}
use Rattle.machine_core.proofs.machine.Machine.take_line.Goals as goal

-- its operations more
most_from : (n m own more : ℕ) → n ≡ own → m ≡ more → n + m ≡ own + more
most_from n m own more e f = omega (arith, e, f)

-- the room of that bank
room_small : (g : Over) (c : goal.After-room g) → c.room.result + c.operations-more.result ≤ 65536
room_small g c =
    let few = handing.bank_few c.self.inside c.self.invariant c.args.self.now c.self.view_is c.args.processor c.args.line c.requires c.brings_words.ensures
    c.home_of-home.result
    c.index-2.result.now (seen_at c.self.inside.tiles.items c.home_of-home.result c.index-2.result.now
    (handing.home_there c.self.inside c.self.invariant c.tiles.result c.home_of-home.result c.tiles.ensures.value c.home_of-home.ensures.tile)
    c.index-2.ensures) in
    let more = c.operations-more.ensures in
    let room = c.room.ensures in
    omega (arith, few, more, room)

-- what the line asks for is small, and its processor and its bank are there
pub overflow_add-room : goal.overflow_add-room
overflow_add-room g c =
    let own = handing.own_read c.self.inside c.self.invariant c.args.self.now c.self.view_is c.args.processor c.args.line c.requires c.brings_words.ensures
    c.index.result.now c.index.ensures in
    let few = handing.own_few c.self.inside c.self.invariant c.args.self.now c.self.view_is c.args.processor c.args.line c.requires c.brings_words.ensures in
    omega (arith, own, few, c.operations-more.ensures)

pub sum_of-requires : goal.sum_of-requires
sum_of-requires g c =
    let few = handing.all_few c.self.inside c.self.invariant c.args.self.now c.self.view_is c.args.processor c.args.line c.requires c.brings_words.ensures in
    omega (arith, few, ap (λ (ns : List ℕ). sum ns) c.as_slice.ensures.value)

pub overflow_add-all : goal.overflow_add-all
overflow_add-all g c =
    let few = handing.all_few c.self.inside c.self.invariant c.args.self.now c.self.view_is c.args.processor c.args.line c.requires c.brings_words.ensures in
    omega (arith, few, ap (λ (ns : List ℕ). sum ns) c.as_slice.ensures.value, c.sum_of.ensures, c.operations-more.ensures)

pub home_of-home-requires : goal.home_of-home-requires
home_of-home-requires g c =
    let there = handing.tile_there c.self.inside c.self.invariant c.args.self.now c.self.view_is c.args.processor c.args.line c.requires c.brings_words.ensures in
    let many = tiles_counted c.self.inside c.self.invariant in
    let shape = handing.home_shape c.self.inside c.self.invariant c.tiles.result c.tiles.ensures.value in
    omega (arith, there, many, shape)

pub index-requires-2 : goal.index-requires-2
index-requires-2 g c =
    let there = handing.home_there c.self.inside c.self.invariant c.tiles.result c.home_of-home.result c.tiles.ensures.value c.home_of-home.ensures.tile in
    let counted = c.self.inside.tiles.ok.0 in
    omega (arith, there, counted)

pub put_line-requires-clause-own_tile : goal.put_line-requires-clause-own_tile
put_line-requires-clause-own_tile g c =
    handing.tile_there c.self.inside c.self.invariant c.args.self.now c.self.view_is c.args.processor c.args.line c.requires c.brings_words.ensures

pub put_line-requires-clause-home_tile : goal.put_line-requires-clause-home_tile
put_line-requires-clause-home_tile g c =
    handing.home_there c.self.inside c.self.invariant c.tiles.result c.home_of-home.result c.tiles.ensures.value c.home_of-home.ensures.tile

pub put_line-requires-clause-few : goal.put_line-requires-clause-few
put_line-requires-clause-few g c =
    let own = handing.own_read c.self.inside c.self.invariant c.args.self.now c.self.view_is c.args.processor c.args.line c.requires c.brings_words.ensures
    c.index.result.now c.index.ensures in
    let few = handing.own_few c.self.inside c.self.invariant c.args.self.now c.self.view_is c.args.processor c.args.line c.requires c.brings_words.ensures in
    omega (arith, own, few, c.operations-more.ensures)

pub rouse-requires : goal.rouse-requires
rouse-requires g c =
    let there = handing.tile_there c.self.inside c.self.invariant c.args.self.now c.self.view_is c.args.processor c.args.line c.requires c.brings_words.ensures in
    let few = few_tiles c.self.inside c.self.invariant in
    omega (arith, there, few)

pub overflow_add-entries : goal.overflow_add-entries
overflow_add-entries g c = let small = room_small g c in omega (arith, small)

pub reserve-requires-clause-processor : goal.reserve-requires-clause-processor
reserve-requires-clause-processor g c =
    (handing.book_there c.self.inside c.self.invariant c.args.processor
    (handing.tile_there c.self.inside c.self.invariant c.args.self.now c.self.view_is c.args.processor c.args.line c.requires c.brings_words.ensures)).0

pub reserve-requires-clause-bank : goal.reserve-requires-clause-bank
reserve-requires-clause-bank g c =
    (handing.book_there c.self.inside c.self.invariant c.home_of-home.result
    (handing.home_there c.self.inside c.self.invariant c.tiles.result c.home_of-home.result c.tiles.ensures.value c.home_of-home.ensures.tile)).1

-- where memory is refused it is the same machine
pub invariant_of-self : goal.invariant_of-self
invariant_of-self g c =
    handing.same_machine c.self.inside c.self.invariant c.self.inside.tiles refl c.reserve.new.self c.reserve.ensures.book c.reserve.ensures.room

pub invariant_of-self-in_err-put_line : goal.invariant_of-self-in_err-put_line
invariant_of-self-in_err-put_line g c =
    handing.same_machine c.self.inside c.self.invariant c.put_line.new.tiles c.in_err-put_line.ensures.same c.reserve.new.self c.reserve.ensures.book
    c.reserve.ensures.room

pub put_line-requires-clause-takes : goal.put_line-requires-clause-takes
put_line-requires-clause-takes g c =
    handing.can_take c.self.inside c.self.invariant c.args.self.now c.self.view_is c.args.processor c.args.line c.requires c.brings_words.ensures
    (c.index.result.now + c.operations-more.result) (most_from c.index.result.now c.operations-more.result
    (slice_index c.self.inside.allowed.items c.args.processor) (operations_of c.args.line)
    (handing.own_read c.self.inside c.self.invariant c.args.self.now c.self.view_is c.args.processor c.args.line c.requires c.brings_words.ensures
    c.index.result.now
    c.index.ensures) c.operations-more.ensures)

pub put_line-requires-clause-bank : goal.put_line-requires-clause-bank
put_line-requires-clause-bank g c =
    handing.bank_few c.self.inside c.self.invariant c.args.self.now c.self.view_is c.args.processor c.args.line c.requires c.brings_words.ensures
    c.home_of-home.result

-- the tiles with the line
long : (g : Over) (c : goal.After-take_back-arg-3-1 g) → length c.put_line.new.tiles.items ≡ length c.self.inside.tiles.items
long g c =
    ap (λ (vs : List PlacedTile). length vs) c.in_ok-put_line.ensures.given
    ∙ (changed_long (tile_given c.args.line) (changed_at (tile_wider
    (operations_of c.args.line)) c.self.inside.tiles.items c.home_of-home.result) c.args.processor
    ∙ changed_long (tile_wider (operations_of c.args.line)) c.self.inside.tiles.items c.home_of-home.result)

pub take_back-taken-requires-clause-tile : goal.take_back-taken-requires-clause-tile
take_back-taken-requires-clause-tile g c =
    let there = handing.tile_there c.self.inside c.self.invariant c.args.self.now c.self.view_is c.args.processor c.args.line c.requires
    c.brings_words.ensures in
    let same = long g c in
    omega (arith, there, same)

pub take_back-taken-requires-clause-tiles : goal.take_back-taken-requires-clause-tiles
take_back-taken-requires-clause-tiles g c =
    let few = few_tiles c.self.inside c.self.invariant in
    let same = long g c in
    omega (arith, few, same)

pub take_back-taken-requires-clause-row : goal.take_back-taken-requires-clause-row
take_back-taken-requires-clause-row g c = handing.row_there c.self.inside c.self.invariant

-- the machine with the line
module _ (g : Over) (c : goal.After-self-2-1 g) where
  abbrev n : ℕ
  n = tiles_of c.self.invariant.load.shape

  home_is : c.tiles.result ≡ n
  home_is = handing.home_shape c.self.inside c.self.invariant c.tiles.result c.tiles.ensures.value

  here : line_home_count n c.home_of-home.result c.args.line ≡ operations_of c.args.line
  here = subst (λ (k : ℕ). line_home_count k c.home_of-home.result c.args.line ≡ operations_of c.args.line) home_is c.home_of-home.ensures.here

  others : (b : ℕ) → (b ≡ c.home_of-home.result → ⊥) → line_home_count n b c.args.line ≡ 0
  others b other = subst (λ (k : ℕ). line_home_count k b c.args.line ≡ 0) home_is (c.home_of-home.ensures.others b other)

  positions : c.index-2.result.now.room + operations_of c.args.line ≤ slice_index c.reserve.new.self.positions c.home_of-home.result
  positions =
      let reserved = c.in_ok-reserve.ensures.positions in
      let more = c.operations-more.ensures in
      let room = c.room.ensures in
      omega (arith, reserved, more, room)

  rows : sum c.self.inside.allowed.items + operations_of c.args.line ≤ c.reserve.new.self.rows
  rows =
      let reserved = c.in_ok-reserve.ensures.rows in
      let more = c.operations-more.ensures in
      let all : c.sum_of.result ≡ sum c.self.inside.allowed.items = c.sum_of.ensures ∙ ap (λ (ns : List ℕ). sum ns) c.as_slice.ensures.value in
      omega (arith, reserved, more, all)

  now : (v : PlacedTile) → slice_get (tiles_given c.args.line c.args.processor c.home_of-home.result c.self.inside.tiles.items) c.args.processor ≡ Some v
      → AreAsReported (tiles_given c.args.line c.args.processor c.home_of-home.result c.self.inside.tiles.items) c.take_back-taken.new.tiles.items
      c.self.inside.row.items c.take_back-taken.new.row.items c.self.inside.awake c.take_back-taken.new.awake c.take_back-taken.result
      v.place.processor.state.reported
  now = subst (λ (vs : List PlacedTile). (v : PlacedTile) → slice_get vs c.args.processor ≡ Some v
      → AreAsReported vs c.take_back-taken.new.tiles.items c.self.inside.row.items c.take_back-taken.new.row.items c.self.inside.awake
      c.take_back-taken.new.awake c.take_back-taken.result v.place.processor.state.reported) c.in_ok-put_line.ensures.given c.take_back-taken.ensures.reports

  left_is : c.self.inside.left + (c.take_back-taken.result + 241 * c.operations-more.result)
      ≡ c.self.inside.left + (c.take_back-taken.result + 241 * operations_of c.args.line)
  left_is = ap (λ (k : ℕ). c.self.inside.left + (c.take_back-taken.result + 241 * k)) c.operations-more.ensures

pub invariant_of-self-2 : goal.invariant_of-self-2
invariant_of-self-2 g c =
    machines.machine_now c.self.inside c.self.invariant c.args.self.now c.self.view_is c.args.processor c.args.line c.requires c.brings_words.ensures
    c.home_of-home.result (others g c)
    c.reserve.new.self c.reserve.ensures.room (c.index.result.now + c.operations-more.result) (most_from c.index.result.now c.operations-more.result
    (slice_index c.self.inside.allowed.items c.args.processor) (operations_of c.args.line)
    (handing.own_read c.self.inside c.self.invariant c.args.self.now c.self.view_is c.args.processor c.args.line c.requires c.brings_words.ensures
    c.index.result.now
    c.index.ensures) c.operations-more.ensures) c.in_ok-reserve.ensures.issues
    c.index-2.result.now (seen_at c.self.inside.tiles.items c.home_of-home.result c.index-2.result.now
    (handing.home_there c.self.inside c.self.invariant c.tiles.result c.home_of-home.result c.tiles.ensures.value c.home_of-home.ensures.tile)
    c.index-2.ensures) (here g c) (positions g c) (rows g c) c.reserve.ensures.book c.take_back-taken.new.tiles c.take_back-taken.new.row
    c.take_back-taken.new.awake c.take_back-taken.result (now g c)
    (with_item c.self.inside.allowed c.args.processor (c.index.result.now + c.operations-more.result)) refl
    (c.self.inside.left + (c.take_back-taken.result + 241 * c.operations-more.result)) (left_is g c) c.rouse.new.self c.rouse.ensures

pub returns-clause-taken : goal.returns-clause-taken
returns-clause-taken g c =
    machines.core_now c.self.inside c.self.invariant c.args.self.now c.self.view_is c.args.processor c.args.line c.requires c.brings_words.ensures
    c.home_of-home.result (others g c)
    c.reserve.new.self c.reserve.ensures.room (c.index.result.now + c.operations-more.result) (most_from c.index.result.now c.operations-more.result
    (slice_index c.self.inside.allowed.items c.args.processor) (operations_of c.args.line)
    (handing.own_read c.self.inside c.self.invariant c.args.self.now c.self.view_is c.args.processor c.args.line c.requires c.brings_words.ensures
    c.index.result.now
    c.index.ensures) c.operations-more.ensures) c.in_ok-reserve.ensures.issues
    c.index-2.result.now (seen_at c.self.inside.tiles.items c.home_of-home.result c.index-2.result.now
    (handing.home_there c.self.inside c.self.invariant c.tiles.result c.home_of-home.result c.tiles.ensures.value c.home_of-home.ensures.tile)
    c.index-2.ensures) (here g c) (positions g c) (rows g c) c.reserve.ensures.book c.take_back-taken.new.tiles c.take_back-taken.new.row
    c.take_back-taken.new.awake c.take_back-taken.result (now g c)
    (with_item c.self.inside.allowed c.args.processor (c.index.result.now + c.operations-more.result)) refl
    (c.self.inside.left + (c.take_back-taken.result + 241 * c.operations-more.result)) (left_is g c) c.rouse.new.self c.rouse.ensures
