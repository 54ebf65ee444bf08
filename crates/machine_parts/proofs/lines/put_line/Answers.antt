use Rattle.std.proofs.Common.{◌≡◌, ◌+◌, ◌≤◌, List, length, refl, sym, ◌∙◌, ap, subst, arith, slice_get}
use Rattle.std.proofs.lemmas.Option.{same_Some}
use Rattle.tile.specs.Agents.{TilePlace}
use Rattle.tile.specs.Placed.{PlacedTile}
use Rattle.core_laws.specs.Appended.{changed_at}
use Rattle.core_laws.proofs.Places.{get_same}
use Rattle.machine_parts.specs.Grown.{tile_wider, tile_narrower, HasRoomFor}
use Rattle.machine_parts.proofs.Items.{seen_at, changed_long, changed_back, kept_at}
use Rattle.machine_parts.proofs.lines.put_line.Goals as goal

pub give-requires-clause-tile : goal.give-requires-clause-tile
give-requires-clause-tile g c =
    let same = ap (λ (vs : List PlacedTile). length vs) c.in_ok-widen.ensures.wider in
    let long = changed_long (tile_wider c.operations-more.result) c.args.tiles.now.items c.args.home in
    let low = c.requires.own_tile in
    omega (arith, same, long, low)

pub give-requires-clause-takes : goal.give-requires-clause-takes
give-requires-clause-takes g c = λ v at.
    let k = kept_at (tile_wider c.operations-more.result) (λ (x : PlacedTile). x.place) (λ x. refl) c.args.tiles.now.items c.args.home c.args.own v
    (ap (λ (vs : List PlacedTile). slice_get vs c.args.own) (sym c.in_ok-widen.ensures.wider) ∙ at) in
    subst (λ (q : TilePlace). HasRoomFor c.args.line c.args.room q.processor.state.operations) (sym k.2) (c.requires.takes k.0 k.1)

pub narrow-requires-clause-tile : goal.narrow-requires-clause-tile
narrow-requires-clause-tile g c =
    let same = ap (λ (vs : List PlacedTile). length vs) (c.in-Err.ensures.same ∙ c.in_ok-widen.ensures.wider) in
    let long = changed_long (tile_wider c.operations-more.result) c.args.tiles.now.items c.args.home in
    let low = c.requires.home_tile in
    omega (arith, same, long, low)

pub narrow-requires-clause-room : goal.narrow-requires-clause-room
narrow-requires-clause-room g c = λ v at.
    let u : PlacedTile = c.index.result.now in
    let there = seen_at c.args.tiles.now.items c.args.home u c.requires.home_tile c.index.ensures in
    let wider : v ≡ tile_wider c.operations-more.result u =
    same_Some _ _ (sym at ∙ (ap (λ (vs : List PlacedTile). slice_get vs c.args.home) (c.in-Err.ensures.same ∙ c.in_ok-widen.ensures.wider)
    ∙ get_same (tile_wider c.operations-more.result) c.args.tiles.now.items c.args.home u there)) in
    let within = c.is_full-full.ensures.within in
    subst (λ (x : PlacedTile). length x.place.bank.state.entries + c.operations-more.result ≤ x.room) (sym wider) (omega (arith, within))

pub returns-in-Err-clause-same : goal.returns-in-Err-clause-same
returns-in-Err-clause-same g c =
    c.narrow.ensures
    ∙ (ap (λ (vs : List PlacedTile). changed_at (tile_narrower c.operations-more.result) vs c.args.home)
    (c.in-Err.ensures.same ∙ c.in_ok-widen.ensures.wider)
    ∙ changed_back (tile_wider c.operations-more.result) (tile_narrower c.operations-more.result)
    (λ v. ap (λ n. record { place = v.place; room = n }) (omega arith)) c.args.tiles.now.items c.args.home)
