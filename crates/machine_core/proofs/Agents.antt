-- An attempt of one of the three agents of a tile, by the part of the tile that it is.
use Rattle.std.proofs.Common.{◌≡◌, ℕ, ◌-◌, ◌<◌, List, length, Option, Some, None, refl, sym, ◌∙◌, ap, subst, arith, eq-eqb}
use Rattle.std.proofs.Common.{slice_get, slice_set, slice_index, vec_len}
use Rattle.std.specs.Prelude.{Vec, option_map, option_and_then}
use Rattle.std.specs.Option.{IfSome}
use Rattle.std.proofs.lemmas.Bool.{cond-true}
use Rattle.std.proofs.lemmas.Option.{slice_get_within, slice_get-map, same_Some}
use Rattle.torus.specs.Shape.{tiles_of}
use Rattle.torus.specs.declared.step.Choice.{Choice}
use Rattle.torus.specs.declared.step.Step.{Step}
use Rattle.torus.specs.declared.step.Stepped.{Stepped}
use Rattle.torus.specs.declared.step.Stepped.TheVariants.{Moved, Idle}
use Rattle.one_order.proofs.Lists.{get_set_same}
use Rattle.flit_buffer.specs.Agent.{Agent as WithPorts, absorbed}
use Rattle.flit_buffer.specs.Surroundings.{Surroundings}
use Rattle.flit_buffer.specs.Tries.{performed_by}
use Rattle.flit_buffer.specs.Words.{word_of}
use Rattle.flit_buffer.specs.declared.word_op.WordOp.{WordOp}
use Rattle.machine_parts.specs.EventBook.{EventBook}
use Rattle.one_order.specs.ProcessorRecord.{ProcessorRecord}
use Rattle.one_order.specs.ProcessorTable.{ProcessorState}
use Rattle.home_bank.specs.BankTable.{BankState}
use Rattle.router.specs.Table.{RouterState, router_wants, router_after}
use Rattle.order_book.specs.RoomyBook.{RoomyBook, KeepsRoom}
use Rattle.tile.specs.declared.agent.Agent.{Agent}
use Rattle.tile.specs.declared.agent.Agent.TheVariants.{Router, Bank}
use Rattle.tile.specs.Tile.{Design, TileState}
use Rattle.tile.specs.Agents.{TilePlace, state_of, tile_placed, tile_next_op, agent_op, agent_absorbed, agent_kind, agent_tile}
use Rattle.machine_parts.specs.Placed.{PlacedTile, IsAcceptableTo, with_place, agent_attempted, tile_attempted}
use Rattle.machine_parts.proofs.OwnAttempts.{own_attempt}
use Rattle.machine_parts.specs.Core.{design_of, after}
use Rattle.machine_parts.specs.Notes.{book_noted}
use Rattle.machine_parts.specs.Machine.{Core, Steps}
use Rattle.machine_parts.specs.Awake.{Awake, awake_after as after_move}
use Rattle.machine_parts.specs.Ports.{AwakePorts}
use Rattle.machine_core.proofs.RouterFlags.{FollowMove}
use Rattle.machine_core.specs.declared.machine.Machine.TheInside.{Inside}
use Rattle.machine_core.specs.Noted.{HasRoomToNote, IsOfFullBank, counts_of, records_in}
use Rattle.machine_core.specs.Inside.{core_of, IsMachine}
use Rattle.machine_core.proofs.Fields.{Led, with_parts}
use Rattle.machine_core.proofs.Standing.{tiles_counted}
use Rattle.machine_core.proofs.Attempting.{word_in, word_fits, full_stays, without_op, idle}
use Rattle.machine_core.proofs.Moving.{can_note, one_left, moved}
use Rattle.machine_core.proofs.NotedBooks.{noted_as_nothing}

-- a tile in its place has its number
placed_at : (d : Design) (t : ℕ) (around : Surroundings) (o : Option TileState) (p : TilePlace) → option_map (λ tile. tile_placed d t tile around) o ≡ Some p
    → p.tile ≡ t
placed_at d t around None p h = absurd (cc)
placed_at d t around (Some tile) p h = ap (λ (q : TilePlace). q.tile) (sym (same_Some _ _ h))

-- a router's move leaves the processor and the bank of its tile
pub record RouterAlone (p q : TilePlace) : Type 0 where
  pub processor : q.processor ≡ p.processor
  pub bank : q.bank ≡ p.bank

router_replaced : (p q : TilePlace) (o : Option (WithPorts RouterState)) → option_map (λ a. record p { router = a }) o ≡ Some q → RouterAlone p q
router_replaced p q None h = absurd (cc)
router_replaced p q (Some r) h = record {
  processor = ap (λ (x : TilePlace). x.processor) (sym (same_Some _ _ h));
  bank = ap (λ (x : TilePlace). x.bank) (sym (same_Some _ _ h));
}

pub router_alone : (p q : TilePlace) (choice : Choice) (row : List ℕ) → agent_attempted p Router choice row ≡ Some q → RouterAlone p q
router_alone p q choice row = by_op (agent_op p Router choice)
  where
    by_op : (o : Option WordOp) → option_and_then (λ (o : WordOp). agent_absorbed p Router choice (slice_index row (word_of o))) o ≡ Some q → RouterAlone p q
    by_op None h = absurd (cc)
    by_op (Some o) h = router_replaced p q (absorbed (router_wants p.design.shape p.tile) router_after p.router choice (slice_index row (word_of o))) h

-- so nothing is noted of it
nothing_noted : (t : ℕ) (records : List ProcessorRecord) (v : PlacedTile) (q : TilePlace) (g : EventBook) → RouterAlone v.place q
    → g ≡ book_noted t records (length v.place.processor.state.operations.issued) (length v.place.processor.state.operations.answers)
    (length v.place.bank.state.entries) (state_of q) g
nothing_noted t records v q g alone =
    sym (noted_as_nothing t records (counts_of v) (state_of q) g
    (omega (arith, ap (λ (x : WithPorts ProcessorState). length x.state.operations.issued) alone.processor))
    (omega (arith, ap (λ (x : WithPorts ProcessorState). length x.state.operations.answers) alone.processor))
    (omega (arith, ap (λ (x : WithPorts BankState). length x.state.entries) alone.bank)))

keeps_room : (g : RoomyBook) → KeepsRoom g g
keeps_room g = record {
  issues = λ p. omega arith;
  positions = λ b. omega arith;
  rows = omega arith;
  processors = refl;
  banks = refl;
}

module _ {A : Type 0} (a : Inside A) (is : IsMachine a) (attempt : Step) (tile : ℕ) (agent : Agent) (at : agent_tile attempt.agent ≡ tile)
    (which : agent_kind attempt.agent ≡ agent) where
  module _ (v : PlacedTile) (there : slice_get a.tiles.items tile ≡ Some v) where
    here : slice_get a.tiles.items (agent_tile attempt.agent) ≡ Some v
    here = ap (slice_get a.tiles.items) at ∙ there

    own : agent_tile attempt.agent ≡ v.place.tile
    own = sym (placed_at (design_of is.load) (agent_tile attempt.agent) (after is.load is.steps).around
        (slice_get (after is.load is.steps).tiles (agent_tile attempt.agent)) v.place
        (sym (is.seen.tiles (agent_tile attempt.agent))
        ∙ slice_get-map (λ (w : PlacedTile). w.place) a.tiles.items (agent_tile attempt.agent)
        ∙ ap (option_map (λ (w : PlacedTile). w.place)) here))

    own_op : tile_next_op v.place attempt ≡ agent_op v.place (agent_kind attempt.agent) attempt.choice
    own_op = cond-true _ _ _ (eq-eqb _ _ own)

    op_is : tile_next_op v.place attempt ≡ agent_op v.place agent attempt.choice
    op_is = own_op ∙ ap (λ (b : Agent). agent_op v.place b attempt.choice) which

    attempted_is : tile_attempted v.place attempt a.row.items ≡ agent_attempted v.place agent attempt.choice a.row.items
    attempted_is = own_attempt v.place attempt a.row.items own ∙ ap (λ (b : Agent). agent_attempted v.place b attempt.choice a.row.items) which

    -- what the agent asks
    pub agent_word : IfSome (agent_op v.place agent attempt.choice) (λ o. word_of o < vec_len a.row)
    agent_word = subst (λ (x : Option WordOp). IfSome x (λ o. word_of o < vec_len a.row)) op_is (word_in a is attempt v here)

    pub agent_fits : IfSome (agent_op v.place agent attempt.choice) (λ o. IsAcceptableTo v.place agent attempt.choice (slice_index a.row.items (word_of o)))
    agent_fits =
        subst (λ (b : Agent). IfSome (agent_op v.place b attempt.choice)
        (λ o. IsAcceptableTo v.place b attempt.choice (slice_index a.row.items (word_of o)))) which
        (subst (λ (x : Option WordOp). IfSome x
        (λ o. IsAcceptableTo v.place (agent_kind attempt.agent) attempt.choice (slice_index a.row.items (word_of o)))) own_op
        (word_fits a is attempt v here))

    -- an attempt without an operation isn't enabled
    pub agent_without_op : agent_op v.place agent attempt.choice ≡ None → Steps (core_of a) (core_of a) Idle attempt
    agent_without_op none = without_op a is attempt v here (op_is ∙ none)

    -- the fields after an attempt that isn't enabled
    pub agent_idle : (tiles : Vec PlacedTile A) (row : Vec ℕ A) → agent_attempted v.place agent attempt.choice a.row.items ≡ None
        → (w : PlacedTile) → w ≡ v → tiles.items ≡ slice_set a.tiles.items tile w → row.items ≡ performed_by a.row.items (agent_op v.place agent attempt.choice)
        → Led a (with_parts a tiles row a.book a.awake a.ports a.left) Idle attempt
    agent_idle tiles row none w same tiles_are row_is =
        idle a is attempt v here tiles row (attempted_is ∙ none) w same
        (tiles_are ∙ ap (λ (n : ℕ). slice_set a.tiles.items n w) (sym at)) (row_is ∙ ap (performed_by a.row.items) (sym op_is))

    module _ (q : TilePlace) (attempted : agent_attempted v.place agent attempt.choice a.row.items ≡ Some q) (w : PlacedTile) (new_tile : w ≡ with_place v q)
      where
        -- the book has room for what is noted
        pub agent_can_note : (tiles : List PlacedTile) → tiles ≡ slice_set a.tiles.items tile w
            → (row : List ℕ) → row ≡ performed_by a.row.items (agent_op v.place agent attempt.choice) → HasRoomToNote tiles tile (counts_of v) a.book
        agent_can_note tiles tiles_are row row_is =
            subst (λ (n : ℕ). HasRoomToNote tiles n (counts_of v) a.book) at
            (can_note a is attempt v here q (attempted_is ∙ attempted) w new_tile tiles
            (tiles_are ∙ ap (λ (n : ℕ). slice_set a.tiles.items n w) (sym at)) row (row_is ∙ ap (performed_by a.row.items) (sym op_is)))

        -- a move is left
        pub agent_left : (tiles : List PlacedTile) → tiles ≡ slice_set a.tiles.items tile w
            → (row : List ℕ) → row ≡ performed_by a.row.items (agent_op v.place agent attempt.choice) → 0 < a.left
        agent_left tiles tiles_are row row_is =
            one_left a is attempt v here q (attempted_is ∙ attempted) w new_tile tiles
            (tiles_are ∙ ap (λ (n : ℕ). slice_set a.tiles.items n w) (sym at)) row (row_is ∙ ap (performed_by a.row.items) (sym op_is))

        -- the fields after an attempt that is enabled
        pub agent_moved : (tiles : Vec PlacedTile A) → tiles.items ≡ slice_set a.tiles.items tile w
            → (row : Vec ℕ A) → row.items ≡ performed_by a.row.items (agent_op v.place agent attempt.choice)
            → (g : RoomyBook) → KeepsRoom a.book g
            → ((x : PlacedTile) → slice_get tiles.items tile ≡ Some x
            → g.book ≡ book_noted tile (records_in tiles.items) (length v.place.processor.state.operations.issued)
            (length v.place.processor.state.operations.answers) (length v.place.bank.state.entries) (state_of x.place) a.book.book)
            → (op : WordOp) → agent_op v.place agent attempt.choice ≡ Some op → (awake : Awake) → awake ≡ after_move a.awake attempt.agent op
            → (ports : AwakePorts) → FollowMove agent a.ports ports tile attempt.choice op
            → Led a (with_parts a tiles row g awake ports (a.left - 1)) Moved attempt
        agent_moved tiles tiles_are row row_is g keeps noted op asked awake awake_is ports ports_are =
            moved a is attempt v here q (attempted_is ∙ attempted) w new_tile tiles
            (tiles_are ∙ ap (λ (n : ℕ). slice_set a.tiles.items n w) (sym at)) row (row_is ∙ ap (performed_by a.row.items) (sym op_is)) g keeps
            (subst (λ (n : ℕ). (x : PlacedTile) → slice_get tiles.items n ≡ Some x
            → g.book ≡ book_noted n (records_in tiles.items) (length v.place.processor.state.operations.issued)
            (length v.place.processor.state.operations.answers) (length v.place.bank.state.entries) (state_of x.place) a.book.book) (sym at) noted)
            op (op_is ∙ asked) awake awake_is ports
            (subst (λ (b : Agent). FollowMove b a.ports ports (agent_tile attempt.agent) attempt.choice op) (sym which)
            (subst (λ (n : ℕ). FollowMove agent a.ports ports n attempt.choice op) (sym at) ports_are))

-- the fields after a router's move: the book stays
module _ {A : Type 0} (a : Inside A) (is : IsMachine a) (attempt : Step) (tile : ℕ) (at : agent_tile attempt.agent ≡ tile)
    (which : agent_kind attempt.agent ≡ Router) where
  pub router_moved : (v : PlacedTile) → slice_get a.tiles.items tile ≡ Some v
      → (q : TilePlace) → agent_attempted v.place Router attempt.choice a.row.items ≡ Some q → (w : PlacedTile) → w ≡ with_place v q
      → (tiles : Vec PlacedTile A) → tiles.items ≡ slice_set a.tiles.items tile w
      → (row : Vec ℕ A) → row.items ≡ performed_by a.row.items (agent_op v.place Router attempt.choice)
      → (op : WordOp) → agent_op v.place Router attempt.choice ≡ Some op → (awake : Awake) → awake ≡ after_move a.awake attempt.agent op
      → (ports : AwakePorts) → FollowMove Router a.ports ports tile attempt.choice op
      → Led a (with_parts a tiles row a.book awake ports (a.left - 1)) Moved attempt
  router_moved v there q attempted w new_tile tiles tiles_are row row_is op asked awake awake_is ports ports_are =
      let new_there : slice_get tiles.items tile ≡ Some (with_place v q) =
      ap (λ (vs : List PlacedTile). slice_get vs tile) (tiles_are ∙ ap (slice_set a.tiles.items tile) new_tile)
      ∙ get_set_same a.tiles.items tile (with_place v q) (slice_get_within a.tiles.items tile v there) in
      agent_moved a is attempt tile Router at which v there q attempted w new_tile tiles tiles_are row row_is a.book (keeps_room a.book)
      (λ x at_x. subst (λ (y : PlacedTile). a.book.book
      ≡ book_noted tile (records_in tiles.items) (length v.place.processor.state.operations.issued) (length v.place.processor.state.operations.answers)
      (length v.place.bank.state.entries) (state_of y.place) a.book.book)
      (same_Some _ _ (sym new_there ∙ at_x))
      (nothing_noted tile (records_in tiles.items) v q a.book.book (router_alone v.place q attempt.choice a.row.items attempted)))
      op asked awake awake_is ports ports_are

-- a bank that has no room serves nothing
pub bank_stays : {A : Type 0} (a : Inside A) (is : IsMachine a) (attempt : Step) (tile : ℕ) → agent_tile attempt.agent ≡ tile → agent_kind attempt.agent ≡ Bank
    → (v : PlacedTile) → slice_get a.tiles.items tile ≡ Some v → IsOfFullBank v attempt.choice → Steps (core_of a) (core_of a) Idle attempt
bank_stays a is attempt tile at which v there full = full_stays a is attempt v (ap (slice_get a.tiles.items) at ∙ there) which full

-- a tile of the torus is one of the machine's
pub tile_within : {A : Type 0} (a : Inside A) → IsMachine a → (c : Core) → core_of a ≡ c → (tile : ℕ) → tile < tiles_of c.shape → tile < vec_len a.tiles
tile_within a is c view tile low =
    let counted = tiles_counted a is in
    let long = a.tiles.ok.0 in
    let shape : tiles_of c.shape ≡ tiles_of is.load.shape = ap (λ (x : Core). tiles_of x.shape) (sym view) ∙ ap tiles_of is.after.shape in
    omega (arith, low, shape, counted, long)

-- an attempt by the number of its agent
pub as_attempt : (old new : Core) (stepped : Stepped) (attempt : Step) (n : ℕ) → attempt.agent ≡ n
    → Steps old new stepped (record { agent = n; choice = attempt.choice }) → Steps old new stepped attempt
as_attempt old new stepped attempt n e h = subst (λ (k : ℕ). Steps old new stepped (record { agent = k; choice = attempt.choice })) (sym e) h
