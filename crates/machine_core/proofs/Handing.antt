-- What a machine's fields have of what a line asks that it is handed.
use Rattle.std.proofs.Common.{◌≡◌, ℕ, ◌+◌, ◌<◌, ◌≤◌, List, [], length, map, Some, None, sym, ◌∙◌, ap, subst}
use Rattle.std.proofs.Common.{arith, slice_get, slice_index, get_or}
use Rattle.std.specs.Prelude.{Vec, option_map, sum}
use Rattle.std.proofs.lemmas.List.{length-map, get_or-map}
use Rattle.std.proofs.lemmas.List.Sums.{sum-map}
use Rattle.std.proofs.lemmas.Option.{slice_get-map, get_or_from_slice_get}
use Rattle.torus.specs.Shape.{tiles_of}
use Rattle.torus.specs.declared.step.Step.{Step}
use Rattle.script_lines.specs.declared.line.Line.{Line}
use Rattle.script_lines.specs.declared.line.Line.TheVariants as line
use Rattle.script_lines.specs.Lines.{operations_of, operation_count, total_count, script_of, IsAcceptedLine}
use Rattle.one_order.proofs.Lists.{within_length}
use Rattle.order_book.proofs.Counts.{home_within}
use Rattle.order_book.specs.RoomyBook.{RoomyBook, KeepsRoom}
use Rattle.one_order.specs.ProcessorRecord.{ProcessorRecord, no_processor}
use Rattle.one_order.specs.Following.{left_of}
use Rattle.one_order.proofs.Shown.{left_within}
use Rattle.one_order.proofs.Grown.{some_of}
use Rattle.machine_parts.proofs.LoadingAccepted.{followable}
use Rattle.tile.specs.Tile.{TileState}
use Rattle.tile.specs.Agents.{state_of}
use Rattle.machine_parts.specs.Placed.{PlacedTile}
use Rattle.machine_parts.specs.Core.{Load, design_of, after, records_of}
use Rattle.machine_parts.specs.Runs.{state_after}
use Rattle.machine_parts.proofs.OnTheWay.{shows_operations}
use Rattle.machine_parts.specs.Machine.{Core, IsAfter}
use Rattle.machine_parts.specs.Seen.{IsShown, state_seen}
use Rattle.machine_parts.specs.Notes.{FitsLoad}
use Rattle.machine_parts.proofs.Notes.{book_fits}
use Rattle.machine_parts.specs.Appended.{MayFollow}
use Rattle.machine_parts.specs.Handed.{refused, BringsWords}
use Rattle.machine_parts.proofs.Handed.{taken}
use Rattle.machine_parts.specs.Grown.{HasRoomFor}
use Rattle.machine_parts.proofs.Items.{seen_at}
use Rattle.machine_core.specs.declared.machine.Machine.TheInside.{Inside}
use Rattle.machine_core.specs.Inside.{design_in, places_in, core_of, HaveRoom, HasRoomForScripts, IsMachine}
use Rattle.machine_core.proofs.Fields.{state_at}
use Rattle.machine_core.proofs.Standing.{all_steps, book_is, tiles_counted}
use Rattle.machine_core.proofs.Views.{row_length}

-- a spin that is taken has loads
some_loads : (words : ℕ) (first : Line) → IsAcceptedLine words first → (a v m : ℕ) → first ≡ line.Spin a v m → 0 < m
some_loads words first ok a v m e = let h : IsAcceptedLine words (line.Spin a v m) = subst (IsAcceptedLine words) e ok in let low = h.2 in omega (arith, low)

-- the fields of a machine with another book, and with tiles in another vector
abbrev pub with_book : {A : Type 0} → Inside A → Vec PlacedTile A → RoomyBook → Inside A
with_book a tiles g = record {
  torus = a.torus;
  depth = a.depth;
  tags = a.tags;
  opening = a.opening;
  tiles = tiles;
  row = a.row;
  book = g;
  allowed = a.allowed;
  left = a.left;
  awake = a.awake;
  ports = a.ports;
}

module _ {A : Type 0} (a : Inside A) (is : IsMachine a) where
  -- the room that a book has that has no less
  kept_room : (g : RoomyBook) → KeepsRoom a.book g → HasRoomForScripts is.load g
  kept_room g keeps = record {
    issues = λ p lines script. let k = is.room.issues p lines script in let r = keeps.issues p in omega (arith, k, r);
    positions = λ b short. let k = is.room.positions b short in let r = keeps.positions b in omega (arith, k, r);
    rows = let k = is.room.rows in let r = keeps.rows in omega (arith, k, r);
  }

  -- where the tiles are the same, and the book shows the same and has no less room, it is the same machine
  module _ (tiles : Vec PlacedTile A) (same : tiles.items ≡ a.tiles.items) (g : RoomyBook) (book : g.book ≡ a.book.book) (keeps : KeepsRoom a.book g) where
    pub same_core : core_of (with_book a tiles g) ≡ core_of a
    same_core = λ i. record {
      shape = a.torus;
      depth = a.depth;
      tags = a.tags;
      opening = a.opening.items;
      allowed = a.allowed.items;
      state = state_seen (design_in a) (map (λ v. v.place) (same i)) a.row.items;
      book = book i;
      moves_left = a.left;
    }

    pub same_machine : IsMachine (with_book a tiles g)
    same_machine = record {
      load = is.load;
      steps = is.steps;
      after = subst (λ (x : Core). IsAfter is.load x is.steps) (sym same_core) is.after;
      seen = subst (λ (vs : List PlacedTile). IsShown (design_of is.load) (after is.load is.steps) (map (λ v. v.place) vs) a.row.items) (sym same) is.seen;
      banks = subst (HaveRoom is.load) (sym same) is.banks;
      room = kept_room g keeps;
      built = is.built;
      sleepers = is.sleepers;
      routed = is.routed;
      ports = is.ports;
    }

  -- a tile that is there, with its place in the book
  pub home_there : (n home : ℕ) → n ≡ tiles_of a.torus → home < n → home < length a.tiles.items
  home_there n home counted low =
      let many = tiles_counted a is in
      let shape = ap tiles_of is.after.shape in
      omega (arith, counted, low, many, shape)

  pub home_shape : (n : ℕ) → n ≡ tiles_of a.torus → n ≡ tiles_of is.load.shape
  home_shape n counted = counted ∙ ap tiles_of is.after.shape

  pub book_there : (q : ℕ) → q < length a.tiles.items → (q < length a.book.book.issues) × (q < length a.book.book.positions)
  book_there q low =
      let fits = subst (FitsLoad is.load) (sym (book_is a is)) (book_fits is.load is.after.accepted is.steps) in
      let issues = fits.issues in
      let positions = fits.positions in
      let many = tiles_counted a is in
      (omega (arith, low, issues, many), omega (arith, low, positions, many))

  pub row_there : 0 < length a.row.items
  row_there = let long = row_length a is in omega (arith, long)

  -- the moves that are left are few
  pub left_small : a.left ≤ 15794304
  left_small =
      let m = is.after.moves in
      let total = is.after.accepted.scripts.total in
      let tiles = is.after.accepted.shape.tiles in
      omega (arith, m, total, tiles)

module _ {A : Type 0} (a : Inside A) (is : IsMachine a) (seen : Core) (view : core_of a ≡ seen) (p : ℕ) (first : Line) (none : refused seen p first ≡ None)
    (brings : BringsWords first) where
  abbrev l : Load
  l = is.load

  abbrev c : Core
  c = core_of a

  abbrev own : ℕ
  own = slice_index a.allowed.items p

  abbrev more : ℕ
  more = operations_of first

  pub may : MayFollow l p first
  may = taken l c is.steps p first is.after brings (ap (λ (x : Core). refused x p first) view ∙ none)

  pub loads : (b v m : ℕ) → first ≡ line.Spin b v m → 0 < m
  loads = some_loads (length l.opening) first may.accepted

  -- there is such a processor, with its script
  pub tile_there : p < length a.tiles.items
  tile_there =
      let there = may.there in
      let counted = tiles_counted a is in
      let many = is.after.accepted.processors in
      omega (arith, there, counted, many)

  pub allowed_there : p < length a.allowed.items
  allowed_there =
      let there = may.there in
      let many = ap (λ (ns : List ℕ). length ns) is.after.allowed ∙ length-map l.scripts operation_count in
      omega (arith, there, many)

  pub own_read : (n : ℕ) → n ≡ get_or a.allowed.items p n → n ≡ own
  own_read n is_it = sym (get_or_from_slice_get a.allowed.items p n 0 (seen_at a.allowed.items p n allowed_there is_it))

  pub own_is : own ≡ operation_count (script_of l.scripts p)
  own_is = ap (λ (ns : List ℕ). slice_index ns p) is.after.allowed ∙ get_or-map operation_count l.scripts p [] 0 may.there

  pub all_is : sum a.allowed.items ≡ total_count l.scripts
  all_is = ap sum is.after.allowed ∙ sum-map operation_count l.scripts

  pub own_few : own + more ≤ 4096
  own_few = let few = may.few in let e = own_is in omega (arith, few, e)

  pub all_few : sum a.allowed.items + more ≤ 65536
  all_few = let few = may.few_in_all in let e = all_is in omega (arith, few, e)

  -- a bank has room for the line
  pub bank_few : (b : ℕ) (v : PlacedTile) → slice_get a.tiles.items b ≡ Some v → v.room + more ≤ 65536
  bank_few b v at =
      let room = is.banks b v at in
      let within = home_within (tiles_of l.shape) b l.scripts in
      let few = may.few_in_all in
      omega (arith, room, within, few)

  -- the processor can take it
  pub can_take : (most : ℕ) → most ≡ own + more → (v : PlacedTile) → slice_get a.tiles.items p ≡ Some v
      → HasRoomFor first most v.place.processor.state.operations
  can_take most most_is v at =
      let n = length is.steps in
      let b : ProcessorRecord = v.place.processor.state.operations in
      let records : List ProcessorRecord = records_of (state_after l is.steps n) in
      let script = within_length l.scripts p may.there in
      let lines : List Line = script.0 in
      let shows = shows_operations l is.after.accepted is.steps n p lines script.1 in
      let here : slice_get (after l is.steps).tiles p ≡ Some (state_of v.place) =
      state_at (design_of l) (after l is.steps) (places_in a) a.row.items is.seen p v.place
      (slice_get-map (λ (x : PlacedTile). x.place) a.tiles.items p ∙ ap (option_map (λ (x : PlacedTile). x.place)) at) in
      let there : slice_get records p ≡ Some b =
      slice_get-map (λ (t : TileState). t.processor.operations) (state_after l is.steps n).tiles p
      ∙ ap (option_map (λ (t : TileState). t.processor.operations)) (ap (λ (xs : List Step). slice_get (after l xs).tiles p) (all_steps a is) ∙ here) in
      let following = ap (λ (x : ProcessorRecord). left_of x.following) (get_or_from_slice_get records p b no_processor there) in
      let issued = ap (λ xs. length xs) (get_or_from_slice_get (map (λ (x : ProcessorRecord). x.issued) records) p b.issued []
      (slice_get-map (λ (x : ProcessorRecord). x.issued) records p ∙ ap (option_map (λ (x : ProcessorRecord). x.issued)) there)) in
      let count = shows.are.count in
      let within = left_within lines shows.past _ (followable l is.after.accepted p lines script.1).0 shows.shows in
      let same = ap operation_count (get_or_from_slice_get l.scripts p lines [] script.1) in
      let e = own_is in
      record {
        last = λ tells.
            let some = may.last tells in
            let left = some_of lines shows.past _ shows.shows (omega (arith, some, same)) in
            omega (arith, left, following, issued, count);
        room = omega (arith, most_is, within, following, issued, count, same, e);
      }
