-- The fields that `load` makes are those of a machine that has made no step.
use Rattle.std.proofs.Common.{◌≡◌, ℕ, zero, suc, ◌-◌, ◌*◌, ◌<◌, ◌≤◌, List, [], ◌∷◌, ◌++◌, length, map, replicate, Option, Some, None, refl, sym, ◌∙◌, ap, subst}
use Rattle.std.proofs.Common.{arith, slice_get, take, get_or, get_or-take}
use Rattle.std.specs.Prelude.{option_map}
use Rattle.std.proofs.lemmas.Option.{slice_get-map, slice_get_within, slice_get-get_or, get_or_from_slice_get}
use Rattle.std.proofs.lemmas.List.{length-take}
use Rattle.order_book.proofs.Counts.{home_within}
use Rattle.order_book.specs.RoomyBook.{RoomyBook}
use Rattle.torus.specs.Shape.{Shape, tiles_of, dims_of}
use Rattle.script_lines.specs.Machine.{MachineSpec, IsAcceptedMachine}
use Rattle.script_lines.specs.Lines.{ScriptsSpec, AreAcceptedScripts, Fit, operation_count, script_of, total_count}
use Rattle.script_lines.specs.declared.line.Line.{Line}
use Rattle.channel_number.specs.Order.{channel_count}
use Rattle.machine_parts.specs.Load.{load_of}
use Rattle.machine_parts.specs.Room.{home_room}
use Rattle.machine_parts.specs.EventBook.{EventBook, first_book}
use Rattle.machine_parts.proofs.LoadingAccepted.{accepted_load}
use Rattle.tile.specs.Tile.{TileState}
use Rattle.tile.specs.Agents.{tile_placed}
use Rattle.machine_parts.specs.Placed.{PlacedTile, first_tile}
use Rattle.machine_parts.specs.Core.{Load, design_of, first_state, first_tile as first_tile_state}
use Rattle.machine_parts.specs.Runs.{IsAcceptedLoad}
use Rattle.machine_parts.specs.Attempts.{tile_in}
use Rattle.machine_parts.proofs.First.{first_row, first_tiles as first_places}
use Rattle.machine_parts.specs.ProgressMoves.{most_moves}
use Rattle.machine_parts.specs.Machine.{IsAfter, IsLawful}
use Rattle.machine_parts.proofs.Lawful.{lawful}
use Rattle.machine_parts.specs.Seen.{IsShown}
use Rattle.machine_parts.proofs.ReachedRows.{seen_state}
use Rattle.machine_parts.specs.Awake.{Awake, is_choice_awake}
use Rattle.machine_parts.specs.Ports.{flags_of, fresh_ports}
use Rattle.machine_parts.specs.Routers.{PortFlags, OtherPortsSleep}
use Rattle.machine_parts.specs.ChoicesAsleep.{OtherChoicesSleep}
use Rattle.machine_parts.proofs.KeptSleepers.{fresh}
use Rattle.machine_core.specs.declared.machine.Machine.TheInside.{Inside}
use Rattle.machine_core.specs.Inside.{design_in, places_in, core_of, HaveRoom, HasRoomForScripts, IsMachine}
use Rattle.machine_core.specs.Loaded.{first_tiles}
use Rattle.machine_core.proofs.BeginsTiles.{at}
use Rattle.machine_core.proofs.RouterFlags.{fresh_sleep}

-- the load of which these are the fields
abbrev pub load_in : {A : Type 0} → Inside A → List (List Line) → Load
load_in a scripts = record { shape = a.torus; depth = a.depth; tags = a.tags; opening = a.opening.items; scripts = scripts }

-- the fields are made from a load of these scripts: the tiles, the row and the book are those before any step, each bank has
-- the room that the scripts can ask of it, and the book the room for all that they can ask; all moves are left, all
-- choices count as awake, and no latch as full
pub record Begun {A : Type 0} (a : Inside A) (scripts : List (List Line)) : Type 0 where
  pub rooms : ℕ → ℕ
  pub tiles : a.tiles.items ≡ first_tiles (design_in a) a.tags rooms scripts
  pub homes : (b : ℕ) → b < tiles_of a.torus → rooms b ≡ home_room (tiles_of a.torus) b scripts
  pub row : a.row.items ≡ replicate (channel_count a.torus * a.depth) 0 ++ (a.opening.items ++ 0 ∷ [])
  pub book : a.book.book ≡ first_book (tiles_of a.torus)
  pub room : HasRoomForScripts (load_in a scripts) a.book
  pub allowed : a.allowed.items ≡ map operation_count scripts
  pub left : a.left ≡ most_moves (load_in a scripts)
  pub awake : a.awake ≡ record { design = design_in a; flags = replicate 192 255 }
  pub routed : a.ports.design ≡ design_in a
  pub ports : flags_of a.ports ≡ fresh_ports

module _ (l : Load) (ok : IsAcceptedLoad l) (rooms : ℕ → ℕ) where
  abbrev first_at : ℕ → List Line → PlacedTile
  first_at t lines = first_tile (design_of l) t l.tags lines (rooms t)

  -- each tile in its place, as the state before any step has it
  place_of : (t : ℕ) (o : Option (List Line)) → slice_get l.scripts t ≡ o
      → option_map (λ v. v.place) (option_map (first_at t) o) ≡ tile_in (design_of l) (first_state l) t
  place_of t (Some lines) e = sym (first_places l ok t lines e)
  place_of t None e =
      sym (ap (option_map (λ (tile : TileState). tile_placed (design_of l) t tile (first_state l).around))
      (slice_get-map (first_tile_state (dims_of l.shape) l.tags) l.scripts t ∙ ap (option_map (first_tile_state (dims_of l.shape) l.tags)) e))

  pub first_place : (t : ℕ) → slice_get (map (λ v. v.place) (first_tiles (design_of l) l.tags rooms l.scripts)) t ≡ tile_in (design_of l) (first_state l) t
  first_place t =
      slice_get-map (λ v. v.place) (first_tiles (design_of l) l.tags rooms l.scripts) t
      ∙ (ap (option_map (λ v. v.place)) (at (design_of l) l.tags rooms t l.scripts) ∙ place_of t (slice_get l.scripts t) refl)

  -- and with its room
  room_of : (t : ℕ) (v : PlacedTile) (o : Option (List Line)) → slice_get l.scripts t ≡ o → option_map (first_at t) o ≡ Some v
      → (t < tiles_of l.shape) × (v.room ≡ rooms t)
  room_of t v None e h = absurd (cc)
  room_of t v (Some lines) e h =
      let same : first_at t lines ≡ v = cc in
      (subst (λ (k : ℕ). t < k) ok.processors (slice_get_within l.scripts t lines e), sym (ap (λ (x : PlacedTile). x.room) same))

  pub first_room : (t : ℕ) (v : PlacedTile) → slice_get (first_tiles (design_of l) l.tags rooms l.scripts) t ≡ Some v
      → (t < tiles_of l.shape) × (v.room ≡ rooms t)
  first_room t v h = room_of t v (slice_get l.scripts t) refl (sym (at (design_of l) l.tags rooms t l.scripts) ∙ h)

module _ {A : Type 0} (a : Inside A) (scripts : List (List Line)) (ok : IsAcceptedLoad (load_in a scripts)) (b : Begun a scripts) where
  shown : IsShown (design_in a) (first_state (load_in a scripts)) (places_in a) a.row.items
  shown = record {
    tiles = λ t. ap (λ (vs : List PlacedTile). slice_get (map (λ v. v.place) vs) t) b.tiles ∙ first_place (load_in a scripts) ok b.rooms t;
    row_is = b.row ∙ sym (first_row (load_in a scripts) ok);
  }

  pub is_after_none : IsAfter (load_in a scripts) (core_of a) []
  is_after_none = record {
    accepted = ok;
    shape = refl;
    depth = refl;
    tags = refl;
    opening = refl;
    allowed = b.allowed;
    state = seen_state (load_in a scripts) ok [] 0 (places_in a) a.row.items shown;
    book = b.book;
    moves = let none : most_moves (load_in a scripts) ≡ most_moves (load_in a scripts) - 0 = omega arith in b.left ∙ none;
    lawful = subst (λ (g : EventBook). IsLawful (load_in a scripts) [] g.rows) (sym b.book) (lawful (load_in a scripts) ok []);
  }

  have_room : HaveRoom (load_in a scripts) a.tiles.items
  have_room t v there =
      let is = first_room (load_in a scripts) ok b.rooms t v (ap (λ (vs : List PlacedTile). slice_get vs t) (sym b.tiles) ∙ there) in
      is.1 ∙ b.homes t is.0

  pub is_machine : IsMachine a
  is_machine = record {
    load = load_in a scripts;
    steps = [];
    after = is_after_none;
    seen = shown;
    banks = have_room;
    room = b.room;
    built = ap (λ (w : Awake). w.design) b.awake;
    sleepers = subst (λ (w : Awake). OtherChoicesSleep (design_in a) (first_state (load_in a scripts)) (is_choice_awake w)) (sym b.awake)
        (fresh (design_in a) (first_state (load_in a scripts)));
    routed = b.routed;
    ports = subst (λ (f : PortFlags). OtherPortsSleep (design_in a) (first_state (load_in a scripts)) f) (sym b.ports)
        (fresh_sleep (load_in a scripts));
  }

-- a part of a list is its first elements
part_at : (n : ℕ) (xs : List ℕ) (k x : ℕ) → slice_get (take n xs) k ≡ Some x → (k < n) × (get_or xs k 0 ≡ x)
part_at n xs k x there =
    let within = slice_get_within (take n xs) k x there in
    let size = length-take n xs in
    let low : k < n = omega arith in
    (low, sym (get_or-take n xs k 0 low) ∙ get_or_from_slice_get (take n xs) k x 0 there)

at_part : (n : ℕ) (xs : List ℕ) (k : ℕ) → k < n → n ≤ length xs → slice_get (take n xs) k ≡ Some (get_or xs k 0)
at_part n xs k low enough =
    let size = length-take n xs in
    slice_get-get_or (take n xs) k 0 (omega arith) ∙ ap (λ x. Some x) (get_or-take n xs k 0 low)

part_count : (n : ℕ) (xs : List ℕ) → n ≤ length xs → length (take n xs) ≡ n
part_count n xs enough = let size = length-take n xs in omega arith

-- what the scripts allow, said of the counts of all processors
pub allowed_as : (n : ℕ) (counts : List ℕ) (scripts : List (List Line)) → n ≡ length scripts → n ≤ length counts
    → ((p : ℕ) → get_or counts p 0 ≡ operation_count (script_of scripts p)) → take n counts ≡ map operation_count scripts
allowed_as zero counts [] same long each = refl
allowed_as zero counts (lines ∷ scripts) same long each = absurd (omega arith)
allowed_as (suc n) counts [] same long each = absurd (omega arith)
allowed_as (suc n) [] (lines ∷ scripts) same long each = absurd (omega arith)
allowed_as (suc n) (count ∷ counts) (lines ∷ scripts) same long each =
    ap (λ k. k ∷ take n counts) (each 0)
    ∙ ap (λ ks. operation_count lines ∷ ks) (allowed_as n counts scripts (omega arith) (omega arith) (λ p. each (suc p)))

-- tiles, row and book, said of what they were made from
pub tiles_as : (shape : Shape) (depth tags k words : ℕ) (rooms : ℕ → ℕ) (scripts : List (List Line)) (tiles : List PlacedTile) → k ≡ words
    → tiles ≡ first_tiles (record { shape = shape; depth = depth; words = k }) tags rooms scripts
    → tiles ≡ first_tiles (record { shape = shape; depth = depth; words = words }) tags rooms scripts
tiles_as shape depth tags k words rooms scripts tiles same is =
    is ∙ ap (λ (n : ℕ). first_tiles (record { shape = shape; depth = depth; words = n }) tags rooms scripts) same

pub row_as : (shape : Shape) (depth channels : ℕ) (opening words row : List ℕ) → channels ≡ channel_count shape → words ≡ opening
    → row ≡ replicate (channels * depth) 0 ++ (words ++ 0 ∷ []) → row ≡ replicate (channel_count shape * depth) 0 ++ (opening ++ 0 ∷ [])
row_as shape depth channels opening words row same same_words is =
    is ∙ (ap (λ (k : ℕ). replicate (k * depth) 0 ++ (words ++ 0 ∷ [])) same
    ∙ ap (λ (xs : List ℕ). replicate (channel_count shape * depth) 0 ++ (xs ++ 0 ∷ [])) same_words)

pub book_as : (tiles n : ℕ) (issues : List ℕ) (g : EventBook) → n ≡ tiles → n ≤ length issues → g ≡ first_book (length (take n issues)) → g ≡ first_book tiles
book_as tiles n issues g same there is = is ∙ ap first_book (part_count n issues there ∙ same)

-- the room of each bank, said of what it was counted from
pub homes_as : (tiles n : ℕ) (entries : List ℕ) (scripts lists : List (List Line)) → n ≡ tiles → lists ≡ scripts
    → ((b : ℕ) → b < n → get_or entries b 0 ≡ home_room n b lists) → (b : ℕ) → b < tiles → get_or entries b 0 ≡ home_room tiles b scripts
homes_as tiles n entries scripts lists same same_lists homes b low =
    subst (λ (xs : List (List Line)). get_or entries b 0 ≡ home_room tiles b xs) same_lists
    (subst (λ (k : ℕ). get_or entries b 0 ≡ home_room k b lists) same (homes b (subst (λ (k : ℕ). b < k) (sym same) low)))

-- and is at most that of all operations
pub home_small : (l : Load) → IsAcceptedLoad l → (entries : List ℕ)
    → ((b : ℕ) → b < tiles_of l.shape → get_or entries b 0 ≡ home_room (tiles_of l.shape) b l.scripts)
    → (b : ℕ) → b < tiles_of l.shape → get_or entries b 0 ≤ 65536
home_small l ok entries homes b low =
    let all = ok.scripts.total in
    omega (arith, homes b low, home_within (tiles_of l.shape) b l.scripts)

pub part_small : (n : ℕ) (entries : List ℕ) → ((b : ℕ) → b < n → get_or entries b 0 ≤ 65536) → (b room : ℕ) → slice_get (take n entries) b ≡ Some room
    → room ≤ 65536
part_small n entries small b room there = let is = part_at n entries b room there in omega (arith, is.1, small b is.0)

-- a book that was made with the rooms that the scripts can ask has room for them
pub has_room : (l : Load) → IsAcceptedLoad l → (n rows : ℕ) (issues entries : List ℕ) (g : RoomyBook) → n ≡ tiles_of l.shape → n ≤ length issues
    → n ≤ length entries
    → ((p : ℕ) → get_or issues p 0 ≡ operation_count (script_of l.scripts p))
    → ((b : ℕ) → b < tiles_of l.shape → get_or entries b 0 ≡ home_room (tiles_of l.shape) b l.scripts) → rows ≡ total_count l.scripts
    → ((p room : ℕ) → slice_get (take n issues) p ≡ Some room → room ≤ get_or g.issues p 0)
    → ((b room : ℕ) → slice_get (take n entries) b ≡ Some room → room ≤ get_or g.positions b 0) → rows ≤ g.rows
    → HasRoomForScripts l g
has_room l ok n rows issues entries g same enough_issues enough_entries issues_are homes all issues_kept entries_kept rows_kept = record {
  issues = λ p lines there.
      let processors = ok.processors in
      let low : p < n = omega (arith, slice_get_within l.scripts p lines there) in
      let count : operation_count (script_of l.scripts p) ≡ operation_count lines = ap operation_count (get_or_from_slice_get l.scripts p lines [] there) in
      omega (arith, issues_are p, issues_kept p (get_or issues p 0) (at_part n issues p low enough_issues));
  positions = λ b low.
      let below_n : b < n = omega arith in
      omega (arith, homes b low, entries_kept b (get_or entries b 0) (at_part n entries b below_n enough_entries));
  rows = omega (arith, all, rows_kept);
}

same_load : (m : MachineSpec) (s : ScriptsSpec) (shape : Shape) (depth tags : ℕ) (opening : List ℕ) (scripts : List (List Line)) → shape ≡ m.shape
    → depth ≡ m.depth → tags ≡ m.tags → opening ≡ m.opening → scripts ≡ s.lists
    → ◌≡◌ {A = Load} (record { shape = shape; depth = depth; tags = tags; opening = opening; scripts = scripts }) (load_of m s)
same_load m s shape depth tags opening scripts hs hd ht ho hl =
    ap (λ (x : Shape). record { shape = x; depth = depth; tags = tags; opening = opening; scripts = scripts }) hs
    ∙ (ap (λ (x : ℕ). record { shape = m.shape; depth = x; tags = tags; opening = opening; scripts = scripts }) hd
    ∙ (ap (λ (x : ℕ). record { shape = m.shape; depth = m.depth; tags = x; opening = opening; scripts = scripts }) ht
    ∙ (ap (λ (x : List ℕ). record { shape = m.shape; depth = m.depth; tags = m.tags; opening = x; scripts = scripts }) ho
    ∙ ap (λ (x : List (List Line)). record { shape = m.shape; depth = m.depth; tags = m.tags; opening = m.opening; scripts = x }) hl)))

-- what is loaded is accepted, said of its parts
pub accepted_as : (m : MachineSpec) (s : ScriptsSpec) (shape : Shape) (depth tags : ℕ) (opening : List ℕ) (scripts : List (List Line)) → IsAcceptedMachine m
    → AreAcceptedScripts s → Fit s m
    → shape ≡ m.shape → depth ≡ m.depth → tags ≡ m.tags → opening ≡ m.opening → scripts ≡ s.lists
    → IsAcceptedLoad (record { shape = shape; depth = depth; tags = tags; opening = opening; scripts = scripts })
accepted_as m s shape depth tags opening scripts machine script fit hs hd ht ho hl =
    subst IsAcceptedLoad (sym (same_load m s shape depth tags opening scripts hs hd ht ho hl)) (accepted_load m s machine script fit)
