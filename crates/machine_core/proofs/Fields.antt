-- A machine's fields, and the machine that they make.
use Rattle.std.proofs.Common.{◌≡◌, ℕ, zero, suc, ◌<◌, List, [], ◌∷◌, ◌++◌, map, Option, Some, None, refl, sym, ◌∙◌, ap, subst, arith}
use Rattle.std.proofs.Common.{slice_get, slice_set, slice_index_or, vec_len}
use Rattle.std.specs.Prelude.{Vec, MatchOption, option_and_then}
use Rattle.std.specs.Option.{option_map}
use Rattle.std.proofs.lemmas.Option.{same_Some}
use Rattle.torus.specs.declared.step.Step.{Step}
use Rattle.torus.specs.declared.step.Stepped.{Stepped}
use Rattle.torus.specs.declared.step.Stepped.TheVariants.{Idle}
use Rattle.one_order.specs.ProcessorRecord.{ProcessorRecord}
use Rattle.machine_parts.specs.EventBook.{EventBook}
use Rattle.flit_buffer.specs.Surroundings.{Surroundings}
use Rattle.flit_buffer.specs.declared.word_op.WordOp.{WordOp}
use Rattle.order_book.specs.RoomyBook.{RoomyBook}
use Rattle.tile.specs.Tile.{Design, TileState}
use Rattle.tile.specs.Agents.{TilePlace, state_of, tile_placed}
use Rattle.machine_parts.specs.Placed.{PlacedTile, with_place}
use Rattle.machine_parts.specs.Core.{Load, State, step}
use Rattle.machine_parts.specs.Seen.{IsShown}
use Rattle.machine_parts.specs.Machine.{Core, IsAfter, Steps, built_to, machine_told, event_in, core_with}
use Rattle.machine_parts.proofs.Machines.{after_step}
use Rattle.machine_parts.specs.Notes.{book_noted}
use Rattle.machine_core.proofs.NotedBooks.{seen_at}
use Rattle.machine_core.specs.declared.noting.Counts.{Counts}
use Rattle.machine_core.specs.declared.machine.Machine.TheInside.{Inside}
use Rattle.machine_core.specs.Noted.{records_in}
use Rattle.machine_core.specs.Inside.{core_of, IsMachine}
use Rattle.machine_parts.specs.Awake.{Awake}
use Rattle.machine_parts.specs.Ports.{AwakePorts}

-- a step from where some steps led leads on
pub follows : (old new : Core) (stepped : Stepped) (attempt : Step) → Steps old new stepped attempt
    → (l : Load) (steps : List Step) → IsAfter l old steps → IsAfter l new (steps ++ attempt ∷ [])
follows old new stepped attempt h l steps is =
    subst (λ (x : Core). IsAfter l x (steps ++ attempt ∷ [])) (sym h.change) (after_step l old steps attempt is)

-- an attempt that isn't enabled changes nothing
pub stays : (c : Core) (attempt : Step) → step (built_to c) c.state attempt ≡ None → Steps c c Idle attempt
stays c attempt none = record {
  result = sym (ap machine_told none);
  change = sym (ap (core_with c (event_in (built_to c) c.state attempt)) none);
}

-- an element that is written over itself
pub set_there : {A : Type 0} (xs : List A) (k : ℕ) (x : A) → slice_get xs k ≡ Some x → slice_set xs k x ≡ xs
set_there [] k x h = refl
set_there (y ∷ xs) zero x h = ap (λ z. z ∷ xs) (same_Some _ _ (sym h))
set_there (y ∷ xs) (suc k) x h = ap (λ zs. y ∷ zs) (set_there xs k x h)

-- the tile of a state that stands in a place
tile_of_place : (d : Design) (t : ℕ) (around : Surroundings) (o : Option TileState) (p : TilePlace)
    → option_map (λ tile. tile_placed d t tile around) o ≡ Some p → o ≡ Some (state_of p)
tile_of_place d t around None p h = absurd (cc)
tile_of_place d t around (Some tile) p h = ap (λ (q : TilePlace). Some (state_of q)) (same_Some _ _ h)

pub state_at : (d : Design) (s : State) (places : List TilePlace) (row : List ℕ) → IsShown d s places row
    → (t : ℕ) (p : TilePlace) → slice_get places t ≡ Some p → slice_get s.tiles t ≡ Some (state_of p)
state_at d s places row shown t p there = tile_of_place d t s.around (slice_get s.tiles t) p (sym (shown.tiles t) ∙ there)

-- the processors' records of a state that tiles show
pub records_shown : (tiles : List PlacedTile) → records_in tiles ≡ map (λ t. t.processor.operations) (map state_of (map (λ v. v.place) tiles))
records_shown [] = refl
records_shown (v ∷ tiles) = ap (λ (bs : List ProcessorRecord). v.place.processor.state.operations ∷ bs) (records_shown tiles)

-- a tile that has moved, and one that has not
pub moved_tile : (o : Option TilePlace) (by : WordOp) (asks : Option WordOp) (old new : PlacedTile)
    → MatchOption o ((Some by ≡ None) × (new ≡ old)) (λ p. (Some by ≡ asks) × (new ≡ with_place old p))
    → (q : TilePlace) × (o ≡ Some q) × (new ≡ with_place old q) × (asks ≡ Some by)
moved_tile None by asks old new h = let clash : ◌≡◌ {A = Option WordOp} (Some by) None = h.0 in absurd (cc)
moved_tile (Some q) by asks old new h = (q, refl, h.1, sym h.0)

idle_place : (o : Option TilePlace) (by : WordOp) (old new : PlacedTile)
    → MatchOption o (◌≡◌ {A = Option WordOp} None None × (new ≡ old)) (λ p. ◌≡◌ {A = Option WordOp} None (Some by) × (new ≡ with_place old p))
    → (o ≡ None) × (new ≡ old)
idle_place None by old new h = (refl, h.1)
idle_place (Some q) by old new h = let clash : ◌≡◌ {A = Option WordOp} None (Some by) = h.0 in absurd (cc)

pub idle_tile : (f : WordOp → Option TilePlace) (asks : Option WordOp) (old new : PlacedTile)
    → MatchOption (option_and_then f asks) (◌≡◌ {A = Option WordOp} None None × (new ≡ old)) (λ p. (None ≡ asks) × (new ≡ with_place old p))
    → (option_and_then f asks ≡ None) × (new ≡ old)
idle_tile f None old new h = (refl, h.1)
idle_tile f (Some by) old new h = idle_place (f by) by old new h

-- an element of a vector
pub vec_at : {A B : Type 0} (v : Vec A B) (k : ℕ) (x : A) → k < vec_len v → x ≡ slice_index_or v.items k x → slice_get v.items k ≡ Some x
vec_at v k x h e = seen_at v.items k x (let n = v.ok.0 in omega arith) e

-- what is noted, said of equal tiles and counts
pub noted_same : (xs ys : List PlacedTile) (b c : Counts) (t : ℕ) (g h : EventBook) → xs ≡ ys → b ≡ c
    → ((x : PlacedTile) → slice_get xs t ≡ Some x → g ≡ book_noted t (records_in xs) b.issued b.answers b.entries (state_of x.place) h)
    → (x : PlacedTile) → slice_get ys t ≡ Some x → g ≡ book_noted t (records_in ys) c.issued c.answers c.entries (state_of x.place) h
noted_same xs ys b c t g h e f k =
    subst (λ (zs : List PlacedTile). (x : PlacedTile) → slice_get zs t ≡ Some x
    → g ≡ book_noted t (records_in zs) c.issued c.answers c.entries (state_of x.place) h) e
    (subst (λ (d : Counts). (x : PlacedTile) → slice_get xs t ≡ Some x → g ≡ book_noted t (records_in xs) d.issued d.answers d.entries (state_of x.place) h) f
    k)

-- a machine's fields with other tiles, another row, another book and others awake, and with so many moves left
abbrev pub with_parts : {A : Type 0} → Inside A → Vec PlacedTile A → Vec ℕ A → RoomyBook → Awake → AwakePorts → ℕ → Inside A
with_parts a tiles row book awake ports left = record {
  torus = a.torus;
  depth = a.depth;
  tags = a.tags;
  opening = a.opening;
  tiles = tiles;
  row = row;
  book = book;
  allowed = a.allowed;
  left = left;
  awake = awake;
  ports = ports;
}

-- what they make, by the lists alone
abbrev pub core_by : {A : Type 0} → Inside A → State → EventBook → ℕ → Core
core_by a s g left = record {
  shape = a.torus;
  depth = a.depth;
  tags = a.tags;
  opening = a.opening.items;
  allowed = a.allowed.items;
  state = s;
  book = g;
  moves_left = left;
}

-- the fields of a machine, with what they make of it
pub record Led {A : Type 0} (old new : Inside A) (stepped : Stepped) (attempt : Step) : Type 0 where
  pub machine : IsMachine new
  pub steps : Steps (core_of old) (core_of new) stepped attempt
