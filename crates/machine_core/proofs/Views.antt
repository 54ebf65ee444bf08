-- What a machine's fields show: of its tiles, and of its row.
use Rattle.std.proofs.Common.{◌≡◌, ℕ, ◌+◌, ◌*◌, ◌<◌, ◌≤◌, List, length, map, take, drop, get_or, get_or-take, Option, Some, None, refl, sym, ◌∙◌, ap, subst}
use Rattle.std.proofs.Common.{arith, slice_get, vec_len, length-take, length-drop}
use Rattle.std.specs.Prelude.{Vec, option_map}
use Rattle.std.proofs.lemmas.List.{get_or-drop}
use Rattle.std.specs.List.{list_all}
use Rattle.std.proofs.lemmas.List.Folds.{list_all-map}
use Rattle.std.proofs.lemmas.Option.{slice_get-map, slice_get-get_or, slice_get_past}
use Rattle.channel_number.specs.Order.{channel_count}
use Rattle.one_order.specs.Following.{is_finished}
use Rattle.one_order.specs.ProcessorRecord.{ProcessorRecord}
use Rattle.tile.specs.Tile.{TileState}
use Rattle.tile.specs.Agents.{TilePlace, state_of}
use Rattle.machine_parts.specs.Placed.{PlacedTile}
use Rattle.machine_parts.specs.Core.{Load, State, design_of, records_of}
use Rattle.machine_parts.specs.Row.{row_of}
use Rattle.machine_parts.proofs.RowOfRuns.{all_steps, size}
use Rattle.machine_parts.specs.Machine.{shown, all_finished}
use Rattle.machine_core.specs.declared.machine.Machine.TheInside.{Inside}
use Rattle.machine_core.specs.Inside.{core_of, places_in, IsMachine}

-- what is told of a tile, where it is told of its state, and its state of its place
told_at : {X : Type 0} {A : Type 0} (f : TileState → X) (a : Inside A) (t : ℕ) (o : Option PlacedTile) → slice_get a.tiles.items t ≡ o
    → slice_get (map f (core_of a).state.tiles) t ≡ option_map (λ (v : PlacedTile). f (state_of v.place)) o
told_at f a t o h =
    slice_get-map f (core_of a).state.tiles t
    ∙ (ap (option_map f) (slice_get-map state_of (places_in a) t)
    ∙ (ap (λ (p : Option TilePlace). option_map f (option_map state_of p))
    (slice_get-map (λ (v : PlacedTile). v.place) a.tiles.items t ∙ ap (option_map (λ (v : PlacedTile). v.place)) h)
    ∙ maps o))
  where
    maps : (o : Option PlacedTile)
        → option_map f (option_map state_of (option_map (λ (v : PlacedTile). v.place) o)) ≡ option_map (λ (v : PlacedTile). f (state_of v.place)) o
    maps None = refl
    maps (Some v) = refl

-- the answers that a machine shows of a processor
pub answers_there : {A : Type 0} (a : Inside A) (t : ℕ) (o : Option PlacedTile) → slice_get a.tiles.items t ≡ o
    → slice_get (shown (core_of a)).answers t ≡ option_map (λ (v : PlacedTile). v.place.processor.state.operations.answers) o
answers_there a t o h =
    slice_get-map (λ (b : ProcessorRecord). b.answers) (records_of (core_of a).state) t
    ∙ (ap (option_map (λ (b : ProcessorRecord). b.answers)) (told_at (λ (s : TileState). s.processor.operations) a t o h) ∙ maps o)
  where
    maps : (o : Option PlacedTile) → option_map (λ (b : ProcessorRecord). b.answers) (option_map (λ (v : PlacedTile). v.place.processor.state.operations) o)
        ≡ option_map (λ (v : PlacedTile). v.place.processor.state.operations.answers) o
    maps None = refl
    maps (Some v) = refl

-- the operations that it shows of one
pub issued_there : {A : Type 0} (a : Inside A) (t : ℕ) (o : Option PlacedTile) → slice_get a.tiles.items t ≡ o
    → slice_get (shown (core_of a)).issued t ≡ option_map (λ (v : PlacedTile). v.place.processor.state.operations.issued) o
issued_there a t o h =
    slice_get-map (λ (b : ProcessorRecord). b.issued) (records_of (core_of a).state) t
    ∙ (ap (option_map (λ (b : ProcessorRecord). b.issued)) (told_at (λ (s : TileState). s.processor.operations) a t o h) ∙ maps o)
  where
    maps : (o : Option PlacedTile) → option_map (λ (b : ProcessorRecord). b.issued) (option_map (λ (v : PlacedTile). v.place.processor.state.operations) o)
        ≡ option_map (λ (v : PlacedTile). v.place.processor.state.operations.issued) o
    maps None = refl
    maps (Some v) = refl

-- and the entries of a bank
pub entries_there : {A : Type 0} (a : Inside A) (t : ℕ) (o : Option PlacedTile) → slice_get a.tiles.items t ≡ o
    → slice_get (shown (core_of a)).entries t ≡ option_map (λ (v : PlacedTile). v.place.bank.state.entries) o
entries_there a t o h = told_at (λ (s : TileState). s.bank.entries) a t o h

-- what stands past the end of a vector
pub vec_past : {A B : Type 0} (v : Vec A B) (k : ℕ) → vec_len v ≤ k → slice_get v.items k ≡ None
vec_past v k h = slice_get_past v.items k (let n = v.ok.0 in omega arith)

-- the row's length
pub row_length : {A : Type 0} (a : Inside A) → IsMachine a → length a.row.items ≡ channel_count a.torus * a.depth + length a.opening.items + 1
row_length a is =
    let l : Load = is.load in
    let e : length a.row.items ≡ channel_count l.shape * l.depth + length l.opening + 1
    = ap length is.seen.row_is
    ∙ (ap (λ (s : State). length (row_of (design_of l) s)) (sym (all_steps l is.steps)) ∙ size l is.after.accepted is.steps (length is.steps)) in
    e ∙ (ap (λ s. channel_count s * l.depth + length l.opening + 1) (sym is.after.shape)
    ∙ (ap (λ (n : ℕ). channel_count a.torus * n + length l.opening + 1) (sym is.after.depth)
    ∙ ap (λ (xs : List ℕ). channel_count a.torus * a.depth + length xs + 1) (sym is.after.opening)))

-- so many words behind so many others
word_behind : (row : List ℕ) (base words k : ℕ) → k < words → base + words ≤ length row
    → slice_get (take words (drop base row)) k ≡ Some (get_or row (base + k) 0)
word_behind row base words k h long =
    let d = length-drop base row in
    let t = length-take words (drop base row) in
    slice_get-get_or (take words (drop base row)) k 0 (omega (arith, d, t))
    ∙ ap Some (get_or-take words (drop base row) k 0 h ∙ get_or-drop base row k 0)

-- the word of an address
pub word_there : {A : Type 0} (a : Inside A) → IsMachine a → (k : ℕ) → k < length a.opening.items
    → slice_get (shown (core_of a)).memory k ≡ Some (get_or a.row.items (channel_count a.torus * a.depth + k) 0)
word_there a is k h =
    word_behind a.row.items (channel_count a.torus * a.depth) (length a.opening.items) k h (let n = row_length a is in omega (arith, n))

-- and of no address
pub no_word_there : {A : Type 0} (a : Inside A) (k : ℕ) → length a.opening.items ≤ k → slice_get (shown (core_of a)).memory k ≡ None
no_word_there a k h = slice_get_past (shown (core_of a)).memory k
    (let n = length-take (length a.opening.items) (core_of a).state.around.words in omega (arith, n))

-- the words are few
pub few_words : {A : Type 0} (a : Inside A) → IsMachine a → length a.opening.items ≤ 65536
few_words a is = subst (λ (xs : List ℕ). length xs ≤ 65536) (sym is.after.opening) is.after.accepted.size.1

-- whether all scripts are finished, told of the tiles
pub finished_tiles : {A : Type 0} (a : Inside A)
    → all_finished (core_of a).state ≡ list_all (λ (v : PlacedTile). is_finished v.place.processor.state.operations.following) a.tiles.items
finished_tiles a =
    list_all-map (λ (b : ProcessorRecord). is_finished b.following) (λ (s : TileState). s.processor.operations) (core_of a).state.tiles
    ∙ (list_all-map (λ (s : TileState). is_finished s.processor.operations.following) state_of (places_in a)
    ∙ list_all-map (λ (p : TilePlace). is_finished p.processor.state.operations.following) (λ (v : PlacedTile). v.place) a.tiles.items)
