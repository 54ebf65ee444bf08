-- What a seat's slots show of the run that it knows, and what a seat that has every tile leaves at the end.
use Rattle.std.proofs.Common.{◌≡◌, ◌↔◌, ℕ, zero, suc, ◌<◌, ◌≤◌, Bool, true, true≢false, List, [], ◌∷◌, length, Option, Some, None, refl, sym, ap, ◌∙◌, subst}
use Rattle.std.proofs.Common.{arith, get_or, vec_len}
use Rattle.std.specs.Prelude.{Vec, slice_get, is_some, option_map, ◌&&◌}
use Rattle.std.specs.List.{list_all}
use Rattle.std.proofs.lemmas.List.Folds.{list_all-map}
use Rattle.std.proofs.lemmas.Option.{same_Some, slice_get-map, slice_get_past, slice_get_within, slice_get-get_or}
use Rattle.atomic_table.specs.declared.shared.Seat.{Seat}
use Rattle.torus.specs.Shape.{tiles_of}
use Rattle.torus.specs.declared.step.Step.{Step}
use Rattle.one_order.specs.Following.{is_finished}
use Rattle.one_order.specs.ProcessorRecord.{ProcessorRecord}
use Rattle.tile.specs.Tile.{TileState}
use Rattle.tile.specs.Agents.{TilePlace, tile_placed}
use Rattle.fabric_rule.specs.Placed.{PlacedTile}
use Rattle.fabric_rule.specs.Core.{Load, design_of, after, records_of}
use Rattle.fabric_rule.specs.Runs.{IsAcceptedLoad}
use Rattle.fabric_rule.proofs.RowOfRuns.{tiles_there, all_steps}
use Rattle.fabric_rule.specs.Machine.{all_finished}
use Rattle.fabric_rule.specs.Known.{known}
use Rattle.fabric_rule.specs.View.{View}
use Rattle.fabric_rule.specs.Groups.{Owns}
use Rattle.fabric.specs.Seats.{Knowing, seat_knows, Seated, IsWhole}
use Rattle.fabric.specs.Ending.{shown_after, HasAll, slot_finished}

abbrev S : Type 0
S = Seat (Unit {0}) View

-- the element of a vector at an index
pub slot_at : {A B : Type 0} (v : Vec A B) (k : ℕ) (x y : A) → k < vec_len v → x ≡ get_or v.items k x → x ≡ y → slice_get v.items k ≡ Some y
slot_at v k x y lt e f = slice_get-get_or v.items k x (let n = v.ok.0 in omega (arith, n, lt)) ∙ ap Some (sym e ∙ f)

-- which tile of the state a known tile is
record IsOfState (load : Load) (run : List Step) (t : ℕ) (p : TilePlace) : Type 0 where
  tile : TileState
  there : slice_get (after load run).tiles t ≡ Some tile
  placed : p ≡ tile_placed (design_of load) t tile (after load run).around

of_state : (load : Load) (run : List Step) (t : ℕ) (p : TilePlace) → known load run t ≡ Some p → IsOfState load run t p
unfolding known
of_state load run t p e = by_tile (slice_get (after load run).tiles t) refl e
  where
    by_tile : (o : Option TileState) → slice_get (after load run).tiles t ≡ o
        → option_map (λ (s : TileState). tile_placed (design_of load) t s (after load run).around) o ≡ Some p → IsOfState load run t p
    by_tile None is e = absurd (cc)
    by_tile (Some s) is e = record { tile = s; there = is; placed = sym (same_Some _ _ e) }

record_at : (load : Load) (run : List Step) (t : ℕ) (o : Option TileState) → slice_get (after load run).tiles t ≡ o
    → slice_get (records_of (after load run)) t ≡ option_map (λ (s : TileState). s.processor.operations) o
record_at load run t o e =
    slice_get-map (λ (s : TileState). s.processor.operations) (after load run).tiles t ∙ ap (option_map (λ (s : TileState). s.processor.operations)) e

-- the answers and the entries that are shown of a known tile
pub answers_known : (load : Load) (run : List Step) (t : ℕ) (p : TilePlace) → known load run t ≡ Some p
    → slice_get (shown_after load run).answers t ≡ Some p.processor.state.operations.answers
answers_known load run t p e =
    let k = of_state load run t p e in
    slice_get-map (λ (b : ProcessorRecord). b.answers) (records_of (after load run)) t
    ∙ (ap (option_map (λ (b : ProcessorRecord). b.answers)) (record_at load run t (Some k.tile) k.there)
    ∙ ap (λ (q : TilePlace). Some q.processor.state.operations.answers) (sym k.placed))

pub entries_known : (load : Load) (run : List Step) (t : ℕ) (p : TilePlace) → known load run t ≡ Some p
    → slice_get (shown_after load run).entries t ≡ Some p.bank.state.entries
entries_known load run t p e =
    let k = of_state load run t p e in
    slice_get-map (λ (s : TileState). s.bank.entries) (after load run).tiles t
    ∙ (ap (option_map (λ (s : TileState). s.bank.entries)) k.there ∙ ap (λ (q : TilePlace). Some q.bank.state.entries) (sym k.placed))

tile_count : (load : Load) (run : List Step) → IsAcceptedLoad load → length (after load run).tiles ≡ tiles_of load.shape
tile_count load run ok = subst (λ s. length s.tiles ≡ tiles_of load.shape) (all_steps load run) (tiles_there load ok run (length run))

-- and of no tile
pub no_answers : (load : Load) (run : List Step) (t : ℕ) → IsAcceptedLoad load → tiles_of load.shape ≤ t → slice_get (shown_after load run).answers t ≡ None
no_answers load run t ok past =
    let n = tile_count load run ok in
    slice_get-map (λ (b : ProcessorRecord). b.answers) (records_of (after load run)) t
    ∙ ap (option_map (λ (b : ProcessorRecord). b.answers)) (record_at load run t None (slice_get_past (after load run).tiles t (omega (arith, n, past))))

pub no_entries : (load : Load) (run : List Step) (t : ℕ) → IsAcceptedLoad load → tiles_of load.shape ≤ t → slice_get (shown_after load run).entries t ≡ None
no_entries load run t ok past =
    let n = tile_count load run ok in
    slice_get-map (λ (s : TileState). s.bank.entries) (after load run).tiles t
    ∙ ap (option_map (λ (s : TileState). s.bank.entries)) (slice_get_past (after load run).tiles t (omega (arith, n, past)))

-- each slot has a tile
all_some : (slots : List (Option PlacedTile)) → list_all is_some slots ≡ true → (k : ℕ) → k < length slots
    → (x : PlacedTile) × (slice_get slots k ≡ Some (Some x))
all_some [] e k lt = absurd (omega (arith, lt))
all_some (None ∷ slots) e k lt = absurd (true≢false (sym e))
all_some (Some x ∷ slots) e zero lt = (x, refl)
all_some (Some x ∷ slots) e (suc k) lt = all_some slots e k (omega (arith, lt))

some_all : (slots : List (Option PlacedTile)) → ((k : ℕ) → k < length slots → (x : PlacedTile) × (slice_get slots k ≡ Some (Some x)))
    → list_all is_some slots ≡ true
some_all [] all = refl
some_all (None ∷ slots) all = absurd (empty (all 0 (omega arith)).1)
  where
    empty : {x : PlacedTile} → Some None ≡ Some (Some x) → ⊥
    empty e = cc
some_all (Some x ∷ slots) all = some_all slots (λ k lt. all (suc k) (omega (arith, lt)))

module _ (slots : List (Option PlacedTile)) (s : S) (v : Knowing) (is : seat_knows s ≡ v) (seated : Seated slots s) where
  -- of a seat that has every tile each slot has its tile
  pub closed_tiles : IsWhole v → HasAll slots v.load v.run
  closed_tiles whole =
      let P : Knowing → Type 0 = λ u. IsWhole u → HasAll slots u.load u.run in
      subst P is (λ w. record { room = seated.tied.room; each = λ t lt. let y = seated.tied.all t (w t lt) in (y.0, y.1, (seated.tied.own t y.0 y.1).1) }) whole

  -- a seat is whole exactly where each slot has a tile
  pub whole_told : (b : Bool) → b ≡ list_all is_some slots → (b ≡ true) ↔ IsWhole v
  whole_told b e = subst (λ (u : Knowing). (b ≡ true) ↔ IsWhole u) is (
    (λ t u lt. let p = all_some slots (sym e ∙ t) u (subst (λ (n : ℕ). u < n) (sym seated.tied.room) lt) in (seated.tied.own u p.0 p.1).0),
    (λ w. e ∙ some_all slots (λ k lt. seated.tied.all k (w k (subst (λ (n : ℕ). k < n) seated.tied.room lt)))),
  )

  -- a tile in a slot is the seat's, and shows the processor's answers
  pub slot_owned : (t : ℕ) (x : PlacedTile) → slice_get slots t ≡ Some (Some x) → Owns v.tiles t
  slot_owned t x e = subst (λ (u : Knowing). Owns u.tiles t) is (seated.tied.own t x e).0

  pub slot_answers : (t : ℕ) (x : PlacedTile) → slice_get slots t ≡ Some (Some x)
      → slice_get (shown_after v.load v.run).answers t ≡ Some x.place.processor.state.operations.answers
  slot_answers t x e = subst (λ (u : Knowing). slice_get (shown_after u.load u.run).answers t ≡ Some x.place.processor.state.operations.answers) is
      (answers_known s.me.0.load s.me.0.run t x.place (seated.tied.own t x e).1.place)

  owned_slot : (t : ℕ) → Owns v.tiles t → (x : PlacedTile) × (slice_get slots t ≡ Some (Some x))
  owned_slot t o = subst (λ (u : Knowing). Owns u.tiles t → (x : PlacedTile) × (slice_get slots t ≡ Some (Some x))) is (λ p. seated.tied.all t p) o

  pub unowned : (t : ℕ) → ((x : PlacedTile) → slice_get slots t ≡ Some (Some x) → ⊥) → Owns v.tiles t → ⊥
  unowned t none o = let p = owned_slot t o in none p.0 p.1

-- whether all scripts are finished, told by the slots
pub finished_slots : (slots : List (Option PlacedTile)) (load : Load) (run : List Step) → IsAcceptedLoad load → HasAll slots load run
    → all_finished (after load run) ≡ list_all slot_finished slots
finished_slots slots load run ok all =
    list_all-map (λ (b : ProcessorRecord). is_finished b.following) (λ (s : TileState). s.processor.operations) (after load run).tiles
    ∙ same_all (after load run).tiles slots (let n = tile_count load run ok in let m = all.room in omega (arith, n, m)) (λ t tile at.
    let x = all.each t (let n = tile_count load run ok in let lt = slice_get_within (after load run).tiles t tile at in omega (arith, n, lt)) in
    let k = of_state load run t x.0.place x.2.place in (
      x.0,
      x.1,
      ap (λ (q : TilePlace). q.processor.state.operations.following) k.placed
          ∙ ap (λ (s : TileState). s.processor.operations.following) (same_Some _ _ (sym k.there ∙ at)),
    ))
  where
    same_all : (tiles : List TileState) (slots : List (Option PlacedTile)) → length tiles ≡ length slots
        → ((t : ℕ) (tile : TileState) → slice_get tiles t ≡ Some tile
        → (x : PlacedTile) × (slice_get slots t ≡ Some (Some x)) × (x.place.processor.state.operations.following ≡ tile.processor.operations.following))
        → list_all (λ (s : TileState). is_finished s.processor.operations.following) tiles ≡ list_all slot_finished slots
    same_all [] [] n each = refl
    same_all [] (o ∷ slots) n each = absurd (omega (arith, n))
    same_all (tile ∷ tiles) [] n each = absurd (omega (arith, n))
    same_all (tile ∷ tiles) (None ∷ slots) n each = absurd (empty (each 0 tile refl).1)
      where
        empty : {x : PlacedTile} → Some None ≡ Some (Some x) → ⊥
        empty e = cc
    same_all (tile ∷ tiles) (Some y ∷ slots) n each =
        let x = each 0 tile refl in
        let e = same_Some _ _ (same_Some _ _ x.1) in
        (λ i. is_finished ((sym x.2 ∙ ap (λ (z : PlacedTile). z.place.processor.state.operations.following) (sym e)) i) && same_all tiles slots
        (omega (arith, n)) (λ t s at. each (suc t) s at) i)
