-- Seats as they are made: each knows the empty run, and its tiles stand as after no step.
use Rattle.std.proofs.Common.{◌≡◌, ℕ, zero, suc, ◌-◌, ◌*◌, ◌+◌, ◌<◌, ◌≤◌, List, [], ◌∷◌, length, map, Option, Some, refl, sym, ap, ◌∙◌, subst, arith}
use Rattle.std.specs.Prelude.{slice_get, ◌^◌}
use Rattle.std.specs.Option.{option_map}
use Rattle.std.proofs.lemmas.List.{length-map}
use Rattle.std.proofs.lemmas.Option.{slice_get-map, same_Some}
use Rattle.atomic_table.specs.Seated.{TableId}
use Rattle.atomic_table.specs.Table.{opening}
use Rattle.atomic_table.specs.declared.shared.Seat.{Seat}
use Rattle.torus.specs.Shape.{tiles_of}
use Rattle.torus.specs.declared.step.Step.{Step}
use Rattle.channel_number.specs.Order.{channel_count}
use Rattle.fabric_rule.specs.Placed.{PlacedTile}
use Rattle.fabric_rule.specs.Core.{Load, design_of, after}
use Rattle.fabric_rule.specs.Runs.{IsAcceptedLoad}
use Rattle.fabric_rule.proofs.RowOfRuns.{at_most}
use Rattle.fabric_rule.specs.Machine.{Core, IsAfter}
use Rattle.fabric_rule.specs.Seen.{IsShown}
use Rattle.machine_core.specs.Inside.{HaveRoom}
use Rattle.fabric_rule.specs.Known.{ShowsBeginning, known, row_length}
use Rattle.fabric_rule.specs.View.{View}
use Rattle.fabric_rule.specs.Groups.{first_group, first_half, with_groups}
use Rattle.fabric_rule.proofs.Runs.{row_size}
use Rattle.fabric.specs.Key.{Opening, first_view, count_up, ranges, Rises}
use Rattle.fabric.specs.Table.{Holds}
use Rattle.fabric.specs.Seats.{seat_knows, StandsAt, Tied, Placed, Seated}
use Rattle.fabric.specs.Opening.{fresh, Rest, HasRest, IsFresh}
use Rattle.fabric.proofs.Sharing.{begins}
use Rattle.fabric.proofs.Ranges.{owns_count, count_owns, ranges_apart}

abbrev S : Type 0
S = Seat (Unit {0}) View

-- the tiles that were taken from all of them
pub tied_start : (load : Load) (all slots : List (Option PlacedTile)) (from to : ℕ) → from < to → to ≤ tiles_of load.shape → Rest load all from
    → length slots ≡ length all
    → ((t : ℕ) → from ≤ t → t < to → slice_get slots t ≡ slice_get all t)
    → ((t : ℕ) (x : PlacedTile) → slice_get slots t ≡ Some (Some x) → (from ≤ t) × (t < to)) → Tied slots load [] (count_up from (to - from))
tied_start load all slots from to lt le rest len inside outside = record {
  room = len ∙ rest.room;
  own = λ t x e. let w = outside t x e in let lo = w.0 in let hi = w.1 in
      let y = rest.here t lo (omega arith) in
      let same : y.0 ≡ x = same_Some _ _ (same_Some _ _ (sym y.1 ∙ sym (inside t lo hi) ∙ e)) in
      (count_owns from (to - from) t lo (omega arith), subst (λ (z : PlacedTile). StandsAt load [] t z) same y.2);
  all = λ t o. let w = owns_count from (to - from) t o in let lo = w.0 in let hi = w.1 in let y = rest.here t lo (omega arith) in
      (y.0, inside t lo (omega arith) ∙ y.1);
}

pub rest_later : (load : Load) (all now : List (Option PlacedTile)) (from to : ℕ) → from < to → length now ≡ length all
    → ((t : ℕ) → to ≤ t → slice_get now t ≡ slice_get all t) → Rest load all from → Rest load now to
rest_later load all now from to lt len same k = record {
  room = len ∙ k.room;
  here = λ t lo hi. let y = k.here t (omega arith) hi in (y.0, same t lo ∙ y.1, y.2);
}

-- one half of a seat that was cut
pub placed_half : (s z : S) (gs : List (List ℕ)) → z.table_id ≡ s.table_id → z.me.1 ≡ [] → z.me.0 ≡ with_groups s.me.0 gs → Placed s → Placed z
placed_half s z gs table held e p = record {
  live = ap (λ (v : View). v.live) e ∙ p.live;
  quiet = ap (λ (v : View). v.told) e;
  no_slot = held;
  words = ap (λ k. k.words) table ∙ p.words ∙ ap (λ (v : View). row_length v.load) (sym e);
  accepted = subst IsAcceptedLoad (ap (λ (v : View). v.load) (sym e)) p.accepted;
}

pub rest_half : (z : TableId) (s q : S) (gs : List (List ℕ)) → HasRest z s.me.0.load s.me.0.groups s → q.table_id ≡ s.table_id → q.me.1 ≡ []
    → q.me.0 ≡ with_groups s.me.0 gs → HasRest z s.me.0.load gs q
rest_half z s q gs h table held e = record {
  table = table ∙ h.table;
  placed = placed_half s q gs table held e h.placed;
  loaded = ap (λ (v : View). v.load) e;
  run = ap (λ (v : View). v.run) e ∙ h.run;
  grouped = ap (λ (v : View). v.groups) e;
}

pub seated_start : (z : TableId) (s q : S) (slots : List (Option PlacedTile)) (from to : ℕ) → HasRest z s.me.0.load s.me.0.groups s → q.table_id ≡ s.table_id
    → q.me.1 ≡ [] → q.me.0 ≡ first_half s.me.0
    → first_group s.me.0.groups ≡ count_up from (to - from) → Tied slots s.me.0.load [] (count_up from (to - from)) → Seated slots q
seated_start z s q slots from to h table held e group tied = record {
  placed = placed_half s q (first_group s.me.0.groups ∷ []) table held e h.placed;
  one_group = subst (λ (v : View). v.groups ≡ first_group v.groups ∷ []) (sym e) refl;
  tied = subst (λ (v : View). Tied slots v.load v.run (first_group v.groups)) (sym e)
      (subst (λ (p : List Step × List ℕ). Tied slots s.me.0.load p.0 p.1) (λ i. (sym h.run i, sym group i)) tied);
}

pub fresh_half : (z : TableId) (s q : S) (from to : ℕ) → HasRest z s.me.0.load s.me.0.groups s → q.table_id ≡ s.table_id → q.me.0 ≡ first_half s.me.0
    → first_group s.me.0.groups ≡ count_up from (to - from)
    → seat_knows q ≡ fresh z s.me.0.load (count_up from (to - from))
fresh_half z s q from to h table e group =
    (λ i. record { table = (table ∙ h.table) i; load = (e i).load; run = (e i).run; tiles = first_group (e i).groups })
    ∙ (λ i. record { table = z; load = s.me.0.load; run = h.run i; tiles = group i })

-- all slots at first
tile_there : (tiles : List PlacedTile) (t : ℕ) → t < length tiles → (x : PlacedTile) × (slice_get tiles t ≡ Some x)
tile_there [] t h = absurd (omega arith)
tile_there (x ∷ xs) zero h = (x, refl)
tile_there (x ∷ xs) (suc t) h = tile_there xs t (omega arith)

pub rest_first : (load : Load) (row : List ℕ) (tiles : List PlacedTile) → IsFresh load row tiles → Rest load (map (λ (y : PlacedTile). Some y) tiles) 0
rest_first load row tiles k = record {
  room = length-map tiles (λ (y : PlacedTile). Some y) ∙ k.count;
  here = λ t lo hi. let y = tile_there tiles t (subst (λ n. t < n) (sym k.count) hi) in
      (y.0, slice_get-map (λ (x : PlacedTile). Some x) tiles t ∙ ap (option_map (λ (x : PlacedTile). Some x)) y.1, k.stand t y.0 y.1);
}

-- a machine's parts are fresh, where it stands freshly loaded
known_first : (load : Load) (row : List ℕ) (tiles : List PlacedTile) → IsShown (design_of load) (after load []) (map (λ v. v.place) tiles) row
    → (t : ℕ) (x : PlacedTile) → slice_get tiles t ≡ Some x → known load [] t ≡ Some x.place
unfolding known
known_first load row tiles shown t x at =
    sym (shown.tiles t) ∙ (slice_get-map (λ (v : PlacedTile). v.place) tiles t ∙ ap (option_map (λ (v : PlacedTile). v.place)) at)

shows_first : (load : Load) (row : List ℕ) (tiles : List PlacedTile) → IsShown (design_of load) (after load []) (map (λ v. v.place) tiles) row
    → ShowsBeginning load row []
unfolding ShowsBeginning
shows_first load row tiles shown = shown.row_is

pub is_fresh : (load : Load) (c : Core) (row : List ℕ) (tiles : List PlacedTile) → IsAfter load c [] → length tiles ≡ tiles_of c.shape
    → IsShown (design_of load) (after load []) (map (λ v. v.place) tiles) row → HaveRoom load tiles → IsFresh load row tiles
is_fresh load c row tiles k count shown rooms = record {
  accepted = k.accepted;
  shows = shows_first load row tiles shown;
  count = count ∙ ap tiles_of k.shape;
  stand = λ t x at. record { place = known_first load row tiles shown t x at; room = rooms t x at };
}

-- the table at first, and its first seat
pub holds_first : (k : Opening) (row : List ℕ) → ShowsBeginning k.load row [] → Rises 0 k.cuts (tiles_of k.load.shape) → Holds k.load (opening row [] (first_view k))
holds_first k row shown r = begins k.load row (first_view k) shown refl refl refl (ranges_apart 0 k.cuts (tiles_of k.load.shape) r)

pub first_seat : (k : Opening) (row : List ℕ) (z : TableId) (s : S) → IsAcceptedLoad k.load → ShowsBeginning k.load row [] → s.table_id ≡ z → z.words ≡ length row
    → s.me ≡ (first_view k, [])
    → HasRest z s.me.0.load (ranges 0 k.cuts (tiles_of k.load.shape)) s × (0 < z.words)
first_seat k row z s accepted shown table words me =
    let n = row_size k.load accepted row [] shown in
    let e : s.me.0 ≡ first_view k = ap (λ m. m.0) me in (
      record {
        table = table;
        placed = record {
          live = ap (λ (v : View). v.live) e;
          quiet = ap (λ (v : View). v.told) e;
          no_slot = ap (λ m. m.1) me;
          words = ap (λ i. i.words) table ∙ words ∙ n ∙ ap (λ (v : View). row_length v.load) (sym e);
          accepted = subst IsAcceptedLoad (ap (λ (v : View). v.load) (sym e)) accepted;
        };
        loaded = refl;
        run = ap (λ (v : View). v.run) e;
        grouped = ap (λ (v : View). v.groups) e;
      },
      omega arith,
    )

pub rest_at : (k : Opening) (row : List ℕ) (tiles : List PlacedTile) (all : List (Option PlacedTile)) (s : S) → IsFresh k.load row tiles
    → s.me ≡ (first_view k, []) → all ≡ map (λ (y : PlacedTile). Some y) tiles → Rest s.me.0.load all 0
rest_at k row tiles all s fresh me e =
    subst (λ (l : Load). Rest l all 0) (ap (λ m. m.0.load) (sym me))
    (subst (λ (a : List (Option PlacedTile)). Rest k.load a 0) (sym e) (rest_first k.load row tiles fresh))

-- the row is short
pub base_short : (load : Load) → IsAcceptedLoad load → (row : List ℕ) → ShowsBeginning load row [] → channel_count load.shape * load.depth + length load.opening < 2 ^ 32
unfolding ShowsBeginning
base_short load ok row shown =
    let few : length row ≤ 79873 = subst (λ (xs : List ℕ). length xs ≤ 79873) (sym shown) (at_most load ok [] 0) in
    let size : length row ≡ channel_count load.shape * load.depth + (length load.opening + 1) = row_size load ok row [] shown in
    omega arith

-- the row and the tiles are fresh for the load that was picked, which is that of an opening
pub fresh_as : (k o : Opening) (c : Core) (row : List ℕ) (tiles : List PlacedTile) → k ≡ o → IsAfter o.load c [] → length tiles ≡ tiles_of c.shape
    → ((l : Load) (steps : List Step) → IsAfter l c steps → IsShown (design_of l) (after l steps) (map (λ v. v.place) tiles) row)
    → ((l : Load) → IsAfter l c [] → HaveRoom l tiles) → IsFresh k.load row tiles
fresh_as k o c row tiles e h count shown rooms =
    subst (λ (x : Opening). IsFresh x.load row tiles) (sym e) (is_fresh o.load c row tiles h count (shown o.load [] h) (rooms o.load h))

pub rises_as : (k o : Opening) (cuts : List ℕ) (c : Core) → k ≡ o → o.cuts ≡ cuts → IsAfter o.load c [] → Rises 0 cuts (tiles_of c.shape)
    → Rises 0 k.cuts (tiles_of k.load.shape)
rises_as k o cuts c e same h rise =
    subst (λ (x : Opening). Rises 0 x.cuts (tiles_of x.load.shape)) (sym e)
    (subst (λ (n : ℕ). Rises 0 o.cuts n) (ap tiles_of h.shape) (subst (λ (xs : List ℕ). Rises 0 xs (tiles_of c.shape)) (sym same) rise))

pub shows_as : (load : Load) (row found : List ℕ) → found ≡ row → ShowsBeginning load row [] → ShowsBeginning load found []
shows_as load row found e shown = subst (λ (xs : List ℕ). ShowsBeginning load xs []) (sym e) shown
