-- The room that a further line needs.
use Rattle.std.proofs.Common.{◌≡◌, ◌≢◌, ⊎_elim, ℕ, ◌+◌, ◌%◌, ◌<◌, Bool, true, false, List, [], ◌∷◌, ◌++◌, map, length, Option, Some, None, refl, sym, ◌∙◌, ap}
use Rattle.std.proofs.Common.{arith, slice_get, slice_set, eq-eqb}
use Rattle.std.specs.Prelude.{option_map, if◌then◌else◌}
use Rattle.std.proofs.lemmas.Bool.{cases_eq, ne_eqb}
use Rattle.std.proofs.lemmas.List.Sums.{sum_by-set, sum_by_push}
use Rattle.std.proofs.lemmas.Option.{same_Some, slice_get-map}
use Rattle.script_lines.specs.declared.line.Line.{Line}
use Rattle.script_lines.specs.declared.line.Line.TheVariants as line
use Rattle.script_lines.specs.Lines.{operations_of, script_of}
use Rattle.one_order.specs.Scripts.{address_of}
use Rattle.one_order.specs.Homes.{is_home, line_home_count, script_home_count}
use Rattle.one_order.specs.Room.{home_room}
use Rattle.tile.specs.Placed.{PlacedTile}
use Rattle.machine_parts.specs.Awake.{Awake}
use Rattle.core_laws.specs.Appended.{changed_at}
use Rattle.core_laws.proofs.Places.{get_map, get_other}
use Rattle.machine_parts.specs.Grown.{tile_given, tile_wider, tile_reopened, tiles_given, AreAsReported}
use Rattle.machine_parts.proofs.Items.{kept_at}

-- a line without an address makes no operation
no_operations : (first : Line) → address_of first ≡ None → operations_of first ≡ 0
no_operations (line.Load a) e = absurd (cc)
no_operations (line.Store a v) e = absurd (cc)
no_operations (line.Swap a v) e = absurd (cc)
no_operations (line.Cas a x n) e = absurd (cc)
no_operations (line.Add a v) e = absurd (cc)
no_operations (line.And a v) e = absurd (cc)
no_operations (line.Or a v) e = absurd (cc)
no_operations (line.Xor a v) e = absurd (cc)
no_operations (line.Max a v) e = absurd (cc)
no_operations (line.Min a v) e = absurd (cc)
no_operations line.Fence e = refl
no_operations (line.Spin a v m) e = absurd (cc)

-- the banks that its operations come to
abbrev counted : Bool → ℕ → ℕ
counted home n = if home then n else 0

pub none_at_home : (tiles b : ℕ) (first : Line) → address_of first ≡ None → line_home_count tiles b first ≡ 0
none_at_home tiles b first e = ap (λ (o : Option ℕ). counted (is_home tiles b o) (operations_of first)) e

pub fence_here : (tiles own : ℕ) (first : Line) → address_of first ≡ None → line_home_count tiles own first ≡ operations_of first
fence_here tiles own first e = none_at_home tiles own first e ∙ sym (no_operations first e)

pub all_here : (tiles a : ℕ) (first : Line) → address_of first ≡ Some a → line_home_count tiles (a % tiles) first ≡ operations_of first
all_here tiles a first e =
    ap (λ (o : Option ℕ). counted (is_home tiles (a % tiles) o) (operations_of first)) e
    ∙ ap (λ (b : Bool). counted b (operations_of first)) (eq-eqb (a % tiles) (a % tiles) refl)

pub none_elsewhere : (tiles a b : ℕ) (first : Line) → address_of first ≡ Some a → b ≢ a % tiles → line_home_count tiles b first ≡ 0
none_elsewhere tiles a b first e other =
    ap (λ (o : Option ℕ). counted (is_home tiles b o) (operations_of first)) e
    ∙ ap (λ (h : Bool). counted h (operations_of first)) (ne_eqb (a % tiles) b (λ same. other (sym same)))

-- the operations of all scripts at a bank
pub homes_with : (tiles b : ℕ) (scripts : List (List Line)) (p : ℕ) (first : Line) → p < length scripts
    → home_room tiles b (slice_set scripts p (script_of scripts p ++ first ∷ [])) ≡ home_room tiles b scripts + line_home_count tiles b first
homes_with tiles b scripts p first low =
    let all = sum_by-set (script_home_count tiles b) scripts p (script_of scripts p ++ first ∷ []) [] low in
    let one = sum_by_push (line_home_count tiles b) (script_of scripts p) first in
    omega (arith, all, one)

-- the banks have room for the line too
module _ (n : ℕ) (scripts : List (List Line)) (p home : ℕ) (first : Line) (low : p < length scripts)
    (here : line_home_count n home first ≡ operations_of first) (others : (b : ℕ) → b ≢ home → line_home_count n b first ≡ 0)
    (tiles : List PlacedTile) (before : (b : ℕ) (v : PlacedTile) → slice_get tiles b ≡ Some v → v.room ≡ home_room n b scripts) where
  abbrev more : ℕ
  more = operations_of first

  wider_at : (b : ℕ) (w : PlacedTile) → slice_get (changed_at (tile_wider more) tiles home) b ≡ Some w
      → w.room ≡ home_room n b scripts + line_home_count n b first
  wider_at b w at = ⊎_elim
      (λ (same : b ≡ home).
      let there : option_map (tile_wider more) (slice_get tiles home) ≡ Some w =
      sym (get_map (tile_wider more) tiles home) ∙ (ap (slice_get (changed_at (tile_wider more) tiles home)) (sym same) ∙ at) in
      widened same (slice_get tiles home) refl there)
      (λ (other : b ≢ home).
      let is = before b w (sym (get_other (tile_wider more) tiles home b other) ∙ at) in
      let none = others b other in
      omega (arith, is, none))
      (cases_eq b home)
    where
      widened : b ≡ home → (o : Option PlacedTile) → slice_get tiles home ≡ o → option_map (tile_wider more) o ≡ Some w
          → w.room ≡ home_room n b scripts + line_home_count n b first
      widened same None e there = absurd (cc)
      widened same (Some v) e there =
          let is = before home v e in
          let new : v.room + more ≡ w.room = ap (λ (x : PlacedTile). x.room) (same_Some _ _ there) in
          let there_is : w.room ≡ home_room n home scripts + line_home_count n home first = omega (arith, is, new, here) in
          there_is ∙ ap (λ (k : ℕ). home_room n k scripts + line_home_count n k first) (sym same)

  given_rooms : (b : ℕ) (w : PlacedTile) → slice_get (tiles_given first p home tiles) b ≡ Some w
      → w.room ≡ home_room n b scripts + line_home_count n b first
  given_rooms b w at =
      let k = kept_at (tile_given first) (λ (x : PlacedTile). x.room) (λ x. refl) (changed_at (tile_wider more) tiles home) p b w at in
      k.2 ∙ wider_at b k.0 k.1

  reopened_rooms : (vs : List PlacedTile) (b : ℕ) (w : PlacedTile) → slice_get (map tile_reopened vs) b ≡ Some w
      → (u : PlacedTile) × (slice_get vs b ≡ Some u) × (w.room ≡ u.room)
  reopened_rooms vs b w at = opened_from (slice_get vs b) (sym (slice_get-map tile_reopened vs b) ∙ at)
    where
      opened_from : (o : Option PlacedTile) → option_map tile_reopened o ≡ Some w → (u : PlacedTile) × (o ≡ Some u) × (w.room ≡ u.room)
      opened_from None e = absurd (cc)
      opened_from (Some u) e = (u, refl, ap (λ (x : PlacedTile). x.room) (sym (same_Some _ _ e)))

  rooms_by : (reported : Bool) (new_tiles : List PlacedTile) (row new_row : List ℕ) (awake new_awake : Awake) (taken : ℕ)
      → AreAsReported (tiles_given first p home tiles) new_tiles row new_row awake new_awake taken reported
      → (b : ℕ) (w : PlacedTile) → slice_get new_tiles b ≡ Some w → w.room ≡ home_room n b scripts + line_home_count n b first
  rooms_by true new_tiles row new_row awake new_awake taken now b w at =
      let k = reopened_rooms (tiles_given first p home tiles) b w (ap (λ (vs : List PlacedTile). slice_get vs b) (sym now.tiles_are) ∙ at) in
      k.2 ∙ given_rooms b k.0 k.1
  rooms_by false new_tiles row new_row awake new_awake taken now b w at =
      given_rooms b w (ap (λ (vs : List PlacedTile). slice_get vs b) (sym now.tiles_are) ∙ at)

  pub rooms_then : (reported : Bool) (new_tiles : List PlacedTile) (row new_row : List ℕ) (awake new_awake : Awake) (taken : ℕ)
      → AreAsReported (tiles_given first p home tiles) new_tiles row new_row awake new_awake taken reported
      → (b : ℕ) (w : PlacedTile) → slice_get new_tiles b ≡ Some w → w.room ≡ home_room n b (slice_set scripts p (script_of scripts p ++ first ∷ []))
  rooms_then reported new_tiles row new_row awake new_awake taken now b w at =
      rooms_by reported new_tiles row new_row awake new_awake taken now b w at ∙ sym (homes_with n b scripts p first low)
