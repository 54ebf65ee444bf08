-- Steps that aren't the seat's.
use Rattle.std.proofs.Common.{◌≡◌, ℕ, ◌≤◌, List, length, Option, Some, None, sym, ◌∙◌, arith}
use Rattle.std.specs.Prelude.{slice_get}
use Rattle.std.proofs.lemmas.Option.{same_Some, slice_get_within}
use Rattle.atomic_table.specs.declared.shared.Seat.{Seat}
use Rattle.fabric_rule.specs.Placed.{PlacedTile}
use Rattle.fabric_rule.specs.View.{View}
use Rattle.fabric_rule.specs.Groups.{Owns}
use Rattle.fabric.specs.Seats.{Knowing, seat_knows, Seated}
use Rattle.fabric.proofs.EndsShown.{unowned}

abbrev S : Type 0
S = Seat (Unit {0}) View

module _ (slots : List (Option PlacedTile)) (s : S) (v : Knowing) (is : seat_knows s ≡ v) (seated : Seated slots s) (t : ℕ) where
  -- a tile behind the slots
  pub none_behind : length slots ≤ t → Owns v.tiles t → ⊥
  none_behind past = unowned slots s v is seated t (λ x at. let lt = slice_get_within slots t (Some x) at in absurd (omega (arith, past, lt)))

  -- a tile whose slot has none
  pub none_there : slice_get slots t ≡ Some None → Owns v.tiles t → ⊥
  none_there empty = unowned slots s v is seated t (λ x at. differ (same_Some _ _ (sym empty ∙ at)))
    where
      differ : {x : PlacedTile} → None ≡ Some x → ⊥
      differ e = cc
