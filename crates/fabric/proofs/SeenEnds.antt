-- A seat whose processors have seen the end knows a run in which every script is finished.
use Rattle.std.proofs.Common.{◌≡◌, ℕ, ◌<◌, ◌≤◌, true, List, length, Option, Some, subst, arith}
use Rattle.std.proofs.lemmas.Option.{slice_get_within}
use Rattle.atomic_table.specs.declared.shared.Seat.{Seat}
use Rattle.tile.specs.Agents.{TilePlace}
use Rattle.fabric_rule.specs.Placed.{PlacedTile}
use Rattle.fabric_rule.specs.Known.{known}
use Rattle.fabric_rule.specs.View.{View}
use Rattle.fabric_rule.specs.Groups.{Owns}
use Rattle.fabric_rule.specs.Ended.{AreAllFinished}
use Rattle.fabric_rule.proofs.Ends.{all_ended}
use Rattle.fabric.specs.Seats.{Knowing, seat_knows, Seated}

-- the processors of those of the seat's tiles that are below a number have seen the end
abbrev pub HaveSeenBelow : ℕ → Knowing → Type 0
HaveSeenBelow n k = (t : ℕ) (p : TilePlace) → t < n → Owns k.tiles t → known k.load k.run t ≡ Some p → p.processor.state.seen ≡ true

pub ended : (slots : List (Option PlacedTile)) (s : Seat (Unit {0}) View) (k : Knowing) (n : ℕ) → seat_knows s ≡ k → Seated slots s → length slots ≤ n
    → ((t : ℕ) × Owns k.tiles t) → HaveSeenBelow n k → AreAllFinished k.load k.run
ended slots s k n e seated size =
    subst (λ (q : Knowing). ((t : ℕ) × Owns q.tiles t) → HaveSeenBelow n q → AreAllFinished q.load q.run) e
    (λ some seen.
    let a = seated.tied.all some.0 some.1 in
    let here = (seated.tied.own some.0 a.0 a.1).1.place in
    let within : some.0 < length slots = slice_get_within slots some.0 (Some a.0) a.1 in
    all_ended s.me.0.load seated.placed.accepted s.me.0.run some.0 a.0.place here (seen some.0 a.0.place (omega (arith, within, size)) some.1 here))
