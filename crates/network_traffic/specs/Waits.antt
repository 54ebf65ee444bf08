-- How long flits wait in latches, counted when one comes or goes.
use Rattle.std.specs.Prelude.{◌≡◌, ℕ, ◌+◌, ◌<◌, ◌≤◌, Bool, true, false, List, length, Option, None, is_some}
use Rattle.std.specs.Prelude.{slice_index_or}
use Rattle.network_machine.specs.declared.moves.Move.{Move}
use Rattle.network_machine.specs.declared.moves.Move.TheVariants.{Send, More, Take, Put, Accept}
use Rattle.network_machine.specs.declared.moves.Move.TheVariants.{Credit}
use Rattle.network_traffic.specs.declared.waits.Wait.{Wait}

-- whether a move changes what stands in a latch
abbrev pub changes_latch : Move → Bool
changes_latch (Send p) = false
changes_latch (More x) = false
changes_latch (Take x) = true
changes_latch (Put x) = true
changes_latch (Accept x) = false
changes_latch (Credit x) = false

-- In a round before which flits have waited so long in a latch: what is kept of it, by whether a flit
-- stood there when the round began, and whether one stands there now. The wait of one that stands there
-- counts once it goes.
abbrev pub CountsWait : ℕ → ℕ → Bool → Bool → Wait → Type 0
CountsWait waited round true true w =
    (w.since < round) × (w.waited + round ≡ waited + w.since + 1)
CountsWait waited round true false w =
    (w.since < round) × (w.left ≡ round) × (w.waited ≡ waited) × (round ≤ waited + w.since + 1)
CountsWait waited round false true w = (w.since ≡ round) × (w.waited ≡ waited)
CountsWait waited round false false w =
    (w.left ≤ round) × (w.waited ≡ waited) × (w.left ≡ round → w.since ≡ round)

-- that of all latches: how long flits have waited in each, and whether one stood there
abbrev pub CountWaits : (ℕ → ℕ) → ℕ → (ℕ → Bool) → List (Option ℕ) → List Wait → Type 0
CountWaits waited round stood latches waits = (x : ℕ) (d : Wait) → x < length waits
    → CountsWait (waited x) round (stood x) (is_some (slice_index_or latches x None))
    (slice_index_or waits x d)
