-- Runs: moves that events make, one after the other.
use Rattle.std.specs.Prelude.{◌≡◌, ℕ, ◌<◌, List, [], ◌∷◌, length, take, slice_index_or}
use Rattle.wormhole.specs.Net.{Net}
use Rattle.wormhole.specs.State.{NetState}
use Rattle.wormhole.specs.Events.{NetEvent, after}
use Rattle.network_judge.specs.declared.table.Reply.{Reply}
use Rattle.network_machine.specs.declared.moves.Move.{Move}
use Rattle.network_machine.specs.Moves.{CanMove}
use Rattle.network_machine.specs.Machine.{NetworkMachineSpec, ShowsNetwork, plain_network}
use Rattle.network_machine.specs.Machine.{Prevents}

-- events make these moves, from one state to another
abbrev pub Runs : Net → List Reply → NetState → List Move → NetState → Type 0
Runs n replies s [] t = t ≡ s
Runs n replies s (m ∷ ms) t =
    (e : NetEvent) × CanMove n replies s.lines m e × Runs n replies (after n s e) ms t

-- from each state that the one machine shows, such events lead to one that the other shows
abbrev pub RunsTo : NetworkMachineSpec → NetworkMachineSpec → List Move → Type 0
RunsTo old new ms = (number : ℕ → ℕ) (top depth : ℕ) (s : NetState) → ShowsNetwork old s
    → (t : NetState) × Runs (plain_network old.table number top depth) old.replies s ms t
    × ShowsNetwork new t

-- the moves before a place are made, and no event makes the move at it
pub record StopsAt (old new : NetworkMachineSpec) (ms : List Move) (place : ℕ) : Type 0 where
  pub here : place < length ms
  pub before : RunsTo old new (take place ms)
  pub prevented : (d : Move) → Prevents new (slice_index_or ms place d)
