-- The lists of the attempts of clocked rounds, turn by turn (this project's own format).
use Rattle.std.specs.Prelude.{◌≡◌, ℕ, ◌≤◌, List, Vec, length, map}
use Rattle.std.specs.List.{range_with_len}
use Rattle.torus.specs.Shape.{Shape, dims_of}
use Rattle.torus.specs.declared.step.Step.{Step}
use Rattle.channel_number.specs.Ports.{port_count}
use Rattle.machine_core.specs.Clocked.{turned_round}

-- each list has the attempts of a round at the turn of its place, and there is one for each turn
abbrev pub AreTurned : {A : Type 0} → Shape → List (Vec Step A) → Type 0
AreTurned s lists =
    map (λ list. list.items) lists ≡ map (turned_round s) (range_with_len 0 (port_count (dims_of s)))

-- a list has room for the attempts of a round, whatever the turn
abbrev pub HasChoiceRoom : Shape → List Step → Type 0
HasChoiceRoom s room = (turn : ℕ) → length (turned_round s turn) ≤ length room
