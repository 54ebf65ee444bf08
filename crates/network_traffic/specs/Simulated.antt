-- Simulations: clocked rounds that go on until one makes no move and no packet is to come.
use Rattle.std.specs.Prelude.{◌≡◌, ℕ, ◌+◌, ◌≤◌, ◌==◌, ◌&&◌, not, nat_lt, Bool, false, List, []}
use Rattle.std.specs.Prelude.{◌∷◌, Vec, length, slice_get, Option, Some, None, if◌then◌else◌}
use Rattle.std.specs.List.{list_any, range_with_len}
use Rattle.network_judge.specs.Table.{Table}
use Rattle.network_machine.specs.declared.moves.Move.{Move}
use Rattle.network_machine.specs.Machine.{NetworkMachineSpec}
use Rattle.network_rounds.specs.declared.arbiter.Arbiter.{Arbiter}
use Rattle.network_rounds.specs.declared.senders.Timed.{Timed}
use Rattle.network_rounds.specs.Senders.{queue_at}
use Rattle.network_rounds.specs.Simulations.{begun_in, IsSimulation}
use Rattle.network_traffic.specs.declared.running.Extent.{Extent}
use Rattle.network_traffic.specs.declared.watch.Watch.{Watch}
use Rattle.network_traffic.specs.Watches.{ShowsRounds}

-- whether a packet, if any, is to come behind a round
abbrev pub is_later : ℕ → Option Timed → Bool
is_later round None = false
is_later round (Some timed) = nat_lt round timed.round

-- whether the next packet of some sender is, where each has begun so many
abbrev pub some_later : {A : Type 0} → List (Vec Timed A) → (ℕ → ℕ) → ℕ → Bool
some_later queues begun round =
    list_any (λ x. is_later round (slice_get (queue_at queues x) (begun x)))
    (range_with_len 0 (length queues))

-- whether a simulation is over behind some rounds, the last one first: it makes no move, and no packet
-- is to come
abbrev pub ends_behind : {A : Type 0} → List (Vec Timed A) → List (List Move) → Bool
ends_behind queues [] = false
ends_behind queues (made ∷ before) = length made == 0
    && not (some_later queues (λ x. begun_in x (made ∷ before)) (length before + 1))

-- a simulation is over behind none of some rounds, the last one first
abbrev pub GoesOnSimulating : {A : Type 0} → List (Vec Timed A) → List (List Move) → Type 0
GoesOnSimulating queues [] = Unit {0}
GoesOnSimulating queues (made ∷ before) =
    (ends_behind queues (made ∷ before) ≡ false) × GoesOnSimulating queues before

-- a simulation is over behind none of some rounds but perhaps the last one
abbrev pub GoesOnBefore : {A : Type 0} → List (Vec Timed A) → List (List Move) → Type 0
GoesOnBefore queues [] = Unit {0}
GoesOnBefore queues (made ∷ before) = GoesOnSimulating queues before

-- the last round that makes a move, 0 if none does
abbrev pub last_moving : List (List Move) → ℕ
last_moving [] = 0
last_moving (made ∷ before) = if length made == 0 then last_moving before else length before + 1

-- how far a simulation goes: up to the first round behind which it is over, or as far as it may
pub record IsExtent {A : Type 0} (queues : List (Vec Timed A)) (rounds : List (List Move)) (most : ℕ)
    (e : Extent) : Type 0 where
  pub few : e.rounds ≤ most
  pub goes : GoesOnBefore queues rounds
  pub over : ends_behind queues rounds ≡ e.is_over
  pub cut : e.is_over ≡ false → e.rounds ≡ most
  pub last : e.last ≡ last_moving rounds

-- a simulation of some packets: its rounds, what becomes of the packets in them, and how many flits
-- leave each channel
pub record IsSimulated {A B C : Type 0} (by : Arbiter) (t : Table) (packets : List Timed)
    (queues : List (Vec Timed A)) (groups : List (Vec Move B)) (old new : NetworkMachineSpec)
    (flits : List ℕ) (most : ℕ) (watch : Watch C) (e : Extent) : Type 0 where
  pub lasts : List ℕ
  pub begun : List ℕ
  pub simulation : IsSimulation by queues groups old new lasts begun flits e.rounds
  pub shows : ShowsRounds t packets simulation.rounds watch
  pub far : IsExtent queues simulation.rounds most e
