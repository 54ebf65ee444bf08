-- Simulations: clocked rounds one after the other, in which senders begin packets whose round has come.
use Rattle.std.specs.Prelude.{◌≡◌, ℕ, ◌+◌, ◌<◌, List, [], ◌∷◌, ◌++◌, Vec, length}
use Rattle.std.specs.Prelude.{slice_index}
use Rattle.std.specs.List.{sum_by}
use Rattle.network_machine.specs.declared.moves.Move.{Move}
use Rattle.network_machine.specs.Machine.{NetworkMachineSpec, SameTables}
use Rattle.network_machine.specs.Runs.{RunsTo}
use Rattle.network_rounds.specs.declared.arbiter.Arbiter.{Arbiter}
use Rattle.network_rounds.specs.declared.senders.Timed.{Timed}
use Rattle.network_rounds.specs.Arbiters.{turn_by, no_grants}
use Rattle.network_rounds.specs.Counts.{flits_gone, packets_begun}
use Rattle.network_rounds.specs.Rounds.{turned_groups, IsRound}
use Rattle.network_rounds.specs.Senders.{queue_at, dues_of}

-- how many flits leave a channel in some rounds
abbrev pub flits_in_channels : ℕ → List (List Move) → ℕ
flits_in_channels x rounds = sum_by (λ made. flits_gone x made) rounds

-- how many packets a sender begins in some rounds
abbrev pub begun_in : ℕ → List (List Move) → ℕ
begun_in x rounds = sum_by (λ made. packets_begun x made) rounds

-- the choices of a round, behind so many: the packets whose turn it is, where so many of each sender
-- are begun, and then the groups
abbrev pub choices_in : {A B : Type 0} → Arbiter → List (Vec Timed A) → List (Vec Move B) → (ℕ → ℕ)
    → ℕ → List Move
choices_in by queues groups begun before =
    dues_of (queue_at queues) begun (before + 1) (length queues)
    ++ turned_groups (turn_by by before) groups

-- some rounds by an arbiter, the last one first: each begins where the one before ends
abbrev pub AreRounds : {A B : Type 0} → Arbiter → List (Vec Timed A) → List (Vec Move B)
    → NetworkMachineSpec → NetworkMachineSpec → List ℕ → List (List Move) → Type 0
AreRounds by queues groups old new lasts [] =
    (new ≡ old) × (lasts ≡ no_grants (length old.channels))
AreRounds by queues groups old new lasts (made ∷ before) =
    (between : NetworkMachineSpec) × (earlier : List ℕ)
    × AreRounds by queues groups old between earlier before
    × IsRound by between new earlier lasts
    (choices_in by queues groups (λ x. begun_in x before) (length before)) made

-- their moves, the first one first
abbrev pub moves_of_all : List (List Move) → List Move
moves_of_all [] = []
moves_of_all (made ∷ before) = moves_of_all before ++ made

-- so many rounds lead from one machine to another: they are a run, in which each sender begins and
-- from each channel goes so much
pub record IsSimulation {A B : Type 0} (by : Arbiter) (queues : List (Vec Timed A))
    (groups : List (Vec Move B)) (old new : NetworkMachineSpec) (lasts begun flits : List ℕ)
    (count : ℕ) : Type 0 where
  pub rounds : List (List Move)
  pub number : length rounds ≡ count
  pub are : AreRounds by queues groups old new lasts rounds
  pub runs : RunsTo old new (moves_of_all rounds)
  pub same : SameTables old new
  pub senders : (x : ℕ) → x < length queues → slice_index begun x ≡ begun_in x rounds
  pub channels : (x : ℕ) → x < length flits → slice_index flits x ≡ flits_in_channels x rounds
