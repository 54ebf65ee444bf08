-- What a program keeps of a run that it watches.
use Rattle.std.specs.Prelude.{◌≡◌, ℕ, ◌+◌, ◌<◌, ◌^◌, Bool, List, length, slice_index, slice_index_or}
use Rattle.std.specs.Prelude.{None, is_some}
use Rattle.network_judge.specs.Table.{Table, channels_of}
use Rattle.network_machine.specs.declared.moves.Move.{Move}
use Rattle.network_rounds.specs.declared.senders.Timed.{Timed}
use Rattle.network_traffic.specs.declared.watch.Watch as rust
use Rattle.network_traffic.specs.declared.fates.Fates as fates
use Rattle.network_traffic.specs.Labels.{labels_spec}
use Rattle.network_traffic.specs.Fates.{Stamped, log_of, labels_behind, flits_to_come, begun_in_round}
use Rattle.network_traffic.specs.Fates.{delivered_in_round, latched_behind, rounds_waited}
use Rattle.network_traffic.specs.Waits.{CountWaits}

-- what becomes of the packets by some moves
pub record ShowsFates {A : Type 0} (t : Table) (packets : List Timed) (log : List Stamped)
    (f : fates.Fates A) : Type 0 where
  pub begun : length f.begun.items ≡ length packets
  pub left : length f.left.items ≡ length packets
  pub delivered : length f.delivered.items ≡ length packets
  pub begins : (k : ℕ) → k < length packets
      → slice_index_or f.begun.items k None ≡ begun_in_round t packets k log
  pub comes : (k : ℕ) → k < length packets
      → slice_index f.left.items k ≡ flits_to_come t packets k log
  pub delivers : (k : ℕ) → k < length packets
      → slice_index_or f.delivered.items k None ≡ delivered_in_round t packets k log

-- what becomes of the packets by some moves, and where their flits stand
pub record ShowsLog {A : Type 0} (t : Table) (packets : List Timed) (log : List Stamped)
    (w : rust.Watch A) : Type 0 where
  pub labels : labels_spec w.labels ≡ labels_behind t packets log
  pub fates : ShowsFates t packets log w.fates

-- what is kept of waits in a round is kept right, however long flits have waited before it, and wherever
-- they stood when it began
abbrev pub KeepsCounts : {A : Type 0} → ℕ → rust.Watch A → rust.Watch A → Type 0
KeepsCounts round old new = (waited : ℕ → ℕ) (stood : ℕ → Bool) → ((x : ℕ) → waited x < 2 ^ 64)
    → CountWaits waited round stood old.labels.latches.items old.waits.items
    → CountWaits waited round stood new.labels.latches.items new.waits.items

-- what becomes of the packets in some rounds, the last one first, where their flits stand, and what is
-- kept of how long flits wait behind each channel
pub record ShowsCourse {A : Type 0} (t : Table) (packets : List Timed) (rounds : List (List Move))
    (w : rust.Watch A) : Type 0 where
  pub log : ShowsLog t packets (log_of rounds) w
  pub many : length w.waits.items ≡ channels_of t
  pub waited : length w.waited.items ≡ channels_of t
  pub waits : CountWaits (λ x. rounds_waited t packets x rounds) (length rounds + 1)
      (λ x. is_some (latched_behind t packets x rounds)) w.labels.latches.items w.waits.items

-- what becomes of the packets in some rounds, the last one first, where their flits stand, and how
-- long flits wait behind each channel
pub record ShowsRounds {A : Type 0} (t : Table) (packets : List Timed) (rounds : List (List Move))
    (w : rust.Watch A) : Type 0 where
  pub log : ShowsLog t packets (log_of rounds) w
  pub waited : length w.waited.items ≡ channels_of t
  pub waits : (x : ℕ) → x < channels_of t
      → slice_index w.waited.items x ≡ rounds_waited t packets x rounds
