-- Flits with the number of their packet: where they stand, as moves are made.
use Rattle.std.specs.Prelude.{◌≡◌, ℕ, ◌+◌, nat_lt, if◌then◌else◌, List, [], ◌∷◌, ◌++◌, map, length, drop}
use Rattle.std.specs.Prelude.{slice_get, slice_index, slice_index_or, slice_set, Option, Some, None}
use Rattle.std.specs.Prelude.{replicate}
use Rattle.arrayvec.specs.ArrayVec.{ArrayVec}
use Rattle.network_judge.specs.Table.{Table, channels_of}
use Rattle.network_machine.specs.declared.moves.Move.{Move}
use Rattle.network_machine.specs.declared.moves.Move.TheVariants.{Send, More, Take, Put, Accept}
use Rattle.network_machine.specs.declared.moves.Move.TheVariants.{Credit}
use Rattle.network_rounds.specs.declared.senders.Timed.{Timed}
use Rattle.network_traffic.specs.declared.labels.Labels as rust
use Rattle.network_traffic.specs.Plans.{output_for, all_numbers, next_number}

-- the packets whose flits stand in the channels, the first to come out first, and in the latches
-- behind them; the packet that each sender has begun last; and how many it has begun
pub record LabelsSpec : Type 0 where
  pub flits : List (List ℕ)
  pub latches : List (Option ℕ)
  pub courses : List (Option ℕ)
  pub begun : List ℕ

-- the packets of channels, as a program keeps them
abbrev pub labels_of : List (ArrayVec ℕ) → List (List ℕ)
labels_of flits = map (λ labels. labels.items) flits

-- what a program keeps of all
abbrev pub labels_spec : {A : Type 0} → rust.Labels A → LabelsSpec
labels_spec l = record {
  flits = labels_of l.flits.items;
  latches = l.latches.items;
  courses = l.courses.items;
  begun = l.begun.items;
}

-- the packets of the flits in a channel, and of one more behind them; a channel holds 8 at most
abbrev pub label_added : List ℕ → ℕ → List ℕ
label_added labels k = if nat_lt (length labels) 8 then labels ++ k ∷ [] else labels

-- a flit of a packet, if there is one, is put into a channel
abbrev pub label_put : List (List ℕ) → ℕ → Option ℕ → List (List ℕ)
label_put flits y None = flits
label_put flits y (Some k) = slice_set flits y (label_added (slice_index_or flits y []) k)

-- the packet of the first flit of a channel
abbrev pub label_first : List (List ℕ) → ℕ → Option ℕ
label_first flits x = slice_get (slice_index_or flits x []) 0

-- the first flit of a channel leaves
abbrev pub label_gone : List (List ℕ) → ℕ → List (List ℕ)
label_gone flits x = slice_set flits x (drop 1 (slice_index_or flits x []))

-- the sender of a channel begins this packet, if any is left
abbrev pub label_begun : LabelsSpec → ℕ → Option ℕ → LabelsSpec
label_begun l x None = l
label_begun l x (Some k) = record {
  flits = label_put l.flits x (Some k);
  latches = l.latches;
  courses = slice_set l.courses x (Some k);
  begun = slice_set l.begun x (slice_index l.begun x + 1);
}

-- a flit of a packet is put into a channel, if there is one
abbrev pub label_onto : List (List ℕ) → Option ℕ → ℕ → List (List ℕ)
label_onto flits None k = flits
label_onto flits (Some y) k = label_put flits y (Some k)

-- a flit of a packet, if one stands in the latch behind a channel, goes on
abbrev pub label_forward : Table → List Timed → List (List ℕ) → ℕ → Option ℕ → List (List ℕ)
label_forward t packets flits x None = flits
label_forward t packets flits x (Some k) = label_onto flits (output_for t packets x k) k

-- where they stand after a move: senders begin their packets in the order of the text, and channels
-- keep flits in order
abbrev pub labels_after : Table → List Timed → LabelsSpec → Move → LabelsSpec
labels_after t packets l (Send p) =
    label_begun l p.from (next_number (all_numbers packets (channels_of t)) l.begun p.from)
labels_after t packets l (More x) =
    record (l) { flits = label_put l.flits x (slice_index_or l.courses x None) }
labels_after t packets l (Take x) = record (l) {
  flits = label_gone l.flits x;
  latches = slice_set l.latches x (label_first l.flits x);
}
labels_after t packets l (Put x) = record (l) {
  flits = label_forward t packets l.flits x (slice_index_or l.latches x None);
  latches = slice_set l.latches x None;
}
labels_after t packets l (Accept x) = record (l) { flits = label_gone l.flits x }
labels_after t packets l (Credit x) = l

-- no flit stands anywhere, in so many channels
abbrev pub no_labels : ℕ → LabelsSpec
no_labels channels = record {
  flits = replicate channels [];
  latches = replicate channels None;
  courses = replicate channels None;
  begun = replicate channels 0;
}

-- lists for so many channels
pub record HasChannels (l : LabelsSpec) (channels : ℕ) : Type 0 where
  pub latches : length l.latches ≡ channels
  pub begun : length l.begun ≡ channels
