-- The packets of a simulation by their numbers, and where the flits of each go.
use Rattle.std.specs.Prelude.{◌≡◌, ℕ, ◌==◌, List, [], map, length, filter, slice_get, slice_index}
use Rattle.std.specs.Prelude.{slice_index_or, Option, Some, option_map}
use Rattle.std.specs.List.{range_with_len}
use Rattle.network_judge.specs.declared.table.Kind.TheVariants.{Ejection}
use Rattle.network_judge.specs.Table.{Table, kind_of, table_next}
use Rattle.network_judge.specs.Table.{table_of, columns_of, channels_of, IsFull}
use Rattle.network_judge.specs.Columns.{AreColumns}
use Rattle.network_rounds.specs.declared.senders.Timed.{Timed}
use Rattle.network_traffic.specs.declared.plan.Plan as rust

-- the channel into which the router behind channel x puts the flits of a packet, if there is one of
-- this number
abbrev pub output_for : Table → List Timed → ℕ → ℕ → Option ℕ
output_for t packets x k =
    option_map (λ timed. table_next t x timed.packet.to) (slice_get packets k)

-- each packet goes to an ejection channel
abbrev pub GoToReceivers : Table → List Timed → Type 0
GoToReceivers t packets = (k : ℕ) (timed : Timed) → slice_get packets k ≡ Some timed
    → kind_of t timed.packet.to ≡ Some Ejection

-- the channel of the sender of each packet
abbrev pub senders_of : List Timed → List ℕ
senders_of packets = map (λ timed. timed.packet.from) packets

-- the numbers of the packets of a sender, in their order
abbrev pub numbers_of : List Timed → ℕ → List ℕ
numbers_of packets x =
    filter (λ k. slice_index (senders_of packets) k == x) (range_with_len 0 (length packets))

-- those of so many senders
abbrev pub all_numbers : List Timed → ℕ → List (List ℕ)
all_numbers packets channels = map (numbers_of packets) (range_with_len 0 channels)

-- the number of the packet that a sender begins next, where each has begun so many
abbrev pub next_number : List (List ℕ) → List ℕ → ℕ → Option ℕ
next_number numbers begun x = slice_get (slice_index_or numbers x []) (slice_index begun x)

-- the tables of a network as a program keeps them
abbrev pub plan_table : {A : Type 0} → rust.Plan A → Table
plan_table p = table_of p.kinds.now p.joins.now p.choices.now

-- what a program keeps fits together
pub record IsPlan {A : Type 0} (p : rust.Plan A) : Type 0 where
  pub full : IsFull (plan_table p)
  pub columns : AreColumns p.kinds.now p.columns.items
  pub width : p.width ≡ columns_of (plan_table p)
  pub ends : GoToReceivers (plan_table p) p.packets.now
  pub numbers : map (λ numbers. numbers.items) p.numbers.items
      ≡ all_numbers p.packets.now (channels_of (plan_table p))
