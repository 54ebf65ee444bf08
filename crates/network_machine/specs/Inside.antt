-- How a `Machine` keeps its network.
use Rattle.std.specs.Prelude.{◌≡◌, ℕ, ◌<◌, ◌^◌, List, [], length, None, slice_index_or}
use Rattle.network_judge.specs.Table.{table_of, columns_of, IsFull}
use Rattle.network_judge.specs.Replies.{AreReplies}
use Rattle.network_judge.specs.Columns.{AreColumns}
use Rattle.network_judge.specs.Verdicts.{AllArrive}
use Rattle.network_machine.specs.declared.channel.Channel.{Channel}
use Rattle.network_machine.specs.declared.machine.Machine.TheInside.{Inside}
use Rattle.network_machine.specs.Machine.{NetworkMachineSpec}
use Rattle.network_machine.specs.Moves.{ChannelsHaveRoom}
use Rattle.network_machine.specs.Owned.{AreOwned}
use Rattle.network_machine.specs.Pairs.{ArePairs, cells_of}

abbrev pub network_machine_of_fields : {A : Type 0} → Inside A → NetworkMachineSpec
network_machine_of_fields m = record {
  table = table_of m.kinds.now m.joins.now m.choices.now;
  replies = m.replies.now;
  channels = m.channels.items;
}

-- a table in which all walks arrive, with its columns, channels with room, what is known of their
-- owners, and its pairs
pub record IsNetworkMachine {A : Type 0} (m : Inside A) : Type 0 where
  pub full : IsFull (network_machine_of_fields m).table
  pub replies : AreReplies (network_machine_of_fields m).table m.replies.now
  pub arrive : AllArrive (network_machine_of_fields m).table
  pub columns : AreColumns m.kinds.now m.columns.items
  pub width : m.width ≡ columns_of (network_machine_of_fields m).table
  pub few : length m.kinds.now < 2 ^ 60
  pub size : length m.channels.items ≡ length m.kinds.now
  pub room : ChannelsHaveRoom m.channels.items
  pub many : length m.owned.items ≡ length m.kinds.now
  pub owned : AreOwned m.owned.items m.channels.items
  pub pairs : ArePairs m.joins.now (cells_of m.pairs.items)

-- a channel in which nothing is
pub record IsEmptyChannel (depth : ℕ) (c : Channel) : Type 0 where
  pub flits : c.flits.items ≡ []
  pub held : c.held ≡ depth
  pub returning : c.returning ≡ 0
  pub latch : c.latch ≡ None
  pub owner : c.owner ≡ None
  pub left : c.left ≡ 0

-- so many of them
pub record AreEmpty (count depth : ℕ) (cs : List Channel) : Type 0 where
  pub size : length cs ≡ count
  pub each : (x : ℕ) (d : Channel) → x < length cs → IsEmptyChannel depth (slice_index_or cs x d)
