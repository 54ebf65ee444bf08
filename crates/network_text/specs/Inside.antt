-- How a `Network` keeps its tables.
use Rattle.network_judge.specs.Table.{table_of, IsFull}
use Rattle.network_judge.specs.Replies.{AreReplies}
use Rattle.network_text.specs.declared.network.Network.TheInside.{Inside}
use Rattle.network_text.specs.Network.{NetworkSpec}

abbrev pub network_of_fields : {A : Type 0} → Inside A → NetworkSpec
network_of_fields n = record {
  table = table_of n.kinds.items n.joins.items n.choices.items;
  replies = n.replies.items;
  flits = n.flits;
}

-- there is a choice for each channel and ejection channel, and each reply is from an ejection to an
-- injection channel
pub record IsNetwork {A : Type 0} (n : Inside A) : Type 0 where
  pub full : IsFull (network_of_fields n).table
  pub replies : AreReplies (network_of_fields n).table (network_of_fields n).replies
