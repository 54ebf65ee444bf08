-- What a reader keeps of a network text.
use Rattle.std.specs.Prelude.{◌≡◌, ◌*◌, ◌^◌, ◌<◌, ◌≤◌, true, length}
use Rattle.network_judge.specs.Table.{table_of, columns_of, IsFull}
use Rattle.network_judge.specs.Columns.{AreColumns}
use Rattle.network_judge.specs.Replies.{AreReplies}
use Rattle.network_text.specs.declared.reading.Reading as reading
use Rattle.network_text.specs.Network.{Reading, reading_with}

abbrev pub reading_of : {A : Type 0} → reading.Reading A → Reading
reading_of r = reading_with (table_of r.kinds.items r.joins.items r.choices.items) r.replies.items
    r.begun r.names.items r.flits

-- the ejection channels are counted, the choices and their columns stand as they must, and so do
-- the replies and the names
pub record IsRead {A : Type 0} (r : reading.Reading A) : Type 0 where
  pub channels : length r.kinds.items ≤ 65536
  pub ejections : r.ejections ≡ columns_of (reading_of r).table
  pub few : length r.kinds.items * columns_of (reading_of r).table ≤ 2 ^ 27
  pub given : r.begun ≡ true → 0 < length r.kinds.items
  pub full : r.begun ≡ true → IsFull (reading_of r).table
  pub columns : r.begun ≡ true → AreColumns r.kinds.items r.columns.items
  pub replies : AreReplies (reading_of r).table r.replies.items
  pub names : 0 < length r.names.items → length r.names.items ≡ 65536
