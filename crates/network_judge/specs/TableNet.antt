-- The wormhole network of a table.
use Rattle.std.specs.Prelude.{ℕ, Bool, List, slice_index}
use Rattle.network_judge.specs.Table.{Table, channels_of, kind_of, table_next, joins_of, is_sender}
use Rattle.network_judge.specs.Table.{is_receiver}
use Rattle.network_judge.specs.Ways.{table_route}
use Rattle.wormhole.specs.Net.{Net}

-- what flits carry: a head bit, a tail bit and, of a head flit, the ejection channel (Dally and
-- Towles, chapter 12)
pub record Flits : Type 0 where
  pub is_head : ℕ → Bool
  pub is_tail : ℕ → Bool
  pub told : ℕ → ℕ

-- the network of a table whose channels hold so many flits of this format, with these numbers below
-- a bound
abbrev pub table_network : Table → (ℕ → ℕ) → ℕ → ℕ → Flits → Net
table_network t number top depth flits = record {
  channels = channels_of t;
  depth = depth;
  injects = λ x. is_sender (kind_of t x);
  ejects = λ x. is_receiver (kind_of t x);
  joins = joins_of t;
  route = table_route t;
  next = table_next t;
  number = number;
  top = top;
  is_head = flits.is_head;
  is_tail = flits.is_tail;
  told = flits.told;
}

-- the network with the numbers of a list, in channel order, each below the number of channels
abbrev pub numbered : Table → List ℕ → ℕ → Flits → Net
numbered t numbers depth flits = table_network t (slice_index numbers) (channels_of t) depth flits
