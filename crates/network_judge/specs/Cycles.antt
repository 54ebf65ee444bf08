-- Channels that packets go from and on to, and circles of them.
-- Dally and Seitz, Deadlock-free message routing in multiprocessor interconnection networks, 1987.
use Rattle.std.specs.Prelude.{◌≡◌, ℕ, ◌+◌, ◌-◌, ◌<◌, true, List, ◌∷◌, ◌++◌, length, slice_index_or}
use Rattle.network_judge.specs.declared.table.Link.{Link}
use Rattle.network_judge.specs.declared.table.By.{By}
use Rattle.network_judge.specs.declared.table.By.TheVariants.{To, Replied}
use Rattle.network_judge.specs.declared.table.Reply.{Reply}
use Rattle.network_judge.specs.Table.{Table, joins_of}
use Rattle.network_judge.specs.Ways.{table_route}
use Rattle.network_judge.specs.Replies.{IsReply}

-- a dependency: some packets to ejection channel j go from channel x on to channel y (Dally and
-- Seitz: an edge of the
-- dependency graph)
pub record Depends (t : Table) (x j y : ℕ) : Type 0 where
  pub from : ℕ
  pub joined : joins_of t from j ≡ true
  pub before : List ℕ
  pub after : List ℕ
  pub neighbours : table_route t from j ≡ before ++ x ∷ y ∷ after

-- how channel x leads on to channel y: some packets go on so, or packets from the one are answered
-- on the other (Dally
-- and Seitz: an edge of the dependency graph)
abbrev pub Leads : Table → List Reply → ℕ → By → ℕ → Type 0
Leads t replies x (To j) y = Depends t x j y
Leads t replies x Replied y = IsReply replies x y

-- the link at a place of a list
abbrev pub link_at : List Link → ℕ → Link
link_at links k = slice_index_or links k (record { channel = 0; by = Replied })

-- each channel leads on to that of the next link, and the last one to that of the first (Dally and
-- Seitz: a cycle)
pub record IsCycle (t : Table) (replies : List Reply) (links : List Link) : Type 0 where
  pub some : 0 < length links
  pub each : (k : ℕ) → k + 1 < length links
      → Leads t replies (link_at links k).channel (link_at links k).by
      (link_at links (k + 1)).channel
  pub last : Leads t replies (link_at links (length links - 1)).channel
      (link_at links (length links - 1)).by
      (link_at links 0).channel
