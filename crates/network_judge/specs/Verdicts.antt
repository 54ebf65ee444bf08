-- What each verdict says of a table.
use Rattle.std.specs.Prelude.{◌≡◌, ℕ, ◌<◌, true, List, length, slice_index, slice_index_or}
use Rattle.network_judge.specs.declared.table.Join.{Join}
use Rattle.network_judge.specs.declared.table.Reply.{Reply}
use Rattle.network_judge.specs.declared.table.Why.{Why}
use Rattle.network_judge.specs.declared.table.NoRoute as no_route
use Rattle.network_judge.specs.declared.table.Verdict.{Verdict}
use Rattle.network_judge.specs.declared.table.Verdict.TheVariants.{Rising, NoRoute, Cycle}
use Rattle.network_judge.specs.Table.{Table, channels_of, joins_of}
use Rattle.network_judge.specs.Ways.{IsWay, FailsBy}
use Rattle.network_judge.specs.Replies.{RiseOver}
use Rattle.network_judge.specs.TableNet.{Flits, numbered}
use Rattle.network_judge.specs.Cycles.{IsCycle}
use Rattle.wormhole.specs.Net.{IsNet}

-- between all ends that are joined there is a route
abbrev pub AllArrive : Table → Type 0
AllArrive t = (i j : ℕ) → joins_of t i j ≡ true → (n : ℕ) × IsWay t i j n

-- with these numbers, which rise over replies, it is a wormhole network, whatever the depth and the
-- flits
pub record IsNumbered (t : Table) (replies : List Reply) (numbers : List ℕ) : Type 0 where
  pub count : length numbers ≡ channels_of t
  pub above : RiseOver replies (slice_index numbers)
  pub net : (depth : ℕ) (flits : Flits) → IsNet (numbered t numbers depth flits)

-- the source-destination pair at a place of the list
abbrev pub join_at : Table → ℕ → Join
join_at t p = slice_index_or t.joins p (record { from = 0; to = 0 })

-- the source-destination pair at this place has no route, and why
abbrev pub FailsAt : Table → ℕ → Why → Type 0
FailsAt t p why = FailsBy t (join_at t p).from (join_at t p).to why

-- the first source-destination pair of the list without a route, and why
pub record IsFirstFault (t : Table) (r : no_route.NoRoute) : Type 0 where
  pub place : ℕ
  pub here : place < length t.joins
  pub join : join_at t place ≡ r.join
  pub fails : FailsBy t r.join.from r.join.to r.why
  pub before : (p : ℕ) → p < place → (n : ℕ) × IsWay t (join_at t p).from (join_at t p).to n

-- exactly what the verdict says
abbrev pub IsVerdict : {A : Type 0} → Table → List Reply → Verdict A → Type 0
IsVerdict t replies (Rising numbers) = AllArrive t × IsNumbered t replies numbers.items
IsVerdict t replies (NoRoute r) = IsFirstFault t r
IsVerdict t replies (Cycle links) = AllArrive t × IsCycle t replies links.items
