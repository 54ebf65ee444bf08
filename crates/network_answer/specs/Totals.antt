-- How much of a network its packets go over: source-destination pairs, hops, and the longest route.
use Rattle.std.specs.Prelude.{◌≡◌, ℕ, zero, suc, ◌+◌, ◌*◌, ◌<◌, Bool, true, false, if◌then◌else◌}
use Rattle.std.specs.Prelude.{Some, List, [], length}
use Rattle.std.specs.List.{count_by}
use Rattle.wormhole.specs.Weight.{sum_below}
use Rattle.network_judge.specs.declared.table.Kind.{Kind}
use Rattle.network_judge.specs.declared.table.Kind.TheVariants.{Injection, Hop, Ejection}
use Rattle.network_judge.specs.declared.table.Join.{Join}
use Rattle.network_judge.specs.Table.{Table, table_of, channels_of, kind_of, joins_of, ejects}
use Rattle.network_judge.specs.Ways.{IsWay}
use Rattle.network_judge.specs.Marks.{Passes}
use Rattle.network_judge.specs.Verdicts.{AllArrive, join_at}
use Rattle.network_judge.specs.TableNet.{Flits}
use Rattle.network_adaptive.specs.Choices.{Comes, HasEscapes}
use Rattle.network_adaptive.specs.Choosing.{ChoiceTable, network, table}
use Rattle.network_adaptive.specs.Travel.{IsTravel}
use Rattle.network_adaptive.specs.declared.verdict.Travel.{Travel}
use Rattle.network_adaptive.specs.declared.verdict.Travel.TheVariants.{Bounded, Round}
use Rattle.network_answer.specs.declared.totals.Totals.{Totals}

-- of how many of the first n numbers this is true
abbrev pub count_below : (ℕ → Bool) → ℕ → ℕ
count_below p zero = 0
count_below p (suc n) = count_below p n + (if p n then 1 else 0)

-- from how many of the first n channels packets go to channel j
abbrev pub pairs_to : List Join → ℕ → ℕ → ℕ
pairs_to joins n j = count_below (λ i. joins_of (table_of [] joins []) i j) n

-- how many pairs of the first n channels packets go between: one that is given twice counts once
abbrev pub pair_count : List Join → ℕ → ℕ
pair_count joins n = sum_below n (pairs_to joins n)

-- whether a kind is that of injection channels
abbrev pub injects : Kind → Bool
injects Injection = true
injects Hop = false
injects Ejection = false

-- whether it is that of hops
abbrev pub is_hop : Kind → Bool
is_hop Injection = false
is_hop Hop = true
is_hop Ejection = false

-- packets go over hop x
abbrev pub IsHopUsed : Table → ℕ → Type 0
IsHopUsed t x = (kind_of t x ≡ Some Hop) × ((j : ℕ) × Passes t x j)

-- of the first n numbers this is true of so many
pub data IsCountOf (P : ℕ → Type 0) : ℕ → ℕ → Type 0 where
  OfNone : IsCountOf P 0 0
  OneMore : (n count : ℕ) → IsCountOf P n count → P n → IsCountOf P (suc n) (suc count)
  NotThis : (n count : ℕ) → IsCountOf P n count → (P n → ⊥) → IsCountOf P (suc n) count

-- a route between the ends of a pair, of so many channels
pub record IsRouteOver (t : Table) (channels : ℕ) : Type 0 where
  pub from : ℕ
  pub to : ℕ
  pub steps : ℕ
  pub joined : joins_of t from to ≡ true
  pub way : IsWay t from to steps
  pub all : channels ≡ steps + 1

-- no route of the first n pairs has more channels, and some route has so many; 0 where there are none
pub record IsLongestOf (t : Table) (n most : ℕ) : Type 0 where
  pub all : (p k : ℕ) → p < n → IsWay t (join_at t p).from (join_at t p).to k → k < most
  pub some : 0 < most → IsRouteOver t most

-- no route has more channels, and some route has so many; 0 where there are no pairs
pub record IsLongestRoute (t : Table) (most : ℕ) : Type 0 where
  pub all : (i j n : ℕ) → joins_of t i j ≡ true → IsWay t i j n → n < most
  pub some : 0 < most → IsRouteOver t most

-- that many channels are the longest route of fixed routes, of which none goes round
abbrev pub IsRouteBound : Table → Travel → Type 0
IsRouteBound t (Bounded most) = IsLongestRoute t most
IsRouteBound t (Round r) = ⊥

-- between all ends that are joined there is a route: of the pairs of an injection and an ejection
-- channel packets go between so many, over so many of the hops, and over so many channels at most, both
-- ends counted
pub record HasTotals (t : Table) (s : Totals) : Type 0 where
  pub arrive : AllArrive t
  pub pairs : s.pairs ≡ pair_count t.joins (channels_of t)
  pub all_pairs : s.all_pairs ≡ count_by injects t.kinds * count_by ejects t.kinds
  pub hops : IsCountOf (IsHopUsed t) (channels_of t) s.hops
  pub all_hops : s.all_hops ≡ count_by is_hop t.kinds
  pub longest : IsRouteBound t s.longest

-- packets come to hop x of a network whose routers choose
abbrev pub IsHopReached : ChoiceTable → ℕ → Flits → ℕ → Type 0
IsHopReached t depth flits x =
    (kind_of (table t) x ≡ Some Hop) × ((j : ℕ) × Comes (network t depth flits) j x)

-- wherever packets come they can go on by an escape: of the pairs of an injection and an ejection channel
-- they go between so many, to so many of the hops, and over so many channels at most, both ends counted, or
-- they can go round
pub record HasChosenTotals (t : ChoiceTable) (s : Totals) : Type 0 where
  pub go_on : (depth : ℕ) (flits : Flits) → HasEscapes (network t depth flits)
  pub pairs : s.pairs ≡ pair_count t.joins (length t.kinds)
  pub all_pairs : s.all_pairs ≡ count_by injects t.kinds * count_by ejects t.kinds
  pub hops : (depth : ℕ) (flits : Flits)
      → IsCountOf (IsHopReached t depth flits) (length t.kinds) s.hops
  pub all_hops : s.all_hops ≡ count_by is_hop t.kinds
  pub longest : (depth : ℕ) (flits : Flits) → IsTravel (network t depth flits) s.longest
