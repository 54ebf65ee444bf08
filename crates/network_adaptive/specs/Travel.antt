-- How far packets can go in a network whose routers choose.
use Rattle.std.specs.Prelude.{◌≡◌, ℕ, ◌+◌, ◌*◌, ◌<◌, ◌≤◌, ◌&&◌, nat_lt, Bool, true, List, length, slice_index}
use Rattle.rising.specs.Graph.{Digraph}
use Rattle.network_judge.specs.declared.table.Kind.{Kind}
use Rattle.network_judge.specs.declared.table.Join.{Join}
use Rattle.network_judge.specs.Marks.{is_marked_at}
use Rattle.network_adaptive.specs.Choices.{AdaptiveNet, Comes, IsChoice}
use Rattle.network_adaptive.specs.Work.{AreNearer}
use Rattle.network_adaptive.specs.declared.verdict.Travel.{Travel}
use Rattle.network_adaptive.specs.declared.verdict.Travel.TheVariants.{Bounded, Round}
use Rattle.network_adaptive.specs.Spread.{block_base, Path, leads_on, choice_step}
use Rattle.network_adaptive.specs.Flags.{ComesTo}
use Rattle.network_adaptive.specs.Longest.{IsLongestWay, IsMostPassed}

-- choices for packets to ejection channel j lead from channel x to a channel, over so many as one
-- likes
pub data ChoicesLead (n : AdaptiveNet) (j x : ℕ) : ℕ → Type 0 where
  Here : ChoicesLead n j x x
  Onto : (y z : ℕ) → ChoicesLead n j x y → IsChoice n j y z → ChoicesLead n j x z

-- packets to ejection channel j come to channel x, and choices lead them on from it and back (Dally
-- and Towles, chapter 14: livelock is possible)
pub record CanGoRound (n : AdaptiveNet) (j x : ℕ) : Type 0 where
  pub comes : Comes n j x
  pub last : ℕ
  pub way : ChoicesLead n j x last
  pub back : IsChoice n j last x

-- each choice brings packets nearer, from no farther than there are channels, and packets go over so
-- many at most; or packets can go round
abbrev pub IsTravel : AdaptiveNet → Travel → Type 0
IsTravel n (Bounded most) =
    ((far : ℕ → ℕ → ℕ) × AreNearer n far × ((x j : ℕ) → far x j ≤ n.frame.channels))
    × IsLongestWay n most
IsTravel n (Round r) = CanGoRound n r.to r.at

-- the choice behind channel x at a place, of those that begin at `base`
abbrev pub chosen_at : List ℕ → ℕ → ℕ → ℕ → ℕ → ℕ
chosen_at choices base ways x place = slice_index choices (base + x * ways + place)

-- whether packets come to channel x, where a flag is up, and go on from it
abbrev pub is_left : List Kind → List Bool → ℕ → Bool
is_left kinds seen x = is_marked_at seen x && leads_on kinds x

-- whether packets that come where a flag is up go on so
abbrev pub is_taken : List Kind → List ℕ → ℕ → ℕ → List Bool → ℕ → ℕ → Bool
is_taken kinds choices base ways seen x place =
    is_marked_at seen x
    && (leads_on kinds x && nat_lt (chosen_at choices base ways x place) (length kinds))

-- the graph of these choices
abbrev pub choice_graph : List Kind → List ℕ → ℕ → ℕ → List Bool → Digraph
choice_graph kinds choices base ways seen = record {
  nodes = length kinds;
  columns = ways;
  leads = is_taken kinds choices base ways seen;
  after = chosen_at choices base ways;
}

-- the steps of packets to channel j
abbrev pub step_to : List Kind → List ℕ → ℕ → List Bool → ℕ → ℕ → ℕ → Bool
step_to kinds choices ways none j =
    choice_step kinds choices (block_base kinds ways j) ways none

-- numbers below the number of channels rise over each step of packets to channel j
pub record HasNumbersTo (kinds : List Kind) (joins : List Join) (choices : List ℕ) (ways : ℕ)
    (none : List Bool) (j : ℕ) : Type 0 where
  pub number : ℕ → ℕ
  pub low : (x : ℕ) → x < length kinds → number x < length kinds
  pub up : (x y : ℕ) → ComesTo joins (step_to kinds choices ways none j) j x
      → step_to kinds choices ways none j x y ≡ true → number x < number y

-- packets to channel j come to channel x, and steps lead on from it and back
pub record GoesRoundAt (kinds : List Kind) (joins : List Join) (choices : List ℕ) (ways : ℕ)
    (none : List Bool) (j x : ℕ) : Type 0 where
  pub comes : ComesTo joins (step_to kinds choices ways none j) j x
  pub last : ℕ
  pub way : Path (step_to kinds choices ways none j) x last
  pub back : step_to kinds choices ways none j last x ≡ true

-- how far packets travel, by steps over lists: numbers rise over each step, and packets go over so
-- many channels at most; or packets can go round
abbrev pub IsTravelOf : List Kind → List Join → List ℕ → ℕ → List Bool → Travel → Type 0
IsTravelOf kinds joins choices ways none (Bounded most) =
    ((j : ℕ) → j < length kinds → HasNumbersTo kinds joins choices ways none j)
    × IsMostPassed joins (step_to kinds choices ways none) (length kinds) most
IsTravelOf kinds joins choices ways none (Round r) =
    GoesRoundAt kinds joins choices ways none r.to r.at
