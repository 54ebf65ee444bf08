-- The cases in which packets wait in a channel, and the channels by which they can leave it.
use Rattle.std.specs.Prelude.{◌≡◌, ◌⊎◌, ℕ, ◌+◌, ◌*◌, ◌<◌, ◌≤◌, ◌==◌, Bool, true, false, List, [], length}
use Rattle.std.specs.Prelude.{slice_index}
use Rattle.rising.specs.declared.edge.Edge.{Edge}
use Rattle.network_judge.specs.declared.table.Kind.{Kind}
use Rattle.network_judge.specs.declared.table.Join.{Join}
use Rattle.network_judge.specs.declared.table.Reply.{Reply}
use Rattle.network_judge.specs.Marks.{is_marked_at}
use Rattle.network_adaptive.specs.Spread.{block_base, opens, leads_on, choice_step}
use Rattle.network_adaptive.specs.Flags.{IsEdgeOf, ComesTo}
use Rattle.network_adaptive.specs.Judged.{answers_of}

-- cases are in channels below a number, and so are the channels that edges lead from to cases
pub record AreCases (count : ℕ) (at : List ℕ) (edges : List Edge) : Type 0 where
  pub owners : (c : ℕ) → c < length at → slice_index at c < count
  pub from : (y c : ℕ) → IsEdgeOf edges y c → y < count
  pub to : (y c : ℕ) → IsEdgeOf edges y c → c < length at

-- case c is in channel x, and packets can leave it by these channels
pub record HasCase (at : List ℕ) (edges : List Edge) (x : ℕ) (out : ℕ → Bool) (c : ℕ) : Type 0
  where
    pub low : c < length at
    pub here : slice_index at c ≡ x
    pub only : (y : ℕ) → IsEdgeOf edges y c → out y ≡ true
    pub all : (y : ℕ) → out y ≡ true → IsEdgeOf edges y c

-- cases are added, one or more for each channel and ways out that P holds of, and others are kept
pub record AddsCases (P : ℕ → (ℕ → Bool) → Type 0) (old : List ℕ) (old_edges : List Edge)
    (new : List ℕ) (new_edges : List Edge) : Type 0 where
  pub long : length old ≤ length new
  pub kept : (x : ℕ) (out : ℕ → Bool) (c : ℕ) → HasCase old old_edges x out c
      → HasCase new new_edges x out c
  pub only : (c : ℕ) → length old ≤ c → c < length new
      → (x : ℕ) × (out : ℕ → Bool) × P x out × HasCase new new_edges x out c
  pub all : (x : ℕ) (out : ℕ → Bool) → P x out → (c : ℕ) × HasCase new new_edges x out c

-- a channel whose flag is up, that packets go on from, and the choices there
pub record IsChoiceCase (kinds : List Kind) (choices : List ℕ) (base ways : ℕ) (seen : List Bool)
    (x : ℕ) (out : ℕ → Bool) : Type 0 where
  pub low : x < length kinds
  pub up : is_marked_at seen x ≡ true
  pub leads : leads_on kinds x ≡ true
  pub choice : out ≡ opens (length kinds) choices (base + x * ways) ways []

-- this channel, and one on which packets from it are answered
pub record IsReplyCase (count : ℕ) (replies : List Reply) (from x : ℕ) (out : ℕ → Bool) : Type 0
  where
    pub is : x ≡ from
    pub reply : ℕ
    pub low : reply < count
    pub answered : answers_of replies from reply ≡ true
    pub choice : out ≡ (λ y. y == reply)

-- a channel that packets to channel j come to: with the choices there, or at their end with a channel
-- on which they are answered
abbrev pub IsCaseTo : List Kind → List Join → List Reply → List ℕ → ℕ → List Bool → ℕ → ℕ
    → (ℕ → Bool) → Type 0
IsCaseTo kinds joins replies choices ways none j x out =
    (ComesTo joins (choice_step kinds choices (block_base kinds ways j) ways none) j x)
    × (((x < length kinds) × (leads_on kinds x ≡ true)
    × (out ≡ opens (length kinds) choices (block_base kinds ways j + x * ways) ways []))
    ⊎ ((leads_on kinds j ≡ false) × IsReplyCase (length kinds) replies j x out))

-- that of packets to some channel
abbrev pub IsWaitCase : List Kind → List Join → List Reply → List ℕ → ℕ → List Bool → ℕ
    → (ℕ → Bool) → Type 0
IsWaitCase kinds joins replies choices ways none x out =
    (j : ℕ) × (j < length kinds) × IsCaseTo kinds joins replies choices ways none j x out
