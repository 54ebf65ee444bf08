-- Channels that are struck out, one after the other, once packets can leave them in each case.
use Rattle.std.specs.Prelude.{◌≡◌, ◌≢◌, ℕ, ◌+◌, ◌-◌, ◌<◌, ◌≤◌, ◌==◌, not, List, [], ◌∷◌, ◌++◌, length}
use Rattle.std.specs.Prelude.{slice_index, count_by, set}
use Rattle.rising.specs.declared.edge.Edge.{Edge}
use Rattle.network_adaptive.specs.Flags.{IsEdgeOf}

-- how many numbers of a list are this one
abbrev pub times : ℕ → List ℕ → ℕ
times x = count_by (λ o. o == x)

-- how many aren't 0
abbrev pub not_zero : List ℕ → ℕ
not_zero = count_by (λ l. not (l == 0))

-- how often each number below a bound stands in a list
pub record AreCounts (count : ℕ) (list counts : List ℕ) : Type 0 where
  pub size : length counts ≡ count
  pub each : (x : ℕ) → x < count → slice_index counts x ≡ times x list

-- the places of a list where 0 stands
pub record AreZeros (left order : List ℕ) : Type 0 where
  pub zero : (k : ℕ) → k < length order → slice_index left (slice_index order k) ≡ 0
  pub low : (k : ℕ) → k < length order → slice_index order k < length left
  pub all : (x : ℕ) → x < length left → slice_index left x ≡ 0
      → (k : ℕ) × (k < length order) × (slice_index order k ≡ x)

-- a way out of case c leads from a channel of the order before place m
pub record LeavesBefore (edges : List Edge) (order : List ℕ) (m c : ℕ) : Type 0 where
  pub place : ℕ
  pub low : place < m
  pub edge : IsEdgeOf edges (slice_index order place) c

-- so far some channels are struck out, in this order, of which so many are looked at: the cases that
-- packets can leave by them are closed, and have the channel `count` in the list of open ones; how
-- many are open in each channel is counted, and a channel without an open case is struck out
pub record IsPeeling (count : ℕ) (at : List ℕ) (edges : List Edge) (looked : ℕ)
    (opened left order : List ℕ) : Type 0 where
  pub size : length opened ≡ length at
  pub counts : AreCounts count opened left
  pub same : (c : ℕ) → c < length at → slice_index opened c ≢ count
      → slice_index opened c ≡ slice_index at c
  pub closed : (c : ℕ) → c < length at → slice_index opened c ≡ count
      → LeavesBefore edges order looked c
  pub zeros : AreZeros left order
  pub before : (k c : ℕ) → k < length order → c < length at
      → slice_index at c ≡ slice_index order k → LeavesBefore edges order k c
  pub inside : looked ≤ length order
  pub few : not_zero left + length order ≤ count

-- the cases that packets can leave by the first channels of the order are closed
abbrev pub AreClosedBy : ℕ → List ℕ → List Edge → ℕ → List ℕ → List ℕ → Type 0
AreClosedBy count at edges looked opened order = (k c : ℕ) → k < looked
    → IsEdgeOf edges (slice_index order k) c → slice_index opened c ≡ count

-- one case is closed: its channel has one open case less, and is struck out with its last one
pub record ClosesCase (count c : ℕ) (opened left order opened_after left_after order_after : List ℕ)
    : Type 0 where
  pub is_closed : opened_after ≡ set opened c count
  pub is_counted : slice_index opened c ≢ count
      → left_after ≡ set left (slice_index opened c) (slice_index left (slice_index opened c) - 1)
  pub unchanged : slice_index opened c ≡ count → (left_after ≡ left) × (order_after ≡ order)
  pub last : slice_index opened c ≢ count → slice_index left (slice_index opened c) ≡ 1
      → order_after ≡ order ++ slice_index opened c ∷ []
  pub more : slice_index opened c ≢ count → slice_index left (slice_index opened c) ≢ 1
      → order_after ≡ order

-- channels are struck out that packets can leave in each case by channels struck out before; each
-- other one has a case in which none of them helps
pub record IsPeeled (count : ℕ) (at : List ℕ) (edges : List Edge) (left order : List ℕ) : Type 0
  where
    pub size : length left ≡ count
    pub zeros : AreZeros left order
    pub few : length order ≤ count
    pub before : (k c : ℕ) → k < length order → c < length at
        → slice_index at c ≡ slice_index order k → LeavesBefore edges order k c
    pub stuck : (x : ℕ) → x < count → slice_index left x ≢ 0
        → (c : ℕ) × (c < length at) × (slice_index at c ≡ x)
        × ((y : ℕ) → y < count → IsEdgeOf edges y c → slice_index left y ≢ 0)
