-- The rows of an order, with the numbers of the events.
use Rattle.std.specs.Prelude.{◌≡◌, ℕ, ◌≤◌, List, Option, Some, None, length, take, slice_get}
use Rattle.one_order.specs.declared.ordered.Ordered.{Ordered}
use Rattle.one_order.specs.Observed.{Observed, Run, list_at, HasAnswered, IsIssuedAt, IsAnsweredAt, event_count}
use Rattle.one_order.specs.Order.{LinearizationPoint, home, count_at}

-- the number of the issue of p's operation i: how many events had happened with it (this project's
-- own format)
abbrev pub IsIssueNumber : Run → ℕ → ℕ → ℕ → Type 0
IsIssueNumber run p i m = (t : ℕ) × IsIssuedAt run p i t × (m ≡ event_count (run t))

-- the number of its answer in the first n steps: None where it has none (this project's own format)
abbrev pub IsAnswerNumber : Run → ℕ → ℕ → ℕ → Option ℕ → Type 0
IsAnswerNumber run n p i None = HasAnswered (run n) p i → ⊥
IsAnswerNumber run n p i (Some m) =
    (t : ℕ) × (t ≤ n) × IsAnsweredAt run p i t × (m ≡ event_count (run t))

-- the numbers of each processor's issues, in their order (this project's own format)
pub record AreIssueNumbers (run : Run) (n : ℕ) (numbers : List (List ℕ)) : Type 0 where
  pub processors : length numbers ≡ length (run n).issued
  pub count : (p : ℕ) → length (list_at numbers p) ≡ length (list_at (run n).issued p)
  pub each : (p i m : ℕ) → slice_get (list_at numbers p) i ≡ Some m → IsIssueNumber run p i m

-- the row of the k-th of the order: its operation, its service, and the numbers of its events (this
-- project's own format)
pub record IsRowOf (tiles : ℕ) (run : Run) (n : ℕ) (order : List LinearizationPoint) (k : ℕ)
    (x : LinearizationPoint) (row : Ordered) : Type 0 where
  pub source : row.source ≡ x.source
  pub index : row.index ≡ x.index
  pub bank : row.bank ≡ home tiles x.operation
  pub place : row.place ≡ count_at tiles (home tiles x.operation) (take k order)
  pub issued : IsIssueNumber run x.source x.index row.issued
  pub served : row.served ≡ event_count (run x.step)
  pub answered : IsAnswerNumber run n x.source x.index row.answered

-- the rows of an order: one for each operation of it, in the order (this project's own format)
pub record AreRowsOf (tiles : ℕ) (run : Run) (n : ℕ) (order : List LinearizationPoint)
    (rows : List Ordered) : Type 0 where
  pub count : length rows ≡ length order
  pub each : (k : ℕ) (x : LinearizationPoint) (row : Ordered) → slice_get order k ≡ Some x
      → slice_get rows k ≡ Some row
      → IsRowOf tiles run n order k x row

-- for each bank, which row each of its services has: the rows by bank and place (this project's own
-- format)
pub record ArePositions (s : Observed) (rows : List Ordered) (positions : List (List ℕ)) : Type 0
  where
    pub banks : length positions ≡ length s.entries
    pub count : (b : ℕ) → length (list_at positions b) ≡ length (list_at s.entries b)
    pub each : (b place k : ℕ) → slice_get (list_at positions b) place ≡ Some k
        → (row : Ordered) × (slice_get rows k ≡ Some row) × (row.bank ≡ b) × (row.place ≡ place)

-- a row goes on as another: the same service of the same operation, with the numbers that it had;
-- the number of its answer may have come since (this project's own format)
pub record GoesOn (row later : Ordered) : Type 0 where
  pub bank : later.bank ≡ row.bank
  pub place : later.place ≡ row.place
  pub source : later.source ≡ row.source
  pub index : later.index ≡ row.index
  pub issued : later.issued ≡ row.issued
  pub served : later.served ≡ row.served
  pub answered : (m : ℕ) → row.answered ≡ Some m → later.answered ≡ Some m

-- the first rows of a longer run: each stands where it stood, and goes on (this project's own
-- format)
pub record BeginRows (rows later : List Ordered) : Type 0 where
  pub each : (k : ℕ) (row : Ordered) → slice_get rows k ≡ Some row
      → (now : Ordered) × (slice_get later k ≡ Some now) × GoesOn row now
