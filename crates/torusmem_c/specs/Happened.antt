-- What happened to the operations that a machine has served, as C sees it (this project's own format).
use Rattle.std.specs.Prelude.{◌≡◌, ◌⊎◌, ℕ, Bool, List, [], ◌∷◌, ◌++◌, Option, Some, None, nat_le, drop, filter}
use Rattle.std.specs.List.{flat_map}
use Rattle.std.specs.List.Sorted.{IsNonDecreasingBy, IsPermutation}
use Rattle.one_order.specs.declared.ordered.Ordered.{Ordered}
use Rattle.core_laws.specs.Machine.{Core}
use Rattle.torusmem_c.specs.declared.events.HappenedRecord.{HappenedRecord}
use Rattle.torusmem_c.specs.declared.outcome.Outcome.{Outcome}
use Rattle.torusmem_c.specs.Orders.{ordered_record}
use Rattle.torusmem_c.specs.Room.{LacksMemory, put_over, put_outcome}

-- an event of a row's operation: its number, and 0 for an issue, 1 for a service, 2 for an answer
abbrev pub happened_record : ℕ → ℕ → Ordered → HappenedRecord
happened_record number what row =
    record { number = number; what = what; operation = ordered_record row }

-- the issue and the service of a row's operation
abbrev pub served_of : Ordered → List HappenedRecord
served_of row = happened_record row.issued 0 row ∷ happened_record row.served 1 row ∷ []

-- its answer, where it has one
abbrev pub answered_of : Ordered → Option ℕ → List HappenedRecord
answered_of row None = []
answered_of row (Some number) = happened_record number 2 row ∷ []

-- what happened to a row's operation
abbrev pub happened_to : Ordered → List HappenedRecord
happened_to row = served_of row ++ answered_of row row.answered

-- it has this number or a higher one
abbrev pub is_since : ℕ → HappenedRecord → Bool
is_since from e = nat_le from e.number

-- these are the events of the rows' operations from a number on, in the order of their numbers
pub record IsHappenedSince (from : ℕ) (rows : List Ordered) (events : List HappenedRecord) : Type 0
  where
    pub all : IsPermutation (filter (is_since from) (flat_map happened_to rows)) events
    pub rising : IsNonDecreasingBy (λ e. e.number) events

-- such events are put into a buffer
pub record PutsHappenedSince (from : ℕ) (rows : List Ordered) (before after : List HappenedRecord)
    (r : Outcome) : Type 0 where
  pub events : List HappenedRecord
  pub are : IsHappenedSince from rows events
  pub buffer : after ≡ put_over events before
  pub answer : r ≡ put_outcome events before

-- those of the machine's book, or memory was refused; and nothing of the machine changes
pub record PutsHappened (from : ℕ) (before after : List HappenedRecord) (old new : Core) (r : Outcome)
    : Type 0 where
  pub same : new ≡ old
  pub put : PutsHappenedSince from old.book.rows before after r ⊎ LacksMemory before after r

-- those of the rows of its order from one on
pub record PutsHappenedFrom (first from : ℕ) (before after : List HappenedRecord) (old new : Core)
    (r : Outcome) : Type 0 where
  pub same : new ≡ old
  pub put : PutsHappenedSince from (drop first old.book.rows) before after r
      ⊎ LacksMemory before after r
