-- What makes the report of a run a good one.
use Rattle.std.specs.Prelude.{◌≡◌, ℕ, true, Bool, ◌<◌, ◌≤◌, List, Some, None, length, slice_get}
use Rattle.home_bank.specs.declared.entry.Entry.{Entry}
use Rattle.one_order.specs.declared.ordered.Ordered.{Ordered}
use Rattle.one_order.specs.Observed.{Observed, list_at, event_count, HasIssued, HasAnswered, IsOfMachine}
use Rattle.one_order.specs.Consequences.{NameEntries, AnswersAreNumbered, AreEventNumbers, AnswersNameEntries}
use Rattle.one_order.specs.Consequences.{EntryStands, ReplaysByBank, ServesInTurn, AnswersInTurn}

-- What is shown goes with the rows: every entry stands in the home bank of its address, with a
-- processor and a tag of the machine; the entries, taken bank by bank, replay on one memory from
-- the opening words to the last; each answer names an entry; the rows are those of the entries,
-- with the numbers of distinct events; each bank serves each processor in turn, and answers it in
-- that order; and where every script is finished, everything issued is answered (this project's own
-- format).
pub record ShowsWell (tiles tags : ℕ) (opening : List ℕ) (shown : Observed) (finished : Bool)
    (rows : List Ordered) : Type 0 where
  pub sizes : IsOfMachine tiles tags (length opening) shown
  pub stands : (b place : ℕ) (e : Entry) → slice_get (list_at shown.entries b) place ≡ Some e
      → EntryStands tiles tags (length opening) b e
  pub replay : ReplaysByBank opening shown
  pub answers : AnswersNameEntries shown
  pub entries : NameEntries shown rows
  pub answered : AnswersAreNumbered shown rows
  pub numbers : AreEventNumbers (event_count shown) rows
  pub turns : (b p : ℕ) → ServesInTurn tiles shown b p
  pub answer_turns : (b p : ℕ) → AnswersInTurn shown b p
  pub few : length rows ≤ 65536
  pub events : event_count shown ≤ 196608
  pub indexes : (p i : ℕ) → HasIssued shown p i → i < 4096
  pub complete : finished ≡ true → (p i : ℕ) → HasIssued shown p i → HasAnswered shown p i
  pub complete_rows : finished ≡ true → (k : ℕ) (row : Ordered) → slice_get rows k ≡ Some row
      → row.answered ≡ None → ⊥
