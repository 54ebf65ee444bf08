-- What is shown only grows.
use Rattle.std.specs.Prelude.{◌≡◌, ℕ, suc, ◌<◌, ◌≤◌, List, Some, slice_get}
use Rattle.packet.specs.declared.kinds.Operation.{Operation}
use Rattle.home_bank.specs.declared.entry.Entry.{Entry}
use Rattle.one_order.specs.declared.answer.Answer.{Answer}
use Rattle.one_order.specs.Observed.{Run, list_at, total, event_count}

-- In its first n steps what a run shows only grows (this project's own format): nothing has
-- happened at the start, and the words are the opening ones; what is shown stays; a step makes one
-- event at most; the words stay unless a bank makes a service.
pub record OnlyGrows (opening : List ℕ) (run : Run) (n : ℕ) : Type 0 where
  pub empty : event_count (run 0) ≡ 0
  pub words : (run 0).memory ≡ opening
  pub issues_stay : (k p i : ℕ) (o : Operation) → k < n
      → slice_get (list_at (run k).issued p) i ≡ Some o
      → slice_get (list_at (run (suc k)).issued p) i ≡ Some o
  pub answers_stay : (k p i : ℕ) (a : Answer) → k < n
      → slice_get (list_at (run k).answers p) i ≡ Some a
      → slice_get (list_at (run (suc k)).answers p) i ≡ Some a
  pub entries_stay : (k b place : ℕ) (e : Entry) → k < n
      → slice_get (list_at (run k).entries b) place ≡ Some e
      → slice_get (list_at (run (suc k)).entries b) place ≡ Some e
  pub one : (k : ℕ) → k < n → event_count (run (suc k)) ≤ suc (event_count (run k))
  pub words_stay : (k : ℕ) → k < n → total (run (suc k)).entries ≡ total (run k).entries
      → (run (suc k)).memory ≡ (run k).memory
