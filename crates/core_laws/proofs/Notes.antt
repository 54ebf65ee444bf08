-- What is noted of an enabled attempt after the steps of a run.
use Rattle.std.proofs.Common.{◌≡◌, ℕ, ◌<◌, ◌≤◌, List, length, take, Some, None, subst, arith, slice_get}
use Rattle.std.proofs.lemmas.List.{take_all}
use Rattle.torus.specs.Shape.{tiles_of}
use Rattle.torus.specs.declared.step.Step.{Step}
use Rattle.home_bank.specs.declared.entry.Entry.{Entry}
use Rattle.one_order.specs.declared.answer.Answer.{Answer}
use Rattle.one_order.specs.EventBook.{EventBook, noted_event}
use Rattle.core_laws.specs.Tile.{TileState}
use Rattle.core_laws.specs.Agents.{agent_tile}
use Rattle.core_laws.specs.Core.{Load, State, design_of, step, after, records_of}
use Rattle.core_laws.specs.Runs.{IsAcceptedLoad}
use Rattle.core_laws.specs.Machine.{book_after, event_in}
use Rattle.core_laws.specs.Notes.{FitsLoad, RoomToNoteIssue, RoomToNoteService, RoomToNoteAnswer, IsLevel, RisesByOne, index_served, book_noted}
use Rattle.core_laws.proofs.NotesReached as reached

-- what holds wherever a tile makes an enabled attempt holds of the one of this list of steps
abbrev Noting : Load → (List Step → Step → State → TileState → TileState → Type 0) → List Step → Type 0
Noting l P steps = (attempt : Step) (next : State) → step (design_of l) (after l steps) attempt ≡ Some next
    → (before left : TileState) → slice_get (after l steps).tiles (agent_tile attempt.agent) ≡ Some before
    → slice_get next.tiles (agent_tile attempt.agent) ≡ Some left
    → P steps attempt next before left

at_end : (l : Load) (P : List Step → Step → State → TileState → TileState → Type 0) → ((steps : List Step) (n : ℕ) → Noting l P (take n steps))
    → (steps : List Step) → Noting l P steps
at_end l P h steps = subst (Noting l P) (take_all (length steps) steps (omega arith)) (h steps (length steps))

module _ (l : Load) (ok : IsAcceptedLoad l) where
  -- what holds of the attempt after these steps, which leads to a next state, and of its tile before and after it
  abbrev Told : List Step → Step → State → TileState → TileState → Type 0
  Told steps attempt next before left = (g : EventBook) → book_noted (agent_tile attempt.agent) (records_of next)
      (length before.processor.operations.issued) (length before.processor.operations.answers) (length before.bank.entries) left g
      ≡ noted_event (tiles_of l.shape) g (event_in (design_of l) (after l steps) attempt)

  abbrev HasIssueRoom : List Step → Step → State → TileState → TileState → Type 0
  HasIssueRoom steps attempt next before left = length before.processor.operations.issued < length left.processor.operations.issued
      → RoomToNoteIssue l (book_after l steps) (agent_tile attempt.agent)

  abbrev HasServiceRoom : List Step → Step → State → TileState → TileState → Type 0
  HasServiceRoom steps attempt next before left = (e : Entry) → slice_get left.bank.entries (length before.bank.entries) ≡ Some e
      → RoomToNoteService l (book_after l steps) (agent_tile attempt.agent) e.source (index_served (records_of next) e)

  abbrev HasAnswerRoom : List Step → Step → State → TileState → TileState → Type 0
  HasAnswerRoom steps attempt next before left =
      (a : Answer) → slice_get left.processor.operations.answers (length before.processor.operations.answers) ≡ Some a
      → RoomToNoteAnswer (book_after l steps) a.bank a.place

  abbrev KeepsRecords : List Step → Step → State → TileState → TileState → Type 0
  KeepsRecords steps attempt next before left = (e : Entry) → slice_get left.bank.entries (length before.bank.entries) ≡ Some e
      → records_of next ≡ records_of (after l steps)

  abbrev Rises : List Step → Step → State → TileState → TileState → Type 0
  Rises steps attempt next before left = RisesByOne before left

  abbrev Stays : List Step → Step → State → TileState → TileState → Type 0
  Stays steps attempt next before left = length left.processor.operations.issued ≤ length before.processor.operations.issued
      → slice_get left.processor.operations.answers (length before.processor.operations.answers) ≡ None
      → slice_get left.bank.entries (length before.bank.entries) ≡ None → IsLevel before left

  pub book_fits : (steps : List Step) → FitsLoad l (book_after l steps)
  book_fits steps = subst (λ (xs : List Step). FitsLoad l (book_after l xs)) (take_all (length steps) steps (omega arith))
      (reached.fits l ok steps (length steps))

  pub noted_is : (steps : List Step) → Noting l Told steps
  noted_is = at_end l Told (reached.noted_is l ok)

  pub room_to_issue : (steps : List Step) → Noting l HasIssueRoom steps
  room_to_issue = at_end l HasIssueRoom (reached.room_to_issue l ok)

  pub room_to_serve : (steps : List Step) → Noting l HasServiceRoom steps
  room_to_serve = at_end l HasServiceRoom (reached.room_to_serve l ok)

  pub room_to_answer : (steps : List Step) → Noting l HasAnswerRoom steps
  room_to_answer = at_end l HasAnswerRoom (reached.room_to_answer l ok)

  pub records_left : (steps : List Step) → Noting l KeepsRecords steps
  records_left = at_end l KeepsRecords (reached.records_left l ok)

  pub risen : (steps : List Step) → Noting l Rises steps
  risen = at_end l Rises (reached.risen l ok)

  pub level_left : (steps : List Step) → Noting l Stays steps
  level_left = at_end l Stays (reached.level_left l ok)
