-- The traces of runs, and the orders of the models that they have.
use Rattle.std.proofs.Common.{true, ◌≡◌, inr, ℕ, ◌<◌, List, [], length, Some, sym, ◌∙◌, ap, arith, slice_get}
use Rattle.std.proofs.lemmas.Option.{same_Some, slice_get_within}
use Rattle.torus.specs.Shape.{tiles_of}
use Rattle.torus.specs.declared.step.Step.{Step}
use Rattle.memory_models.specs.declared.kinds.Operation.{Operation}
use Rattle.memory_models.specs.Trace.{IsMemoryTrace, uses_word}
use Rattle.memory_models.specs.Order.{IsMemoryOrder}
use Rattle.memory_models.specs.Models.{coherent, fenced}
use Rattle.memory_models.specs.Machines.{IsSequential}
use Rattle.memory_models.proofs.Sequential.{order_is_sequential}
use Rattle.one_order.specs.declared.ordered.Ordered.{Ordered}
use Rattle.one_order.specs.Observed.{list_at}
use Rattle.one_order.proofs.Lists.{list_within}
use Rattle.core_laws.specs.Core.{Load, run_of}
use Rattle.core_laws.specs.Runs.{IsAcceptedLoad}
use Rattle.core_laws.specs.Machine.{IsLawful}
use Rattle.core_models.specs.Accesses.{Access, access_by, operation_of_row}
use Rattle.core_models.specs.Traces.{access_at, found_at, IsLastWriteBefore, IsLastWriteInTurn}
use Rattle.core_models.specs.Values.{RepliesWordOf}
use Rattle.core_models.specs.Runs.{accesses_of_run, IsTraceOfRun, AreFencedApart, IsAccessOfRow, RepliesInTurn}
use Rattle.core_models.proofs.Rising.{place_of}
use Rattle.core_models.proofs.Turns.{turn_of}
use Rattle.core_models.proofs.Services.{AreServed, AreInTurn}
use Rattle.core_models.proofs.Orders.{trace_is, fenced_order, coherent_order, sequential_order}
use Rattle.core_models.proofs.Rows.{point, row_operation, served_some}
use Rattle.core_models.proofs.Served.{at_access, op_uses_word}
use Rattle.core_models.proofs.Known.{are_served, are_in_turn, has_row}
use Rattle.core_models.proofs.Built.{built}
use Rattle.core_models.proofs.Found.{is_found, in_turn}
use Rattle.core_models.proofs.Replied.{found_left}
use Rattle.core_models.proofs.Apart.{apart_turns}
use Rattle.core_models.proofs.OneTag.{one_tag_turns}

module _ (l : Load) (steps : List Step) (rows : List Ordered) (ok : IsAcceptedLoad l) (lawful : IsLawful l steps rows) where
  served : AreServed (length l.opening) (accesses_of_run l steps rows)
  served = are_served (tiles_of l.shape) l.tags l.opening (run_of l steps) (length steps) rows lawful.order l.scripts lawful.scripts ok.size.0

  pub trace_there : (ops : List Operation) × (writes : List ℕ) × IsTraceOfRun l steps rows ops writes
  trace_there = built (length l.opening) (accesses_of_run l steps rows) served

  pub none_left_out : (k : ℕ) (row : Ordered) → slice_get rows k ≡ Some row
      → (x : ℕ) × IsAccessOfRow l steps rows row x
  none_left_out k row at =
      let issued = row_operation (tiles_of l.shape) l.tags l.opening (run_of l steps) (length steps) rows lawful.order k row at in
      let within = list_within (run_of l steps (length steps)).issued row.source row.index
      (point (tiles_of l.shape) l.tags l.opening (run_of l steps) (length steps) rows lawful.order k row at).point.operation issued in
      let tiles = lawful.order.shown.processors in
      let scripts = ok.processors in
      place_of (accesses_of_run l steps rows) (access_by (length l.opening) (run_of l steps (length steps)) rows row)
      (has_row (tiles_of l.shape) l.tags l.opening (run_of l steps) (length steps) rows lawful.order l.scripts lawful.scripts k row at
      (omega (arith, within, tiles, scripts)))

  module _ (ops : List Operation) (writes : List ℕ) (t : IsTraceOfRun l steps rows ops writes) where
    pub is_trace : IsMemoryTrace (length l.opening) ops writes
    is_trace = trace_is (length l.opening) (accesses_of_run l steps rows) ops writes served t

    pub is_coherent : (turn : ℕ → ℕ) × IsMemoryOrder coherent ops writes turn
    is_coherent = (turn_of (accesses_of_run l steps rows), coherent_order (length l.opening) (accesses_of_run l steps rows) ops writes served t)

    pub is_fenced : (turn : ℕ → ℕ) × IsMemoryOrder fenced ops writes turn
    is_fenced = (turn_of (accesses_of_run l steps rows), fenced_order (length l.opening) (accesses_of_run l steps rows) ops writes served t)

    -- the access of a row uses a word, and is served
    module _ (x k : ℕ) (row : Ordered) (at : slice_get rows k ≡ Some row) (here : IsAccessOfRow l steps rows row x) where
      low : x < length (accesses_of_run l steps rows)
      low = slice_get_within (accesses_of_run l steps rows) x (access_by (length l.opening) (run_of l steps (length steps)) rows row) here

      is_row : access_at (accesses_of_run l steps rows) x ≡ access_by (length l.opening) (run_of l steps (length steps)) rows row
      is_row = same_Some (access_at (accesses_of_run l steps rows) x) (access_by (length l.opening) (run_of l steps (length steps)) rows row)
          (sym (at_access (accesses_of_run l steps rows) x low) ∙ here)

      used : uses_word (access_at (accesses_of_run l steps rows) x).kind ≡ true
      used = ap (λ (a : Access). uses_word a.kind) is_row ∙ op_uses_word (operation_of_row (run_of l steps (length steps)) row).op

      late : 0 < (access_at (accesses_of_run l steps rows) x).served
      late =
          let is : (access_at (accesses_of_run l steps rows) x).served ≡ row.served = ap (λ (a : Access). a.served) is_row in
          let some = served_some (tiles_of l.shape) l.tags l.opening (run_of l steps) (length steps) rows lawful.order k row at in
          omega (arith, is, some)

      pub found_before : IsLastWriteBefore (accesses_of_run l steps rows) (found_at ops writes x) x
      found_before = is_found (length l.opening) (accesses_of_run l steps rows) ops writes served t x low used late

      pub replied_found : RepliesWordOf l.opening (run_of l steps (length steps)) rows (access_at (accesses_of_run l steps rows) (found_at ops writes x)) row
      replied_found = found_left (tiles_of l.shape) l.tags l.opening (run_of l steps)
          (length steps) rows lawful.order l.scripts lawful.scripts
          ok.processors x k row here at (found_at ops writes x) found_before

      found_in_turn : IsLastWriteInTurn (accesses_of_run l steps rows) (turn_of (accesses_of_run l steps rows)) (found_at ops writes x) x
      found_in_turn = in_turn (length l.opening) (accesses_of_run l steps rows) ops writes served t (found_at ops writes x) x low used found_before

    pub replies_in_turn : RepliesInTurn l steps rows (turn_of (accesses_of_run l steps rows))
    replies_in_turn x k row at here = (found_at ops writes x, found_in_turn x k row at here, replied_found x k row at here)

    in_one_order : AreInTurn (accesses_of_run l steps rows) → (turn : ℕ → ℕ) × IsSequential ops writes turn × RepliesInTurn l steps rows turn
    in_one_order turns = (
      turn_of (accesses_of_run l steps rows),
      order_is_sequential (length l.opening) ops writes (turn_of (accesses_of_run l steps rows)) is_trace
          (sequential_order (length l.opening) (accesses_of_run l steps rows) ops writes served t turns),
      replies_in_turn,
    )

    pub sequential_by_fences : AreFencedApart l.scripts → (turn : ℕ → ℕ) × IsSequential ops writes turn × RepliesInTurn l steps rows turn
    sequential_by_fences apart = in_one_order
        (are_in_turn (tiles_of l.shape) l.tags l.opening (run_of l steps) (length steps) rows lawful.order l.scripts lawful.scripts
        (λ p low i o q at next. apart_turns (list_at l.scripts p) (apart p) [] (lawful.scripts.each p low).ops (lawful.scripts.each p low).follows
        (inr (λ j x y end here there. absurd (omega (arith, end)))) i o q (omega arith) at next))

    pub sequential_by_one_tag : l.tags ≡ 1 → (turn : ℕ → ℕ) × IsSequential ops writes turn × RepliesInTurn l steps rows turn
    sequential_by_one_tag one = in_one_order
        (are_in_turn (tiles_of l.shape) l.tags l.opening (run_of l steps) (length steps) rows lawful.order l.scripts lawful.scripts
        (λ p low. one_tag_turns l ok one steps rows lawful.order p low (lawful.scripts.each p low).ops (lawful.scripts.each p low).are))
