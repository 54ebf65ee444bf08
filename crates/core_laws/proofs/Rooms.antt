-- What is issued and served is within what the scripts allow.
use Rattle.std.proofs.Common.{◌≡◌, ℕ, ◌<◌, ◌≤◌, ◌==◌, List, [], length, Some, refl, ap, ◌∙◌, sym, arith, subst, slice_get, eq-eqb}
use Rattle.std.proofs.lemmas.Bool.{cond-true}
use Rattle.std.proofs.lemmas.Option.{get_or_from_slice_get}
use Rattle.torus.specs.Shape.{tiles_of}
use Rattle.torus.specs.declared.step.Step.{Step}
use Rattle.packet.specs.declared.kinds.Operation.{Operation}
use Rattle.packet.specs.declared.kinds.Request.{Request as Asking}
use Rattle.script_lines.specs.declared.line.Line.{Line}
use Rattle.script_lines.specs.Lines.{operation_count, script_of, IsAcceptedScript as IsReadScript}
use Rattle.one_order.specs.Scripts.{IsFollowable}
use Rattle.one_order.specs.Following.{next_operation_of}
use Rattle.one_order.specs.ProcessorRecord.{ProcessorRecord, ready}
use Rattle.one_order.proofs.Shown.{followed, left_after_issue, left_within}
use Rattle.one_order.proofs.Followable.{accepted_followable}
use Rattle.one_order.specs.Observed.{list_at}
use Rattle.one_order.specs.Events.{order_after}
use Rattle.one_order.proofs.Lists.{within_length}
use Rattle.one_order.specs.Flight.{Flight, show, asked_place}
use Rattle.one_order.proofs.Counts.{home_total, asked_remove}
use Rattle.one_order.proofs.Parts.{issued_at, list_at_map}
use Rattle.tile.specs.Tile.{Design}
use Rattle.core_laws.specs.Core.{Load, State, design_of}
use Rattle.core_laws.specs.Runs.{IsAcceptedLoad}
use Rattle.one_order.specs.Room.{home_room}
use Rattle.one_order.proofs.BoundsScripts.{followed_home_within, home_total_within}
use Rattle.core_laws.specs.Noted.{noted}
use Rattle.core_laws.proofs.Networks.{network}
use Rattle.core_laws.proofs.SendFacts.{ready_parts}
use Rattle.core_laws.proofs.ServesFound.{serves_found}
use Rattle.core_laws.proofs.ValuesProper.{record_here}
use Rattle.core_laws.proofs.FlightSteps.{entries_in}
use Rattle.core_laws.proofs.Histories.{state_at, event_at}
use Rattle.core_laws.proofs.Runs.{following_in}
use Rattle.core_laws.proofs.EveryRun.{holds_in}
use Rattle.core_laws.proofs.Stands.{Stands, tile_at, no_tile, flight_of}

module _ (l : Load) (ok : IsAcceptedLoad l) (steps : List Step) (n : ℕ) where
  abbrev d : Design
  d = design_of l

  abbrev s : State
  s = state_at l steps n

  abbrev f : Flight
  f = flight_of d.words s (noted l steps n)

  st : Stands d l.tags l.opening s (noted l steps n) (order_after (event_at l steps) n)
  st = (holds_in l ok steps n).stands

  followable : (p : ℕ) (lines : List Line) → slice_get l.scripts p ≡ Some lines → IsFollowable lines
  followable p lines there =
      accepted_followable (length l.opening) lines
      (subst (IsReadScript (length l.opening)) (get_or_from_slice_get l.scripts p lines [] there) (ok.scripts.each p))

  -- the operations that processors issued to a bank are within the count of their scripts
  homes : (b : ℕ) → home_total (tiles_of l.shape) b (show f).issued ≤ home_room (tiles_of l.shape) b l.scripts
  homes b = home_total_within (tiles_of l.shape) b (show f).issued l.scripts (st.flight.account.shown.processors ∙ sym ok.processors) (λ p lines there.
      let w = (holds_in l ok steps n).follows p lines there in
      followed_home_within (tiles_of l.shape) b lines w.ops (list_at (show f).issued p)
      (followed lines w.ops (following_in s p) (followable p lines there) w.shows) w.are.count (λ i o h. (w.are.each i o h).0))

  -- while a request waits, its bank has room for its entry
  pub bank_room : (t : ℕ) (r : Asking) → (tile_at s t).bank.waiting ≡ Some r → length (tile_at s t).bank.entries < home_room (tiles_of l.shape) t l.scripts
  bank_room t r waits =
      let g = (noted l steps n) in
      let found = serves_found d (network d ok.shape) l.tags l.opening s g (order_after (event_at l steps) n) st t r waits in
      let one = cond-true {A = ℕ} (r.destination == t) 1 0 (eq-eqb r.destination t found.1.0) in
      let gone = asked_remove t g.asked (asked_place g.asked r) r found.0 in
      let counted = st.flight.counted.homes t in
      let here = ap length (list_at_map entries_in no_tile refl s.tiles t) in
      let most = homes t in
      omega (arith, one, gone, counted, here, most)

  -- while an operation is ready, the script has it left
  pub issue_room : (t tag : ℕ) (o : Operation) → t < tiles_of l.shape → ready (tile_at s t).processor.operations ≡ Some (tag, o)
      → length (tile_at s t).processor.operations.issued < operation_count (script_of l.scripts t)
  issue_room t tag o t_in is_ready =
      let parts = ready_parts (tile_at s t).processor.operations tag o is_ready in
      let script = within_length l.scripts t (subst (λ (k : ℕ). t < k) (sym ok.processors) t_in) in
      let w = (holds_in l ok steps n).follows t script.0 script.1 in
      let same = record_here s.tiles t in
      let next : next_operation_of (following_in s t) ≡ Some o = ap (λ (b : ProcessorRecord). next_operation_of b.following) same ∙ parts.0 in
      let falls = left_after_issue script.0 w.ops (following_in s t) (followable t script.0 script.1) w.shows o next in
      let most = left_within script.0 w.ops (following_in s t) (followable t script.0 script.1) w.shows in
      let count = w.are.count in
      let issued = ap length (issued_at f t) ∙ ap (λ (b : ProcessorRecord). length b.issued) same in
      let lines = ap operation_count (get_or_from_slice_get l.scripts t script.0 [] script.1) in
      omega (arith, falls, most, count, issued, lines)
