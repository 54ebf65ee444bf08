-- What holds of the network, of tags and of followers in every reached state.
use Rattle.std.proofs.Common.{◌≡◌, ℕ, zero, suc, ◌<◌, arith, List, length, Some, sym, ◌∙◌, subst, slice_get, slice_index_or}
use Rattle.std.proofs.lemmas.List.{length-map}
use Rattle.torus.specs.Shape.{tiles_of}
use Rattle.torus.specs.declared.step.Step.{Step}
use Rattle.script_lines.specs.declared.line.Line.{Line}
use Rattle.one_order.specs.ProcessorRecord.{no_processor}
use Rattle.one_order.specs.Events.{order_after}
use Rattle.tile.specs.Tile.{TileState}
use Rattle.core_laws.specs.Core.{Load, run_of}
use Rattle.core_laws.specs.Runs.{IsAcceptedLoad}
use Rattle.core_laws.specs.Noted.{flight_after, move_after}
use Rattle.core_laws.specs.Pending.{HavePackets, ShowsOperations}
use Rattle.core_laws.proofs.Histories.{state_at, event_at}
use Rattle.core_laws.proofs.EveryRun.{holds_in}
use Rattle.core_laws.proofs.CourseRuns.{is_course}
use Rattle.core_laws.proofs.TagsPending.{have_any, have_first}

module _ (l : Load) (ok : IsAcceptedLoad l) (steps : List Step) where
  -- Who holds a tag has a packet on the way.
  pub have_packets : (n : ℕ) → HavePackets (flight_after l steps n)
  have_packets zero = subst HavePackets (sym (is_course l ok steps 0).start) (have_first (tiles_of l.shape) l.tags l.opening l.scripts)
  have_packets (suc n) =
      let c = is_course l ok steps (suc n) in
      let st = (holds_in l ok steps n).stands in
      let count : length (flight_after l steps n).processors ≡ tiles_of l.shape =
      length-map (state_at l steps n).tiles (λ (t : TileState). t.processor.operations) ∙ st.tiles in
      subst HavePackets (sym (c.each n (let low : n < suc n = omega arith in low)))
      (have_any (tiles_of l.shape) l.tags l.opening (flight_after l steps n) (order_after (event_at l steps) n) (move_after l steps n) count st.flight
      (λ m is. c.found n m (omega arith) is) (have_packets n))

  -- Each follower shows its processor's operations.
  pub shows_operations : (n p : ℕ) (lines : List Line) → slice_get l.scripts p ≡ Some lines
      → ShowsOperations (run_of l steps) n p lines (slice_index_or (flight_after l steps n).processors p no_processor).following
  shows_operations n p lines there = let f = (holds_in l ok steps n).follows p lines there in record { past = f.ops; are = f.are; shows = f.shows }
