-- Every run from an accepted load is a course of flights, and each of its steps an event of the network.
use Rattle.std.proofs.Common.{◌≡◌, ℕ, suc, List, [], ◌∷◌, map, length, IfSome, refl, ◌∙◌, ap, slice_get}
use Rattle.torus.specs.Shape.{tiles_of, dims_of}
use Rattle.torus.specs.declared.step.Step.{Step}
use Rattle.script_lines.specs.declared.line.Line.{Line}
use Rattle.one_order.specs.Observed.{Observed}
use Rattle.one_order.specs.Events.{order_after}
use Rattle.wormhole.specs.Events.{CanHappen}
use Rattle.one_order.specs.ProcessorRecord.{ProcessorRecord}
use Rattle.one_order.specs.Flight.{moved_by}
use Rattle.one_order.specs.ProcessorRecord.{first_record}
use Rattle.one_order.specs.Courses.{IsCourse, first_flight}
use Rattle.tile.specs.Tile.{Design}
use Rattle.core_laws.specs.Core.{Load, State, design_of, first_tile, first_state}
use Rattle.core_laws.specs.Runs.{IsAcceptedLoad}
use Rattle.core_laws.specs.Network.{net_of}
use Rattle.core_laws.specs.Noted.{noted, event_by as network_by, flight_of, flight_after, move_after}
use Rattle.core_laws.proofs.Histories.{state_at, after_more, event_at}
use Rattle.core_laws.proofs.Begins.{first_shown}
use Rattle.core_laws.proofs.FlightSteps.{record_in}
use Rattle.core_laws.proofs.Runs.{Goes, goes}
use Rattle.core_laws.proofs.EveryRun.{holds_in, quiet}

records_first : (dims tags : ℕ) (scripts : List (List Line)) → map record_in (map (first_tile dims tags) scripts) ≡ map (first_record tags) scripts
records_first dims tags [] = refl
records_first dims tags (lines ∷ scripts) = ap (λ (bs : List ProcessorRecord). first_record tags lines ∷ bs) (records_first dims tags scripts)

module _ (l : Load) (ok : IsAcceptedLoad l) (steps : List Step) where
  abbrev d : Design
  d = design_of l

  starts : flight_after l steps 0 ≡ first_flight (tiles_of l.shape) l.tags l.opening l.scripts
  starts =
      let shown = first_shown l ok.depth.0 ok.processors in
      ap (λ (bs : List ProcessorRecord).
      record { processors = bs; entries = (flight_after l steps 0).entries; memory = (flight_after l steps 0).memory; asked = []; told = [] })
      (records_first (dims_of l.shape) l.tags l.scripts)
      ∙ ap (λ (o : Observed). record { processors = map (first_record l.tags) l.scripts; entries = o.entries; memory = o.memory; asked = []; told = [] }) shown

  pub go : (k : ℕ) → Goes l k (state_at l steps k) (noted l steps k) (order_after (event_at l steps) k) (slice_get steps k)
  go k = goes l ok (quiet l ok) k (state_at l steps k) (noted l steps k) (order_after (event_at l steps) k) (holds_in l ok steps k).stands
      (holds_in l ok steps k).values (slice_get steps k)

  moves : (k : ℕ) → flight_after l steps (suc k) ≡ moved_by (tiles_of l.shape) (flight_after l steps k) (move_after l steps k)
  moves k = ap (λ (s : State). flight_of (length l.opening) s (noted l steps (suc k))) (after_more d steps (first_state l) k) ∙ (go k).flight

  -- the event of the network of each step may happen
  pub can_happen : (k : ℕ) → IfSome (network_by l (state_at l steps k) (slice_get steps k)) (CanHappen (net_of d) (noted l steps k).net.lines)
  can_happen k = (go k).can

  -- the flights of the run are a course
  pub is_course : (n : ℕ) → IsCourse (tiles_of l.shape) l.tags l.opening l.scripts (flight_after l steps) (move_after l steps) n
  is_course n = record {
    processors = ok.processors;
    start = starts;
    each = λ k below. moves k;
    found = λ k m below is. (go k).finds m is;
  }
