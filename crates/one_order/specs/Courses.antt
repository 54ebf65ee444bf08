-- Courses of a flight: from where nothing has happened, step by step, each a found move or nothing.
use Rattle.std.specs.Prelude.{◌≡◌, ℕ, suc, ◌<◌, List, [], map, length, replicate, Option, Some, None}
use Rattle.script_lines.specs.declared.line.Line.{Line}
use Rattle.one_order.specs.Following.{first_of}
use Rattle.one_order.specs.Observed.{Run}
use Rattle.one_order.specs.Events.{Event}
use Rattle.one_order.specs.ProcessorRecord.{ProcessorRecord, first_record}
use Rattle.one_order.specs.Flight.{Flight, Move, IsFound, moved_by, show, flight_event}

-- the flight before any step, of so many tiles with so many tags, these opening words and these
-- scripts
abbrev pub first_flight : ℕ → ℕ → List ℕ → List (List Line) → Flight
first_flight tiles tags opening scripts = record {
  processors = map (first_record tags) scripts;
  entries = replicate tiles [];
  memory = opening;
  asked = [];
  told = [];
}

-- the first n steps of a flight: each is a move that finds what it needs, or nothing
pub record IsCourse (tiles tags : ℕ) (opening : List ℕ) (scripts : List (List Line))
    (flight : ℕ → Flight) (move : ℕ → Option Move) (n : ℕ) : Type 0 where
  pub processors : length scripts ≡ tiles
  pub start : flight 0 ≡ first_flight tiles tags opening scripts
  pub each : (k : ℕ) → k < n → flight (suc k) ≡ moved_by tiles (flight k) (move k)
  pub found : (k : ℕ) (m : Move) → k < n → move k ≡ Some m → IsFound (length opening) (flight k) m

-- what is shown after each step
abbrev pub course_run : (ℕ → Flight) → Run
course_run flight k = show (flight k)

-- the event that each step is
abbrev pub events_of : (ℕ → Flight) → (ℕ → Option Move) → ℕ → Event
events_of flight move k = flight_event (flight k) (move k)
