-- What workers do.
use Rattle.std.specs.Prelude.{◌≡◌, ◌⊎◌, ℕ, ◌≤◌, List, [], ◌∷◌, length, slice_get, Option, Some, None}
use Rattle.torus.specs.Shape.{dims_of}
use Rattle.torus.specs.declared.step.Step.{Step}
use Rattle.channel_number.specs.Ports.{port_count}
use Rattle.fabric_rule.specs.Core.{round_at}
use Rattle.fabric_rule.specs.Groups.{Extends}
use Rattle.fabric_rule.specs.Ended.{AreAllFinished}
use Rattle.fabric.specs.Seats.{Knowing, MovesSeats, Idles, IsNotMine, with_run}
use Rattle.fabric.specs.Asking.{HasSeen}
use Rattle.fabric.specs.Lawful.{HasLawfulRun}
use Rattle.worker_run.specs.Places.{IsFirstPlace, ComesAfter}
use Rattle.worker_run.specs.declared.place.Place.{Place}
use Rattle.worker_run.specs.declared.worker.End.{End}
use Rattle.worker_run.specs.declared.worker.End.TheVariants.{Held, Finished, Stopped}

-- what a worker's seat knows, and how it ended
pub record Working : Type 0 where
  pub knows : Knowing
  pub ended : Option End

-- the seat's knowledge only grew
abbrev pub Grew : Knowing → Knowing → Type 0
Grew v w = (w ≡ with_run v w.run) × Extends w.run v.run

-- what one turn makes of a seat: its step moved, or was idle, or was of no tile of the seat, which
-- is then as it was
abbrev pub Turns : Knowing → Step → Knowing → Type 0
Turns v c w = MovesSeats v c w ⊎ Idles v c w ⊎ (IsNotMine v c × (w ≡ v))

-- the step at a place of the rounds, where a router has so many ports (this project's own format)
abbrev pub IsStepAt : ℕ → Place → Step → Type 0
IsStepAt ports p c = slice_get (round_at ports p.tile) p.at ≡ Some c

-- the steps from a place of a seat's rounds on, one a turn, lead the seat from what it knew to what
-- it knows, and to another place
abbrev pub Attempts : ℕ → Knowing → Place → List Step → Knowing → Place → Type 0
Attempts ports v p [] w q = (w ≡ v) × (q ≡ p)
Attempts ports v p (c ∷ more) w q =
    (u : Knowing) × (r : Place) × IsStepAt ports p c × Turns v c u × ComesAfter ports v.tiles p r
    × Attempts ports u r more w q

-- Turns were made in the order of rounds, from a round's start: none if the seat's processors had
-- seen the end; else until they have, or so many are made, or the gate may stop the worker before
-- the step that is next.
pub record HasTurned (stops : Step → Type 0) (turns : ℕ) (v w : Knowing) : Type 0 where
  pub grew : Grew v w
  pub steps : List Step
  pub first : Place
  pub last : Place
  pub start : IsFirstPlace v.tiles first
  pub made : Attempts (port_count (dims_of v.load.shape)) v first steps w last
  pub few : length steps ≤ turns
  pub none : HasSeen v → steps ≡ []
  pub until : HasSeen w ⊎ (length steps ≡ turns)
      ⊎ ((c : Step) × IsStepAt (port_count (dims_of v.load.shape)) last c × stops c)

-- how a worker ended: held back by the gate with its seat as it was; or it made turns, and its
-- processors have seen the end, and every script is finished; or they haven't
abbrev pub EndsAs : Type 0 → (Step → Type 0) → ℕ → Knowing → Option End → Knowing → Type 0
EndsAs holds stops turns v None w = ⊥
EndsAs holds stops turns v (Some Held) w = holds × (w ≡ v)
EndsAs holds stops turns v (Some Finished) w =
    HasTurned stops turns v w × HasSeen w × AreAllFinished w.load w.run
EndsAs holds stops turns v (Some Stopped) w = HasTurned stops turns v w × (HasSeen w → ⊥)

-- what a run makes of a worker: its knowledge only grew, it has an end, and the run that its seat
-- knows is lawful
abbrev pub HasWorked : Type 0 → (Step → Type 0) → ℕ → Working → Working → Type 0
HasWorked holds stops turns v w =
    Grew v.knows w.knows × EndsAs holds stops turns v.knows w.ended w.knows
    × HasLawfulRun w.knows.load w.knows.run
