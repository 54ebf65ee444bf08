-- How a worker goes through its turns.
use Rattle.std.specs.Prelude.{◌≡◌, ◌⊎◌, ℕ, ◌+◌, ◌<◌, ◌≤◌, List, length}
use Rattle.torus.specs.declared.step.Step.{Step}
use Rattle.fabric.specs.Seats.{Knowing}
use Rattle.fabric.specs.Asking.{HasSeen}
use Rattle.worker_run.specs.Calls.{Call}
use Rattle.worker_run.specs.Watching.{AreCallsOf}
use Rattle.worker_run.specs.Working.{Attempts, Grew, IsStepAt, Turns}
use Rattle.worker_run.specs.declared.place.Place.{Place}
use Rattle.worker_run.specs.declared.turns.Run.{Run}

abbrev pub at_place : ℕ → ℕ → Place
at_place t a = record { tile = t; at = a }

-- so many turns were made from a first place of a seat's rounds on: they led it from what it knew to
-- what it knows, and to another place, and these are the calls behind them
pub record IsUnderWayTurn (ports made : ℕ) (v w : Knowing) (first last : Place) (calls : List Call)
    : Type 0 where
  pub steps : List Step
  pub count : length steps ≡ made
  pub attempts : Attempts ports v first steps w last
  pub grew : Grew v w
  pub told : AreCallsOf ports v.tiles made first calls last

-- no turn is to come: the seat's processors have seen the end, all turns are made, or the gate may
-- stop the worker before the step that is next
pub record HasEnded (stops : Step → Type 0) (turns ports made : ℕ) (v w : Knowing) (first : Place)
    (calls : List Call) : Type 0 where
  pub last : Place
  pub under_way : IsUnderWayTurn ports made v w first last calls
  pub until : HasSeen w ⊎ (made ≡ turns) ⊎ ((c : Step) × IsStepAt ports last c × stops c)

-- a worker has gone from a first place on, as far as it says: it is at this place, or no turn is to
-- come
abbrev pub IsGoing : (Step → Type 0) → ℕ → ℕ → Knowing → Place → List Call → Run → Knowing → Place
    → Type 0
IsGoing stops turns ports v first calls r w p =
    ((r.made ≤ r.most) × (r.most ≡ turns) × IsUnderWayTurn ports r.made v w first p calls)
    ⊎ ((r.most ≤ r.made) × (r.made ≤ turns) × HasEnded stops turns ports r.made v w first calls)

-- no turn was left: nothing changed
pub record MakesNone (r : Run) (v : Knowing) (s : Run) (w : Knowing) : Type 0 where
  pub none : r.most ≤ r.made
  pub made : s.made ≡ r.made
  pub most : s.most ≡ r.most
  pub same : w ≡ v

-- the gate may stop the worker before the step: no turn is left
pub record IsStopped (stops : Step → Type 0) (r : Run) (v : Knowing) (c : Step) (s : Run)
    (w : Knowing) : Type 0 where
  pub some : r.made < r.most
  pub stopped : stops c
  pub made : s.made ≡ r.made
  pub most : s.most ≡ r.made
  pub same : w ≡ v

-- a turn was made; where no turn is left for another reason than their number, the seat's processors
-- have seen the end
pub record MakesTurn (r : Run) (v : Knowing) (c : Step) (s : Run) (w : Knowing) : Type 0 where
  pub some : r.made < r.most
  pub made : s.made ≡ r.made + 1
  pub turned : Turns v c w
  pub grew : Grew v w
  pub most : (s.most ≡ r.most) ⊎ ((s.most ≡ s.made) × HasSeen w)

-- what comes of a step, by how far the worker is and what its seat knows, before it and after it
pub record Tries (stops : Step → Type 0) (r : Run) (v : Knowing) (c : Step) (s : Run) (w : Knowing)
    : Type 0 where
  pub outcome : MakesNone r v s w ⊎ IsStopped stops r v c s w ⊎ MakesTurn r v c s w

-- the worker is led from one place of its rounds to another, or to its last turn
pub record LeadsSeats (stops : Step → Type 0) (ports : ℕ) (r : Run) (v : Knowing) (p : Place) (s : Run)
    (w : Knowing) (q : Place) : Type 0 where
  pub later : r.made ≤ s.made
  pub goes : (turns : ℕ) (u : Knowing) (first : Place) (calls : List Call)
      → IsGoing stops turns ports u first calls r v p
      → IsGoing stops turns ports u first calls s w q
