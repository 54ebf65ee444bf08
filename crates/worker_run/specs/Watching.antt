-- What whoever watches workers is told (this project's own format).
use Rattle.std.specs.Prelude.{◌≡◌, ◌⊎◌, ℕ, zero, suc, ◌+◌, List, [], ◌∷◌, ◌++◌, length, Option, Some, None}
use Rattle.torus.specs.Shape.{dims_of}
use Rattle.torus.specs.declared.step.Step.{Step}
use Rattle.channel_number.specs.Ports.{port_count}
use Rattle.fabric.specs.Seats.{Knowing}
use Rattle.worker_run.specs.Calls.{Call, Passed, Ended, HearsOfWorkers}
use Rattle.worker_run.specs.Places.{EndsPass, ComesAfter}
use Rattle.worker_run.specs.Working.{HasTurned, Working}
use Rattle.worker_run.specs.declared.place.Place.{Place}
use Rattle.worker_run.specs.declared.worker.End.{End}
use Rattle.worker_run.specs.declared.worker.End.TheVariants.{Held, Finished, Stopped}

-- these are the calls behind a turn, the how-manyth it is, that leads from a place to the next: one,
-- exactly where a pass is over
abbrev pub AreCallsOfTurn : ℕ → Place → Place → List Call → Type 0
AreCallsOfTurn k p q calls =
    (EndsPass p q × (calls ≡ Passed k ∷ [])) ⊎ ((EndsPass p q → ⊥) × (calls ≡ []))

-- these are the calls behind so many turns over these tiles, one after the other, that lead from a
-- place to another, where a router has so many ports
abbrev pub AreCallsOf : ℕ → List ℕ → ℕ → Place → List Call → Place → Type 0
AreCallsOf ports tiles zero p calls r = (calls ≡ []) × (r ≡ p)
AreCallsOf ports tiles (suc k) p calls r =
    (before : List Call) × (q : Place) × (more : List Call) × AreCallsOf ports tiles k p before q
    × ComesAfter ports tiles q r × AreCallsOfTurn (k + 1) q r more × (calls ≡ before ++ more)

-- so many turns were made of a seat, and these are the calls behind them
pub record AreCallsOfTurns (stops : Step → Type 0) (turns : ℕ) (v w : Knowing) (count : ℕ)
    (calls : List Call) : Type 0 where
  pub turned : HasTurned stops turns v w
  pub made : count ≡ length turned.steps
  pub each : AreCallsOf (port_count (dims_of v.load.shape)) v.tiles count turned.first calls
      turned.last

-- these are all calls of a run for a worker whose seat knows so much before and after it: those
-- behind its turns, and the end, once, with how many turns it made
pub record AreCallsOfRun (stops : Step → Type 0) (turns : ℕ) (v w : Knowing) (calls : List Call)
    : Type 0 where
  pub count : ℕ
  pub before : List Call
  pub turns_made : AreCallsOfTurns stops turns v w count before
  pub ended : calls ≡ before ++ Ended count ∷ []

-- these are all calls of a run for a worker, by how it ended: of one that was held back, the end
-- alone
abbrev pub AreCallsTo : (Step → Type 0) → ℕ → Knowing → Option End → Knowing → List Call → Type 0
AreCallsTo stops turns v None w calls = ⊥
AreCallsTo stops turns v (Some Held) w calls = calls ≡ Ended 0 ∷ []
AreCallsTo stops turns v (Some Finished) w calls = AreCallsOfRun stops turns v w calls
AreCallsTo stops turns v (Some Stopped) w calls = AreCallsOfRun stops turns v w calls

-- a watcher hears the calls behind so many turns, by what it heard before and after
abbrev pub HearsTurns : (Step → Type 0) → ℕ → Knowing → Knowing → ℕ → (List Call → Type 0)
    → (List Call → Type 0) → Type 0
HearsTurns stops turns v w count old new =
    (calls : List Call) × AreCallsOfTurns stops turns v w count calls × HearsOfWorkers old new calls

-- a watcher hears all calls of a run for a worker, by what may be all of them
abbrev pub IsWatched : (List Call → Type 0) → (Step → Type 0) → ℕ → Working → Working → Type 0
IsWatched over stops turns v w =
    (calls : List Call) × AreCallsTo stops turns v.knows w.ended w.knows calls × over calls
