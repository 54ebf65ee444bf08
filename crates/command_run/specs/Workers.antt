-- What two texts ask for that workers run in threads, and what is printed of it (this project's own
-- format).
use Rattle.std.specs.Prelude.{◌≡◌, ℕ, ◌+◌, ◌-◌, ◌*◌, ◌/◌, ◌<◌, min, List, [], ◌∷◌, length, Bool, None, Result, Ok}
use Rattle.std.specs.Prelude.{IsTrue, ◌↔◌}
use Rattle.torus.specs.Shape.{tiles_of}
use Rattle.torus.specs.declared.step.Step.{Step}
use Rattle.lexer.specs.declared.fault.LineFault.{LineFault}
use Rattle.one_order.specs.Load.{Load}
use Rattle.one_order.specs.AbstractScripts.{AreFinished}
use Rattle.core_laws.specs.Core.{after, run_of}
use Rattle.core_laws.specs.Machine.{IsLawful, all_finished, book_after, core_after_load}
use Rattle.history.specs.Ended.{AreAllFinished}
use Rattle.history.specs.Groups.{GroupGoesOn, Owns}
use Rattle.history.specs.Ending.{Ended}
use Rattle.history.specs.Key.{count_up}
use Rattle.history.specs.Seats.{Knowing}
use Rattle.worker_run.specs.Working.{HasTurned, Working}
use Rattle.report_lines.specs.Line.{text_of}
use Rattle.report_check.specs.Good.{GoodReport}
use Rattle.history.specs.RunReport.{run_report}
use Rattle.program_fault.specs.declared.fault.ProgramFault.{ProgramFault}
use Rattle.program_fault.specs.Done.{Does, Output}
use Rattle.program_fault.specs.Outcome.{IsTextsFault}

-- the first tile of worker j, where so many workers share n tiles (this project's own format)
abbrev pub first_held : ℕ → ℕ → ℕ → ℕ
first_held n workers j = j * n / workers

-- the tiles of worker j: from its first one on, up to that of the next
abbrev pub tiles_of_worker : ℕ → ℕ → ℕ → List ℕ
tiles_of_worker n workers j = count_up (first_held n workers j)
    (first_held n workers (j + 1) - first_held n workers j)

-- how many workers there are, where so many are asked for: no more than there are tiles
abbrev pub crew : ℕ → Load → ℕ
crew workers load = min workers (tiles_of load.shape)

-- a worker with this seat, that hasn't run
abbrev pub new_worker : Knowing → Working
new_worker k = record { knows = k; ended = None }

-- a gate holds back no worker, and stops none ahead of any step
pub record LetsAll (holds : ℕ → Type 0) (stops : ℕ → Step → Type 0) : Type 0 where
  pub begin : (worker : ℕ) → holds worker → ⊥
  pub go_on : (worker : ℕ) (step : Step) → stops worker step → ⊥

-- all tiles of a seat are another's, whose run goes on from the seat's by steps of other tiles
abbrev pub IsTakenIn : Knowing → Knowing → Type 0
IsTakenIn k whole = ((t : ℕ) → Owns k.tiles t → Owns whole.tiles t)
    × GroupGoesOn (k.tiles ∷ []) whole.run k.run

-- A worker did its part of a run: with its tiles it made turns from the empty run on, in the order
-- of rounds, until its processors had seen the end or it had made all its turns, and all of them
-- where a script isn't finished after the run. The run goes on from what the worker knew then by
-- steps of other tiles.
pub record HasDonePart (load : Load) (turns : ℕ) (tiles : List ℕ) (run : List Step) : Type 0 where
  pub first : Knowing
  pub last : Knowing
  pub loaded : first.load ≡ load
  pub empty : first.run ≡ []
  pub holds : first.tiles ≡ tiles
  pub turned : HasTurned (λ step. ⊥) turns first last
  pub all : (AreAllFinished load run → ⊥) → length turned.steps ≡ turns
  pub rest : GroupGoesOn (tiles ∷ []) run last.run

-- So many workers have made a run of a load, each its part. The steps of a run lead from the load
-- of the end to the machine to which they lead from the load; the former may lack fences in front
-- of scripts, which no machine shows.
pub record IsMadeByWorkers (load : Load) (workers turns : ℕ) (end : Ended) : Type 0 where
  pub alike : (steps : List Step) → core_after_load end.load steps ≡ core_after_load load steps
  pub each : (j : ℕ) → j < crew workers load
      → HasDonePart end.load turns (tiles_of_worker (tiles_of load.shape) (crew workers load) j) end.run

-- a text is the report of a run, a good one without order lines, and the answer says whether every
-- script is finished
pub record IsOfEnded (end : Ended) (finished : Bool) (text : List ℕ) : Type 0 where
  pub is : text ≡ text_of (run_report end.load end.run)
  pub good : GoodReport text
  pub value : finished ≡ all_finished (after end.load end.run)

-- A text is the report of some run that the workers made of what was asked for, and a good one,
-- without order lines: the run has one legal order, that of the services (Herlihy and Wing, TOPLAS
-- 12(3), 1990: linearizability), every processor has followed its script, and the answer says
-- whether every script is finished.
pub record IsWorkersText (asked : Result Load LineFault) (workers turns : ℕ) (finished : Bool)
    (text : List ℕ) : Type 0 where
  pub load : Load
  pub read : asked ≡ Ok load
  pub end : Ended
  pub made : IsMadeByWorkers load workers turns end
  pub is : text ≡ text_of (run_report load end.run)
  pub good : GoodReport text
  pub lawful : IsLawful load end.run (book_after load end.run).rows
  pub value : finished ≡ all_finished (after load end.run)
  pub ended : IsTrue finished ↔ AreFinished (run_of load end.run) (length end.run) load.scripts

-- the report of the workers' run was printed
abbrev pub PrintsWorkers : Result Load LineFault → ℕ → ℕ → Output → Output
    → Result Bool ProgramFault → Type 0
PrintsWorkers asked workers turns = Does (IsWorkersText asked workers turns) (IsTextsFault asked)
