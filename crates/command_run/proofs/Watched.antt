-- Whoever watches the workers hears all calls for each of them.
use Rattle.std.proofs.Common.{◌≡◌, ℕ, ◌<◌, List, [], map, Bool, Result, Option, Ok, Err, Some, None, sym, ap, ◌∙◌, subst, inl, inr, ⊎_elim, arith}
use Rattle.std.specs.Prelude.{slice_index_or}
use Rattle.std.specs.List.{range_with_len}
use Rattle.torus.specs.Shape.{tiles_of}
use Rattle.torus.specs.declared.step.Step.{Step}
use Rattle.lexer.specs.declared.fault.LineFault.{LineFault}
use Rattle.one_order.specs.Load.{Load}
use Rattle.core_laws.specs.Machine.{core_after_load}
use Rattle.history.specs.Opening.{fresh}
use Rattle.history.specs.Seats.{Knowing, Origin}
use Rattle.worker_run.specs.Calls.{Call}
use Rattle.worker_run.specs.Watching.{AreCallsOfRun, AreCallsOfTurns, AreCallsTo, IsWatched}
use Rattle.worker_run.specs.Working.{EndsAs, HasWorked, Working}
use Rattle.worker_run.specs.declared.worker.End.{End}
use Rattle.worker_run.specs.declared.worker.End.TheVariants.{Held, Finished, Stopped}
use Rattle.program_fault.specs.declared.fault.ProgramFault.{ProgramFault}
use Rattle.program_fault.specs.declared.fault.ProgramFault.TheVariants as program
use Rattle.program_fault.specs.Outcome.{IsReadFault}
use Rattle.command_run.specs.Workers.{LetsAll, crew, tiles_of_worker, new_worker}
use Rattle.command_run.specs.Watched.{HearsPart, HearsWorkers, TellsWorkers}
use Rattle.command_run.proofs.ByWorkers.{seat_of, worker_starts}

module _ (stops : Step → Type 0) (turns : ℕ) (v w : Knowing) (lets : (step : Step) → stops step → ⊥) where
  -- the calls behind turns that a gate may have stopped, and never did
  turns_on : (count : ℕ) (calls : List Call) → AreCallsOfTurns stops turns v w count calls → AreCallsOfTurns (λ step. ⊥) turns v w count calls
  turns_on count calls k =
      let t = k.turned in
      record {
        turned = record {
          grew = t.grew;
          steps = t.steps;
          first = t.first;
          last = t.last;
          start = t.start;
          made = t.made;
          few = t.few;
          none = t.none;
          until = ⊎_elim (λ seen. inl seen) (λ other. ⊎_elim (λ all. inr (inl all)) (λ stopped. absurd (lets stopped.0 stopped.2)) other) t.until;
        };
        made = k.made;
        each = k.each;
      }

  run_on : (calls : List Call) → AreCallsOfRun stops turns v w calls → AreCallsOfRun (λ step. ⊥) turns v w calls
  run_on calls k = record { count = k.count; before = k.before; turns_made = turns_on k.count k.before k.turns_made; ended = k.ended }

  calls_on : (o : Option End) (calls : List Call) → AreCallsTo stops turns v o w calls → AreCallsTo (λ step. ⊥) turns v o w calls
  calls_on None calls k = k
  calls_on (Some Held) calls k = k
  calls_on (Some Finished) calls k = run_on calls k
  calls_on (Some Stopped) calls k = run_on calls k

-- what is heard of a worker behind a gate that lets all is what is heard behind none
pub watched_open : (over : List Call → Type 0) (holds : ℕ → Type 0) (stops : ℕ → Step → Type 0) (turns i : ℕ) (v w : Working) → LetsAll holds stops
    → IsWatched over (stops i) turns v w → IsWatched over (λ step. ⊥) turns v w
watched_open over holds stops turns i v w lets k = (k.0, calls_on (stops i) turns v.knows w.knows (lets.go_on i) w.ended k.0 k.1, k.2)

-- the calls behind any end of a worker that no gate holds back
run_of_calls : (stops : Step → Type 0) (turns : ℕ) (v w : Knowing) (o : Option End) (calls : List Call) → EndsAs ⊥ stops turns v o w
    → AreCallsTo stops turns v o w calls → AreCallsOfRun stops turns v w calls
run_of_calls stops turns v w None calls e k = absurd e
run_of_calls stops turns v w (Some Held) calls e k = absurd e.0
run_of_calls stops turns v w (Some Finished) calls e k = k
run_of_calls stops turns v w (Some Stopped) calls e k = k

module _ (f : Origin) (turns : ℕ) (l : Load) (alike : (steps : List Step) → core_after_load f.load steps ≡ core_after_load l steps) where
  hears_part : (tiles : List ℕ) (over : List Call → Type 0) (before behind : Working) → before ≡ new_worker (fresh f.table f.load tiles)
      → HasWorked ⊥ (λ step. ⊥) turns before behind → IsWatched over (λ step. ⊥) turns before behind → HearsPart l turns tiles over
  hears_part tiles over before behind start worked watched = record {
    first = before.knows;
    last = behind.knows;
    alike = λ steps. ap (λ (x : Working). core_after_load x.knows.load steps) start ∙ alike steps;
    empty = ap (λ (x : Working). x.knows.run) start;
    holds = ap (λ (x : Working). x.knows.tiles) start;
    calls = watched.0;
    all = run_of_calls (λ step. ⊥) turns before.knows behind.knows behind.ended watched.0 worked.1 watched.1;
    heard = watched.2;
  }

  pub hears_workers : (over : ℕ → List Call → Type 0) (n count workers : ℕ) (seats : List Knowing) (old new : List Working)
      → seats ≡ map (seat_of f n count) (range_with_len 0 count) → old ≡ map new_worker seats
      → ((i : ℕ) (d : Working) → i < count → HasWorked ⊥ (λ step. ⊥) turns (slice_index_or old i d) (slice_index_or new i d))
      → ((i : ℕ) (d : Working) → i < count → IsWatched (over i) (λ step. ⊥) turns (slice_index_or old i d) (slice_index_or new i d))
      → tiles_of l.shape ≡ n → crew workers l ≡ count → HearsWorkers l workers turns over
  hears_workers over n count workers seats old new es eo worked watched size hired = λ j lt.
      let d : Working = new_worker (fresh f.table f.load []) in
      let below : j < count = omega (arith, lt, hired) in
      subst (λ (p : ℕ × ℕ). HearsPart l turns (tiles_of_worker p.0 p.1 j) (over j)) (λ i. (sym size i, sym hired i))
      (hears_part (tiles_of_worker n count j) (over j) (slice_index_or old j d) (slice_index_or new j d) (worker_starts f n count seats old es eo j d below)
      (worked j d below) (watched j d below))

-- all calls, however the report was written
pub workers_told : (asked : Result Load LineFault) (workers turns : ℕ) (over : ℕ → List Call → Type 0) (load : Load) → asked ≡ Ok load
    → HearsWorkers load workers turns over → (r : Result Bool ProgramFault) → TellsWorkers asked workers turns over r
workers_told asked workers turns over load read all (Ok finished) = (load, read, all)
workers_told asked workers turns over load read all (Err program.Output) = (load, read, all)
workers_told asked workers turns over load read all (Err (program.Fault which)) = tt
workers_told asked workers turns over load read all (Err (program.Line found)) = tt
workers_told asked workers turns over load read all (Err program.Tile) = tt
workers_told asked workers turns over load read all (Err (program.Bad line)) = tt

-- nothing is said where there is no machine
pub no_workers_told : (asked : Result Load LineFault) (workers turns : ℕ) (over : ℕ → List Call → Type 0) (e : ProgramFault) → IsReadFault asked e
    → TellsWorkers asked workers turns over (Err e)
no_workers_told asked workers turns over program.Output is = absurd is
no_workers_told asked workers turns over (program.Fault which) is = tt
no_workers_told asked workers turns over (program.Line found) is = tt
no_workers_told asked workers turns over program.Tile is = absurd is
no_workers_told asked workers turns over (program.Bad line) is = absurd is
