-- What is told of the run whose moves are printed.
use Rattle.std.proofs.Common.{◌≡◌, ℕ, zero, suc, ◌+◌, ◌≤◌, ◌<◌, ◌^◌, ◌++◌, List, [], ◌∷◌, Bool, true, false, Result, Ok, Err, map, refl, sym, ap, subst, ◌∙◌, arith, append-nil, length}
use Rattle.std.specs.Prelude.{◌↔◌, IsTrue, None}
use Rattle.std.specs.Str.Lines.{lines}
use Rattle.std.specs.List.{flat_map, range_with_len}
use Rattle.std.proofs.lemmas.List.Concat.{flat_map-append}
use Rattle.std.proofs.lemmas.List.FromFn.{length-map-range_with_len, map-range_with_len_more}
use Rattle.torus.specs.declared.step.Step.{Step}
use Rattle.lexer.specs.declared.fault.LineFault.{LineFault}
use Rattle.script_lines.specs.Machine.{MachineSpec}
use Rattle.script.specs.Steps.{steps_of}
use Rattle.one_order.specs.Load.{Load}
use Rattle.one_order.specs.AbstractScripts.{AreFinished}
use Rattle.core_laws.specs.Core.{run_of}
use Rattle.core_laws.specs.Runs.{IsAcceptedLoad}
use Rattle.machine_core.specs.Loading.{HasLoaded}
use Rattle.core_laws.specs.Machine.{Core, IsAfter, all_finished, core_after, core_after_load}
use Rattle.core_laws.proofs.Machines.{named_machine, stands_after, after_steps, finished_of_machine}
use Rattle.core_laws.specs.MachineMoves.{moves_of, moves_from}
use Rattle.core_laws.proofs.StepLists.{load_machine, machine_further}
use Rattle.command_schedule.specs.declared.line.ScheduleLine.{ScheduleLine}
use Rattle.command_schedule.specs.declared.line.ScheduleLine.TheVariants.{End, Move}
use Rattle.command_schedule.specs.Line.{line_text, text_of}
use Rattle.command_schedule.specs.Schedule.{schedule_of, moves_schedule}
use Rattle.command_schedule.proofs.RunsAgain.{rounds_again, moves_again}
use Rattle.program_fault.specs.Done.{Output, TookAll, TookFront, Wrote}
use Rattle.machine_core.specs.Run.{AskedRun}
use Rattle.command_schedule.specs.Asked.{HasOpened}
use Rattle.command_schedule.specs.Output.{headed}
use Rattle.fair_rounds.specs.declared.pacing.Pace.{Pace}
use Rattle.fair_rounds.specs.declared.pacing.Pace.TheVariants.{InOrder, Turned, Fair}
use Rattle.fair_rounds.specs.Fewest.{AreFewestPaced, after_paced, paced_round, paced_rounds}
use Rattle.fair_rounds.proofs.Paced.{round_more}
use Rattle.command_schedule.specs.Rounds.{HasPutRounds, HasPutSome, moves_of_rounds, round_moves, rounds_text}
use Rattle.command_schedule.specs.Schedules.{TellsRun, IsRoundsText, IsMovesText}
use Rattle.command_schedule.proofs.Outputs.{took_then, front_then, front_of_more}

-- the last line behind others
pub with_end : (ls : List ScheduleLine) (finished : Bool) → text_of (ls ++ End finished ∷ []) ≡ text_of ls ++ line_text (End finished)
with_end ls finished =
    flat_map-append line_text ls (End finished ∷ []) ∙ ap (λ (t : List ℕ). text_of ls ++ t) (append-nil (line_text (End finished)))

-- the moves of rounds, one after the other, are the moves among the attempts of all
one_round : (pace : Pace) (l : Load) (k : ℕ)
    → flat_map (λ moves. moves) (moves_of_rounds pace l (k + 1))
    ≡ flat_map (λ moves. moves) (moves_of_rounds pace l k) ++ round_moves pace l k
one_round pace l k =
    ap (flat_map (λ moves. moves)) (map-range_with_len_more (round_moves pace l) 0 k k (omega arith))
    ∙ flat_map-append (λ moves. moves) (moves_of_rounds pace l k) (round_moves pace l k ∷ [])
    ∙ ap (λ (xs : List Step). flat_map (λ moves. moves) (moves_of_rounds pace l k) ++ xs) (append-nil (round_moves pace l k))

all_rounds : (pace : Pace) (l : Load) (k : ℕ) → IsAcceptedLoad l
    → flat_map (λ moves. moves) (moves_of_rounds pace l k) ≡ moves_of l (paced_rounds pace l k)
all_rounds InOrder l zero ok = refl
all_rounds Turned l zero ok = refl
all_rounds (Fair most) l zero ok = refl
all_rounds pace l (suc k) ok =
    let one : k + 1 ≡ suc k = omega arith in
    let now : Core = after_paced pace l k in
    let after : IsAfter l now (paced_rounds pace l k) = stands_after l (paced_rounds pace l k) ok in
    let next : flat_map (λ moves. moves) (moves_of_rounds pace l (k + 1)) ≡ moves_of l (paced_rounds pace l (k + 1)) =
    one_round pace l k
    ∙ ap (λ (xs : List Step). xs ++ round_moves pace l k) (all_rounds pace l k ok)
    ∙ sym (machine_further l now (paced_rounds pace l k) (paced_round pace l now k) after)
    ∙ ap (moves_of l) (round_more pace l k now after) in
    subst (λ (n : ℕ). flat_map (λ moves. moves) (moves_of_rounds pace l n) ≡ moves_of l (paced_rounds pace l n)) one next

-- of a machine that stands behind the steps
pub tells : (l : Load) (c : Core) (steps : List Step) (finished : Bool) (text : List ℕ) → IsAfter l c steps → finished ≡ all_finished c.state
    → ((machine : MachineSpec) → machine.shape ≡ l.shape → steps_of machine (lines text) ≡ Ok (moves_of l steps))
    → TellsRun l steps finished text
tells l c steps finished text after is again = record {
  value = is ∙ ap (λ (x : Core). all_finished x.state) (named_machine l c steps after);
  ended = subst (λ (b : Bool). IsTrue b ↔ AreFinished (run_of l steps) (length steps) l.scripts) (sym is) (finished_of_machine l c steps after);
  again = again;
  same = load_machine l steps;
}

-- the text of rounds with the last line
pub rounds_are : (pace : Pace) (asked : Result Load LineFault) (most : ℕ) (start : Core) (loaded : HasLoaded asked start) (k : ℕ) (c : Core) (finished : Bool)
    → most < 2 ^ 64 → AreFewestPaced pace loaded.load most k → IsAfter loaded.load c (paced_rounds pace loaded.load k) → finished ≡ all_finished c.state
    → IsRoundsText pace asked most finished (rounds_text pace loaded.load k ++ line_text (End finished))
rounds_are pace asked most start loaded k c finished small fewest after is =
    let l : Load = loaded.load in
    let whole : text_of (schedule_of (moves_of_rounds pace l k) finished) ≡ rounds_text pace l k ++ line_text (End finished) = with_end _ finished in
    let count : length (moves_of_rounds pace l k) ≡ k = length-map-range_with_len (round_moves pace l) 0 k in
    let allowed : k ≤ most = fewest.allowed in
    record {
      load = l;
      read = loaded.read;
      rounds = k;
      fewest = fewest;
      is = sym whole;
      run = subst (TellsRun l (paced_rounds pace l k) finished) whole
          (tells l c (paced_rounds pace l k) finished (text_of (schedule_of (moves_of_rounds pace l k) finished)) after is
          (λ machine same. rounds_again l machine (paced_rounds pace l k) (moves_of_rounds pace l k) finished after.accepted same
          (all_rounds pace l k after.accepted) (omega (arith, count, allowed, small))));
    }

-- a beginning of the rounds is one of the whole text
pub rounds_front : (pace : Pace) (asked : Result Load LineFault) (most : ℕ) (start : Core) (loaded : HasLoaded asked start) (old new : Output)
    → most < 2 ^ 64 → HasPutSome pace loaded.load most old new → (finished : Bool) × Wrote (IsRoundsText pace asked most) TookFront old new finished
rounds_front pace asked most start loaded old new small some =
    let l : Load = loaded.load in
    let c : Core = after_paced pace l some.rounds in
    let finished : Bool = all_finished c.state in (
      finished,
      (
        rounds_text pace l some.rounds ++ line_text (End finished),
        rounds_are pace asked most start loaded some.rounds c finished small some.fewest (stands_after l (paced_rounds pace l some.rounds) loaded.after.accepted) refl,
        front_of_more old new (rounds_text pace l some.rounds) (line_text (End finished)) some.took,
      ),
    )

-- the rounds and the last line
pub rounds_whole : (pace : Pace) (asked : Result Load LineFault) (most : ℕ) (start : Core) (loaded : HasLoaded asked start) (c : Core) (finished : Bool) (old mid new : Output)
    → most < 2 ^ 64 → (put : HasPutRounds pace loaded.load most c old mid) → finished ≡ all_finished c.state
    → TookAll mid new (line_text (End (all_finished c.state)))
    → Wrote (IsRoundsText pace asked most) TookAll old new finished
rounds_whole pace asked most start loaded c finished old mid new small put is took = (
  rounds_text pace loaded.load put.rounds ++ line_text (End finished),
  rounds_are pace asked most start loaded put.rounds c finished small put.fewest put.after is,
  subst (λ (b : Bool). TookAll old new (rounds_text pace loaded.load put.rounds ++ line_text (End b))) (sym is)
      (took_then old mid new (rounds_text pace loaded.load put.rounds) (line_text (End (all_finished c.state))) put.took took),
)

-- the rounds and a beginning of the last line
pub rounds_last : (pace : Pace) (asked : Result Load LineFault) (most : ℕ) (start : Core) (loaded : HasLoaded asked start) (c : Core) (old mid new : Output)
    → most < 2 ^ 64 → (put : HasPutRounds pace loaded.load most c old mid)
    → TookFront mid new (line_text (End (all_finished c.state)))
    → (finished : Bool) × Wrote (IsRoundsText pace asked most) TookFront old new finished
rounds_last pace asked most start loaded c old mid new small put took = (
  all_finished c.state,
  (
    rounds_text pace loaded.load put.rounds ++ line_text (End (all_finished c.state)),
    rounds_are pace asked most start loaded put.rounds c (all_finished c.state) small put.fewest put.after refl,
    front_then old mid new (rounds_text pace loaded.load put.rounds) (line_text (End (all_finished c.state))) put.took took,
  ),
)

-- the moves of a machine that has made no step, and the machine behind them
pub from_start : (l : Load) (start : Core) (steps : List Step) → IsAfter l start [] → moves_from start steps ≡ moves_of l steps
from_start l start steps after = sym (machine_further l start [] steps after)

-- the text of moves with the last line
pub moves_are : (asked : Result AskedRun LineFault) (given : AskedRun) → asked ≡ Ok given → (start c : Core) (finished : Bool)
    → IsAfter given.load start [] → c ≡ core_after start given.steps → finished ≡ all_finished c.state
    → IsMovesText asked finished (text_of (headed None (moves_from start given.steps)) ++ line_text (End finished))
moves_are asked given read start c finished after made is =
    let l : Load = given.load in
    let steps : List Step = given.steps in
    let whole : text_of (moves_schedule (moves_of l steps) finished) ≡ text_of (headed None (moves_from start steps)) ++ line_text (End finished) =
    with_end (map Move (moves_of l steps)) finished
    ∙ ap (λ (xs : List Step). text_of (map Move xs) ++ line_text (End finished)) (sym (from_start l start steps after)) in
    let behind : IsAfter l c steps = subst (λ (x : Core). IsAfter l x steps) (sym made) (after_steps l start [] steps after) in
    record {
      given = given;
      read = read;
      is = sym whole;
      run = subst (TellsRun l steps finished) whole
          (tells l c steps finished (text_of (moves_schedule (moves_of l steps) finished)) behind is
          (λ machine same. moves_again l machine steps finished after.accepted same));
    }

module _ (asked : Result AskedRun LineFault) (start : Core) (steps : List Step) (opened : HasOpened asked start steps) (c : Core) where
  moves_text_is : (finished : Bool) → c ≡ core_after start steps → finished ≡ all_finished c.state
      → IsMovesText asked finished (text_of (headed None (moves_from start steps)) ++ line_text (End finished))
  moves_text_is finished made is =
      subst (λ (xs : List Step). IsMovesText asked finished (text_of (headed None (moves_from start xs)) ++ line_text (End finished))) (sym opened.are)
      (moves_are asked opened.given opened.read start c finished opened.after (made ∙ ap (core_after start) opened.are) is)

  -- the moves and the last line
  pub moves_whole : (finished : Bool) (old mid new : Output) → c ≡ core_after start steps → finished ≡ all_finished c.state
      → TookAll old mid (text_of (headed None (moves_from start steps))) → TookAll mid new (line_text (End (all_finished c.state)))
      → Wrote (IsMovesText asked) TookAll old new finished
  moves_whole finished old mid new made is put took = (
    text_of (headed None (moves_from start steps)) ++ line_text (End finished),
    moves_text_is finished made is,
    subst (λ (b : Bool). TookAll old new (text_of (headed None (moves_from start steps)) ++ line_text (End b))) (sym is)
        (took_then old mid new (text_of (headed None (moves_from start steps))) (line_text (End (all_finished c.state))) put took),
  )

  -- the moves and a beginning of the last line
  pub moves_last : (old mid new : Output) → c ≡ core_after start steps
      → TookAll old mid (text_of (headed None (moves_from start steps))) → TookFront mid new (line_text (End (all_finished c.state)))
      → (finished : Bool) × Wrote (IsMovesText asked) TookFront old new finished
  moves_last old mid new made put took = (
    all_finished c.state,
    (
      text_of (headed None (moves_from start steps)) ++ line_text (End (all_finished c.state)),
      moves_text_is (all_finished c.state) made refl,
      front_then old mid new (text_of (headed None (moves_from start steps))) (line_text (End (all_finished c.state))) put took,
    ),
  )

-- a beginning of the moves
pub moves_front : (asked : Result AskedRun LineFault) (start : Core) (steps : List Step) (opened : HasOpened asked start steps) (old new : Output)
    → TookFront old new (text_of (headed None (moves_from start steps))) → (finished : Bool) × Wrote (IsMovesText asked) TookFront old new finished
moves_front asked start steps opened old new took =
    let c : Core = core_after start steps in (
      all_finished c.state,
      (
        text_of (headed None (moves_from start steps)) ++ line_text (End (all_finished c.state)),
        moves_text_is asked start steps opened c (all_finished c.state) refl refl,
        front_of_more old new (text_of (headed None (moves_from start steps))) (line_text (End (all_finished c.state))) took,
      ),
    )
