-- Whoever watches a run in rounds hears of one round after the other, and of the end; of a list of steps, of its end.
use Rattle.std.proofs.Common.{◌≡◌, ℕ, suc, ◌+◌, ◌-◌, ◌++◌, List, [], ◌∷◌, Bool, Result, Ok, Err, refl, sym, ap, subst, arith, inl, inr, append_assoc, append-nil}
use Rattle.torus.specs.declared.step.Step.{Step}
use Rattle.lexer.specs.declared.fault.LineFault.{LineFault}
use Rattle.one_order.specs.Load.{Load}
use Rattle.core_laws.specs.ProgressMoves.{most_moves, moves_made}
use Rattle.core_laws.specs.Machine.{Core, IsAfter, core_after_load}
use Rattle.fair_rounds.specs.declared.pacing.Pace.{Pace}
use Rattle.fair_rounds.specs.Paces.{guard_behind}
use Rattle.fair_rounds.specs.Fewest.{paced_rounds}
use Rattle.machine_core.specs.Loading.{HasLoaded}
use Rattle.program_fault.specs.declared.fault.ProgramFault.{ProgramFault}
use Rattle.program_fault.specs.declared.fault.ProgramFault.TheVariants as program
use Rattle.program_fault.specs.Done.{Does, Output}
use Rattle.program_fault.specs.Outcome.{IsReadFault}
use Rattle.command_texts.specs.Run.{AskedRun, HasMoved, IsNoFault}
use Rattle.command_texts.specs.Calls.{Call, Ended, Hears}
use Rattle.command_texts.specs.Telling.{AreCallsOfCommand, AreRoundsCalls, AreRunCalls, AreStepsCalls, HearsSome, TellsCommand, TellsRounds, TellsSteps, answered_after, answered_by, round_calls}

-- no call
pub hears_none : (h : List Call → Type 0) → Hears h h []
hears_none h = λ calls o. subst h (sym (append-nil calls)) o

-- some calls, and then others
pub hears_then : (old mid new : List Call → Type 0) (first more : List Call) → Hears old mid first → Hears mid new more → Hears old new (first ++ more)
hears_then old mid new first more a b = λ calls o. subst new (append_assoc calls first more) (b (calls ++ first) (a calls o))

-- the calls behind one round more
calls_more : (pace : Pace) (l : Load) (k : ℕ) (c : Core) (calls : List Call) (wants : Bool) → AreCallsOfCommand pace l k calls
    → IsAfter l c (paced_rounds pace l (k + 1))
    → ((l : Load) (c : Core) (steps : List Step) → IsAfter l c steps → c ≡ core_after_load l steps)
    → AreCallsOfCommand pace l (k + 1) (calls ++ round_calls (k + 1) (answered_by c) wants)
calls_more pace l k c calls wants each after named =
    let one : suc k ≡ k + 1 = omega arith in
    let count : answered_by c ≡ answered_after pace l (k + 1) = ap answered_by (named l c (paced_rounds pace l (k + 1)) after) in
    subst (λ (n : ℕ). AreCallsOfCommand pace l n (calls ++ round_calls (k + 1) (answered_by c) wants)) one
    (calls, wants, each, ap (λ (n : ℕ). calls ++ round_calls (k + 1) n wants) count)

-- what was heard behind the first rounds, and then behind one more
pub round_heard : (pace : Pace) (l : Load) (k : ℕ) (c : Core) (old mid new : List Call → Type 0) → HearsSome (AreCallsOfCommand pace l k) old mid
    → IsAfter l c (paced_rounds pace l (k + 1))
    → ((l : Load) (c : Core) (steps : List Step) → IsAfter l c steps → c ≡ core_after_load l steps)
    → ((wants : Bool) × Hears mid new (round_calls (k + 1) (answered_by c) wants)) → HearsSome (AreCallsOfCommand pace l (k + 1)) old new
round_heard pace l k c old mid new so_far after named more = (
  so_far.0 ++ round_calls (k + 1) (answered_by c) more.0,
  calls_more pace l k c so_far.0 more.0 so_far.1 after named,
  hears_then old mid new so_far.0 (round_calls (k + 1) (answered_by c) more.0) so_far.2 more.1,
)

module _ (are : List Call → Type 0) (old new : List Call → Type 0) where
  told_all : HearsSome are old new → (gives : Bool → List ℕ → Type 0) (before behind : Output) (r : Result Bool ProgramFault)
      → Does gives IsNoFault before behind r → TellsCommand are old new r
  told_all all gives before behind (Ok x) done = all
  told_all all gives before behind (Err program.Output) done = all
  told_all all gives before behind (Err (program.Fault which)) done = inl all
  told_all all gives before behind (Err (program.Line found)) done = absurd done.0
  told_all all gives before behind (Err program.Tile) done = absurd done.0
  told_all all gives before behind (Err (program.Bad line)) done = absurd done.0

-- the moves since the load are those of the steps
pub moved_since : (l : Load) (start c : Core) (steps : List Step) → IsAfter l start [] → IsAfter l c steps
    → ((l : Load) (c : Core) (steps : List Step) → IsAfter l c steps → moves_made l steps + c.moves_left ≡ most_moves l)
    → start.moves_left - c.moves_left ≡ moves_made l steps
moved_since l start c steps from after counted =
    let no_move : moves_made l [] ≡ 0 = refl in
    let first : moves_made l [] + start.moves_left ≡ most_moves l = counted l start [] from in
    let all : moves_made l steps + c.moves_left ≡ most_moves l = counted l c steps after in
    omega (arith, no_move, first, all)

-- all calls, where the report was written, or the output or memory for it failed
pub run_told : (pace : Pace) (asked : Result Load LineFault) (most moves : ℕ) (start : Core) (loaded : HasLoaded asked start) (old mid new : List Call → Type 0)
    → (heard : HearsSome (AreRoundsCalls pace loaded.load most) old mid)
    → moves ≡ moves_made loaded.load (paced_rounds pace loaded.load heard.1.rounds)
    → (held : ℕ) → held ≡ (guard_behind pace loaded.load heard.1.rounds).held
    → Hears mid new (Ended moves held ∷ [])
    → (gives : Bool → List ℕ → Type 0) (before behind : Output) (r : Result Bool ProgramFault) → Does gives IsNoFault before behind r
    → TellsRounds pace asked most old new r
run_told pace asked most moves start loaded old mid new rounds made held back ended gives before behind r done =
    let all : HearsSome (AreRunCalls pace asked most) old new = (
      rounds.0 ++ Ended moves held ∷ [],
      record {
        load = loaded.load;
        read = loaded.read;
        before = rounds.0;
        made = rounds.1;
        ended = λ i. rounds.0 ++ Ended (made i) (back i) ∷ [];
      },
      hears_then old mid new rounds.0 (Ended moves held ∷ []) rounds.2 ended,
    ) in
    told_all (AreRunCalls pace asked most) old new all gives before behind r done

-- the end of a list of steps, where the report was written, or the output or memory for it failed
pub steps_told : (asked : Result AskedRun LineFault) (moves : ℕ) (moved : HasMoved asked moves) (old new : List Call → Type 0)
    → Hears old new (Ended moves 0 ∷ [])
    → (gives : Bool → List ℕ → Type 0) (before behind : Output) (r : Result Bool ProgramFault) → Does gives IsNoFault before behind r
    → TellsSteps asked old new r
steps_told asked moves moved old new ended gives before behind r done =
    told_all (AreStepsCalls asked) old new (Ended moves 0 ∷ [], record { moves = moves; moved = moved; ended = refl }, ended) gives before behind r done

-- nothing, where there is no machine
pub none_told : {A : Type 0} (asked : Result A LineFault) (are : List Call → Type 0) (h : List Call → Type 0) (e : ProgramFault) → IsReadFault asked e
    → TellsCommand are h h (Err e)
none_told asked are h program.Output is = absurd is
none_told asked are h (program.Fault which) is = inr (λ calls o. o)
none_told asked are h (program.Line found) is = λ calls o. o
none_told asked are h program.Tile is = absurd is
none_told asked are h (program.Bad line) is = absurd is
