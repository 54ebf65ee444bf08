-- The moves of the rounds of a run (this project's own format).
use Rattle.std.specs.Prelude.{ℕ, List, map, Result, Ok, Err}
use Rattle.std.specs.List.{range_with_len}
use Rattle.torus.specs.declared.step.Step.{Step}
use Rattle.one_order.specs.Load.{Load}
use Rattle.core_laws.specs.Machine.{Core, IsAfter}
use Rattle.fair_rounds.specs.declared.pacing.Pace.{Pace}
use Rattle.fair_rounds.specs.Fewest.{AreFewestPaced, after_paced, paced_round, paced_rounds}
use Rattle.core_laws.specs.MachineMoves.{moves_from}
use Rattle.command_schedule.specs.Line.{text_of}
use Rattle.command_schedule.specs.Schedule.{lines_of_rounds}
use Rattle.program_fault.specs.Done.{Output, TookAll, TookFront}

-- the attempts of the round of a pace behind so many that are enabled where they come
abbrev pub round_moves : Pace → Load → ℕ → List Step
round_moves pace l k = let c = after_paced pace l k in
    moves_from c (paced_round pace l c k)

-- the moves of each of so many rounds, one round after the other
abbrev pub moves_of_rounds : Pace → Load → ℕ → List (List Step)
moves_of_rounds pace l k = map (round_moves pace l) (range_with_len 0 k)

-- the text of the rounds' lines
abbrev pub rounds_text : Pace → Load → ℕ → List ℕ
rounds_text pace l k = text_of (lines_of_rounds 1 (moves_of_rounds pace l k))

-- a machine has made the fewest rounds of a pace that finish every script, at most so many, and an output
-- took their lines
pub record HasPutRounds (pace : Pace) (l : Load) (most : ℕ) (c : Core) (old new : Output) : Type
    0 where
  pub rounds : ℕ
  pub fewest : AreFewestPaced pace l most rounds
  pub after : IsAfter l c (paced_rounds pace l rounds)
  pub took : TookAll old new (rounds_text pace l rounds)

-- an output took a beginning of the lines of these rounds
pub record HasPutSome (pace : Pace) (l : Load) (most : ℕ) (old new : Output) : Type 0 where
  pub rounds : ℕ
  pub fewest : AreFewestPaced pace l most rounds
  pub took : TookFront old new (rounds_text pace l rounds)

-- the lines of the rounds were put
abbrev pub PutsRounds : {A E : Type 0} → Pace → Load → ℕ → Core → Output → Output → Result A E
    → Type 0
PutsRounds pace l most c old new (Ok x) = HasPutRounds pace l most c old new
PutsRounds pace l most c old new (Err e) = HasPutSome pace l most old new
