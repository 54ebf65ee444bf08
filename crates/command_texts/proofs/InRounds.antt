-- The report of a machine that has made rounds.
use Rattle.std.proofs.Common.{◌≡◌, ℕ, List, Bool, Result, Ok, refl}
use Rattle.torus.specs.declared.step.Step.{Step}
use Rattle.lexer.specs.declared.fault.LineFault.{LineFault}
use Rattle.one_order.specs.Load.{Load}
use Rattle.core_laws.specs.Machine.{Core, IsAfter, core_after_load}
use Rattle.machine_core.specs.Loading.{HasLoaded}
use Rattle.fair_rounds.specs.declared.pacing.Pace.{Pace}
use Rattle.fair_rounds.specs.Fewest.{paced_rounds}
use Rattle.command_texts.specs.Run.{IsRunOfMachine}
use Rattle.command_texts.specs.Rounds.{HasMadeRounds, IsRoundText, asked_rounds}
use Rattle.command_texts.proofs.Asked.{run_printed}

-- the report of a machine that has made the rounds is the report of the run in rounds
pub rounds_printed : (pace : Pace) (asked : Result Load LineFault) (most : ℕ) (start c : Core) (finished : Bool) (text : List ℕ)
    (loaded : HasLoaded asked start) → HasMadeRounds pace loaded.load most c
    → ((l : Load) (d : Core) (steps : List Step) → IsAfter l d steps → d ≡ core_after_load l steps)
    → IsRunOfMachine c finished text → IsRoundText pace asked most finished text
rounds_printed pace asked most start c finished text loaded made named printed = record {
  load = loaded.load;
  read = loaded.read;
  rounds = made.rounds;
  fewest = made.fewest;
  report = run_printed (Ok (asked_rounds pace loaded.load made.rounds)) c finished text
      (record {
        run = asked_rounds pace loaded.load made.rounds;
        read = refl;
        after = made.after;
        reached = named loaded.load c (paced_rounds pace loaded.load made.rounds) made.after;
      })
      printed;
}
