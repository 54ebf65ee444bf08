-- What the commands print that ask for a run of a network, or replay one (this project's own format).
use Rattle.std.specs.Prelude.{◌≡◌, ◌⊎◌, List, ℕ, Bool, Result, Ok, Err}
use Rattle.network_text.specs.Network.{NetworkSpec, network_of}
use Rattle.network_answer.specs.declared.answer.Answer.{Answer}
use Rattle.network_run.specs.declared.replaying.Replayed.{Replayed}
use Rattle.network_run.specs.Answers.{IsRunFault, is_sound}
use Rattle.network_run.specs.Printed.{TellsRunOrNoPair}
use Rattle.network_run.specs.Replays.{AnswersReplay}
use Rattle.network_run.specs.Written.{replay_line}
use Rattle.network_rounds.specs.declared.arbiter.Arbiter.{Arbiter}
use Rattle.network_traffic.specs.declared.answering.SimulationAnswer.{SimulationAnswer}
use Rattle.network_traffic.specs.Answers.{AnswersSimulationText}
use Rattle.program_fault.specs.declared.fault.ProgramFault.{ProgramFault}
use Rattle.program_fault.specs.declared.fault.ProgramFault.TheVariants as program
use Rattle.program_fault.specs.Done.{Does, Output}
use Rattle.command_verdicts.specs.Printed.{IsNetworkFault}

-- a text is what is answered of the network of a text, given as the list of its lines: that it has no
-- source-destination pair; or the run by which it deadlocks, where it has a cycle, and else its
-- verdict; and why it is so
pub record IsLockUpText {A : Type 0} (lines : List (List ℕ)) (depth : ℕ) (answer : Answer A)
    (text : List ℕ) : Type 0 where
  pub network : NetworkSpec
  pub read : network_of lines ≡ Ok network
  pub told : TellsRunOrNoPair network depth answer
  pub is : text ≡ answer.text.items

-- the run of a network, or its verdict, was printed
abbrev pub PrintsLockUp : (A : Type 0) → List (List ℕ) → ℕ → Output → Output
    → Result (Answer A) ProgramFault → Type 0
PrintsLockUp A lines depth = Does (IsLockUpText lines depth) (IsNetworkFault lines)

-- a text is the line on a replay over the network that the lines of a text give, of the run that
-- others give; and whether it shows nothing wrong
pub record IsReplayText (lines run : List (List ℕ)) (depth : ℕ) (sound : Bool) (text : List ℕ)
    : Type 0 where
  pub network : NetworkSpec
  pub read : network_of lines ≡ Ok network
  pub replay : Replayed
  pub answers : AnswersReplay network depth run (Ok replay)
  pub is : text ≡ replay_line replay
  pub sounds : sound ≡ is_sound replay

-- the first fault of the network text, or else of the run text
abbrev pub IsReplayFault : List (List ℕ) → List (List ℕ) → ℕ → ProgramFault → Type 0
IsReplayFault lines run depth (program.Line found) =
    (network_of lines ≡ Err found)
    ⊎ ((n : NetworkSpec) × (network_of lines ≡ Ok n) × IsRunFault n depth run found)
IsReplayFault lines run depth _ = ⊥

-- the line on a replay was printed
abbrev pub PrintsReplay : List (List ℕ) → List (List ℕ) → ℕ → Output → Output
    → Result Bool ProgramFault → Type 0
PrintsReplay lines run depth = Does (IsReplayText lines run depth) (IsReplayFault lines run depth)

-- a text is what is answered to these packets over this network; and whether nothing is wrong
pub record IsPrintedSimulation (A : Type 0) (by : Arbiter) (network traffic : List (List ℕ))
    (depth : ℕ) (sound : Bool) (text : List ℕ) : Type 0 where
  pub answer : SimulationAnswer A
  pub answers : AnswersSimulationText by network traffic depth (Ok answer)
  pub is : text ≡ answer.text.items
  pub sounds : sound ≡ answer.sound

-- the first fault of the network text, or else of the traffic text
abbrev pub IsSimulationFault : (A : Type 0) → Arbiter → List (List ℕ) → List (List ℕ) → ℕ
    → ProgramFault → Type 0
IsSimulationFault A by network traffic depth (program.Line found) =
    AnswersSimulationText {A = A} by network traffic depth (Err found)
IsSimulationFault A by network traffic depth _ = ⊥

-- what becomes of the packets was printed
abbrev pub PrintsSimulation : (A : Type 0) → Arbiter → List (List ℕ) → List (List ℕ) → ℕ → Output
    → Output → Result Bool ProgramFault → Type 0
PrintsSimulation A by network traffic depth = Does
    (IsPrintedSimulation A by network traffic depth) (IsSimulationFault A by network traffic depth)
