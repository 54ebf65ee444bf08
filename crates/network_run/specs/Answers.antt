-- What is answered to a network text and a run text.
use Rattle.std.specs.Prelude.{◌≡◌, ◌⊎◌, ℕ, Bool, true, false, List, Result, Ok, Err}
use Rattle.torus.specs.declared.fault.Fault.TheVariants as fault
use Rattle.lexer.specs.declared.refusal.Refusal.{Refusal}
use Rattle.lexer.specs.declared.fault.LineFault.{LineFault}
use Rattle.lexer.specs.Faults.{fault_of_refusal}
use Rattle.network_text.specs.Network.{NetworkSpec, network_of}
use Rattle.network_answer.specs.declared.answer.Answer.{Answer}
use Rattle.network_machine.specs.declared.moves.Ending.TheVariants as ending
use Rattle.network_run.specs.declared.answering.ReplayAnswer.{ReplayAnswer}
use Rattle.network_run.specs.declared.reason.RunReason.{RunReason}
use Rattle.network_run.specs.declared.replaying.Replayed.{Replayed}
use Rattle.network_run.specs.declared.replaying.Replayed.TheVariants as replayed
use Rattle.network_run.specs.Reasons.{run_fault_of}
use Rattle.network_run.specs.Replays.{AnswersReplay}
use Rattle.network_run.specs.Printed.{TellsRunOrNoPair}
use Rattle.network_run.specs.Written.{replay_line}

-- whether a replay shows nothing wrong with the network
abbrev pub is_sound : Replayed → Bool
is_sound (replayed.NoRoute r) = false
is_sound (replayed.Ended ending.Locked) = false
is_sound (replayed.Ended ending.Empty) = true
is_sound (replayed.Ended (ending.Goes of)) = true

-- out of memory, which is of no line
abbrev pub memory_fault : LineFault
memory_fault = record { fault = fault.Memory; line = 0 }

-- what is answered to a network text of these lines of which a run is asked for: that of its
-- network, or its first fault, or out of memory
abbrev pub AnswersRunText : {A : Type 0} → List (List ℕ) → ℕ → Result (Answer A) LineFault → Type 0
AnswersRunText lines depth (Ok a) =
    (n : NetworkSpec) × (network_of lines ≡ Ok n) × TellsRunOrNoPair n depth a
AnswersRunText lines depth (Err e) = (e ≡ memory_fault) ⊎ (network_of lines ≡ Err e)

-- the line on a replay and whether it shows nothing wrong, or out of memory
abbrev pub TellsReplayed : {A : Type 0} → Replayed → Result (ReplayAnswer A) LineFault → Type 0
TellsReplayed replay (Ok a) = (a.text.items ≡ replay_line replay) × (a.sound ≡ is_sound replay)
TellsReplayed replay (Err e) = e ≡ memory_fault

-- a fault is that of a refusal of a run text
pub record IsRunFault (n : NetworkSpec) (depth : ℕ) (run : List (List ℕ)) (e : LineFault) : Type 0
  where
    pub refusal : Refusal RunReason
    pub answers : AnswersReplay n depth run (Err refusal)
    pub is : e ≡ fault_of_refusal run_fault_of refusal

-- what is answered to a network text and a run text of these lines: the line on the replay; or the
-- first fault of the network text, or else of the run text; or out of memory
abbrev pub AnswersReplayText : {A : Type 0} → List (List ℕ) → List (List ℕ) → ℕ
    → Result (ReplayAnswer A) LineFault → Type 0
AnswersReplayText network run depth (Ok a) =
    (n : NetworkSpec) × (network_of network ≡ Ok n)
    × (replay : Replayed) × AnswersReplay n depth run (Ok replay) × TellsReplayed replay (Ok a)
AnswersReplayText network run depth (Err e) =
    (e ≡ memory_fault) ⊎ ((network_of network ≡ Err e)
    ⊎ ((n : NetworkSpec) × (network_of network ≡ Ok n) × IsRunFault n depth run e))
