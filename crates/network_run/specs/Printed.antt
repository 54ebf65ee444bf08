-- What is answered where the run is asked for by which a network deadlocks (this project's own
-- format).
use Rattle.std.specs.Prelude.{◌≡◌, ℕ, zero, suc, List, [], ◌∷◌, Vec, Option, None, IsSomeAnd}
use Rattle.network_judge.specs.declared.table.Join.{Join}
use Rattle.network_judge.specs.declared.table.Verdict.{Verdict}
use Rattle.network_judge.specs.declared.table.Verdict.TheVariants.{Rising, NoRoute, Cycle}
use Rattle.network_judge.specs.Verdicts.{IsVerdict}
use Rattle.network_text.specs.Network.{NetworkSpec}
use Rattle.network_answer.specs.Answer.{verdict_text, is_rising, SaysNoPair}
use Rattle.network_answer.specs.Causes.{verdict_causes}
use Rattle.network_answer.specs.declared.answer.Answer.{Answer}
use Rattle.network_machine.specs.declared.moves.Move.{Move}
use Rattle.network_run.specs.LockedUp.{MovesLockUp}
use Rattle.network_run.specs.Written.{moves_text}

-- moves are found that deadlock the network, if its channels hold flits
abbrev pub IsLockingRun : {A : Type 0} → NetworkSpec → ℕ → Option (Vec Move A) → Type 0
IsLockingRun n zero found = found ≡ None
IsLockingRun n (suc d) found = IsSomeAnd found (λ moves. MovesLockUp n (suc d) moves.items)

-- moves are found exactly where the verdict is a cycle
abbrev pub FindsRun : {A : Type 0} → NetworkSpec → ℕ → Verdict A → Option (Vec Move A) → Type 0
FindsRun n depth (Rising numbers) found = found ≡ None
FindsRun n depth (NoRoute r) found = found ≡ None
FindsRun n depth (Cycle links) found = IsLockingRun n depth found

-- a text has a line for each of some moves, which deadlock the network
pub record IsTextOfRun (n : NetworkSpec) (depth : ℕ) (text : List ℕ) : Type 0 where
  pub moves : List Move
  pub locks : MovesLockUp n depth moves
  pub is : text ≡ moves_text moves

-- the text of a run, if the channels hold flits, and else that of the verdict
abbrev pub IsOfCycle : {A : Type 0} → NetworkSpec → ℕ → Verdict A → List ℕ → Type 0
IsOfCycle n zero v text = text ≡ verdict_text v
IsOfCycle n (suc d) v text = IsTextOfRun n (suc d) text

-- the text of the verdict, or where that is a cycle, that of a run
abbrev pub IsOfVerdict : {A : Type 0} → NetworkSpec → ℕ → Verdict A → List ℕ → Type 0
IsOfVerdict {A} n depth (Rising numbers) text = text ≡ verdict_text {A = A} (Rising numbers)
IsOfVerdict {A} n depth (NoRoute r) text = text ≡ verdict_text {A = A} (NoRoute r)
IsOfVerdict {A} n depth (Cycle links) text = IsOfCycle {A = A} n depth (Cycle links) text

-- what is answered of a network: the text of a run by which it deadlocks, where there is a cycle, and
-- else that of its verdict; whether its numbers rise, and why
pub record AnswersRun {A : Type 0} (n : NetworkSpec) (depth : ℕ) (a : Answer A) : Type 0 where
  pub verdict : Verdict A
  pub holds : IsVerdict n.table n.replies verdict
  pub text : IsOfVerdict n depth verdict a.text.items
  pub rising : a.rising ≡ is_rising verdict
  pub causes : a.causes.items ≡ verdict_causes verdict
  pub kinds : a.kinds.items ≡ n.table.kinds

-- what is answered of a network with these pairs
abbrev pub TellsRunOf : {A : Type 0} → List Join → NetworkSpec → ℕ → Answer A → Type 0
TellsRunOf [] n depth a = SaysNoPair a
TellsRunOf (join ∷ joins) n depth a = AnswersRun n depth a

-- what is answered of a network: that it has no pair, or what is said of its run
abbrev pub TellsRunOrNoPair : {A : Type 0} → NetworkSpec → ℕ → Answer A → Type 0
TellsRunOrNoPair n depth a = TellsRunOf n.table.joins n depth a
