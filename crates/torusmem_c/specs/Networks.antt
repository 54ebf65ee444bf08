-- The verdict on a network, as C sees it (this project's own format).
use Rattle.std.specs.Prelude.{◌≡◌, ◌⊎◌, ℕ, Bool, true, false, List, [], ◌∷◌, Result, Ok, Err, codes}
use Rattle.std.specs.Global.{Global}
use Rattle.lexer.specs.declared.fault.LineFault.{LineFault}
use Rattle.network_judge.specs.declared.table.Join.{Join}
use Rattle.network_judge.specs.declared.table.Verdict.{Verdict}
use Rattle.network_judge.specs.declared.table.Verdict.TheVariants as verdict
use Rattle.network_judge.specs.Verdicts.{IsVerdict}
use Rattle.network_text.specs.Network.{NetworkSpec}
use Rattle.network_answer.specs.declared.answer.Answer.{Answer}
use Rattle.network_answer.specs.Answer.{IsJudgedText}
use Rattle.network_answer.specs.Routing.{AnswersRouting}
use Rattle.torusmem_c.specs.declared.outcome.Outcome.{Outcome}
use Rattle.torusmem_c.specs.declared.outcome.Code.{Code}
use Rattle.torusmem_c.specs.declared.outcome.Code.TheVariants as code
use Rattle.torusmem_c.specs.Outcome.{fault_outcome}
use Rattle.torusmem_c.specs.Room.{LacksMemory, put_over, put_as}

-- the code of a verdict
abbrev pub verdict_code : {A : Type 0} → Verdict A → Code
verdict_code (verdict.Rising numbers) = code.Done
verdict_code (verdict.NoRoute r) = code.NoRoute
verdict_code (verdict.Cycle links) = code.Cycle

-- the text of a verdict on a network, and of what stands behind it, is put into a buffer, and the
-- verdict's code is told
pub record PutsVerdict {A : Type 0} (n : NetworkSpec) (v : Verdict A) (before after : List ℕ)
    (r : Outcome) : Type 0 where
  pub text : List ℕ
  pub is : IsJudgedText n v text
  pub buffer : after ≡ put_over text before
  pub answer : r ≡ put_as (verdict_code v) text before

-- it is told that a network has no source-destination pair
pub record PutsNoPair (before after : List ℕ) (r : Outcome) : Type 0 where
  pub buffer : after ≡ put_over (codes "no pair\n") before
  pub answer : r ≡ put_as code.NoPair (codes "no pair\n") before

-- what is told of a network with these pairs
abbrev pub TellsOfPairs : Type 0 → List Join → NetworkSpec → List ℕ → List ℕ → Outcome → Type 0
TellsOfPairs A [] n before after r = PutsNoPair before after r
TellsOfPairs A (join ∷ joins) n before after r =
    (v : Verdict A) × IsVerdict n.table n.replies v × PutsVerdict n v before after r

-- what is told of a network: the verdict that holds of it, if it has pairs
abbrev pub TellsNetwork : Type 0 → NetworkSpec → List ℕ → List ℕ → Outcome → Type 0
TellsNetwork A n before after r = TellsOfPairs A n.table.joins n before after r

-- what is told of a network text: of the network that it gives, or its first fault
abbrev pub TellsText : Type 0 → Result NetworkSpec LineFault → List ℕ → List ℕ → Outcome → Type 0
TellsText A (Ok n) before after r = TellsNetwork A n before after r
TellsText A (Err found) before after r = (after ≡ before) × (r ≡ fault_outcome found)

-- the code of whether the numbers of a network's channels rise
abbrev pub rising_code : Bool → Code
rising_code true = code.Done
rising_code false = code.NotRising

-- what is answered to a network text of these lines, whose routers may choose, is put into a buffer
pub record PutsAnswer (text : List (List ℕ)) (before after : List ℕ) (r : Outcome) : Type 0 where
  pub said : Answer Global
  pub is : AnswersRouting text (Ok said)
  pub buffer : after ≡ put_over said.text.items before
  pub answer : r ≡ put_as (rising_code said.rising) said.text.items before

-- or why nothing is
pub record RefusesNetwork (text : List (List ℕ)) (before after : List ℕ) (r : Outcome) : Type 0 where
  pub found : LineFault
  pub is : AnswersRouting {A = Global} text (Err found)
  pub buffer : after ≡ before
  pub answer : r ≡ fault_outcome found
