-- The text of a run that is found.
use Rattle.std.proofs.Common.{◌≡◌, ℕ, zero, suc, List, ◌∙◌, ap, subst}
use Rattle.std.specs.Prelude.{Vec, Option, Some, None}
use Rattle.network_judge.specs.declared.table.Verdict.{Verdict}
use Rattle.network_judge.specs.declared.table.Verdict.TheVariants.{Rising, NoRoute, Cycle}
use Rattle.network_judge.specs.Verdicts.{IsVerdict}
use Rattle.network_text.specs.Network.{NetworkSpec}
use Rattle.network_answer.specs.Answer.{is_rising}
use Rattle.network_answer.specs.Causes.{verdict_causes}
use Rattle.network_answer.specs.declared.answer.Answer.{Answer}
use Rattle.network_machine.specs.declared.moves.Move.{Move}
use Rattle.network_run.specs.Printed.{IsLockingRun, FindsRun, IsOfCycle, IsOfVerdict, AnswersRun}
use Rattle.network_run.specs.Written.{moves_text}

of_cycle : {A : Type 0} (n : NetworkSpec) (depth : ℕ) (v : Verdict A) (moves : Vec Move A) (text : List ℕ)
    → IsLockingRun n depth (Some moves) → text ≡ moves_text moves.items → IsOfCycle n depth v text
of_cycle n zero v moves text finds is = absurd (let no : Some moves ≡ None = finds in cc)
of_cycle n (suc d) v moves text finds is = record { moves = moves.items; locks = finds; is = is }

of_verdict : {A : Type 0} (n : NetworkSpec) (depth : ℕ) (v : Verdict A) (moves : Vec Move A) (text : List ℕ)
    → FindsRun n depth v (Some moves) → text ≡ moves_text moves.items → IsOfVerdict n depth v text
of_verdict n depth (Rising numbers) moves text finds is = absurd (let no : Some moves ≡ None = finds in cc)
of_verdict n depth (NoRoute r) moves text finds is = absurd (let no : Some moves ≡ None = finds in cc)
of_verdict n depth (Cycle links) moves text finds is = of_cycle n depth (Cycle links) moves text finds is

pub run_told : {A : Type 0} (n : NetworkSpec) (depth : ℕ) (v : Verdict A) (found : Option (Vec Move A)) (moves : Vec Move A) (lent : List Move) (a : Answer A)
    → found ≡ Some moves → FindsRun n depth v found → IsVerdict n.table n.replies v → a.text.items ≡ moves_text lent → lent ≡ moves.items
    → a.rising ≡ is_rising v → a.causes.items ≡ verdict_causes v → a.kinds.items ≡ n.table.kinds → AnswersRun n depth a
run_told n depth v found moves lent a some finds holds text same rises why kinds = record {
  verdict = v;
  holds = holds;
  text = of_verdict n depth v moves a.text.items (subst (λ (f : Option (Vec Move _)). FindsRun n depth v f) some finds) (text ∙ ap moves_text same);
  rising = rises;
  causes = why;
  kinds = kinds;
}
