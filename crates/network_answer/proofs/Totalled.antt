-- The line on what packets go over stands where each pair has a route.
use Rattle.std.proofs.Common.{◌≡◌, ℕ, List, [], ◌∙◌, ap}
use Rattle.network_judge.specs.declared.table.Kind.{Kind}
use Rattle.network_judge.specs.declared.table.Join.{Join}
use Rattle.network_judge.specs.declared.table.Reply.{Reply}
use Rattle.network_judge.specs.declared.table.Verdict.{Verdict}
use Rattle.network_judge.specs.declared.table.Verdict.TheVariants.{Rising, NoRoute, Cycle}
use Rattle.network_judge.specs.Table.{Table, table_of}
use Rattle.network_judge.specs.Verdicts.{AllArrive, IsVerdict}
use Rattle.network_answer.specs.Totals.{HasTotals}
use Rattle.network_answer.specs.declared.totals.Totals.{Totals}
use Rattle.network_answer.proofs.Counting.{some_lost}
use Rattle.network_answer.specs.Answer.{totals_line, IsTotalsText}

-- three lists that are those of a table
pub same_table : (t : Table) (kinds : List Kind) (joins : List Join) (choices : List ℕ) → kinds ≡ t.kinds → joins ≡ t.joins → choices ≡ t.choices
    → table_of kinds joins choices ≡ t
same_table t kinds joins choices one two three =
    ap (λ k. table_of k joins choices) one ∙ (ap (λ j. table_of t.kinds j choices) two ∙ ap (λ c. table_of t.kinds t.joins c) three)

-- it is put there
pub totals_put : {A : Type 0} (t : Table) (replies : List Reply) (v : Verdict A) (totals : Totals) (text : List ℕ) → IsVerdict t replies v
    → HasTotals t totals → text ≡ totals_line totals → IsTotalsText t v text
totals_put t replies (Rising numbers) totals text verdict holds is = record { totals = totals; holds = holds; is = is }
totals_put t replies (NoRoute r) totals text verdict holds is = absurd (some_lost t r verdict holds.arrive)
totals_put t replies (Cycle links) totals text verdict holds is = record { totals = totals; holds = holds; is = is }

-- where there is none, a pair has no route
pub totals_none : {A : Type 0} (t : Table) (replies : List Reply) (v : Verdict A) (text : List ℕ) → IsVerdict t replies v
    → (AllArrive t → ⊥) → text ≡ [] → IsTotalsText t v text
totals_none t replies (Rising numbers) text verdict lost is = absurd (lost verdict.0)
totals_none t replies (NoRoute r) text verdict lost is = is
totals_none t replies (Cycle links) text verdict lost is = absurd (lost verdict.0)
