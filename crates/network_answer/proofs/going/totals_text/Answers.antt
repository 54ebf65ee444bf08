use Rattle.std.proofs.Common.{◌≡◌, ◌++◌, ◌∙◌, ap, subst}
use Rattle.std.specs.Prelude.{IfSome, IfNone}
use Rattle.network_judge.specs.Table.{Table, table_of}
use Rattle.network_judge.specs.Verdicts.{AllArrive}
use Rattle.network_answer.specs.Totals.{HasTotals}
use Rattle.network_answer.specs.Answer.{totals_line}
use Rattle.network_answer.proofs.Totalled.{same_table, totals_put, totals_none}
use Rattle.network_answer.proofs.going.totals_text.Goals as goal
use Rattle.network_answer.proofs.going.totals_text.Goals.{in-Some+in_ok-put_totals, in_default}

pub returns : goal.returns
returns g c =
    let n = c.args.network.now in
    let v = c.args.verdict.now in
    let t : Table = table_of c.kinds-kinds.result.now c.joins.result.now c.choices.result.now in
    let same : t ≡ n.table =
    same_table n.table c.kinds-kinds.result.now c.joins.result.now c.choices.result.now c.kinds-kinds.ensures.value c.joins.ensures c.choices.ensures in
    elim c.match-branch-2.branch [
      | in-Some+in_ok-put_totals w ↦ rw w.text-is
          (totals_put n.table n.replies v w.in-Some.totals w.put_totals.new.out.items c.requires
          (subst (λ (u : Table). HasTotals u w.in-Some.totals) same
          (subst (λ f. IfSome f (HasTotals t)) w.in-Some.is c.in_ok-totals.ensures.some))
          (w.in_ok-put_totals.ensures ∙ ap (λ s. s ++ totals_line w.in-Some.totals) c.new-text.ensures.items))
      | in_default w ↦ rw w.text-is
          (totals_none n.table n.replies v c.new-text.result.items c.requires
          (subst (λ (u : Table). AllArrive u → ⊥) same (subst (λ f. IfNone f (AllArrive t → ⊥)) w.in_default.is c.in_ok-totals.ensures.none))
          c.new-text.ensures.items)
    ]
