use Rattle.std.proofs.Common.{ℕ, ◌++◌, ◌∙◌, sym, ap, subst}
use Rattle.std.specs.Prelude.{IfSome}
use Rattle.network_judge.specs.TableNet.{Flits}
use Rattle.network_adaptive.specs.Choices.{HasEscapes}
use Rattle.network_adaptive.specs.Choosing.{ChoiceTable, choosing_of, network, IsShaped}
use Rattle.network_adaptive.specs.Travel.{IsTravel}
use Rattle.network_answer.specs.Answer.{totals_line}
use Rattle.network_answer.specs.Totals.{HasChosenTotals}
use Rattle.network_answer.specs.Routing.{can_go_on, judged_travel}
use Rattle.network_answer.proofs.Reaching.{on_shaped, on_escapes, on_travel, lists_moved, last_put, last_none}
use Rattle.network_answer.proofs.going.last_text.Goals as goal

pub chosen_totals-requires-clause-shaped : goal.chosen_totals-requires-clause-shaped
chosen_totals-requires-clause-shaped g c =
    let a = c.args in
    let f = a.fixed.now in
    let t : ChoiceTable = choosing_of f.kinds.items f.joins.items a.ways a.choices.now a.marks.now in
    lists_moved (λ ks js. IsShaped (choosing_of ks js a.ways a.choices.now a.marks.now)) c.deref.result.now f.kinds.items c.deref-2.result.now
    f.joins.items c.deref.ensures.value c.deref-2.ensures.value
    (on_shaped t f.replies.items a.judged.now (sym c.can_go_on.ensures ∙ c.if-not-can_go_on.false) c.requires.judged)

pub chosen_totals-requires-clause-go_on : goal.chosen_totals-requires-clause-go_on
chosen_totals-requires-clause-go_on g c =
    let a = c.args in
    let f = a.fixed.now in
    let t : ChoiceTable = choosing_of f.kinds.items f.joins.items a.ways a.choices.now a.marks.now in
    lists_moved (λ ks js. (depth : ℕ) (flits : Flits) → HasEscapes (network (choosing_of ks js a.ways a.choices.now a.marks.now) depth flits))
    c.deref.result.now f.kinds.items c.deref-2.result.now f.joins.items c.deref.ensures.value c.deref-2.ensures.value
    (on_escapes t f.replies.items a.judged.now (sym c.can_go_on.ensures ∙ c.if-not-can_go_on.false) c.requires.judged)

pub chosen_totals-requires-clause-known : goal.chosen_totals-requires-clause-known
chosen_totals-requires-clause-known g c =
    let a = c.args in
    let f = a.fixed.now in
    let t : ChoiceTable = choosing_of f.kinds.items f.joins.items a.ways a.choices.now a.marks.now in
    subst (λ o. IfSome o (λ travel. (depth : ℕ) (flits : Flits)
    → IsTravel (network (choosing_of c.deref.result.now c.deref-2.result.now a.ways a.choices.now a.marks.now) depth flits) travel))
    (sym c.judged_travel-known.ensures)
    (lists_moved (λ ks js. IfSome (judged_travel a.judged.now) (λ travel. (depth : ℕ) (flits : Flits)
    → IsTravel (network (choosing_of ks js a.ways a.choices.now a.marks.now) depth flits) travel))
    c.deref.result.now f.kinds.items c.deref-2.result.now f.joins.items c.deref.ensures.value c.deref-2.ensures.value
    (on_travel t f.replies.items a.judged.now c.requires.judged))

pub returns-then-not-can_go_on : goal.returns-then-not-can_go_on
returns-then-not-can_go_on g c =
    let a = c.args in
    let f = a.fixed.now in
    let t : ChoiceTable = choosing_of f.kinds.items f.joins.items a.ways a.choices.now a.marks.now in
    last_none (can_go_on a.judged.now) t c.new-text.result.items (sym c.can_go_on.ensures ∙ c.if-not-can_go_on.true) c.new-text.ensures.items

pub returns : goal.returns
returns g c =
    let a = c.args in
    let f = a.fixed.now in
    let t : ChoiceTable = choosing_of f.kinds.items f.joins.items a.ways a.choices.now a.marks.now in
    last_put (can_go_on a.judged.now) t c.in_ok-totals.totals c.put_totals.new.out.items (sym c.can_go_on.ensures ∙ c.if-not-can_go_on.false)
    (lists_moved (λ ks js. HasChosenTotals (choosing_of ks js a.ways a.choices.now a.marks.now) c.in_ok-totals.totals)
    f.kinds.items c.deref.result.now f.joins.items c.deref-2.result.now (sym c.deref.ensures.value) (sym c.deref-2.ensures.value) c.in_ok-totals.ensures)
    (c.in_ok-put_totals.ensures ∙ ap (λ s. s ++ totals_line c.in_ok-totals.totals) c.new-text.ensures.items)
