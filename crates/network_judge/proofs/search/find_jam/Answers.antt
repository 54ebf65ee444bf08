use Rattle.std.proofs.Common.{◌≡◌, ◌∙◌, List, ap, sym, subst}
use Rattle.network_judge.specs.declared.fill.Fill.{Fill}
use Rattle.network_judge.specs.declared.spans.Span.{Span}
use Rattle.network_judge.specs.Table.{Table, table_of}
use Rattle.network_judge.specs.Jams.{IsJam}
use Rattle.network_judge.specs.Spans.{span_fills, IsCircle, IsClearCircle}
use Rattle.network_judge.proofs.Fills.{jam_of_spans}
use Rattle.network_judge.proofs.search.find_jam.Goals as goal

pub returns-clause-found : goal.returns-clause-found
returns-clause-found g c =
    let t : Table = table_of c.args.kinds.now c.args.joins.now c.args.choices.now in
    let replies = c.args.replies.now in
    let spans = c.loop-spans.spans.items in
    λ are cycle. (let circle : IsCircle (table_of c.args.kinds.now c.args.joins.now c.args.choices.now) c.args.replies.now c.deref-in-loop-spans-2.result.now =
    subst (λ (ss : List Span). IsCircle t replies ss) (sym c.deref-in-loop-spans-2.ensures.value) (c.loop-spans.invariant are cycle) in
    let clear : IsClearCircle (table_of c.args.kinds.now c.args.joins.now c.args.choices.now) c.args.replies.now c.deref-in-loop-spans-2.result.now =
    (rw c.in_default.is at c.in_ok-new.ensures.clear) replies circle in
    let jam : IsJam (table_of c.args.kinds.now c.args.joins.now c.args.choices.now) c.args.replies.now (span_fills c.loop-spans.spans.items) =
    jam_of_spans t replies spans (subst (λ (ss : List Span). IsClearCircle t replies ss) c.deref-in-loop-spans-2.ensures.value clear) in
    let same : span_fills c.loop-spans.spans.items ≡ c.deref-3.result.now = ap span_fills (sym c.deref-2.ensures.value) ∙ (sym c.in_ok-items.ensures ∙ sym c.deref-3.ensures.value) in
    absurd (c.in_ok-is_jam.ensures.no c.if-branch.false (subst (λ (fs : List Fill). IsJam t replies fs) same jam)))
