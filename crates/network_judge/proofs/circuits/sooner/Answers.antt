use Rattle.std.proofs.Common.{◌≡◌, ◌<◌, ◌∙◌, List, sym, subst}
use Rattle.network_judge.specs.Table.{Table, table_of}
use Rattle.network_judge.specs.declared.spans.Span.{Span}
use Rattle.network_judge.specs.Spans.{starts, IsCircle, IsTangle, IsUntangled}
use Rattle.network_judge.proofs.Cutting.{comes_somewhere, cut_circle}
use Rattle.network_judge.proofs.SpanLists.{clear_circle, cut_spans, cut_is, fewer_steps}
use Rattle.network_judge.proofs.circuits.sooner.Goals as goal

pub returns-in-None-clause-clear : goal.returns-in-None-clause-clear
returns-in-None-clause-clear g c =
    let t : Table = table_of c.args.kinds.now c.args.joins.now c.args.choices.now in
    let none : IsUntangled (table_of c.args.kinds.now c.args.joins.now c.args.choices.now) c.args.spans.now = rw c.in-None.is at c.in_ok-first_tangle.ensures.none in
    λ replies circle. clear_circle t replies c.args.spans.now none circle

pub returns-in-None-step_of-clause-clear : goal.returns-in-None-step_of-clause-clear
returns-in-None-step_of-clause-clear g c =
    let t : Table = table_of c.args.kinds.now c.args.joins.now c.args.choices.now in
    let is : IsTangle (table_of c.args.kinds.now c.args.joins.now c.args.choices.now) c.args.spans.now c.in-Some.tangle = rw c.in-Some.is at c.in_ok-first_tangle.ensures.some in
    λ replies circle. absurd (comes_somewhere t replies c.args.spans.now c.in-Some.tangle is c.in-None-step_of.ensures.none circle)

pub returns-clause-less : goal.returns-clause-less
returns-clause-less g c =
    let t : Table = table_of c.args.kinds.now c.args.joins.now c.args.choices.now in
    let is : IsTangle (table_of c.args.kinds.now c.args.joins.now c.args.choices.now) c.args.spans.now c.in-Some.tangle = rw c.in-Some.is at c.in_ok-first_tangle.ensures.some in
    let cut : c.end_before.new.spans.items ≡ cut_spans c.args.spans.now c.in-Some.tangle c.place_from-place.result c.in-Some-step_of.end =
    c.in_ok-end_before.ensures ∙ cut_is c.args.spans.now c.in_ok-new.new.items c.in-Some.tangle c.place_from-place.result c.in-Some-step_of.end is.place_low c.in_ok-new.ensures in
    subst (λ (ss : List Span). starts ss < starts c.args.spans.now) (sym cut)
    (fewer_steps t c.args.spans.now c.in-Some.tangle c.place_from-place.result c.in-Some-step_of.end is c.place_from-place.ensures.low)

pub returns-clause-circle : goal.returns-clause-circle
returns-clause-circle g c =
    let t : Table = table_of c.args.kinds.now c.args.joins.now c.args.choices.now in
    let is : IsTangle (table_of c.args.kinds.now c.args.joins.now c.args.choices.now) c.args.spans.now c.in-Some.tangle = rw c.in-Some.is at c.in_ok-first_tangle.ensures.some in
    let cut : c.end_before.new.spans.items ≡ cut_spans c.args.spans.now c.in-Some.tangle c.place_from-place.result c.in-Some-step_of.end =
    c.in_ok-end_before.ensures ∙ cut_is c.args.spans.now c.in_ok-new.new.items c.in-Some.tangle c.place_from-place.result c.in-Some-step_of.end is.place_low c.in_ok-new.ensures in
    λ replies circle. subst (λ (ss : List Span). IsCircle t replies ss) (sym cut)
    (cut_circle t replies c.args.spans.now c.in-Some.tangle c.place_from-place.result c.in-Some-step_of.end is c.place_from-place.ensures.around
    c.place_from-place.ensures.low c.in-Some-step_of.ensures.some circle)
