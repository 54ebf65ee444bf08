use Rattle.std.proofs.Common.{rules, ◌≡◌, ◌*◌, length, ◌∙◌, sym, ap, subst, arith}
use Rattle.rising.specs.declared.finding.Searched.TheVariants.{Rising}
use Rattle.rising.specs.Graph.{Digraph}
use Rattle.rising.specs.Search.{LeadsWithin}
use Rattle.rising.specs.Found.{IsOrderOrCircuit}
use Rattle.network_judge.specs.Table.{Table, table_of}
use Rattle.network_judge.specs.Marks.{MarksRoutes}
use Rattle.network_judge.specs.Graph.{graph_of}
use Rattle.network_judge.proofs.Ends.{width_is}
use Rattle.network_judge.proofs.Ranks.{written, stay_within, cycle_judged, rising_judged}
use Rattle.network_judge.proofs.judging.judge.Goals as goal

pub invariant_of-graph : goal.invariant_of-graph
invariant_of-graph g c =
    let t : Table = table_of c.args.kinds.now c.args.joins.now c.args.choices.now in
    let wide = width_is c.args.kinds.now c.in_ok-ends.ends.items c.in_ok-ends.ends.len c.len-width.result c.in_ok-ends.ensures
    c.in_ok-ends.ends.ok.0 c.len-width.ensures in
    let same : c.deref-2.result.now ≡ c.trace_all.new.used =
    c.deref-2.ensures.value
    ∙ written c.in_ok-used.used.len c.trace_all.new.used c.in_ok-used.used.items
    (omega (arith, c.in_ok-used.used.ok.0, c.trace_all.auto.used, ap length c.deref_mut.ensures.value)) in
    let marked : MarksRoutes t (length c.args.joins.now) c.deref-2.result.now =
    subst (λ z. MarksRoutes t (length c.args.joins.now) z) (sym same) c.in-Ok.ensures.marked in
    record {
      full = c.requires.full ∙ ap (λ z. length c.args.kinds.now * z) (sym wide);
      square = marked.size ∙ ap (λ z. length c.args.kinds.now * z) (sym wide);
      room = search rules;
      within = subst (λ z. LeadsWithin (graph_of (length c.args.kinds.now) z c.args.choices.now c.deref-2.result.now c.args.replies.now)) (sym wide)
          (stay_within t c.deref-2.result.now c.args.replies.now (length c.args.joins.now) c.requires.replies marked);
    }

pub returns-in-Circuit : goal.returns-in-Circuit
returns-in-Circuit g c =
    let t : Table = table_of c.args.kinds.now c.args.joins.now c.args.choices.now in
    let wide = width_is c.args.kinds.now c.in_ok-ends.ends.items c.in_ok-ends.ends.len c.len-width.result c.in_ok-ends.ensures
    c.in_ok-ends.ends.ok.0 c.len-width.ensures in
    let same : c.deref-2.result.now ≡ c.trace_all.new.used =
    c.deref-2.ensures.value
    ∙ written c.in_ok-used.used.len c.trace_all.new.used c.in_ok-used.used.items
    (omega (arith, c.in_ok-used.used.ok.0, c.trace_all.auto.used, ap length c.deref_mut.ensures.value)) in
    cycle_judged t c.args.replies.now c.len-width.result c.deref-2.result.now c.trace_all.new.used c.in_ok-ends.ends.items c.deref-in-Circuit.result.now
    c.in_ok-short-in-Circuit.short.items c.deref-in-Circuit-2.result.now c.in_ok-links_of-in-Circuit.field-0.items wide same c.in-Ok.ensures.marked
    c.in_ok-ends.ensures c.deref-in-Circuit.ensures.value c.in_ok-short-in-Circuit.ensures.circuit c.deref-in-Circuit-2.ensures.value c.in_ok-links_of-in-Circuit.ensures

pub returns : goal.returns
returns g c =
    let t : Table = table_of c.args.kinds.now c.args.joins.now c.args.choices.now in
    let wide = width_is c.args.kinds.now c.in_ok-ends.ends.items c.in_ok-ends.ends.len c.len-width.result c.in_ok-ends.ensures
    c.in_ok-ends.ends.ok.0 c.len-width.ensures in
    let same : c.deref-2.result.now ≡ c.trace_all.new.used =
    c.deref-2.ensures.value
    ∙ written c.in_ok-used.used.len c.trace_all.new.used c.in_ok-used.used.items
    (omega (arith, c.in_ok-used.used.ok.0, c.trace_all.auto.used, ap length c.deref_mut.ensures.value)) in
    let graph : Digraph = graph_of (length c.args.kinds.now) c.len-width.result c.args.choices.now c.deref-2.result.now c.args.replies.now in
    let found : IsOrderOrCircuit {A = g.row.A.Denot} graph (Rising c.in-Rising.numbers) =
    subst (λ z. IsOrderOrCircuit {A = g.row.A.Denot} graph z) c.in-Rising.is c.in_ok-looks.ensures in
    rising_judged t c.args.replies.now c.len-width.result c.deref-2.result.now c.trace_all.new.used c.in-Rising.numbers.items
    c.requires.replies wide same c.in-Ok.ensures.marked found.0 found.1
