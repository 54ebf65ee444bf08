use Rattle.std.proofs.Common.{◌+◌, ◌∙◌, sym, ap, arith}
use Rattle.std.specs.Prelude.{slice_index}
use Rattle.network_judge.specs.declared.table.Join.{Join}
use Rattle.network_judge.specs.Table.{Table, table_of, kind_of}
use Rattle.network_judge.specs.Verdicts.{join_at}
use Rattle.network_judge.proofs.Rounds.{round}
use Rattle.network_judge.proofs.Tracing.{cell_read, column_within, next_read, one_hop_more, traced_more, way_found}
use Rattle.network_judge.proofs.walk.trace.Goals as goal

pub cell-here-requires-clause-column : goal.cell-here-requires-clause-column
cell-here-requires-clause-column c =
    let t : Table = table_of c.args.kinds.now c.args.joins.now c.args.choices.now in
    let pair : Join = join_at t c.args.place in
    let l = c.loop-step in
    column_within t c.args.columns.now c.args.width pair.from pair.to (l.step + 1) c.requires.columns c.requires.width l.invariant.under_way

pub returns-in-None-clause-fails : goal.returns-in-None-clause-fails
returns-in-None-clause-fails c =
    let t : Table = table_of c.args.kinds.now c.args.joins.now c.args.choices.now in
    let pair : Join = join_at t c.args.place in
    let l = c.loop-step in
    let here = cell_read t c.args.columns.now c.args.width pair.from pair.to (l.step + 1) l.step l.at c.cell-here.result
    c.requires.columns c.requires.width l.invariant.under_way l.invariant.here c.cell-here.ensures.value in
    let next = next_read t pair.from pair.to l.step c.cell-here.result here in
    (l.invariant.under_way, omega arith, ap (kind_of t) (sym next) ∙ sym c.in-None.ensures)

pub returns-in-Some-Injection-clause-fails : goal.returns-in-Some-Injection-clause-fails
returns-in-Some-Injection-clause-fails c =
    let t : Table = table_of c.args.kinds.now c.args.joins.now c.args.choices.now in
    let pair : Join = join_at t c.args.place in
    let l = c.loop-step in
    let here = cell_read t c.args.columns.now c.args.width pair.from pair.to (l.step + 1) l.step l.at c.cell-here.result
    c.requires.columns c.requires.width l.invariant.under_way l.invariant.here c.cell-here.ensures.value in
    let next = next_read t pair.from pair.to l.step c.cell-here.result here in
    let kind = rw c.in-Some-Injection.field-0-is at (sym c.in-Some-Injection.ensures) in
    (l.invariant.under_way, omega arith, ap (kind_of t) (sym next) ∙ kind)

pub returns-in-Some-Ejection-clause-fails : goal.returns-in-Some-Ejection-clause-fails
returns-in-Some-Ejection-clause-fails c =
    let t : Table = table_of c.args.kinds.now c.args.joins.now c.args.choices.now in
    let pair : Join = join_at t c.args.place in
    let l = c.loop-step in
    let here = cell_read t c.args.columns.now c.args.width pair.from pair.to (l.step + 1) l.step l.at c.cell-here.result
    c.requires.columns c.requires.width l.invariant.under_way l.invariant.here c.cell-here.ensures.value in
    let next = next_read t pair.from pair.to l.step c.cell-here.result here in
    let kind = rw c.in-Some-Ejection.field-0-is at (sym c.in-Some-Ejection.ensures) in
    (l.invariant.under_way, omega arith, ap (kind_of t) (sym next) ∙ kind, λ e. c.if-after-pair.false (next ∙ e))

pub returns-then-after-pair-clause-way : goal.returns-then-after-pair-clause-way
returns-then-after-pair-clause-way c =
    let t : Table = table_of c.args.kinds.now c.args.joins.now c.args.choices.now in
    let pair : Join = join_at t c.args.place in
    let l = c.loop-step in
    let here = cell_read t c.args.columns.now c.args.width pair.from pair.to (l.step + 1) l.step l.at c.cell-here.result
    c.requires.columns c.requires.width l.invariant.under_way l.invariant.here c.cell-here.ensures.value in
    let next = next_read t pair.from pair.to l.step c.cell-here.result here in
    let inside = c.cell-here.ensures.inside in
    record {
      steps = l.step + 1;
      way = way_found t pair.from pair.to l.step (slice_index c.args.choices.now c.cell-here.result) l.invariant.under_way next
          c.if-after-pair.true (omega arith);
      traced = traced_more t pair.from pair.to l.step c.args.used.now l.used c.cell-here.result l.invariant.traced here
          (omega (arith, l.invariant.traced.size, inside));
    }

pub loop-step-preserved : goal.loop-step-preserved
loop-step-preserved c =
    let t : Table = table_of c.args.kinds.now c.args.joins.now c.args.choices.now in
    let pair : Join = join_at t c.args.place in
    let l = c.loop-step in
    let here = cell_read t c.args.columns.now c.args.width pair.from pair.to (l.step + 1) l.step l.at c.cell-here.result
    c.requires.columns c.requires.width l.invariant.under_way l.invariant.here c.cell-here.ensures.value in
    let next = next_read t pair.from pair.to l.step c.cell-here.result here in
    let inside = c.cell-here.ensures.inside in
    record {
      here = next;
      under_way = one_hop_more t pair.from pair.to l.step (slice_index c.args.choices.now c.cell-here.result)
          l.invariant.under_way next (rw c.in-Some-Hop.field-0-is at (sym c.in-Some-Hop.ensures));
      traced = traced_more t pair.from pair.to l.step c.args.used.now l.used c.cell-here.result l.invariant.traced here
          (omega (arith, l.invariant.traced.size, inside));
    }

pub returns-clause-fails : goal.returns-clause-fails
returns-clause-fails c =
    let t : Table = table_of c.args.kinds.now c.args.joins.now c.args.choices.now in
    let pair : Join = join_at t c.args.place in
    round t pair.from pair.to (c.loop-step.step + 1) (omega arith) c.loop-step.invariant.under_way
