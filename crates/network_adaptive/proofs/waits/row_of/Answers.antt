use Rattle.std.proofs.Common.{◌+◌, ◌∙◌, refl, sym, arith}
use Rattle.std.specs.Prelude.{slice_index}
use Rattle.network_adaptive.proofs.Awaited.{rows_put, rows_skip, rows_end}
use Rattle.network_adaptive.proofs.waits.row_of.Goals as goal

pub loop-k-preserved-then-not-goes_on : goal.loop-k-preserved-then-not-goes_on
loop-k-preserved-then-not-goes_on g c =
    rows_skip c.args.kinds.now c.args.choices.now c.args.base c.args.ways c.args.marks.now c.args.held.now c.args.from c.loop-k.k (c.loop-k.k + 1)
    c.args.edges.now.items c.loop-k.edges.items (omega arith) (sym c.goes_on.ensures ∙ c.if-not-goes_on.true) c.loop-k.invariant

pub loop-k-preserved : goal.loop-k-preserved
loop-k-preserved g c =
    rows_put c.args.kinds.now c.args.choices.now c.args.base c.args.ways c.args.marks.now c.args.held.now c.args.from c.loop-k.k (c.loop-k.k + 1)
    (slice_index c.args.held.now c.loop-k.k) c.args.edges.now.items c.loop-k.edges.items c.row_from.new.edges.items (omega arith) (omega arith) refl
    (sym c.goes_on.ensures ∙ c.if-not-goes_on.false) c.loop-k.invariant c.in_ok-row_from.ensures

pub returns : goal.returns
returns g c =
    rows_end c.args.kinds.now c.args.choices.now c.args.base c.args.ways c.args.marks.now c.args.held.now c.args.from c.loop-k.k
    c.args.edges.now.items c.loop-k.edges.items (omega arith) c.loop-k.invariant
