use Rattle.std.proofs.Common.{◌≡◌, ℕ, ◌+◌, ◌*◌, ◌≤◌, ◌∙◌, length, take, sym, ap, subst, arith}
use Rattle.std.specs.List.{count_by}
use Rattle.std.proofs.lemmas.Option.{slice_get_within}
use Rattle.network_judge.specs.declared.table.Kind.TheVariants.{Ejection}
use Rattle.network_judge.specs.Table.{ejects}
use Rattle.network_adaptive.proofs.Bases.{count_same, count_more, base_room, block_low}
use Rattle.network_adaptive.proofs.spread.base_of.Goals as goal

pub loop-x-preserved-then-goes_on : goal.loop-x-preserved-then-goes_on
loop-x-preserved-then-goes_on c =
    let inside = slice_get_within c.args.kinds.now c.args.to Ejection c.requires.to in
    let low = c.loop-x.invariant.low in
    record {
      before = count_same c.args.kinds.now c.loop-x.x c.loop-x.before (omega arith) (sym c.goes_on.ensures ∙ c.if-goes_on.true) c.loop-x.invariant.before;
      low = omega arith;
    }

pub loop-x-preserved : goal.loop-x-preserved
loop-x-preserved c =
    let inside = slice_get_within c.args.kinds.now c.args.to Ejection c.requires.to in
    let low = c.loop-x.invariant.low in
    record {
      before = count_more c.args.kinds.now c.loop-x.x c.loop-x.before (omega arith) (sym c.goes_on.ensures ∙ c.if-goes_on.false) c.loop-x.invariant.before;
      low = omega arith;
    }

pub overflow_mul-result : goal.overflow_mul-result
overflow_mul-result c = omega (arith, block_low c.args.kinds.now c.args.ways c.args.to c.requires.to, c.requires.room)

pub returns-clause-room : goal.returns-clause-room
returns-clause-room c =
    let end : c.loop-x.x ≡ c.args.to = omega arith in
    let n : ℕ = length c.args.kinds.now * c.args.ways in
    let same : c.loop-x.before ≡ count_by ejects (take c.args.to c.args.kinds.now) =
    c.loop-x.invariant.before ∙ ap (λ z. count_by ejects (take z c.args.kinds.now)) end in
    subst (λ z. z * n + n ≤ count_by ejects c.args.kinds.now * n) (sym same) (base_room c.args.kinds.now c.args.ways c.args.to c.requires.to)
