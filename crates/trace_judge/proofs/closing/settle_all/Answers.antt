use Rattle.std.proofs.Common.{◌<◌, List, length, arith, sym, subst}
use Rattle.std.proofs.lemmas.Option.{slice_get-get_or}
use Rattle.trace_laws.specs.declared.opened.Branch.{Branch}
use Rattle.trace_judge.proofs.Growth.{Settling, settling_none, settling_more, settling_kept, settling_sound}
use Rattle.trace_judge.proofs.closing.settle_all.Goals as goal

pub loop-i-init : goal.loop-i-init
loop-i-init g c =
    subst (λ (bs : List Branch). Settling c.args.table.now c.args.address c.args.branches.now c.args.nodes.now.items
    0 bs c.args.nodes.now.items) (sym c.new-found.ensures.items)
    (settling_none c.args.table.now c.args.address c.args.branches.now c.args.nodes.now.items)

pub loop-i-preserved : goal.loop-i-preserved
loop-i-preserved g c =
    let l : c.loop-i.i < length c.args.branches.now = omega arith in
    settling_more c.args.table.now c.args.address c.args.branches.now c.args.nodes.now.items c.loop-i.i
    c.loop-i.found.items c.add.new.found.items c.loop-i.nodes.items c.add.new.nodes.items _
    (slice_get-get_or c.args.branches.now c.loop-i.i _ l) c.in_ok-add.ensures.there c.in_ok-add.ensures.grows
    c.in_ok-add.ensures.ways c.loop-i.invariant

pub returns-clause-kept : goal.returns-clause-kept
returns-clause-kept g c =
    settling_kept c.args.table.now c.args.address c.args.branches.now c.args.nodes.now.items c.loop-i.i
    c.loop-i.found.items c.loop-i.nodes.items (omega arith) c.loop-i.invariant

pub returns-clause-sound : goal.returns-clause-sound
returns-clause-sound g c =
    settling_sound c.args.table.now c.args.address c.args.branches.now c.args.nodes.now.items c.loop-i.i
    c.loop-i.found.items c.loop-i.nodes.items c.loop-i.invariant
