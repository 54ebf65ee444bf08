use Rattle.std.proofs.Common.{◌<◌, List, length, arith, ap, ◌∙◌}
use Rattle.std.proofs.lemmas.Option.{slice_get-get_or}
use Rattle.std.proofs.lemmas.List.{take_all}
use Rattle.trace_laws.specs.declared.opened.Branch.{Branch}
use Rattle.trace_judge.specs.Kept.{renumbered_all}
use Rattle.trace_judge.proofs.Ranks.{renumbered_more}
use Rattle.trace_judge.proofs.nodes.renumber.Goals as goal

pub loop-n-init : goal.loop-n-init
loop-n-init g c = λ marks are. c.new-later.ensures.items

pub new_number-requires : goal.new_number-requires
new_number-requires g c = λ i e.
    let l : c.loop-n.n < length c.args.branches.now = omega arith in
    c.requires i _ (c.loop-n.n, slice_get-get_or c.args.branches.now c.loop-n.n _ l) e

pub loop-n-preserved : goal.loop-n-preserved
loop-n-preserved g c = λ marks are.
    let l : c.loop-n.n < length c.args.branches.now = omega arith in
    renumbered_more marks c.args.branches.now c.loop-n.later.items c.push.new.self.items c.loop-n.n _ c.new_number.result
    (slice_get-get_or c.args.branches.now c.loop-n.n _ l) (c.loop-n.invariant marks are) (c.new_number.ensures marks are)
    c.in_ok-push.ensures.items

pub returns : goal.returns
returns g c = λ marks are. c.loop-n.invariant marks are
    ∙ ap (λ (bs : List Branch). renumbered_all marks bs) (take_all c.loop-n.n c.args.branches.now (omega arith))
