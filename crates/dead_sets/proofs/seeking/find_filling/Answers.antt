use Rattle.std.proofs.Common.{Bool, true, List, map, subst}
use Rattle.network_adaptive.specs.Choosing.{ChoiceTable, choosing_of}
use Rattle.dead_sets.specs.declared.filling.FilledChannel.{FilledChannel}
use Rattle.dead_sets.specs.FillingFlags.{filling_of, IsDeadBy}
use Rattle.dead_sets.proofs.seeking.find_filling.Goals as goal

pub returns-then-branch-clause-dead : goal.returns-then-branch-clause-dead
returns-then-branch-clause-dead g c =
    let a = c.args in
    let t : ChoiceTable = choosing_of a.kinds.now a.joins.now a.ways a.choices.now a.marks.now in
    subst (λ (v : List (FilledChannel g.row.A.Denot)). IsDeadBy t a.replies.now (map (filling_of {A = g.row.A.Denot}) v) true) c.deref.ensures.value
    (subst (λ (b : Bool). IsDeadBy t a.replies.now (map (filling_of {A = g.row.A.Denot}) c.deref.result.now) b) c.if-branch.true
    c.in_ok-is_dead_filling.ensures.exact)
