use Rattle.std.proofs.Common.{Bool, map, subst}
use Rattle.network_adaptive.specs.Choosing.{ChoiceTable, choosing_of}
use Rattle.dead_sets.specs.FillingFlags.{filling_of, IsDeadBy}
use Rattle.dead_sets.proofs.Waiting.{can_deadlock}
use Rattle.dead_sets.proofs.dead_filling.is_dead_filling.Goals as goal

pub returns-clause-deadlocks : goal.returns-clause-deadlocks
returns-clause-deadlocks g c = λ is.
    (let a = c.args in
    let t : ChoiceTable = choosing_of a.kinds.now a.joins.now a.ways a.choices.now a.marks.now in
    can_deadlock t a.replies.now (map (filling_of {A = g.row.A.Denot}) a.items.now) c.requires
    (subst (λ (b : Bool). IsDeadBy t a.replies.now (map (filling_of {A = g.row.A.Denot}) a.items.now) b) is c.is_dead_by.ensures))
