use Rattle.network_adaptive.specs.Choosing.{ChoiceTable, choosing_of}
use Rattle.network_adaptive.proofs.Travelled.{travels}
use Rattle.network_answer.proofs.Reaching.{if_travel}
use Rattle.network_answer.proofs.reached.travelled.Goals as goal

pub returns-in-None : goal.returns-in-None
returns-in-None g c =
    let a = c.args in
    let t : ChoiceTable = choosing_of a.kinds.now a.joins.now a.ways a.choices.now a.marks.now in
    if_travel c.travel_of.result
    (λ travel is depth flits. travels t a.none.now c.requires.down c.requires.shaped depth flits (c.requires.go_on depth flits) travel is)
    c.travel_of.ensures
