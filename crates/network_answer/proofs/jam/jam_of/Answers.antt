use Rattle.network_answer.proofs.Jams.{none_found, jam_answered}
use Rattle.network_answer.proofs.jam.jam_of.Goals as goal

pub returns-in-Rising : goal.returns-in-Rising
returns-in-Rising g c =
    none_found c.args.network.now c.args.verdict.now c.in-Rising.field-0 c.in-Rising.is c.kinds-kinds.ensures.replies c.requires

pub returns-in-Cycle : goal.returns-in-Cycle
returns-in-Cycle g c =
    jam_answered c.args.network.now c.args.verdict.now c.in-Cycle.links c.kinds-kinds.result.now c.joins.result.now c.choices.result.now c.replies.result.now
    c.deref.result.now c.find_jam.result c.kinds-kinds.ensures.value c.joins.ensures c.choices.ensures c.replies.ensures c.deref.ensures.value c.in-Cycle.is
    c.kinds-kinds.ensures.replies c.requires c.find_jam.ensures.jam c.find_jam.ensures.found
