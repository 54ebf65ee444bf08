use Rattle.std.proofs.Common.{refl, arith}
use Rattle.network_adaptive.proofs.Depends.{how_over}
use Rattle.network_adaptive.proofs.cycle.dependency_of.Goals as goal

pub returns-in_ok-how : goal.returns-in_ok-how
returns-in_ok-how g c =
    let a = c.args in
    record {
      channel = refl;
      how = how_over a.kinds.now a.joins.now a.replies.now a.choices.now a.ways a.marks.now a.none.now a.waits.now a.look c.in_ok-how.how (omega arith) c.in_ok-how.ensures;
    }
