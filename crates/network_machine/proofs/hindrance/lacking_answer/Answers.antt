use Rattle.std.proofs.Common.{◌<◌, arith, subst, sym, length}
use Rattle.std.specs.Prelude.{slice_index_or}
use Rattle.network_machine.specs.Outputs.{LacksNoAnswer}
use Rattle.network_machine.proofs.Owners.{one_more}
use Rattle.network_machine.proofs.hindrance.lacking_answer.Goals as goal

pub loop-place-preserved : goal.loop-place-preserved
loop-place-preserved c = record {
  clear = one_more (LacksNoAnswer c.args.replies.now c.args.channels.now c.args.x) c.loop-place.place c.loop-place.invariant.clear
      (c.lacks_answer.ensures.no c.if-lacks_answer.false);
}

pub returns-clause-none : goal.returns-clause-none
returns-clause-none c = λ y d reply here.
    (let within = reply.here in let end = c.loop-place-test.false in
    subst (λ z. 0 < (slice_index_or c.args.channels.now z d).held) reply.to
    (c.loop-place.invariant.clear reply.place (omega arith) reply.from d (subst (λ z. z < length c.args.channels.now) (sym reply.to) here)))
