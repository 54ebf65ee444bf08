use Rattle.std.proofs.Common.{arith}
use Rattle.network_machine.specs.Outputs.{IsOwnedBy}
use Rattle.network_machine.proofs.Owners.{not_owned, one_more}
use Rattle.network_machine.proofs.output.owned_among.Goals as goal

pub loop-y-preserved : goal.loop-y-preserved
loop-y-preserved c = record {
  clear = one_more (λ z. IsOwnedBy c.args.channels.now c.args.x z → ⊥) c.loop-y.y c.loop-y.invariant.clear
      (not_owned c.args.channels.now c.args.x c.loop-y.y c.index-channels-y.result c.index-channels-y.is (c.is_owned_by.ensures.no c.if-is_owned_by.false));
}

pub returns-clause-none : goal.returns-clause-none
returns-clause-none c = λ y own.
    (let here = own.here in let end = c.loop-y-test.false in c.loop-y.invariant.clear y (omega arith) own)
