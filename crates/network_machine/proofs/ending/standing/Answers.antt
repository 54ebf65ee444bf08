use Rattle.std.proofs.Common.{arith, subst, sym, ◌∙◌}
use Rattle.std.proofs.lemmas.List.{get_or_default}
use Rattle.network_machine.specs.Lines.{ShowsLine}
use Rattle.network_machine.specs.Lets.{TellsFlits}
use Rattle.network_machine.specs.Endings.{HoldsNoFlit}
use Rattle.network_machine.proofs.Owners.{one_more}
use Rattle.network_machine.proofs.ending.standing.Goals as goal

pub loop-x-preserved : goal.loop-x-preserved
loop-x-preserved c = record {
  clear = one_more (HoldsNoFlit c.args.channels.now) c.loop-x.x c.loop-x.invariant.clear
      (λ d l shows. subst (TellsFlits l) c.if-has_flit.false (c.has_flit.ensures l
      (subst (ShowsLine l) (get_or_default c.args.channels.now c.loop-x.x d c.index-channels-x.result c.loop-x-test.true ∙ sym c.index-channels-x.is) shows)));
}

pub returns-clause-none : goal.returns-clause-none
returns-clause-none c = λ x here. (let end = c.loop-x-test.false in c.loop-x.invariant.clear x (omega arith))
