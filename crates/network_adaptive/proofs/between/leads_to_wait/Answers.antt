use Rattle.std.proofs.Common.{List, Bool, sym, subst}
use Rattle.network_adaptive.specs.Spread.{choice_step}
use Rattle.network_adaptive.specs.Flags.{AreBehind}
use Rattle.network_adaptive.proofs.Ways.{whether_leads}
use Rattle.network_adaptive.proofs.between.leads_to_wait.Goals as goal

pub returns : goal.returns
returns g c =
    whether_leads c.args.kinds.now c.args.choices.now c.args.base c.args.ways c.args.shut.now c.deref.result.now c.args.x c.args.y c.is_among.result
    (subst (λ (v : List Bool). AreBehind c.args.kinds.now (choice_step c.args.kinds.now c.args.choices.now c.args.base c.args.ways c.args.shut.now) c.args.x v)
    (sym c.deref.ensures.value) c.in_ok-reach.ensures.flags)
    c.is_among.ensures
