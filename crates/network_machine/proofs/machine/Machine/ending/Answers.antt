use Rattle.std.proofs.Common.{◌≡◌, ◌<◌, ◌∙◌, sym, ap, subst, arith, length}
use Rattle.network_machine.specs.Machine.{NetworkMachineSpec}
use Rattle.network_machine.specs.Endings.{PreventsAllAt, HoldsFlit, HoldsNoFlit}
use Rattle.network_machine.proofs.Owners.{one_more}
use Rattle.network_machine.proofs.Still.{locked, all_empty}
use Rattle.network_machine.proofs.machine.Machine.ending.Goals as goal

pub returns-in-Some : goal.returns-in-Some
returns-in-Some g c =
    (let first = c.in-Some.ensures.some in
    record {
      free = first.free;
      earlier = first.earlier;
      before = λ z low. c.loop-x.invariant.clear z (subst (λ w. z < w) first.here low);
    })

pub loop-x-preserved : goal.loop-x-preserved
loop-x-preserved g c = record {
  clear = one_more (PreventsAllAt c.args.self.now) c.loop-x.x c.loop-x.invariant.clear c.in_default.ensures.none;
}

pub returns-in-Some-standing : goal.returns-in-Some-standing
returns-in-Some-standing g c =
    (let m = c.args.self.now in
    let count = c.channels-x-end.ensures.value in
    let end = c.loop-x-test.false in
    let same : c.deref.result.now ≡ m.channels = c.deref.ensures.value ∙ ap (λ (k : NetworkMachineSpec). k.channels) c.self.view_is in
    λ number top depth s shows. locked m c.channels-x-end.ensures.size (λ x here. c.loop-x.invariant.clear x (omega arith)) number top depth s shows
    c.in-Some-standing.field-0 (subst (λ cs. HoldsFlit cs c.in-Some-standing.field-0) same c.in-Some-standing.ensures.some))

pub returns-in-None : goal.returns-in-None
returns-in-None g c =
    (let m = c.args.self.now in
    let count = c.channels-x-end.ensures.value in
    let end = c.loop-x-test.false in
    let same : c.deref.result.now ≡ m.channels = c.deref.ensures.value ∙ ap (λ (k : NetworkMachineSpec). k.channels) c.self.view_is in
    λ number top depth s shows. all_empty m c.channels-x-end.ensures.size (λ x here. c.loop-x.invariant.clear x (omega arith)) number top depth s shows
    (λ x here. subst (λ cs. HoldsNoFlit cs x) same (c.in-None.ensures.none x (subst (λ cs. x < length cs) (sym same) here))))
