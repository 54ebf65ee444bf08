use Rattle.std.proofs.Common.{◌≡◌, refl, sym, ap, subst}
use Rattle.std.specs.Prelude.{false}
use Rattle.torus.specs.declared.step.Choice.{Choice}
use Rattle.core_laws.specs.Routers.{of_router}
use Rattle.fabric_rule.specs.Known.{enabled}
use Rattle.fabric_rule.specs.Counted.{AreRight}
use Rattle.fabric_rule.proofs.Counting.{take_right, put_right, credit_right}
use Rattle.fabric_rule.proofs.seat_flags.SeatFlags.port_rests.Goals as goal

pub returns-then-is_lowered-clause-right : goal.returns-then-is_lowered-clause-right
returns-then-is_lowered-clause-right g c = λ load run gs right mine out.
    take_right load gs run _ _ (subst (AreRight load run gs) (sym c.self.view_is) right) refl refl c.args.tile mine refl c.rest_take.ensures.design
    c.in-TakeFrom.input (c.is_lowered.ensures.low c.if-is_lowered.true)
    (subst (λ (z : Choice). enabled load run (of_router c.args.tile z) ≡ false) c.in-TakeFrom.is out) c.rest_take.ensures.flags

pub returns-in-Put-clause-right : goal.returns-in-Put-clause-right
returns-in-Put-clause-right g c = λ load run gs right mine out.
    put_right load gs run _ _ (subst (AreRight load run gs) (sym c.self.view_is) right) refl refl c.args.tile mine refl c.rest_put.ensures.design
    c.in-Put.input (subst (λ (z : Choice). enabled load run (of_router c.args.tile z) ≡ false) c.in-Put.is out) c.rest_put.ensures.flags

pub returns-then-is_lowered-2-clause-right : goal.returns-then-is_lowered-2-clause-right
returns-then-is_lowered-2-clause-right g c = λ load run gs right mine out.
    credit_right load gs run _ _ (subst (AreRight load run gs) (sym c.self.view_is) right) refl refl c.args.tile mine refl c.rest_credit.ensures.design
    c.in-CreditOf.output (c.is_lowered-in-CreditOf.ensures.low c.if-is_lowered-2.true)
    (subst (λ (z : Choice). enabled load run (of_router c.args.tile z) ≡ false) c.in-CreditOf.is out) c.rest_credit.ensures.flags
