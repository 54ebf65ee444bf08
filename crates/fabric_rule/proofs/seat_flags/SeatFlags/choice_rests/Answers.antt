use Rattle.std.proofs.Common.{refl, sym, subst}
use Rattle.std.specs.Prelude.{true, false}
use Rattle.fabric_rule.specs.Counted.{AreRight}
use Rattle.fabric_rule.proofs.Counting.{choice_right}
use Rattle.fabric_rule.proofs.seat_flags.SeatFlags.choice_rests.Goals as goal

pub returns-in_default-clause-right : goal.returns-in_default-clause-right
returns-in_default-clause-right g c = λ load run gs right mine other has out.
    choice_right load gs run _ _ (subst (AreRight load run gs) (sym c.self.view_is) right) refl refl c.args.agent c.args.choice mine other c.in_default.not-Look has
    out refl c.rest_choice.ensures.design c.rest_choice.ensures.flags
