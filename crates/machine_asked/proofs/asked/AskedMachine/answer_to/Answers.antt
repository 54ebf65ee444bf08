-- The answers stand near their operations, as those of every machine do.
use Rattle.std.proofs.Common.{sym}
use Rattle.machine_asked.proofs.Lags.{near_there}
use Rattle.machine_asked.proofs.asked.AskedMachine.answer_to.Goals as goal

pub answer_of-requires : goal.answer_of-requires
answer_of-requires g c =
    let h = c.self.invariant.asked in
    record {
      near = near_there h.load c.self.inside.machine h.steps h.after c.args.processor c.in_ok-answers.field-0.now (sym c.in_ok-answers.ensures);
    }
