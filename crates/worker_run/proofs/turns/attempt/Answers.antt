use Rattle.std.proofs.Common.{refl, inl, inr}
use Rattle.worker_run.proofs.Moving.{turned}
use Rattle.worker_run.proofs.turns.attempt.Goals as goal

pub returns-else-moved-clause-tried : goal.returns-else-moved-clause-tried
returns-else-moved-clause-tried g c =
    let t = c.turn.ensures in
    record {
      outcome = inr (inr record {
        some = c.if-run.false;
        made = refl;
        turned = turned c.turn.result c.args.seat.now c.turn.new.seat (record { agent = c.args.agent; choice = c.args.choice }) t.moved t.idle t.not_mine
            t.unchanged;
        grew = (t.same, t.later);
        most = inl refl;
      });
    }
