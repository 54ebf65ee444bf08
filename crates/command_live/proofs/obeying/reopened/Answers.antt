-- The scripts are finished; then the other machine stands there, or memory was refused.
use Rattle.std.proofs.Common.{inl, inr, refl}
use Rattle.command_live.specs.declared.told.Told.TheVariants as reply
use Rattle.command_live.proofs.obeying.reopened.Goals as goal

pub returns-in-Ok : goal.returns-in-Ok
returns-in-Ok g c =
    let made = c.finish-rounds.ensures in
    let other = c.in-Ok.ensures in
    inl (record {
      between = c.finish-rounds.new.self;
      finishes = record {
        rounds = c.finish-rounds.result;
        needed = made.needed;
        made = record { state = made.state; spins = made.spins; guard = made.guard; runs_on = made.runs_on; answer = refl };
        kept = made.kept;
      };
      goes_on = record {
        opened = other.opened;
        anew = other.kept;
        law = λ l k steps more after on. c.reopened_machines_go_on.ensures l k c.finish-rounds.new.self.asked.core c.in-Ok.next.asked.core steps more after on
            other.opened.built.opening_is;
      };
    })

pub returns-in-Err : goal.returns-in-Err
returns-in-Err g c =
    let made = c.finish-rounds.ensures in
    inr (record {
      rounds = reply.Rounds c.finish-rounds.result;
      finishes = record {
        rounds = c.finish-rounds.result;
        needed = made.needed;
        made = record { state = made.state; spins = made.spins; guard = made.guard; runs_on = made.runs_on; answer = refl };
        kept = made.kept;
      };
      answer = refl;
    })
