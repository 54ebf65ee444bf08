-- The machine is finished, and the other handle holds one with its words, or none.
use Rattle.std.proofs.Common.{refl}
use Rattle.torusmem_c.specs.declared.outcome.Code.TheVariants as code
use Rattle.torusmem_c.specs.Outcome.{c_outcome}
use Rattle.c_handles.specs.HeldMachine.{held, held_whole}
use Rattle.torusmem_c.proofs.Handing.{handed_on, keeps_anew, nothing_handed, nothing_kept}
use Rattle.torusmem_c.proofs.opening.gone_on.Goals as goal

pub returns-in-Ok : goal.returns-in-Ok
returns-in-Ok c =
    let made = c.finish-rounds.ensures in record {
      goes_on = (
        c_outcome code.Done c.finish-rounds.result,
        record {
          spins = made.spins;
          guard = made.guard;
          core = record {
            rounds = c.finish-rounds.result;
            answer = refl;
            state = made.state;
            needed = made.needed;
            few = made.few;
            left = made.left;
            runs_on = made.runs_on;
            scripts = made.scripts;
          };
        },
        handed_on c.finish-rounds.new.self.asked c.in-Ok.made.asked c.finish-rounds.result (held c.kept_recorded.new.handle) c.kept_recorded.result
            c.in-Ok.ensures.opened c.kept_recorded.ensures.held,
      );
      kept = keeps_anew (held_whole c.kept_recorded.new.handle) c.in-Ok.made c.finish-rounds.new.self.kept c.kept_recorded.ensures.whole c.in-Ok.ensures.kept;
    }

pub returns-in-Err : goal.returns-in-Err
returns-in-Err c =
    let made = c.finish-rounds.ensures in record {
      goes_on = (
        c_outcome code.Done c.finish-rounds.result,
        record {
          spins = made.spins;
          guard = made.guard;
          core = record {
            rounds = c.finish-rounds.result;
            answer = refl;
            state = made.state;
            needed = made.needed;
            few = made.few;
            left = made.left;
            runs_on = made.runs_on;
            scripts = made.scripts;
          };
        },
        nothing_handed c.finish-rounds.new.self.asked (c_outcome code.Done c.finish-rounds.result) (held c.args.fresh.now) c.no_memory.result c.requires.held
            c.no_memory.ensures,
      );
      kept = nothing_kept (held_whole c.args.fresh.now) c.finish-rounds.new.self.kept c.requires.whole;
    }
