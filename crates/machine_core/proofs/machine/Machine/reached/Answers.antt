use Rattle.std.proofs.Common.{subst}
use Rattle.machine_parts.specs.Machine.{Core, IsAfter}
use Rattle.machine_core.proofs.machine.Machine.reached.Goals as goal

pub returns : goal.returns
returns g c =
    let is = c.self.invariant in
    let after : IsAfter is.load c.args.self.now is.steps = subst (λ (x : Core). IsAfter is.load x is.steps) c.self.view_is is.after in
    record {
      after = (is.load, is.steps, after);
      one_order = record {
        load = is.load;
        steps = is.steps;
        after = after;
        order = after.lawful.order;
        scripts = after.lawful.scripts;
      };
    }
