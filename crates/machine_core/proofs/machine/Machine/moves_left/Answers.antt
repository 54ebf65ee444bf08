use Rattle.std.proofs.Common.{◌≤◌, ap, ◌∙◌, subst}
use Rattle.machine_parts.specs.Rounds.{moves_in}
use Rattle.machine_parts.specs.Core.{step}
use Rattle.machine_parts.specs.Machine.{Core, built_to}
use Rattle.machine_parts.proofs.Moves.{most_left}
use Rattle.machine_core.specs.Inside.{core_of}
use Rattle.machine_core.proofs.machine.Machine.moves_left.Goals as goal

pub returns : goal.returns
returns g c =
    let value = ap (λ (x : Core). x.moves_left) c.self.view_is in
    record {
      value = value;
      left = λ l steps h. value ∙ h.moves;
      most = λ more. subst (λ (x : Core). moves_in (step (built_to x)) x.state more ≤ c.self.inside.left) c.self.view_is
          (most_left c.self.invariant.load (core_of c.self.inside) c.self.invariant.steps c.self.invariant.after more);
    }
