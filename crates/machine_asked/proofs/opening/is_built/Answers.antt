use Rattle.std.proofs.Common.{◌≡◌, false, not, sym, ◌∙◌, ap}
use Rattle.machine_parts.specs.Machine.{Core}
use Rattle.machine_asked.proofs.Openings.{is_so}
use Rattle.machine_asked.proofs.opening.is_built.Goals as goal

pub returns : goal.returns
returns g c =
    let alike = c.if-not-are_alike.false in
    let same : not c.are_alike.result ≡ false = cc in
    λ yes. record {
      shape_is = sym (c.torus.ensures ∙ ap (λ (x : Core). x.shape) c.machine.ensures) ∙ c.are_alike.ensures (is_so c.are_alike.result same);
      depth_is = sym c.depth.ensures ∙ c.if-depth.false;
      tags_is = sym c.tags.ensures ∙ c.if-tags.false;
      opening_is = ap (λ (x : Core). x.opening) (sym c.machine-2.ensures) ∙ c.opened_with.ensures yes;
    }
