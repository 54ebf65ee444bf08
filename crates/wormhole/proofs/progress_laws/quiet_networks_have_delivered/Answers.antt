use Rattle.std.proofs.Common.{◌∙◌, ap}
use Rattle.wormhole.specs.Routes.{between}
use Rattle.wormhole.specs.Delivery.{whole_of}
use Rattle.wormhole.proofs.Come.{all_come}
use Rattle.wormhole.proofs.progress_laws.quiet_networks_have_delivered.Goals as goal

pub returns : goal.returns
returns c = λ n net s routes quiet i j joined within.
    ap (λ a. between i j (whole_of a (s.notes j).begun)) (quiet j within).awaited ∙ all_come n s net routes quiet i j joined
