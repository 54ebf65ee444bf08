use Rattle.std.proofs.Common.{rules, arith, refl}
use Rattle.atomic_table.specs.Table.{keeps}
use Rattle.fabric.proofs.dealing.named.Goals as goal

pub load-requires : goal.load-requires
load-requires g c = (search rules, search (rules, arith), λ s held count at small. (g.B.Naming.opening, keeps, tt, tt, refl))
