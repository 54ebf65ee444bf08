use Rattle.std.proofs.Common.{refl}
use Rattle.network_rounds.proofs.Lists.{passes_one}
use Rattle.network_rounds.proofs.picking.pick_one.Goals as goal

pub returns-then-not-is_free-clause-adds : goal.returns-then-not-is_free-clause-adds
returns-then-not-is_free-clause-adds g c = passes_one c.args.machine.now c.args.of _ _ (c.if-not-is_free.ensures.no refl) refl
