use Rattle.std.proofs.Common.{◌≡◌, length, subst}
use Rattle.std.specs.Prelude.{slice_index_or}
use Rattle.network_judge.specs.Table.{channels_of}
use Rattle.network_machine.specs.Machine.{NetworkMachineSpec}
use Rattle.network_machine.proofs.Hindering.{credits_settle}
use Rattle.network_machine.proofs.machine.Machine.return_hindrance.Goals as goal

pub returns : goal.returns
returns g c =
    credits_settle c.args.self.now (subst (λ (m : NetworkMachineSpec). length m.channels ≡ channels_of m.table) c.self.view_is c.self.invariant.size) c.args.x c.requires
    c.index.result.now (subst (λ (m : NetworkMachineSpec). c.index.result.now ≡ slice_index_or m.channels c.args.x c.index.result.now) c.self.view_is c.index.ensures)
    c.credit_hindrance.result c.credit_hindrance.ensures
