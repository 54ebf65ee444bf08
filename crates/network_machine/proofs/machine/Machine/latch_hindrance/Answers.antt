use Rattle.std.proofs.Common.{◌≡◌, length, sym, ◌∙◌, subst, ap}
use Rattle.std.specs.Prelude.{slice_index_or}
use Rattle.network_judge.specs.Table.{channels_of, is_receiver}
use Rattle.network_machine.specs.Machine.{NetworkMachineSpec}
use Rattle.network_machine.proofs.Hindering.{takes_settle}
use Rattle.network_machine.proofs.machine.Machine.latch_hindrance.Goals as goal

pub returns : goal.returns
returns g c =
    takes_settle c.args.self.now (subst (λ (m : NetworkMachineSpec). length m.channels ≡ channels_of m.table) c.self.view_is c.self.invariant.size) c.args.x c.requires
    c.index.result.now (subst (λ (m : NetworkMachineSpec). c.index.result.now ≡ slice_index_or m.channels c.args.x c.index.result.now) c.self.view_is c.index.ensures)
    (ap is_receiver (sym c.kind.ensures) ∙ (sym c.is_receiver.ensures ∙ c.if-is_receiver.false)) c.take_hindrance.result c.take_hindrance.ensures
