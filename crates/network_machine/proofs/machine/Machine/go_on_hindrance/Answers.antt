use Rattle.std.proofs.Common.{◌≡◌, length, sym, ◌∙◌, subst, ap}
use Rattle.std.specs.Prelude.{slice_index_or}
use Rattle.network_judge.specs.Table.{channels_of, is_sender}
use Rattle.network_machine.specs.Machine.{NetworkMachineSpec}
use Rattle.network_machine.proofs.Hindering.{goes_on_settle}
use Rattle.network_machine.proofs.machine.Machine.go_on_hindrance.Goals as goal

pub returns : goal.returns
returns g c =
    goes_on_settle c.args.self.now (subst (λ (m : NetworkMachineSpec). length m.channels ≡ channels_of m.table) c.self.view_is c.self.invariant.size) c.args.x c.requires
    c.index.result.now (subst (λ (m : NetworkMachineSpec). c.index.result.now ≡ slice_index_or m.channels c.args.x c.index.result.now) c.self.view_is c.index.ensures)
    (ap is_sender (sym c.kind.ensures) ∙ (sym c.is_sender.ensures ∙ c.if-not-is_sender.false)) c.more_hindrance.result c.more_hindrance.ensures
