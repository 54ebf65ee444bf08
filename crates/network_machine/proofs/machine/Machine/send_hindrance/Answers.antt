use Rattle.std.proofs.Common.{◌≡◌, length, sym, ◌∙◌, subst, arith}
use Rattle.std.specs.Prelude.{slice_index_or}
use Rattle.network_judge.specs.Table.{channels_of}
use Rattle.network_judge.specs.Verdicts.{AllArrive}
use Rattle.network_machine.specs.Machine.{NetworkMachineSpec}
use Rattle.network_machine.proofs.Hindering.{sends_settle}
use Rattle.network_machine.proofs.machine.Machine.send_hindrance.Goals as goal

pub returns-clause-settles : goal.returns-clause-settles
returns-clause-settles g c =
    sends_settle c.args.self.now c.args.packet (subst (λ (m : NetworkMachineSpec). length m.channels ≡ channels_of m.table) c.self.view_is c.self.invariant.size)
    (subst (λ (m : NetworkMachineSpec). AllArrive m.table) c.self.view_is c.self.invariant.arrive) c.requires
    (sym c.is_joined.ensures ∙ c.if-not-is_joined.false) (omega arith)
    c.index.result.now (subst (λ (m : NetworkMachineSpec). c.index.result.now ≡ slice_index_or m.channels c.args.packet.from c.index.result.now) c.self.view_is c.index.ensures)
    c.begin_hindrance.result c.begin_hindrance.ensures
