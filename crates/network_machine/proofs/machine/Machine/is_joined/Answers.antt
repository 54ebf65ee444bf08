use Rattle.std.proofs.Common.{◌∙◌, ap, subst, sym}
use Rattle.network_judge.specs.Table.{joins_of}
use Rattle.network_machine.specs.Machine.{NetworkMachineSpec}
use Rattle.network_machine.specs.Pairs.{cells_of, ArePairs}
use Rattle.network_machine.proofs.machine.Machine.is_joined.Goals as goal

pub is_joined-requires : goal.is_joined-requires
is_joined-requires g c = subst (λ rows. ArePairs c.self.inside.joins.now (cells_of rows)) (sym c.deref.ensures.value) c.self.invariant.pairs

pub returns : goal.returns
returns g c = c.is_joined.ensures ∙ ap (λ (m : NetworkMachineSpec). joins_of m.table c.args.from c.args.to) c.self.view_is
