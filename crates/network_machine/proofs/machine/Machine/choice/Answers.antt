use Rattle.std.proofs.Common.{◌≡◌, Some, arith, sym, subst}
use Rattle.std.specs.Prelude.{slice_index}
use Rattle.std.proofs.lemmas.List.{get_or_read}
use Rattle.network_judge.specs.declared.table.Kind.TheVariants.{Ejection}
use Rattle.network_judge.specs.Table.{kind_of}
use Rattle.network_machine.specs.Machine.{NetworkMachineSpec}
use Rattle.network_machine.specs.Inside.{network_machine_of_fields}
use Rattle.network_machine.proofs.Columns.{column_inside}
use Rattle.network_machine.proofs.machine.Machine.choice.Goals as goal

pub returns-then-column-self-clause-none : goal.returns-then-column-self-clause-none
returns-then-column-self-clause-none g c = λ here ends.
    (let kind : kind_of (network_machine_of_fields c.self.inside).table c.args.to ≡ Some Ejection =
    subst (λ (m : NetworkMachineSpec). kind_of m.table c.args.to ≡ Some Ejection) (sym c.self.view_is) ends in
    let low = column_inside c.self.inside.kinds.now c.self.inside.columns.items c.args.to c.self.invariant.columns kind in
    let size = c.self.inside.columns.ok.0 in
    let read : c.index-column.result.now ≡ slice_index c.self.inside.columns.items c.args.to =
    get_or_read c.self.inside.columns.items _ _ (omega arith) c.index-column.ensures 0 in
    let width = c.self.invariant.width in
    omega arith)
