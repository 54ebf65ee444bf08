use Rattle.std.proofs.Common.{Some, None, sym, ◌∙◌, ap, arith}
use Rattle.machine_core.proofs.Fields.{vec_at}
use Rattle.machine_core.proofs.Views.{entries_there, vec_past}
use Rattle.machine_core.proofs.machine.Machine.bank.Goals as goal

pub returns-then-at-len : goal.returns-then-at-len
returns-then-at-len g c =
    rw (← c.self.view_is) (ap Some c.entries.ensures
    ∙ sym (entries_there c.self.inside c.args.bank (Some c.index.result.now)
    (vec_at c.self.inside.tiles c.args.bank c.index.result.now (omega arith) c.index.ensures)))

pub returns-else-at-len : goal.returns-else-at-len
returns-else-at-len g c = rw (← c.self.view_is) (sym (entries_there c.self.inside c.args.bank None (vec_past c.self.inside.tiles c.args.bank (omega arith))))
