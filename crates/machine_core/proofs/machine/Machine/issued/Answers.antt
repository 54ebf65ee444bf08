use Rattle.std.proofs.Common.{Some, None, sym, ◌∙◌, ap, arith}
use Rattle.machine_core.proofs.Fields.{vec_at}
use Rattle.machine_core.proofs.Views.{issued_there, vec_past}
use Rattle.machine_core.proofs.machine.Machine.issued.Goals as goal

pub returns-then-at-len : goal.returns-then-at-len
returns-then-at-len g c =
    rw (← c.self.view_is) (ap Some c.issued.ensures
    ∙ sym (issued_there c.self.inside c.args.processor (Some c.index.result.now)
    (vec_at c.self.inside.tiles c.args.processor c.index.result.now (omega arith) c.index.ensures)))

pub returns-else-at-len : goal.returns-else-at-len
returns-else-at-len g c =
    rw (← c.self.view_is) (sym (issued_there c.self.inside c.args.processor None (vec_past c.self.inside.tiles c.args.processor (omega arith))))
