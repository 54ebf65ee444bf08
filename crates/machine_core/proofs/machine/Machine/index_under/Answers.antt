use Rattle.std.proofs.Common.{◌∙◌, arith}
use Rattle.machine_core.proofs.Fields.{vec_at}
use Rattle.machine_core.proofs.LatchAges.{index_told, no_index}
use Rattle.machine_core.proofs.machine.Machine.index_under.Goals as goal

pub returns-then-at-len : goal.returns-then-at-len
returns-then-at-len g c =
    c.holder.ensures
    ∙ index_told c.self.inside c.args.self.now c.self.view_is c.args.processor c.args.tag.0 c.index.result.now
    (vec_at c.self.inside.tiles c.args.processor c.index.result.now (omega arith) c.index.ensures)

pub returns-else-at-len : goal.returns-else-at-len
returns-else-at-len g c = no_index c.self.inside c.args.self.now c.self.view_is c.args.processor c.args.tag.0 (omega arith)
