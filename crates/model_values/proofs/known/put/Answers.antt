use Rattle.model_values.proofs.Table.{is_set}
use Rattle.model_values.proofs.known.put.Goals as goal

pub returns : goal.returns
returns c = is_set c.args.size c.args.level c.args.wanted c.args.x c.args.y c.args.table.now c.requires.size c.requires.x c.requires.y
    c.if-not-wanted.false c.if-entry-level.false
