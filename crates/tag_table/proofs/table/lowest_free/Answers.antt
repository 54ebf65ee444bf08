use Rattle.tag_table.proofs.Free.{none_exactly}
use Rattle.tag_table.proofs.table.lowest_free.Goals as goal

pub returns-clause-full : goal.returns-clause-full
returns-clause-full c = none_exactly c.args.holders.now c.first_free.result c.first_free.ensures.first
