-- One table more, with nothing in it.
use Rattle.std.proofs.Common.{◌∙◌, arith}
use Rattle.trace_judge.proofs.Beginning.{more_empty, more_length, none_empty, none_length}
use Rattle.trace_judge.proofs.search.empty_tables.Goals as goal

pub loop-init : goal.loop-init
loop-init g c = record {
  sized = none_length c.new-tables.result.items c.new-tables.ensures.items;
  empty = λ w. none_empty c.new-tables.result.items w c.new-tables.ensures.items;
}

pub loop-preserved : goal.loop-preserved
loop-preserved g c = record {
  sized = more_length c.loop.tables.items c.push.new.self.items c.new.result c.loop.counter c.in_ok-push.ensures.items c.loop.invariant.sized;
  empty = more_empty c.loop.tables.items c.push.new.self.items c.new.result c.in_ok-push.ensures.items c.new.ensures.items
      c.loop.invariant.empty;
}

pub returns-clause-sized : goal.returns-clause-sized
returns-clause-sized g c = c.loop.invariant.sized ∙ (omega arith)

pub returns-clause-empty : goal.returns-clause-empty
returns-clause-empty g c = c.loop.invariant.empty
