use Rattle.std.proofs.Common.{◌≡◌, None, replicate}
use Rattle.tag_table.proofs.table.TagTable.new.Given as goal

abbrev pub invariant-loop : goal.invariant-loop
invariant-loop l = l.holders.items ≡ replicate l.counter None
