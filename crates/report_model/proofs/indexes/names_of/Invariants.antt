use Rattle.std.proofs.Common.{◌≡◌, ℕ, map}
use Rattle.std.specs.Prelude.{unwrap_or}
use Rattle.std.specs.BTreeMap.{get}
use Rattle.std.specs.List.{range_with_len}
use Rattle.std.specs.Ordering.{nat_cmp}
use Rattle.report_model.specs.Indexes.{made_before, name_at}
use Rattle.report_model.proofs.indexes.names_of.Given as goal

-- the names so far, and how many steps each processor made
abbrev pub invariant-loop-j : goal.invariant-loop-j
invariant-loop-j g l = record {
  names : l.names.items ≡ map (name_at l.steps) (range_with_len 0 l.j);
  counts : (p : ℕ) → unwrap_or (get nat_cmp l.counts p) 0 ≡ made_before l.steps p l.j;
}
