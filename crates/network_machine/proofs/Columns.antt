-- The column of an ejection channel.
use Rattle.std.proofs.Common.{◌≡◌, ℕ, ◌<◌, List, subst, sym, Some}
use Rattle.std.specs.Prelude.{slice_index, slice_get}
use Rattle.std.specs.List.{count_by}
use Rattle.std.proofs.lemmas.Option.{slice_get_within}
use Rattle.network_judge.specs.declared.table.Kind.{Kind}
use Rattle.network_judge.specs.declared.table.Kind.TheVariants.{Ejection}
use Rattle.network_judge.specs.Table.{ejects}
use Rattle.network_judge.specs.Columns.{AreColumns}
use Rattle.network_judge.proofs.Ends.{column_low}

pub column_inside : (kinds : List Kind) (columns : List ℕ) (j : ℕ) → AreColumns kinds columns → slice_get kinds j ≡ Some Ejection
    → slice_index columns j < count_by ejects kinds
column_inside kinds columns j are ends =
    subst (λ c. c < count_by ejects kinds) (sym (are.each j (slice_get_within kinds j Ejection ends))) (column_low kinds j ends)
