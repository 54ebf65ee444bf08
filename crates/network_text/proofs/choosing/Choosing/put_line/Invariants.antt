use Rattle.std.proofs.Common.{◌≡◌, ◌+◌, ◌*◌, [], ◌∷◌, ◌++◌}
use Rattle.network_judge.specs.Table.{columns_of}
use Rattle.network_text.specs.Lines.{first_lines}
use Rattle.network_text.specs.ChoosingRead.{choosing_text_of}
use Rattle.network_text.specs.ChoiceLists.{listed_choice}
use Rattle.network_text.proofs.choosing.Choosing.put_line.Given as goal

abbrev pub invariant-loop-k : goal.invariant-loop-k
invariant-loop-k g l =
    l.cells.items ≡ l.fn.cells.items ++ first_lines (λ k. listed_choice (choosing_text_of l.self)
    (l.at * columns_of (choosing_text_of l.self).fixed.table + (l.from + k)) l.place ∷ []) l.k
