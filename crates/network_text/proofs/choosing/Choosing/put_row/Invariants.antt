use Rattle.std.proofs.Common.{◌≡◌, [], ◌∷◌, ◌++◌}
use Rattle.network_text.specs.Lines.{first_lines}
use Rattle.network_text.specs.ChoosingRead.{choosing_text_of}
use Rattle.network_text.specs.ChoiceLists.{choice_toward}
use Rattle.network_text.proofs.choosing.Choosing.put_row.Given as goal

abbrev pub invariant-loop-place : goal.invariant-loop-place
invariant-loop-place g l = l.out.items ≡ l.fn.out.items ++ first_lines (λ k. choice_toward (choosing_text_of l.self) l.to l.at k ∷ []) l.place
