use Rattle.std.proofs.Common.{refl}
use Rattle.core_laws.proofs.UnreportedShown.{shown_open}
use Rattle.core_laws.proofs.UnreportedMachines.{taken_back, moves_again, nobody_reported}
use Rattle.core_laws.proofs.reopening_laws.reports_are_taken_back.Goals as goal

pub returns : goal.returns
returns n = record {
  stands = taken_back;
  moves = λ l c steps h. moves_again l h.accepted steps;
  unreported = nobody_reported;
  shown = shown_open;
  book = λ c. refl;
}
