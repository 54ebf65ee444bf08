use Rattle.core_laws.proofs.Shown.{shown_same}
use Rattle.std.proofs.Common.{refl}
use Rattle.core_laws.proofs.growth_laws.lines_leave_what_is_shown.Goals as goal

pub returns : goal.returns
returns n = record {
  shown = shown_same;
  book = λ c p line. refl;
}
