use Rattle.network_adaptive.proofs.Falls.{one_less, moves_are_promised}
use Rattle.network_adaptive.proofs.adaptive_laws.work_is_bounded.Goals as goal

pub returns : goal.returns
returns c = record {
  each = λ n net far nearer s words tracks e may. one_less n far s net words tracks nearer e may;
  all = λ n net far nearer es may. moves_are_promised n far es net nearer may;
}
