use Rattle.report_model.proofs.Bare.{without, sequential_with, coherent_with}
use Rattle.report_model.proofs.laws.fences_only_forbid.Goals as goal

pub returns : goal.returns
returns c = record {
  without = λ words bare bare_writes ops writes t w rules turn o. (λ x. turn (w.place x), without words bare bare_writes ops writes t w rules turn o);
  sequential = sequential_with;
  coherent = coherent_with;
}
