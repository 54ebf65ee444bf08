use Rattle.machine_core.proofs.Marking.{none_raised}
use Rattle.machine_core.proofs.part.Marks.none.Goals as goal

pub returns : goal.returns
returns c = λ t low. record {
  processors = λ k few. none_raised c.none.result c.none.ensures t k low few;
  takes = λ k few. none_raised c.none-2.result c.none-2.ensures t k low few;
  puts = λ k few. none_raised c.none-3.result c.none-3.ensures t k low few;
  credits = λ k few. none_raised c.none-4.result c.none-4.ensures t k low few;
  banks = λ k few. none_raised c.none-5.result c.none-5.ensures t k low few;
}
