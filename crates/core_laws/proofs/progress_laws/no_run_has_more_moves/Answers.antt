use Rattle.std.proofs.Common.{take, arith}
use Rattle.core_laws.proofs.Budget.{few_moves}
use Rattle.core_laws.proofs.progress_laws.no_run_has_more_moves.Goals as goal

pub returns : goal.returns
returns c = record {
  most = few_moves;
  left = λ l ok steps n. let few = few_moves l ok (take n steps) in omega arith;
}
