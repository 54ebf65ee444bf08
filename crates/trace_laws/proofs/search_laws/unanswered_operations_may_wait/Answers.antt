use Rattle.trace_laws.proofs.Dominance.{good_unanswered}
use Rattle.trace_laws.proofs.search_laws.unanswered_operations_may_wait.Goals as goal

pub returns : goal.returns
returns c = λ table word config s o low pending none. good_unanswered table word config s o low pending none
