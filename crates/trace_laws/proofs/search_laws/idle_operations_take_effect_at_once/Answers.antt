use Rattle.trace_laws.proofs.Dominance.{good_idle}
use Rattle.trace_laws.proofs.search_laws.idle_operations_take_effect_at_once.Goals as goal

pub returns : goal.returns
returns c = λ table word config s o low may idle. good_idle table word config s o low may idle
