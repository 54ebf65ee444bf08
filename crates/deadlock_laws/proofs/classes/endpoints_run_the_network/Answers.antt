use Rattle.network_judge.specs.TableNet.{numbered}
use Rattle.deadlock_laws.proofs.Kept.{net_reached}
use Rattle.deadlock_laws.proofs.classes.endpoints_run_the_network.Goals as goal

pub returns : goal.returns
returns c = λ t p numbers depth flits s reached. net_reached (numbered t numbers depth flits) p s reached
