use Rattle.network_judge.proofs.JudgedProgress.{tiles_there}
use Rattle.network_judge.proofs.progress_laws.judged_networks_have_tiles.Goals as goal

pub returns : goal.returns
returns c = tiles_there
