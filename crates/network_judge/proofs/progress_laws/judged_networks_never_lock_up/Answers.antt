use Rattle.std.proofs.Common.{⊎_elim, ℕ, ◌<◌}
use Rattle.wormhole.specs.Ends.{IsQuiet}
use Rattle.network_judge.specs.Table.{channels_of}
use Rattle.network_judge.specs.TableNet.{numbered}
use Rattle.network_judge.specs.Receivers.{MoveThere}
use Rattle.network_judge.proofs.JudgedProgress.{goes_or_quiet, move_goes, all_has_come}
use Rattle.network_judge.proofs.progress_laws.judged_networks_never_lock_up.Goals as goal

pub returns : goal.returns
returns c = record {
  either = λ t replies numbers are is depth flits deep s reached. goes_or_quiet t replies numbers are is depth flits deep s reached
      (MoveThere (numbered t numbers depth flits) s replies) (move_goes (numbered t numbers depth flits) s replies);
  moving = λ t replies numbers are is depth flits deep s reached x within busy. ⊎_elim
      (λ (move : MoveThere (numbered t numbers depth flits) s replies). move)
      (λ (all : (y : ℕ) → y < channels_of t → IsQuiet (numbered t numbers depth flits) s y). absurd (busy (all x within)))
      (goes_or_quiet t replies numbers are is depth flits deep s reached
      (MoveThere (numbered t numbers depth flits) s replies) (move_goes (numbered t numbers depth flits) s replies));
  delivered = all_has_come;
}
