use Rattle.report_check.proofs.Replay.{entries_replay}
use Rattle.report_check.proofs.laws.entries_replay.Goals as goal

pub returns : goal.returns
returns c = entries_replay
