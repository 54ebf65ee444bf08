-- The machine and its guard are those of rounds by a guard.
use Rattle.fair_rounds.proofs.GuardedRuns.{none_waits}
use Rattle.machine_asked.proofs.laws.fair_rounds_let_none_wait.Goals as goal

pub returns : goal.returns
returns c = λ most lines v l steps start hosted.
    none_waits most lines (λ k. (v k).core) (λ k. (v k).guard) l steps start (record { words = hosted.words; next = hosted.core })
    (record { first = hosted.first; next = hosted.guard })
