-- Rising numbers exclude a lock-up with endpoints.
use Rattle.std.proofs.Common.{⊎_elim, ℕ, ◌<◌, List, slice_index, refl}
use Rattle.network_judge.specs.Table.{Table, channels_of}
use Rattle.network_judge.specs.TableNet.{Flits, numbered}
use Rattle.network_judge.specs.Verdicts.{IsNumbered}
use Rattle.network_judge.specs.Replies.{AreReplies}
use Rattle.deadlock_laws.specs.Endpoints.{Endpoints, EndState, EndMove, AllIsDone, EndsReached, at_first, end_after_all}
use Rattle.deadlock_laws.proofs.Kept.{owe_reached}
use Rattle.deadlock_laws.proofs.Going.{goes_or_done}
use Rattle.deadlock_laws.specs.Transactions.{EndsLockUp}

pub never : (t : Table) (p : Endpoints) (numbers : List ℕ) → AreReplies t p.replies → IsNumbered t p.replies numbers → ((x : ℕ) → 0 < p.room x)
    → (depth : ℕ) (flits : Flits) → 0 < depth → EndsLockUp t p depth flits → ⊥
never t p numbers are is roomy depth flits deep locks =
    let n = numbered t numbers depth flits in
    let l = locks (slice_index numbers) (channels_of t) in
    let up = l.1 in
    let s : EndState = end_after_all n (at_first n) l.0 in
    let reached : EndsReached n p s = record { events = l.0; may = up.may; stands = refl } in
    ⊎_elim
    (λ (move : EndMove n p s). up.still move)
    (λ (done : AllIsDone n s). up.stands (done.quiet up.stuck up.here).line)
    (goes_or_done t p numbers are is roomy depth flits deep s (owe_reached n p s reached) reached)
