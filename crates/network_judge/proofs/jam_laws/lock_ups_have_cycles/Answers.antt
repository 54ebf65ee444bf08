use Rattle.std.proofs.Common.{⊎_elim, ℕ, ◌<◌, List}
use Rattle.network_judge.specs.declared.table.Reply.{Reply}
use Rattle.network_judge.specs.declared.table.Link.{Link}
use Rattle.network_judge.specs.declared.table.Verdict.{Verdict}
use Rattle.network_judge.specs.declared.table.Verdict.TheVariants.{Rising, NoRoute, Cycle}
use Rattle.network_judge.specs.Table.{Table}
use Rattle.network_judge.specs.TableNet.{Flits}
use Rattle.network_judge.specs.Verdicts.{IsNumbered, IsVerdict}
use Rattle.network_judge.specs.Replies.{AreReplies}
use Rattle.network_judge.specs.Cycles.{IsCycle}
use Rattle.network_judge.proofs.Acyclic.{cycle_or_numbers}
use Rattle.network_judge.specs.LockUps.{HasOneFlitPackets, SettlesLockUps}
use Rattle.network_judge.proofs.Both.{cycles_lock, never}
use Rattle.network_judge.proofs.jam_laws.lock_ups_have_cycles.Goals as goal

says : {A : Type 0} (t : Table) (replies : List Reply) → AreReplies t replies → (v : Verdict A) → IsVerdict t replies v
    → (depth : ℕ) (flits : Flits) → 0 < depth → HasOneFlitPackets t flits → SettlesLockUps t replies depth flits v
says t replies are (Rising numbers) is depth flits deep tells = never t replies numbers.items are is.1 depth flits deep
says t replies are (NoRoute r) is depth flits deep tells = tt
says t replies are (Cycle links) is depth flits deep tells = cycles_lock t replies links.items is.0 are is.1 depth flits deep tells

pub returns : goal.returns
returns g c = record {
  cycle = λ t replies arrive are depth flits deep locks. ⊎_elim
      (λ (l : (links : List Link) × IsCycle t replies links). l)
      (λ (n : (numbers : List ℕ) × IsNumbered t replies numbers). absurd (never t replies n.0 are n.1 depth flits deep locks))
      (cycle_or_numbers t replies are arrive);
  verdict = says;
}
