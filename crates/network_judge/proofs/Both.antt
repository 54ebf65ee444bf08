-- A network with a cycle can deadlock, and one with rising numbers can't.
use Rattle.std.proofs.Common.{⊎_elim, ℕ, suc, ◌<◌, ◌∷◌, List, slice_index, refl, arith}
use Rattle.wormhole.specs.Events.{after_all}
use Rattle.wormhole.specs.State.{empty}
use Rattle.wormhole.specs.Ends.{IsQuiet}
use Rattle.network_judge.specs.declared.table.Reply.{Reply}
use Rattle.network_judge.specs.declared.table.Link.{Link}
use Rattle.network_judge.specs.Table.{Table, channels_of}
use Rattle.network_judge.specs.TableNet.{Flits, numbered}
use Rattle.network_judge.specs.Verdicts.{AllArrive, IsNumbered}
use Rattle.network_judge.specs.Replies.{AreReplies}
use Rattle.network_judge.specs.Cycles.{IsCycle}
use Rattle.network_judge.proofs.JudgedProgress.{goes_or_quiet}
use Rattle.network_judge.specs.declared.fill.Fill.{Fill}
use Rattle.network_judge.specs.Jams.{IsJam}
use Rattle.network_judge.specs.LockUps.{LocksUp, HasOneFlitPackets}
use Rattle.network_judge.proofs.Circles.{before, untangled}
use Rattle.network_judge.proofs.Filling.{jam_of}
use Rattle.network_judge.proofs.JamLinks.{round}
use Rattle.network_judge.proofs.Jammed.{jams_lock}

pub has_jam : (t : Table) (replies : List Reply) (links : List Link) → AllArrive t → AreReplies t replies → IsCycle t replies links
    → (fs : List Fill) × IsJam t replies fs
has_jam t replies links arrive are cycle =
    let r = round t replies arrive are links cycle in
    jam_of t replies (untangled t replies (suc (before t replies (r.head ∷ r.rest))) r.head r.rest (omega arith) r.circle)

pub cycles_lock : (t : Table) (replies : List Reply) (links : List Link) → AllArrive t → AreReplies t replies → IsCycle t replies links
    → (depth : ℕ) (flits : Flits) → 0 < depth → HasOneFlitPackets t flits → LocksUp t replies depth flits
cycles_lock t replies links arrive are cycle depth flits deep tells =
    let j = has_jam t replies links arrive are cycle in jams_lock t replies j.0 j.1 depth flits deep tells

pub never : (t : Table) (replies : List Reply) (numbers : List ℕ) → AreReplies t replies → IsNumbered t replies numbers
    → (depth : ℕ) (flits : Flits) → 0 < depth → LocksUp t replies depth flits → ⊥
never t replies numbers are is depth flits deep locks =
    let n = numbered t numbers depth flits in
    let l = locks (slice_index numbers) (channels_of t) in
    let up = l.1 in
    let s = after_all n (empty n) l.0 in
    ⊎_elim
    (λ (no : ⊥). no)
    (λ (all : (x : ℕ) → x < channels_of t → IsQuiet n s x). up.stands (all up.stuck up.here).line)
    (goes_or_quiet t replies numbers are is depth flits deep s (record { events = l.0; may = up.may; stands = refl }) ⊥ up.still)
