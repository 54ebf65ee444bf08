-- Transactions that cover a network: a cycle of the network with its replies is one of theirs.
use Rattle.std.proofs.Common.{⊎_elim, ℕ, ◌<◌, List, [], ◌∷◌, slice_index, arith, sym, ◌∙◌}
use Rattle.std.proofs.lemmas.List.{append_assoc}
use Rattle.network_judge.specs.declared.table.Link.{Link}
use Rattle.network_judge.specs.Table.{Table, channels_of}
use Rattle.network_judge.specs.TableNet.{Flits}
use Rattle.network_judge.specs.Replies.{AreReplies}
use Rattle.network_judge.specs.Verdicts.{AllArrive, IsNumbered}
use Rattle.network_judge.specs.Cycles.{Depends, IsCycle}
use Rattle.network_judge.proofs.Acyclic.{cycle_or_numbers}
use Rattle.network_judge.proofs.Failing.{no_numbers}
use Rattle.network_judge.proofs.Nets.{is_net}
use Rattle.network_judge.specs.LockUps.{HasOneFlitPackets, plain_format}
use Rattle.deadlock_laws.specs.Endpoints.{Endpoints}
use Rattle.deadlock_laws.proofs.Circular.{no_reply}
use Rattle.deadlock_laws.specs.Transactions.{IsComposed, EndsLockUp, HasAllDependencies}
use Rattle.deadlock_laws.proofs.Locked.{cycles_lock}

has_cycle : (t : Table) (p : Endpoints) (c : Table) → HasAllDependencies t p c → (links : List Link) → AllArrive t → AllArrive c → IsCycle t p.replies links
    → (more : List Link) × IsCycle c [] more
has_cycle t p c covers links arrive all cycle = ⊎_elim
    (λ (l : (more : List Link) × IsCycle c [] more). l)
    (λ (n : (numbers : List ℕ) × IsNumbered c [] numbers). absurd (by n.0 n.1))
    (cycle_or_numbers c [] (λ x y r. absurd (no_reply x y r)) all)
  where
    wider : (x : ℕ) → x < channels_of t → x < channels_of c
    wider x low = let w = covers.within in omega arith

    by : (numbers : List ℕ) → IsNumbered c [] numbers → ⊥
    by numbers is =
        let net = is.net 1 plain_format in
        let rises : (x j y : ℕ) → Depends c x j y → slice_index numbers x < slice_index numbers y =
        λ x j y d. net.rises d.from j x y d.before [] d.after d.joined (d.neighbours ∙ sym (append_assoc d.before (x ∷ []) (y ∷ d.after))) in
        no_numbers t p.replies links cycle (slice_index numbers) (channels_of c) 1 plain_format
        (λ x y r. (let k = covers.replies x y r in rises x k.0 y k.1))
        (is_net t (slice_index numbers) (channels_of c) 1 plain_format arrive (λ x low. net.bounded x (wider x low))
        (λ x j y d. (let k = covers.routes x j y d in rises x k.0 y k.1)))

pub covered_lock : (t : Table) (p : Endpoints) (c : Table) (leg : ℕ → ℕ → ℕ) → AreReplies t p.replies → IsComposed t p c leg → HasAllDependencies t p c
    → ((x : ℕ) → 0 < p.room x) → (links : List Link) → AllArrive t → AllArrive c → IsCycle t p.replies links
    → (depth : ℕ) (flits : Flits) → 0 < depth → HasOneFlitPackets t flits → EndsLockUp t p depth flits
covered_lock t p c leg are comp covers roomy links arrive all cycle depth flits deep tells =
    let more = has_cycle t p c covers links arrive all cycle in
    cycles_lock t p c leg are comp roomy more.0 all more.1 depth flits deep tells
