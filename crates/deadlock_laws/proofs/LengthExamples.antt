-- Two hops that lead on to one another: a circular jam, and what is none; and packets by their lengths.
use Rattle.std.proofs.Common.{◌≡◌, ℕ, zero, suc, ◌<◌, ◌≤◌, false, List, [], ◌∷◌, Some, refl, arith}
use Rattle.wormhole.specs.Net.{Net}
use Rattle.wormhole.specs.Events.{InjectHead, Return}
use Rattle.network_judge.specs.declared.table.Kind.TheVariants.{Injection, Hop, Ejection}
use Rattle.network_judge.specs.declared.table.Reply.{Reply}
use Rattle.network_judge.specs.declared.fill.Fill.{Fill}
use Rattle.network_judge.specs.Table.{Table, kind_of}
use Rattle.network_judge.specs.Ways.{place, IsWay}
use Rattle.network_judge.specs.Jams.{is_filled, ComesIn}
use Rattle.network_judge.specs.LockUps.{plain_format}
use Rattle.deadlock_laws.specs.CircularJams.{GoesOnTo, IsCircularJam}
use Rattle.deadlock_laws.specs.Lengths.{HasLength, IsLockUpOf, LocksUpOf, AreBehindHead}
use Rattle.deadlock_laws.proofs.Finished.{jams_lock}
use Rattle.deadlock_laws.proofs.Both.{some_format}

-- hops 0 and 1; packets from sender 2 go over 0 and 1 to receiver 5, those from sender 3 over 1 and 0
-- to receiver 4
abbrev pair : Table
pair = record {
  kinds = Hop ∷ Hop ∷ Injection ∷ Injection ∷ Ejection ∷ Ejection ∷ [];
  joins = record { from = 2; to = 5 } ∷ record { from = 3; to = 4 } ∷ [];
  choices = 4 ∷ 1 ∷ 0 ∷ 5 ∷ 0 ∷ 0 ∷ 1 ∷ 1 ∷ 0 ∷ 0 ∷ 0 ∷ 0 ∷ [];
}

-- hop 0 is filled with the packets from 2, hop 1 with those from 3
abbrev at_0 : Fill
at_0 = record { from = 2; to = 5; step = 1 }

abbrev at_1 : Fill
at_1 = record { from = 3; to = 4; step = 1 }

way : (i j : ℕ) → kind_of pair i ≡ Some Injection → kind_of pair j ≡ Some Ejection → kind_of pair (place pair j i 1) ≡ Some Hop
    → kind_of pair (place pair j i 2) ≡ Some Hop → place pair j i 3 ≡ j → IsWay pair i j 3
way i j sends takes one two arrives = record {
  under_way = record { sender = sends; receiver = takes; hops = hops };
  arrives = arrives;
  short = omega arith;
}
  where
    hops : (k : ℕ) → 0 < k → k < 3 → kind_of pair (place pair j i k) ≡ Some Hop
    hops zero some few = absurd (omega arith)
    hops (suc zero) some few = one
    hops (suc (suc zero)) some few = two
    hops (suc (suc (suc k))) some few = absurd (omega arith)

comes_0 : ComesIn pair at_0 (at_1 ∷ [])
comes_0 = record { joined = refl; length = 3; way = way 2 5 refl refl refl refl refl; on = omega arith; clear = clear }
  where
    clear : (k : ℕ) → k ≤ 1 → is_filled pair (at_1 ∷ []) (place pair 5 2 k) ≡ false
    clear zero low = refl
    clear (suc zero) low = refl
    clear (suc (suc k)) low = absurd (omega arith)

comes_1 : ComesIn pair at_1 []
comes_1 = record { joined = refl; length = 3; way = way 3 4 refl refl refl refl refl; on = omega arith; clear = λ k low. refl }

-- the two full hops are a circular jam
pair_is_jammed : IsCircularJam pair (at_0 ∷ at_1 ∷ [])
pair_is_jammed = record {
  some = omega arith;
  in_turn = (comes_0, (comes_1, tt));
  waits = (
    record { under_way = λ e. absurd (omega arith); next = refl },
    (record { under_way = λ e. absurd (omega arith); next = refl }, tt),
  );
}

-- so with packets of four flits it can deadlock, where a channel holds three flits, and the latch one
pair_locks_up : LocksUpOf pair [] 3 plain_format 4
pair_locks_up = jams_lock pair (at_0 ∷ at_1 ∷ []) pair_is_jammed 4 3 plain_format (omega arith) (omega arith) (some_format pair 4 (omega arith))

apart : (n : ℕ) → suc n ≡ n → ⊥
apart n same = omega arith

-- one of them is none: its packets go on to the other, which is empty
one_is_missing : IsCircularJam pair (at_0 ∷ []) → ⊥
one_is_missing jam = apart 0 jam.waits.0.next

-- none at all are none
empty_is_none : (t : Table) → IsCircularJam t [] → ⊥
empty_is_none t jam = (let some = jam.some in absurd (omega arith))

-- at its ejection channel a packet goes on to no channel
end_is_no_wait : (y : ℕ) → GoesOnTo pair (record { from = 2; to = 5; step = 3 }) y → ⊥
end_is_no_wait y on = on.under_way refl

-- a packet of three flits in the plain format, to ejection channel 5
three_flits : HasLength 3 (InjectHead 2 (record { source = 2; destination = 5; index = 0; head = 22; tail = 0 ∷ 1 ∷ [] }))
three_flits = refl

not_two : HasLength 2 (InjectHead 2 (record { source = 2; destination = 5; index = 0; head = 22; tail = 0 ∷ 1 ∷ [] })) → ⊥
not_two long = apart 2 long

-- an event that begins no packet is of any length
no_packet : (size : ℕ) → HasLength size (Return 0)
no_packet size = tt

-- a body flit and a tail flit; two tail flits are none
behind : AreBehindHead plain_format (0 ∷ 1 ∷ [])
behind = (refl, refl, (refl, refl, tt))

two_tails : AreBehindHead plain_format (1 ∷ 1 ∷ []) → ⊥
two_tails are = (let tail = are.1 in absurd (cc))

-- a run without events deadlocks nothing, whatever the length
nothing_sent : (n : Net) (replies : List Reply) (size : ℕ) → IsLockUpOf n replies size [] → ⊥
nothing_sent n replies size run = run.locks.stands refl
