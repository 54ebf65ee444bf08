-- A ring of three routers that can deadlock, and what is no jam of it.
use Rattle.std.proofs.Common.{◌≡◌, ℕ, zero, suc, ◌<◌, ◌≤◌, false, true, List, [], ◌∷◌, Some, refl, arith}
use Rattle.std.proofs.lemmas.List.Elements.{All-nil, All-cons, All-head, All-tail}
use Rattle.wormhole.specs.Net.{Net}
use Rattle.network_judge.specs.declared.table.Kind.TheVariants.{Injection, Hop, Ejection}
use Rattle.network_judge.specs.declared.table.Reply.{Reply}
use Rattle.network_judge.specs.Table.{Table, kind_of}
use Rattle.network_judge.specs.Ways.{place, IsWay}
use Rattle.network_judge.specs.declared.fill.Fill.{Fill}
use Rattle.network_judge.specs.Jams.{is_filled, ComesIn, WaitsForFilled, IsJam}
use Rattle.network_judge.specs.LockUps.{IsLockUp, LocksUp, HasOneFlitPackets, plain_format}
use Rattle.network_judge.proofs.Jammed.{jams_lock}

-- hops 0, 1 and 2 go round; senders 3, 4 and 5 and receivers 6, 7 and 8 are at the three routers;
-- packets go two hops
abbrev ring : Table
ring = record {
  kinds = Hop ∷ Hop ∷ Hop ∷ Injection ∷ Injection ∷ Injection ∷ Ejection ∷ Ejection ∷ Ejection ∷ [];
  joins = record { from = 3; to = 8 } ∷ record { from = 4; to = 6 } ∷ record { from = 5; to = 7 } ∷ [];
  choices = 1 ∷ 7 ∷ 1 ∷ 2 ∷ 2 ∷ 8 ∷ 6 ∷ 0 ∷ 0 ∷ 6 ∷ 0 ∷ 0 ∷ 1 ∷ 7 ∷ 1 ∷ 2 ∷ 2 ∷ 8
      ∷ 0 ∷ 0 ∷ 0 ∷ 0 ∷ 0 ∷ 0 ∷ 0 ∷ 0 ∷ 0 ∷ [];
}

-- hop 0 is full of packets from 3 to 8, hop 1 of packets from 4 to 6, hop 2 of packets from 5 to 7
abbrev at_0 : Fill
at_0 = record { from = 3; to = 8; step = 1 }

abbrev at_1 : Fill
at_1 = record { from = 4; to = 6; step = 1 }

abbrev at_2 : Fill
at_2 = record { from = 5; to = 7; step = 1 }

abbrev all_three : List Fill
all_three = at_0 ∷ at_1 ∷ at_2 ∷ []

-- a walk of three steps, over two hops
way_of : (i j : ℕ) → kind_of ring i ≡ Some Injection → kind_of ring j ≡ Some Ejection
    → kind_of ring (place ring j i 1) ≡ Some Hop → kind_of ring (place ring j i 2) ≡ Some Hop → place ring j i 3 ≡ j → IsWay ring i j 3
way_of i j sends takes one two arrives = record {
  under_way = record { sender = sends; receiver = takes; hops = hops };
  arrives = arrives;
  short = omega arith;
}
  where
    hops : (k : ℕ) → 0 < k → k < 3 → kind_of ring (place ring j i k) ≡ Some Hop
    hops zero some few = absurd (omega arith)
    hops (suc zero) some few = one
    hops (suc (suc zero)) some few = two
    hops (suc (suc (suc k))) some few = absurd (omega arith)

-- each comes to its hop over a sender that isn't filled
clear_of : (fs : List Fill) (i j : ℕ) → is_filled ring fs (place ring j i 0) ≡ false → is_filled ring fs (place ring j i 1) ≡ false
    → (k : ℕ) → k ≤ 1 → is_filled ring fs (place ring j i k) ≡ false
clear_of fs i j sender hop zero l = sender
clear_of fs i j sender hop (suc zero) l = hop
clear_of fs i j sender hop (suc (suc k)) l = absurd (omega arith)

way_0 : IsWay ring 3 8 3
way_0 = way_of 3 8 refl refl refl refl refl

way_1 : IsWay ring 4 6 3
way_1 = way_of 4 6 refl refl refl refl refl

way_2 : IsWay ring 5 7 3
way_2 = way_of 5 7 refl refl refl refl refl

comes_0 : ComesIn ring at_0 (at_1 ∷ at_2 ∷ [])
comes_0 = record {
  joined = refl;
  length = 3;
  way = way_0;
  on = omega arith;
  clear = clear_of (at_1 ∷ at_2 ∷ []) 3 8 refl refl;
}

comes_1 : ComesIn ring at_1 (at_2 ∷ [])
comes_1 = record { joined = refl; length = 3; way = way_1; on = omega arith; clear = clear_of (at_2 ∷ []) 4 6 refl refl }

comes_2 : ComesIn ring at_2 []
comes_2 = record { joined = refl; length = 3; way = way_2; on = omega arith; clear = clear_of [] 5 7 refl refl }

waits_0 : WaitsForFilled ring [] all_three at_0
waits_0 = record { under_way = λ apart. refl; at_end = λ e. absurd (omega arith) }

waits_1 : WaitsForFilled ring [] all_three at_1
waits_1 = record { under_way = λ apart. refl; at_end = λ e. absurd (omega arith) }

waits_2 : WaitsForFilled ring [] all_three at_2
waits_2 = record { under_way = λ apart. refl; at_end = λ e. absurd (omega arith) }

-- the three full hops are a jam
ring_has_a_jam : IsJam ring [] all_three
ring_has_a_jam = record {
  some = omega arith;
  in_turn = (comes_0, (comes_1, (comes_2, tt)));
  waits = All-cons (WaitsForFilled ring [] all_three) at_0 (at_1 ∷ at_2 ∷ []) waits_0
      (All-cons (WaitsForFilled ring [] all_three) at_1 (at_2 ∷ []) waits_1
      (All-cons (WaitsForFilled ring [] all_three) at_2 [] waits_2 (All-nil (WaitsForFilled ring [] all_three))));
}

-- so the ring can deadlock, with channels of any depth
ring_locks_up : (depth : ℕ) → 0 < depth → HasOneFlitPackets ring plain_format → LocksUp ring [] depth plain_format
ring_locks_up depth deep tells = jams_lock ring [] all_three ring_has_a_jam depth plain_format deep tells

-- two of them are none: packets in hop 1 can go on to hop 2
one_is_missing : IsJam ring [] (at_0 ∷ at_1 ∷ []) → ⊥
one_is_missing jam =
    let waits : WaitsForFilled ring [] (at_0 ∷ at_1 ∷ []) at_1 =
    All-head (WaitsForFilled ring [] (at_0 ∷ at_1 ∷ [])) at_1 []
    (All-tail (WaitsForFilled ring [] (at_0 ∷ at_1 ∷ [])) at_0 (at_1 ∷ []) jam.waits) in
    let on : is_filled ring (at_0 ∷ at_1 ∷ []) 2 ≡ true = waits.under_way (λ e. absurd (omega arith)) in
    let not : is_filled ring (at_0 ∷ at_1 ∷ []) 2 ≡ false = refl in
    absurd (cc)

-- none at all are no jam
empty_is_none : (t : Table) (replies : List Reply) → IsJam t replies [] → ⊥
empty_is_none t replies jam = (let some = jam.some in absurd (omega arith))

-- a network in which nothing was sent isn't deadlocked
nothing_sent : (n : Net) (replies : List Reply) → IsLockUp n replies [] → ⊥
nothing_sent n replies locked = locked.stands refl
