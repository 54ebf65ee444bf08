-- Two tiles that ask one another over one hop each way: their transactions, which wait for one another.
use Rattle.std.proofs.Common.{◌≡◌, ◌≢◌, ◌⊎◌, inl, inr, ℕ, zero, suc, ◌<◌, ◌≤◌, ◌==◌, ◌||◌, if◌then◌else◌, true, false, List, [], ◌∷◌, length, Some, refl, sym, ◌∙◌, ap, subst, arith}
use Rattle.std.specs.Prelude.{slice_index_or}
use Rattle.std.proofs.lemmas.Bool.{cases_lt}
use Rattle.std.proofs.lemmas.Option.{slice_get_within}
use Rattle.network_judge.specs.declared.table.Kind.TheVariants.{Injection, Hop, Ejection}
use Rattle.network_judge.specs.declared.fill.Fill.{Fill}
use Rattle.network_judge.specs.Table.{Table, kind_of, table_next, joins_of, is_receiver}
use Rattle.network_judge.specs.Ways.{place, IsWay}
use Rattle.network_judge.specs.Replies.{IsReply, AreReplies}
use Rattle.network_judge.specs.Marks.{Passes}
use Rattle.network_judge.specs.Jams.{fill_channel, is_filled, ComesIn}
use Rattle.network_judge.specs.LockUps.{HasOneFlitPackets, plain_format}
use Rattle.network_judge.proofs.Marking.{IsAt, place_of}
use Rattle.deadlock_laws.specs.CircularJams.{GoesOnTo, IsCircularJam}
use Rattle.deadlock_laws.specs.Endpoints.{Endpoints}
use Rattle.deadlock_laws.specs.Transactions.{IsComposed, EndsLockUp}
use Rattle.deadlock_laws.proofs.Locked.{jams_lock}

-- Tile A asks on 0 over hop 2 to 7, where tile B answers on 5 over hop 3 to 8; tile B asks on 1 over
-- hop 3 to 6, where tile A answers on 4 over hop 2 to 9.
abbrev legs : Table
legs = record {
  kinds = Injection ∷ Injection ∷ Hop ∷ Hop ∷ Injection ∷ Injection ∷ Ejection ∷ Ejection ∷ Ejection ∷ Ejection ∷ [];
  joins = record { from = 0; to = 7 } ∷ record { from = 1; to = 6 } ∷ record { from = 5; to = 8 } ∷ record { from = 4; to = 9 } ∷ [];
  choices = 0 ∷ 2 ∷ 0 ∷ 0 ∷ 3 ∷ 0 ∷ 0 ∷ 0 ∷ 0 ∷ 7 ∷ 0 ∷ 9 ∷ 6 ∷ 0 ∷ 8 ∷ 0 ∷ 0 ∷ 0 ∷ 0 ∷ 2 ∷ 0 ∷ 0 ∷ 3 ∷ 0
      ∷ 0 ∷ 0 ∷ 0 ∷ 0 ∷ 0 ∷ 0 ∷ 0 ∷ 0 ∷ 0 ∷ 0 ∷ 0 ∷ 0 ∷ 0 ∷ 0 ∷ 0 ∷ 0 ∷ [];
}

-- only 0 and 1 are sent on unasked
abbrev ends : ℕ → Endpoints
ends room = record {
  replies = record { from = 7; to = 5 } ∷ record { from = 6; to = 4 } ∷ [];
  room = λ x. room;
  free = λ y. y == 0 || y == 1;
}

-- the two transactions, from 0 to 8 and from 1 to 9
abbrev whole : Table
whole = record {
  kinds = Injection ∷ Injection ∷ Hop ∷ Hop ∷ Hop ∷ Hop ∷ Hop ∷ Hop ∷ Ejection ∷ Ejection ∷ [];
  joins = record { from = 0; to = 8 } ∷ record { from = 1; to = 9 } ∷ [];
  choices = 2 ∷ 0 ∷ 0 ∷ 3 ∷ 7 ∷ 9 ∷ 8 ∷ 6 ∷ 0 ∷ 2 ∷ 3 ∷ 0 ∷ 0 ∷ 4 ∷ 5 ∷ 0 ∷ 0 ∷ 0 ∷ 0 ∷ 0 ∷ [];
}

-- where the packet of a transaction goes
abbrev leg : ℕ → ℕ → ℕ
leg x j = if j == 8 then (if x == 5 || x == 3 then 8 else 7) else (if x == 4 || x == 2 then 9 else 6)

joined : (i j : ℕ) → joins_of whole i j ≡ true → ((i ≡ 0) × (j ≡ 8)) ⊎ ((i ≡ 1) × (j ≡ 9))
joined i j is = (let at = place_of whole i j is in by at.0 at.1)
  where
    by : (p : ℕ) → IsAt whole i j p → ((i ≡ 0) × (j ≡ 8)) ⊎ ((i ≡ 1) × (j ≡ 9))
    by zero at = inl (sym at.from, sym at.to)
    by (suc zero) at = inr (sym at.from, sym at.to)
    by (suc (suc p)) at = (let below = at.below in absurd (omega arith))

way_8 : IsWay whole 0 8 5
way_8 = record { under_way = record { sender = refl; receiver = refl; hops = hops }; arrives = refl; short = omega arith }
  where
    hops : (k : ℕ) → 0 < k → k < 5 → kind_of whole (place whole 8 0 k) ≡ Some Hop
    hops zero some few = absurd (omega arith)
    hops (suc zero) some few = refl
    hops (suc (suc zero)) some few = refl
    hops (suc (suc (suc zero))) some few = refl
    hops (suc (suc (suc (suc zero)))) some few = refl
    hops (suc (suc (suc (suc (suc k))))) some few = absurd (omega arith)

way_9 : IsWay whole 1 9 5
way_9 = record { under_way = record { sender = refl; receiver = refl; hops = hops }; arrives = refl; short = omega arith }
  where
    hops : (k : ℕ) → 0 < k → k < 5 → kind_of whole (place whole 9 1 k) ≡ Some Hop
    hops zero some few = absurd (omega arith)
    hops (suc zero) some few = refl
    hops (suc (suc zero)) some few = refl
    hops (suc (suc (suc zero))) some few = refl
    hops (suc (suc (suc (suc zero)))) some few = refl
    hops (suc (suc (suc (suc (suc k))))) some few = absurd (omega arith)

-- a route ends where it first comes to an ejection channel
no_further : (i j n : ℕ) → IsWay whole i j n → kind_of whole (place whole j i 5) ≡ Some Ejection → n ≤ 5
no_further i j n way end = elim (cases_lt 5 n) [
  | inl more ↦ (let hop : kind_of whole (place whole j i 5) ≡ Some Hop = way.under_way.hops 5 (omega arith) more in absurd (cc))
  | inr few ↦ (few)
]

-- what holds along both transactions holds wherever one passes
along : (P : ℕ → ℕ → Type 0) → P 0 8 → P 2 8 → P 7 8 → P 5 8 → P 3 8 → P 1 9 → P 3 9 → P 6 9 → P 4 9 → P 2 9
    → (x j : ℕ) → Passes whole x j → P x j
along P a b c d e f g h i k x j p = elim (joined p.from j p.joined) [
  | inl one ↦
      let way : IsWay whole 0 8 p.steps = subst (λ z. IsWay whole z 8 p.steps) one.0 (subst (λ z. IsWay whole p.from z p.steps) one.1 p.way) in
      let short = no_further 0 8 p.steps way refl in
      let before = p.before in
      subst (λ z. P x z) (sym one.1) (subst (λ z. P z 8) (at one.0 one.1) (first p.step (omega arith)))
  | inr two ↦
      let way : IsWay whole 1 9 p.steps = subst (λ z. IsWay whole z 9 p.steps) two.0 (subst (λ z. IsWay whole p.from z p.steps) two.1 p.way) in
      let short = no_further 1 9 p.steps way refl in
      let before = p.before in
      subst (λ z. P x z) (sym two.1) (subst (λ z. P z 9) (at two.0 two.1) (second p.step (omega arith)))
]
  where
    at : {from to : ℕ} → p.from ≡ from → j ≡ to → place whole to from p.step ≡ x
    at {from} {to} one two = ap (λ z. place whole to z p.step) (sym one) ∙ (ap (λ z. place whole z p.from p.step) (sym two) ∙ p.here)

    first : (m : ℕ) → m < 5 → P (place whole 8 0 m) 8
    first zero low = a
    first (suc zero) low = b
    first (suc (suc zero)) low = c
    first (suc (suc (suc zero))) low = d
    first (suc (suc (suc (suc zero)))) low = e
    first (suc (suc (suc (suc (suc m))))) low = absurd (omega arith)

    second : (m : ℕ) → m < 5 → P (place whole 9 1 m) 9
    second zero low = f
    second (suc zero) low = g
    second (suc (suc zero)) low = h
    second (suc (suc (suc zero))) low = i
    second (suc (suc (suc (suc zero)))) low = k
    second (suc (suc (suc (suc (suc m))))) low = absurd (omega arith)

are_replies : (room : ℕ) → AreReplies legs (ends room).replies
are_replies room x y r = by r.place r.here r.from r.to
  where
    by : (k : ℕ) → k < length (ends room).replies → (slice_index_or (ends room).replies k (record { from = 0; to = 0 })).from ≡ x
        → (slice_index_or (ends room).replies k (record { from = 0; to = 0 })).to ≡ y → (kind_of legs x ≡ Some Ejection) × (kind_of legs y ≡ Some Injection)
    by zero low from to = (subst (λ z. kind_of legs z ≡ Some Ejection) from refl, subst (λ z. kind_of legs z ≡ Some Injection) to refl)
    by (suc zero) low from to = (subst (λ z. kind_of legs z ≡ Some Ejection) from refl, subst (λ z. kind_of legs z ≡ Some Injection) to refl)
    by (suc (suc k)) low from to = absurd (omega arith)

sends : (room i : ℕ) → i < 10 → kind_of whole i ≡ Some Injection → (kind_of legs i ≡ Some Injection) × ((ends room).free i ≡ true)
sends room zero low is = (refl, refl)
sends room (suc zero) low is = (refl, refl)
sends room (suc (suc zero)) low is = absurd (cc)
sends room (suc (suc (suc zero))) low is = absurd (cc)
sends room (suc (suc (suc (suc zero)))) low is = absurd (cc)
sends room (suc (suc (suc (suc (suc zero))))) low is = absurd (cc)
sends room (suc (suc (suc (suc (suc (suc zero)))))) low is = absurd (cc)
sends room (suc (suc (suc (suc (suc (suc (suc zero))))))) low is = absurd (cc)
sends room (suc (suc (suc (suc (suc (suc (suc (suc zero)))))))) low is = absurd (cc)
sends room (suc (suc (suc (suc (suc (suc (suc (suc (suc zero))))))))) low is = absurd (cc)
sends room (suc (suc (suc (suc (suc (suc (suc (suc (suc (suc i)))))))))) low is = absurd (omega arith)

-- the transactions are those of the network
composed : (room : ℕ) → IsComposed legs (ends room) whole leg
composed room = record {
  senders = λ i is. sends room i (slice_get_within whole.kinds i Injection is) is;
  begins = λ i j is. elim (joined i j is) [
    | inl one ↦ ap (λ z. joins_of legs z (leg z j)) one.0 ∙ ap (λ z. joins_of legs 0 (leg 0 z)) one.1
    | inr two ↦ ap (λ z. joins_of legs z (leg z j)) two.0 ∙ ap (λ z. joins_of legs 1 (leg 1 z)) two.1
  ];
  inside = along (λ x j. x < 10) (omega arith) (omega arith) (omega arith) (omega arith) (omega arith) (omega arith) (omega arith) (omega arith)
      (omega arith) (omega arith);
  legs = along (λ x j. kind_of legs (leg x j) ≡ Some Ejection) refl refl refl refl refl refl refl refl refl refl;
  goes = along (λ x j. is_receiver (kind_of legs x) ≡ false → table_next whole x j ≢ j
      → (table_next whole x j ≡ table_next legs x (leg x j)) × (leg (table_next whole x j) j ≡ leg x j))
      (λ is on. (refl, refl)) (λ is on. (refl, refl)) (λ is on. absurd (cc)) (λ is on. (refl, refl)) (λ is on. absurd (on refl))
      (λ is on. (refl, refl)) (λ is on. (refl, refl)) (λ is on. absurd (cc)) (λ is on. (refl, refl)) (λ is on. absurd (on refl));
  answers = along (λ x j. is_receiver (kind_of legs x) ≡ true → table_next whole x j ≢ j
      → IsReply (ends room).replies x (table_next whole x j) × (joins_of legs (table_next whole x j) (leg (table_next whole x j) j) ≡ true))
      (λ is on. absurd (cc)) (λ is on. absurd (cc)) (λ is on. (record { place = 0; here = omega arith; from = refl; to = refl }, refl))
      (λ is on. absurd (cc)) (λ is on. absurd (cc))
      (λ is on. absurd (cc)) (λ is on. absurd (cc)) (λ is on. (record { place = 1; here = omega arith; from = refl; to = refl }, refl))
      (λ is on. absurd (cc)) (λ is on. absurd (cc));
}

-- a walk that is clear at each step up to one
abbrev IsClear : List Fill → ℕ → ℕ → ℕ → Type 0
IsClear fs i j zero = is_filled whole fs (place whole j i 0) ≡ false
IsClear fs i j (suc m) = IsClear fs i j m × (is_filled whole fs (place whole j i (suc m)) ≡ false)

clear_at : (fs : List Fill) (i j m : ℕ) → IsClear fs i j m → (k : ℕ) → k ≤ m → is_filled whole fs (place whole j i k) ≡ false
clear_at fs i j zero clear zero low = clear
clear_at fs i j zero clear (suc k) low = absurd (omega arith)
clear_at fs i j (suc m) clear k low = elim (cases_lt k (suc m)) [
  | inl less ↦ clear_at fs i j m clear.0 k (omega arith)
  | inr last ↦ (let same : k ≡ suc m = omega arith in ap (λ z. is_filled whole fs (place whole j i z)) same ∙ clear.1)
]

abbrev to_8 : ℕ → Fill
to_8 k = record { from = 0; to = 8; step = k }

abbrev to_9 : ℕ → Fill
to_9 k = record { from = 1; to = 9; step = k }

comes_8 : (fs : List Fill) (k : ℕ) → k ≤ 5 → IsClear fs 0 8 k → ComesIn whole (to_8 k) fs
comes_8 fs k low clear = record { joined = refl; length = 5; way = way_8; on = low; clear = clear_at fs 0 8 k clear }

comes_9 : (fs : List Fill) (k : ℕ) → k ≤ 5 → IsClear fs 1 9 k → ComesIn whole (to_9 k) fs
comes_9 fs k low clear = record { joined = refl; length = 5; way = way_9; on = low; clear = clear_at fs 1 9 k clear }

-- from hop 4 on, first filled, each of the six channels waits for the one before it
abbrev around : List Fill
around = to_8 1 ∷ to_8 2 ∷ to_8 3 ∷ to_9 1 ∷ to_9 2 ∷ to_9 3 ∷ []

waits : (f : Fill) → fill_channel whole f ≢ f.to → GoesOnTo whole f (table_next whole (fill_channel whole f) f.to)
waits f under_way = record { under_way = under_way; next = refl }

jammed : IsCircularJam whole around
jammed = record {
  some = omega arith;
  in_turn = (
    comes_8 (to_8 2 ∷ to_8 3 ∷ to_9 1 ∷ to_9 2 ∷ to_9 3 ∷ []) 1 (omega arith) (refl, refl),
    (
      comes_8 (to_8 3 ∷ to_9 1 ∷ to_9 2 ∷ to_9 3 ∷ []) 2 (omega arith) ((refl, refl), refl),
      (
        comes_8 (to_9 1 ∷ to_9 2 ∷ to_9 3 ∷ []) 3 (omega arith) (((refl, refl), refl), refl),
        (
          comes_9 (to_9 2 ∷ to_9 3 ∷ []) 1 (omega arith) (refl, refl),
          (
            comes_9 (to_9 3 ∷ []) 2 (omega arith) ((refl, refl), refl),
            (comes_9 [] 3 (omega arith) (((refl, refl), refl), refl), tt),
          ),
        ),
      ),
    ),
  );
  waits = (
    waits (to_8 1) (λ e. absurd (omega arith)),
    (
      waits (to_8 2) (λ e. absurd (omega arith)),
      (
        waits (to_8 3) (λ e. absurd (omega arith)),
        (
          waits (to_9 1) (λ e. absurd (omega arith)),
          (
            waits (to_9 2) (λ e. absurd (omega arith)),
            (waits (to_9 3) (λ e. absurd (omega arith)), tt),
          ),
        ),
      ),
    ),
  );
}

-- so the two tiles deadlock, whatever the depth of the channels and the room of the queues
tiles_lock_up : (room depth : ℕ) → 0 < room → 0 < depth → HasOneFlitPackets legs plain_format → EndsLockUp legs (ends room) depth plain_format
tiles_lock_up room depth roomy deep tells =
    jams_lock legs (ends room) whole leg (are_replies room) (composed room) (λ x. roomy) around jammed depth plain_format deep tells

-- if nobody sends unasked there are no transactions
nobody_asks : (p : Endpoints) → p.free 0 ≡ false → IsComposed legs p whole leg → ⊥
nobody_asks p none are = (let free = (are.senders 0 refl).1 in absurd (cc))

-- transactions need answers: with none, these are none
nobody_answers : (p : Endpoints) → p.replies ≡ [] → IsComposed legs p whole leg → ⊥
nobody_answers p none are =
    let passes : Passes whole 7 8 = record { from = 0; joined = refl; steps = 5; way = way_8; step = 2; before = omega arith; here = refl } in
    let reply = (are.answers 7 8 passes refl (λ e. absurd (omega arith))).0 in
    let here = reply.here in
    let empty : length p.replies ≡ 0 = ap length none in
    absurd (omega arith)
