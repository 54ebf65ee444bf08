-- A network of four channels whose sender chooses between two, and one whose escapes go round.
use Rattle.std.proofs.Common.{◌≡◌, inl, inr, ⊎_elim, ne_eqb, ℕ, zero, suc, ◌+◌, ◌<◌, ◌==◌, ◌&&◌, ◌||◌, not, Bool, true, false, List, [], ◌∷◌, Some, refl, sym, subst, arith}
use Rattle.std.proofs.lemmas.Bool.{and_parts, and_from, eqb-true}
use Rattle.wormhole.specs.Net.{Net, Parcel}
use Rattle.wormhole.specs.State.{NetLine, NetState, empty, empty_line}
use Rattle.wormhole.specs.Events.{NetEvent, InjectHead, Latch, ForwardHead, AcceptHead, after_all}
use Rattle.wormhole.specs.Delivery.{whole}
use Rattle.network_adaptive.specs.Choices.{AdaptiveNet, IsAdaptiveNet, HasEscapes, Comes, BeginsIn, ByChoice, ExtendedDependency}
use Rattle.network_adaptive.specs.Flow.{CanAllocate, CanAllOccur, IsReachable}
use Rattle.network_adaptive.specs.Progress.{IsSure}
use Rattle.network_adaptive.specs.Arrivals.{sum_of_packets}
use Rattle.network_adaptive.specs.Work.{AreNearer, adaptive_promised}
use Rattle.network_adaptive.specs.Verdicts.{IsEdge, IsDependencyCycle, HasNumbers}
use Rattle.network_adaptive.proofs.Deciding.{awaits_from, leads, leads_from}
use Rattle.network_adaptive.proofs.Exactly.{no_numbers}
use Rattle.network_adaptive.proofs.Reach.{or_cases}

-- from channel 0 to channel 3; flit 9 is a packet's only flit
abbrev frame : Net
frame = record {
  channels = 4;
  depth = 2;
  injects = λ x. x == 0;
  ejects = λ x. x == 3;
  joins = λ i j. i == 0 && j == 3;
  route = λ i j. [];
  next = λ x j. 0;
  number = λ x. 0;
  top = 0;
  is_head = λ flit. flit == 9;
  is_tail = λ flit. flit == 9;
  told = λ flit. 3;
}

-- to channel 1 or to channel 2, and from both to channel 3; channel 2 is no escape
abbrev hops : ℕ → ℕ → Bool
hops x y = (x == 0 && (y == 1 || y == 2)) || ((x == 1 || x == 2) && y == 3)

abbrev two_ways : AdaptiveNet
two_ways = record {
  frame = frame;
  chooses = λ x j y. hops x y;
  escapes = λ x j y. hops x y && not (y == 2);
  marked = λ x. not (x == 2);
}

-- from 1 on to 2, from there back to 1, and from 1 to 3 too; all of them are escapes
abbrev turns : ℕ → ℕ → Bool
turns x y = (x == 0 && y == 1) || (x == 1 && (y == 2 || y == 3)) || (x == 2 && y == 1)

abbrev round : AdaptiveNet
round = record {
  frame = frame;
  chooses = λ x j y. turns x y;
  escapes = λ x j y. turns x y;
  marked = λ x. true;
}

-- nobody replies
abbrev nobody : ℕ → ℕ → Bool
nobody x y = false

-- what hops lead to: upwards, and to no sender
upwards : (x y : ℕ) → hops x y ≡ true → (x < y) × (y < 4)
upwards x y e = ⊎_elim
    (λ (a : (x == 0 && (y == 1 || y == 2)) ≡ true).
    let p = and_parts (x == 0) (y == 1 || y == 2) a in
    let from : x ≡ 0 = eqb-true x 0 p.0 in
    ⊎_elim
    (λ (b : (y == 1) ≡ true). let to : y ≡ 1 = eqb-true y 1 b in (omega arith, omega arith))
    (λ (b : (y == 2) ≡ true). let to : y ≡ 2 = eqb-true y 2 b in (omega arith, omega arith))
    (or_cases (y == 1) (y == 2) p.1))
    (λ (a : ((x == 1 || x == 2) && y == 3) ≡ true).
    let p = and_parts (x == 1 || x == 2) (y == 3) a in
    let to : y ≡ 3 = eqb-true y 3 p.1 in
    ⊎_elim
    (λ (b : (x == 1) ≡ true). let from : x ≡ 1 = eqb-true x 1 b in (omega arith, omega arith))
    (λ (b : (x == 2) ≡ true). let from : x ≡ 2 = eqb-true x 2 b in (omega arith, omega arith))
    (or_cases (x == 1) (x == 2) p.0))
    (or_cases (x == 0 && (y == 1 || y == 2)) ((x == 1 || x == 2) && y == 3) e)

-- the packets of channel 0 may wait for channel 1, and for channel 3 when they went on to channel 2;
-- who holds channel 2 counts for nothing: it is no escape
edges :
    (leads two_ways nobody 0 1 ≡ true) × (leads two_ways nobody 0 3 ≡ true) × (leads two_ways nobody 1 3 ≡ true)
    × (leads two_ways nobody 0 2 ≡ false) × (leads two_ways nobody 2 3 ≡ false)
edges = (refl, refl, refl, refl, refl)

indirect : ExtendedDependency two_ways 0 3 3
indirect = awaits_from two_ways 0 3 3 refl

-- around 1 and 2 escapes wait for one another
abbrev at : ℕ → ℕ
at k = k + 1

around : IsDependencyCycle round nobody 2 at
around = record { some = omega arith; each = each; last = leads_from round nobody 2 1 refl }
  where
    each : (k : ℕ) → k + 1 < 2 → IsEdge round nobody (at k) (at (k + 1))
    each zero l = leads_from round nobody 1 2 refl
    each (suc k) l = absurd (omega (arith, l))

-- so it has no numbers that rise
round_has_no_numbers : HasNumbers round nobody → ⊥
round_has_no_numbers h = no_numbers round nobody 2 at around h.1.0 h.1.1

-- the other one has: they fall from channel 0 to channel 2, which is no escape
abbrev number : ℕ → ℕ
number zero = 1
number (suc zero) = 2
number (suc (suc zero)) = 0
number (suc (suc (suc x))) = 3

-- packets come to channels by hops
module _ (j : ℕ) where
  from_low : (x : ℕ) → Comes two_ways j x → x < 4
  from_low x (BeginsIn i joined) = let e = eqb-true i 0 (and_parts (i == 0) (j == 3) joined).0 in omega arith
  from_low x (ByChoice u v c s) = (upwards u v s.chosen).1

  to_three : (x : ℕ) → Comes two_ways j x → j ≡ 3
  to_three x (BeginsIn i joined) = eqb-true j 3 (and_parts (i == 0) (j == 3) joined).1
  to_three x (ByChoice u v c s) = to_three u c

-- so it is a network whose routers choose
sender_apart : (y : ℕ) → 0 < y → (y == 0) ≡ false
sender_apart y l = ne_eqb y 0 (λ e. omega arith)

shape : IsAdaptiveNet two_ways
shape = record {
  senders = λ i j e. (and_parts (i == 0) (j == 3) e).0;
  receivers = λ i j e. (and_parts (i == 0) (j == 3) e).1;
  ends = λ i j e. (let same = eqb-true j 3 (and_parts (i == 0) (j == 3) e).1 in omega arith);
  within = λ j x c. from_low j x c;
  apart = λ j x y c s e. (let up = (upwards x y s.chosen).0 in omega arith);
  outputs = λ j x y c s. (let up = (upwards x y s.chosen).0 in sender_apart y (omega arith));
  arrives = λ j x c e. (let last = eqb-true x 3 e in let same = to_three j x c in omega arith);
  chosen = λ j x y c e. (and_parts (hops x y) (not (y == 2)) e).0;
  last = λ j x y c s e. and_from (hops x y) (not (y == 2)) s.chosen (subst (λ z. not (z == 2) ≡ true) (sym (eqb-true y 3 e)) refl);
  marks = λ j x y c e. (and_parts (hops x y) (not (y == 2)) e).1;
}

-- there is an escape behind each channel
escapes : HasEscapes two_ways
escapes j x c input = at_each x (from_low j x c) input
  where
    at_each : (x : ℕ) → x < 4 → (x == 3) ≡ false → (y : ℕ) × (two_ways.escapes x j y ≡ true)
    at_each zero l e = (1, refl)
    at_each (suc zero) l e = (3, refl)
    at_each (suc (suc zero)) l e = (3, refl)
    at_each (suc (suc (suc zero))) l e = absurd (cc)
    at_each (suc (suc (suc (suc x)))) l e = absurd (omega (arith, l))

-- with one escape fewer there isn't: a choice that is no escape is none
abbrev bare : AdaptiveNet
bare = record (two_ways) { escapes = λ x j y. hops x y && not (y == 2) && not (x == 1) }

no_escape : HasEscapes bare → ⊥
no_escape h =
    let here : Comes bare 3 1 = ByChoice 0 1 (BeginsIn 0 refl) (record { input = refl; chosen = refl }) in
    let some = h 3 1 here refl in
    absurd (none some.0 some.1)
  where
    none : (y : ℕ) → bare.escapes 1 3 y ≡ true → ⊥
    none y e = let b = and_parts (hops 1 y && not (y == 2)) (not (1 == 1)) e in absurd (cc)

-- a flit in the latch behind channel 2 keeps other packets out of it, though its buffer is empty and
-- all credits are home; into channel 1, an escape, a head flit may go behind it
abbrev waiting : NetLine
waiting = record (empty_line frame) { latch = Some 9 }

behind : CanAllocate two_ways waiting waiting 0 1 9
behind = record {
  here = omega arith;
  input = refl;
  full = refl;
  head = refl;
  chosen = refl;
  free = refl;
  credit = omega arith;
  room = inl refl;
}

kept_out : CanAllocate two_ways waiting waiting 0 2 9 → ⊥
kept_out c = elim c.room [
  | inl escape ↦ absurd (cc)
  | inr empty ↦ absurd (cc)
]

-- routers must take an escape, and need not take another choice
sure : IsSure two_ways (ForwardHead 0 1 9)
sure = refl

not_sure : IsSure two_ways (ForwardHead 0 2 9) → ⊥
not_sure e = absurd (cc)

-- a packet of one flit goes by the channel that is no escape, and arrives
abbrev packet : Parcel
packet = record { source = 0; destination = 3; index = 5; head = 9; tail = [] }

abbrev events : List NetEvent
events =
    InjectHead 0 packet ∷ Latch 0 9 [] ∷ ForwardHead 0 2 9 ∷ Latch 2 9 [] ∷ ForwardHead 2 3 9 ∷ AcceptHead 3 9 [] ∷ []

abbrev end : NetState
end = after_all frame (empty frame) events

arrived :
    (whole end 3 ≡ packet ∷ []) × (sum_of_packets two_ways (λ k. k.index) (whole end) ≡ 5)
    × (sum_of_packets two_ways (λ k. k.index) (λ x. (end.notes x).sent) ≡ 5)
arrived = (refl, refl, refl)

-- each of these events is enabled where it happens
enabled : CanAllOccur two_ways (empty frame) events
enabled = (
  record {
    here = omega arith;
    injects = refl;
    idle = refl;
    credit = omega arith;
    parcel = record { joined = refl; head = refl; told = refl; alone = refl; tail = tt };
    source = refl;
  },
  (
    record { here = omega arith; input = refl; free = refl; first = refl },
    (
      record { here = omega arith; input = refl; full = refl; head = refl; chosen = refl; free = refl; credit = omega arith; room = inr refl },
      (
        record { here = omega arith; input = refl; free = refl; first = refl },
        (
          record { here = omega arith; input = refl; full = refl; head = refl; chosen = refl; free = refl; credit = omega arith; room = inl refl },
          (record { here = omega arith; ejects = refl; first = refl; head = refl }, tt),
        ),
      ),
    ),
  ),
)

reached : IsReachable two_ways end
reached = record { events = events; may = enabled; stands = refl }

-- choices that lead round bring packets nearer by no measure
not_nearer : (far : ℕ → ℕ → ℕ) → AreNearer round far → ⊥
not_nearer far near =
    let one : Comes round 3 1 = ByChoice 0 1 (BeginsIn 0 refl) (record { input = refl; chosen = refl }) in
    let two : Comes round 3 2 = ByChoice 1 2 one (record { input = refl; chosen = refl }) in
    let there : far 2 3 < far 1 3 = near 3 1 2 one (record { input = refl; chosen = refl }) in
    let back : far 1 3 < far 2 3 = near 3 2 1 two (record { input = refl; chosen = refl }) in
    omega arith

-- put, take and credit of one flit in channel 0 and in two further channels
promised_at_first : adaptive_promised (λ x j. 2) (InjectHead 0 packet) ≡ 9
promised_at_first = refl
