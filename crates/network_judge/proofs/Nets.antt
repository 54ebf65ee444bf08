-- Where all walks arrive and the numbers rise over dependencies, a table is a wormhole network.
use Rattle.std.proofs.Common.{◌≡◌, ◌≢◌, inl, inr, ℕ, zero, suc, ◌+◌, ◌-◌, ◌<◌, ◌≤◌, true, false, Some, List, [], ◌∷◌, ◌++◌, refl, sym, ◌∙◌, ap, subst, arith}
use Rattle.std.proofs.Common.{append_assoc}
use Rattle.std.proofs.lemmas.Bool.{cases_lt}
use Rattle.std.proofs.lemmas.Option.{slice_get_within}
use Rattle.network_judge.specs.declared.table.Kind.TheVariants.{Injection, Hop, Ejection}
use Rattle.network_judge.specs.Table.{Table, channels_of, kind_of, table_next, joins_of, is_sender, is_receiver}
use Rattle.network_judge.specs.Ways.{place, IsUnderWay, IsWay, table_route}
use Rattle.network_judge.specs.TableNet.{Flits, table_network}
use Rattle.network_judge.specs.Cycles.{Depends}
use Rattle.network_judge.specs.Verdicts.{AllArrive}
use Rattle.network_judge.proofs.Places.{places, walk_is, place_next, place_add, places_cut, Split, split, rises}
use Rattle.wormhole.specs.Net.{IsNet}

-- a way doesn't come to its end before its end
pub open_before : (t : Table) (i j n : ℕ) → IsUnderWay t i j n → (k : ℕ) → k < n → place t j i k ≢ j
open_before t i j n w zero low e = let s = w.sender in let r = w.receiver in let same : kind_of t i ≡ kind_of t j = ap (kind_of t) e in
    let bad : Some Injection ≡ Some Ejection = sym s ∙ same ∙ r in cc
open_before t i j n w (suc k) low e = let s = w.hops (suc k) (omega arith) low in let r = w.receiver in
    let same : kind_of t (place t j i (suc k)) ≡ kind_of t j = ap (kind_of t) e in let bad : Some Hop ≡ Some Ejection = sym s ∙ same ∙ r in cc

-- the route of a way, by its places
pub route_is : (t : Table) (i j n : ℕ) → IsWay t i j n → table_route t i j ≡ places t j i (suc n)
route_is t i j n w = walk_is t j i n (channels_of t) (open_before t i j n w.under_way) w.arrives w.short

-- a way has a step
pub some_step : (t : Table) (i j n : ℕ) → IsWay t i j n → 0 < n
some_step t i j zero w = let s = w.under_way.sender in let r = w.under_way.receiver in let same : kind_of t i ≡ kind_of t j = ap (kind_of t) w.arrives in
    let bad : Some Injection ≡ Some Ejection = sym s ∙ same ∙ r in cc
some_step t i j (suc n) w = omega arith

-- the kind at a step of a way
data KindAt (t : Table) (i j n k : ℕ) : Type 0 where
  first : k ≡ 0 → kind_of t (place t j i k) ≡ Some Injection → KindAt t i j n k
  inside : 0 < k → k < n → kind_of t (place t j i k) ≡ Some Hop → KindAt t i j n k
  last : k ≡ n → place t j i k ≡ j → kind_of t (place t j i k) ≡ Some Ejection → KindAt t i j n k

kind_at : (t : Table) (i j n k : ℕ) → IsWay t i j n → k ≤ n → KindAt t i j n k
kind_at t i j n zero w low = first refl w.under_way.sender
kind_at t i j n (suc k) w low =
    elim (cases_lt (suc k) n) [
      | inl l ↦ inside (omega arith) l (w.under_way.hops (suc k) (omega arith) l)
      | inr g ↦ let same : suc k ≡ n = omega arith in
          let here : place t j i (suc k) ≡ j = ap (place t j i) same ∙ w.arrives in
          last same here (ap (kind_of t) here ∙ w.under_way.receiver)
    ]

-- a step of a way is among the channels
pub within_way : (t : Table) (i j n k : ℕ) → IsWay t i j n → k ≤ n → place t j i k < channels_of t
within_way t i j n k w low =
    elim (kind_at t i j n k w low) [
      | first z e ↦ slice_get_within t.kinds (place t j i k) Injection e
      | inside a b e ↦ slice_get_within t.kinds (place t j i k) Hop e
      | last a b e ↦ slice_get_within t.kinds (place t j i k) Ejection e
    ]

-- only the first is an injection channel, and only the last an ejection channel
only_injection : (t : Table) (i j n k : ℕ) → IsWay t i j n → k ≤ n → is_sender (kind_of t (place t j i k)) ≡ true → place t j i k ≡ i
only_injection t i j n k w low is =
    elim (kind_at t i j n k w low) [
      | first z e ↦ ap (place t j i) z
      | inside a b e ↦ let bad : false ≡ true = sym (ap is_sender e) ∙ is in cc
      | last a b e ↦ let bad : false ≡ true = sym (ap is_sender e) ∙ is in cc
    ]

only_ejection : (t : Table) (i j n k : ℕ) → IsWay t i j n → k ≤ n → is_receiver (kind_of t (place t j i k)) ≡ true → place t j i k ≡ j
only_ejection t i j n k w low is =
    elim (kind_at t i j n k w low) [
      | first z e ↦ let bad : false ≡ true = sym (ap is_receiver e) ∙ is in cc
      | inside a b e ↦ let bad : false ≡ true = sym (ap is_receiver e) ∙ is in cc
      | last a b e ↦ b
    ]

not_the_last : (t : Table) (i j n k : ℕ) → IsWay t i j n → k ≤ n → is_receiver (kind_of t (place t j i k)) ≡ false → k < n
not_the_last t i j n k w low isnt =
    elim (kind_at t i j n k w low) [
      | first z e ↦ let s = some_step t i j n w in omega arith
      | inside a b e ↦ b
      | last a b e ↦ let bad : true ≡ false = sym (ap is_receiver e) ∙ isnt in cc
    ]

-- from each step of a way to the next there is a dependency
pub way_depends : (t : Table) (i j n k : ℕ) → joins_of t i j ≡ true → IsWay t i j n → k < n
    → Depends t (place t j i k) j (place t j i (suc k))
way_depends t i j n k joined w low =
    let x : ℕ = place t j i k in
    let y : ℕ = table_next t x j in
    let m : ℕ = n - suc k in
    let cut : places t j i (suc n) ≡ places t j i k ++ places t j x (suc (suc m)) = places_cut t j i k (suc (suc m)) (suc n) (omega arith) in
    record {
      from = i;
      joined = joined;
      before = places t j i k;
      after = places t j (table_next t y j) m;
      neighbours = route_is t i j n w ∙ (cut ∙ ap (λ z. places t j i k ++ x ∷ z ∷ places t j (table_next t y j) m) (sym (place_next t j i k)));
    }

-- a place on the route of a way: its step
on_way : (t : Table) (i j n x : ℕ) (before after : List ℕ) → IsWay t i j n → table_route t i j ≡ before ++ x ∷ after → Split t j i (suc n) x after
on_way t i j n x before after w e = split t j i (suc n) before x after (sym (route_is t i j n w) ∙ e)

-- the numbers of a place of the route and of a later one
rises_along : (t : Table) (number : ℕ → ℕ) (i j n x y : ℕ) (before between after : List ℕ) → joins_of t i j ≡ true → IsWay t i j n
    → ((x j y : ℕ) → Depends t x j y → number x < number y)
    → table_route t i j ≡ before ++ x ∷ (between ++ y ∷ after) → number x < number y
rises_along t number i j n x y before between after joined w up e =
    let a = on_way t i j n x before (between ++ y ∷ after) w e in
    let b = split t j (table_next t x j) a.more between y after (sym a.rest) in
    let all = a.all in
    let more = b.all in
    let next : place t j i (suc a.step) ≡ table_next t x j = place_next t j i a.step ∙ ap (λ z. table_next t z j) a.here in
    let there : place t j i (suc (a.step + b.step)) + 1 ≡ place t j i (suc (a.step + b.step)) + 1 = refl in
    let far : place t j (place t j i (suc a.step)) b.step ≡ place t j i (suc (a.step + b.step)) =
    place_add t j i (suc a.step) b.step (suc (a.step + b.step)) (omega arith) in
    let here : place t j i (suc (a.step + b.step)) ≡ y = sym far ∙ (ap (λ z. place t j z b.step) next ∙ b.here) in
    let r : number (place t j i a.step) < number (place t j i (suc (a.step + b.step))) =
    rises (λ k. number (place t j i k)) n (λ k l. up (place t j i k) j (place t j i (suc k)) (way_depends t i j n k joined w l)) b.step a.step
    (suc (a.step + b.step)) refl (omega arith) in
    subst (λ z. number z < number y) a.here (subst (λ z. number (place t j i a.step) < number z) here r)

-- the choice behind a place of a way comes next
next_on : (t : Table) (i j n x : ℕ) (before after : List ℕ) → IsWay t i j n → is_receiver (kind_of t x) ≡ false
    → table_route t i j ≡ before ++ x ∷ after → (rest : List ℕ) × (after ≡ table_next t x j ∷ rest)
next_on t i j n x before after w isnt e =
    let a = on_way t i j n x before after w e in
    let all = a.all in
    let low : a.step < n = not_the_last t i j n a.step w (omega arith) (subst (λ z. is_receiver (kind_of t z) ≡ false) (sym a.here) isnt) in
    let m : ℕ = n - suc a.step in
    let same : a.more ≡ suc m = omega arith in
    (places t j (table_next t (table_next t x j) j) m, a.rest ∙ ap (places t j (table_next t x j)) same)

pub is_net : (t : Table) (number : ℕ → ℕ) (top depth : ℕ) (flits : Flits) → AllArrive t
    → ((x : ℕ) → x < channels_of t → number x < top)
    → ((x j y : ℕ) → Depends t x j y → number x < number y)
    → IsNet (table_network t number top depth flits)
is_net t number top depth flits arrive bound up = record {
  senders = λ i j joined. ap is_sender (arrive i j joined).1.under_way.sender;
  receivers = λ i j joined. ap is_receiver (arrive i j joined).1.under_way.receiver;
  begins = λ i j joined. let a = arrive i j joined in (places t j (table_next t i j) a.0, route_is t i j a.0 a.1);
  ends = λ i j joined. let a = arrive i j joined in
      (places t j i a.0, route_is t i j a.0 a.1 ∙ (places_cut t j i a.0 1 (suc a.0) (omega arith) ∙ ap (λ z. places t j i a.0 ++ z ∷ []) a.1.arrives));
  ejects = λ i j x joined on is. let a = arrive i j joined in
      let s = on_way t i j a.0 x on.0 on.1 a.1 on.2 in
      let all = s.all in
      sym s.here ∙ only_ejection t i j a.0 s.step a.1 (omega arith) (subst (λ z. is_receiver (kind_of t z) ≡ true) (sym s.here) is);
  injects = λ i j x joined on is. let a = arrive i j joined in
      let s = on_way t i j a.0 x on.0 on.1 a.1 on.2 in
      let all = s.all in
      sym s.here ∙ only_injection t i j a.0 s.step a.1 (omega arith) (subst (λ z. is_sender (kind_of t z) ≡ true) (sym s.here) is);
  walks = λ i j x before after joined isnt e. let a = arrive i j joined in next_on t i j a.0 x before after a.1 isnt e;
  rises = λ i j x y before between after joined e. let a = arrive i j joined in
      rises_along t number i j a.0 x y before between after joined a.1 up (e ∙ append_assoc before (x ∷ between) (y ∷ after));
  within = λ i j x joined on. let a = arrive i j joined in
      let s = on_way t i j a.0 x on.0 on.1 a.1 on.2 in
      let all = s.all in
      subst (λ z. z < channels_of t) s.here (within_way t i j a.0 s.step a.1 (omega arith));
  bounded = bound;
}
