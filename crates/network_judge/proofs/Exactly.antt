-- Networks have routes, and tables one kind of verdict.
use Rattle.std.proofs.Common.{◌≡◌, ◌≢◌, ℕ, zero, suc, ◌-◌, ◌<◌, ◌≤◌, Bool, true, false, cond, eqb, get_or, Option, Some, None, List, [], ◌∷◌, ◌++◌, refl, sym}
use Rattle.std.proofs.Common.{◌∙◌, ap, arith}
use Rattle.std.proofs.lemmas.Bool.{eqb-false}
use Rattle.std.proofs.lemmas.Option.{slice_get-get_or}
use Rattle.network_judge.specs.declared.table.Kind.{Kind}
use Rattle.network_judge.specs.declared.table.Kind.TheVariants.{Injection, Hop, Ejection}
use Rattle.network_judge.specs.declared.table.Join.{Join}
use Rattle.network_judge.specs.declared.table.Reply.{Reply}
use Rattle.network_judge.specs.declared.table.NoRoute as no_route
use Rattle.network_judge.specs.declared.table.Verdict.{Verdict}
use Rattle.network_judge.specs.declared.table.Verdict.TheVariants.{Rising, NoRoute, Cycle}
use Rattle.network_judge.specs.Table.{Table, channels_of, kind_of, table_next, is_sender, is_receiver}
use Rattle.network_judge.specs.Ways.{place, walk, table_route}
use Rattle.network_judge.specs.Replies.{RiseOver}
use Rattle.network_judge.specs.TableNet.{Flits, table_network}
use Rattle.network_judge.specs.Verdicts.{AllArrive, IsFirstFault, IsVerdict}
use Rattle.network_judge.specs.Exactly.{HasRisingNumbers, AreAlike}
use Rattle.network_judge.proofs.Places.{places, walk_is, places_cut}
use Rattle.network_judge.proofs.Marking.{joined_at}
use Rattle.network_judge.proofs.Failing.{no_numbers, no_way}
use Rattle.wormhole.specs.Net.{IsNet, IsOn}

-- an item of a walk: its step, before which the walk isn't at its end
record Stop (t : Table) (j x f y : ℕ) : Type 0 where
  step : ℕ
  below : step < f
  here : place t j x step ≡ y
  clear : (k : ℕ) → k < step → place t j x k ≢ j

walk_stop : (t : Table) (j x f : ℕ) (before : List ℕ) (y : ℕ) (after : List ℕ) → walk t j x f ≡ before ++ y ∷ after → Stop t j x f y
walk_stop t j x zero [] y after e = cc
walk_stop t j x zero (b ∷ before) y after e = cc
walk_stop t j x (suc f) [] y after e = record { step = 0; below = omega arith; here = cc; clear = λ k l. absurd (omega arith) }
walk_stop t j x (suc f) (b ∷ before) y after e = by (eqb x j) refl (λ tail. walk_stop t j (table_next t x j) f before y after tail)
  where
    by : (c : Bool) → eqb x j ≡ c → (walk t j (table_next t x j) f ≡ before ++ y ∷ after → Stop t j (table_next t x j) f y) → Stop t j x (suc f) y
    by true g rest =
        let none : [] ≡ before ++ y ∷ after =
        (let one : x ∷ [] ≡ (b ∷ before) ++ y ∷ after = ap (λ c. x ∷ cond c [] (walk t j (table_next t x j) f)) (sym g) ∙ e in cc) in
        empty before none
      where
        empty : (xs : List ℕ) → [] ≡ xs ++ y ∷ after → Stop t j x (suc f) y
        empty [] h = cc
        empty (z ∷ xs) h = cc
    by false g rest =
        let one : x ∷ walk t j (table_next t x j) f ≡ (b ∷ before) ++ y ∷ after = ap (λ c. x ∷ cond c [] (walk t j (table_next t x j) f)) (sym g) ∙ e in
        let tail : walk t j (table_next t x j) f ≡ before ++ y ∷ after = cc in
        let s = rest tail in
        let below = s.below in
        record {
          step = suc s.step;
          below = omega arith;
          here = s.here;
          clear = λ k l. clear (eqb-false x j g) s.step s.clear k l;
        }
      where
        clear : x ≢ j → (n : ℕ) → ((k : ℕ) → k < n → place t j (table_next t x j) k ≢ j) → (k : ℕ) → k < suc n → place t j x k ≢ j
        clear ne n c zero l = ne
        clear ne n c (suc k) l = c k (omega arith)

-- the kind by its tests
injection_kind : (o : Option Kind) → is_sender o ≡ true → o ≡ Some Injection
injection_kind None e = cc
injection_kind (Some Injection) e = refl
injection_kind (Some Hop) e = cc
injection_kind (Some Ejection) e = cc

ejection_kind : (o : Option Kind) → is_receiver o ≡ true → o ≡ Some Ejection
ejection_kind None e = cc
ejection_kind (Some Injection) e = cc
ejection_kind (Some Hop) e = cc
ejection_kind (Some Ejection) e = refl

hop_kind : (k : Kind) → (is_sender (Some k) ≡ true → ⊥) → (is_receiver (Some k) ≡ true → ⊥) → k ≡ Hop
hop_kind Injection a b = absurd (a refl)
hop_kind Hop a b = refl
hop_kind Ejection a b = absurd (b refl)

-- between all joined ends of a network there is a route
pub network_arrives : (t : Table) (number : ℕ → ℕ) (top depth : ℕ) (flits : Flits) → IsNet (table_network t number top depth flits) → AllArrive t
network_arrives t number top depth flits net i j joined =
    let last = net.ends i j joined in
    let s = walk_stop t j i (suc (channels_of t)) last.0 j [] last.1 in
    let n : ℕ = s.step in
    let low = s.below in
    let route : table_route t i j ≡ places t j i (suc n) = walk_is t j i n (channels_of t) s.clear s.here (omega arith) in
    let on : (k : ℕ) → k ≤ n → IsOn (place t j i k) (table_route t i j) =
    λ k l. (places t j i k, places t j (table_next t (place t j i k) j) (n - k), route ∙ places_cut t j i k (suc (n - k)) (suc n) (omega arith)) in
    let up : (a b : ℕ) → a < b → b ≤ n → number (place t j i a) < number (place t j i b) =
    λ a b l m. (let d : ℕ = b - suc a in
    let first : places t j i b ≡ places t j i a ++ places t j (place t j i a) (suc d) = places_cut t j i a (suc d) b (omega arith) in
    let whole : places t j i (suc n) ≡ places t j i b ++ places t j (place t j i b) (suc (n - b)) = places_cut t j i b (suc (n - b)) (suc n) (omega arith) in
    net.rises i j (place t j i a) (place t j i b) (places t j i a) (places t j (table_next t (place t j i a) j) d)
    (places t j (table_next t (place t j i b) j) (n - b)) joined
    (route ∙ (whole ∙ ap (λ xs. xs ++ places t j (place t j i b) (suc (n - b))) first))) in
    let same : (a b : ℕ) → a < b → b ≤ n → place t j i a ≡ place t j i b → ⊥ =
    λ a b l m e. (let u = up a b l m in let z : number (place t j i a) ≡ number (place t j i b) = ap number e in omega arith) in (
      n,
      record {
        under_way = record {
          sender = injection_kind (kind_of t i) (net.senders i j joined);
          receiver = ejection_kind (kind_of t j) (net.receivers i j joined);
          hops = λ k some l. (let x : ℕ = place t j i k in
              let kind : kind_of t x ≡ Some (get_or t.kinds x Hop) = slice_get-get_or t.kinds x Hop (net.within i j x joined (on k (omega arith))) in
              kind
              ∙ ap (λ z. Some z) (hop_kind (get_or t.kinds x Hop)
              (λ e. same 0 k some (omega arith) (sym (net.injects i j x joined (on k (omega arith)) (ap is_sender kind ∙ e))))
              (λ e. same k n l (omega arith) (net.ejects i j x joined (on k (omega arith)) (ap is_receiver kind ∙ e) ∙ sym s.here))));
        };
        arrives = s.here;
        short = omega arith;
      },
    )

-- where all walks arrive no pair is without a route
no_fault : (t : Table) (r : no_route.NoRoute) → AllArrive t → IsFirstFault t r → ⊥
no_fault t r arrive f =
    let joined = joined_at t f.place r.join.from r.join.to f.here (ap (λ (j : Join). j.from) f.join) (ap (λ (j : Join). j.to) f.join) in
    let w = arrive r.join.from r.join.to joined in
    no_way t r.join.from r.join.to r.why f.fails w.0 w.1

-- a network has no verdict but rising numbers
pub network_rises : {A : Type 0} → (t : Table) (replies : List Reply) (number : ℕ → ℕ) (top depth : ℕ) (flits : Flits)
    → RiseOver replies number → IsNet (table_network t number top depth flits)
    → (v : Verdict A) → IsVerdict t replies v → HasRisingNumbers v
network_rises t replies number top depth flits above net (Rising numbers) is = tt
network_rises t replies number top depth flits above net (NoRoute r) is = no_fault t r (network_arrives t number top depth flits net) is
network_rises t replies number top depth flits above net (Cycle links) is =
    no_numbers t replies links.items is.1 number top depth flits above net

-- some flits
plain : Flits
plain = record { is_head = λ flit. true; is_tail = λ flit. true; told = λ flit. flit }

-- two verdicts on a table are of one kind
pub alike : {A B : Type 0} → (t : Table) (replies : List Reply) (a : Verdict A) (b : Verdict B)
    → IsVerdict t replies a → IsVerdict t replies b → AreAlike a b
alike t replies (Rising m) (Rising n) p q = tt
alike t replies (Rising m) (NoRoute s) p q = no_fault t s p.0 q
alike t replies (Rising m) (Cycle l) p q = no_numbers t replies l.items q.1 _ _ 1 plain p.1.above (p.1.net 1 plain)
alike t replies (NoRoute r) (Rising n) p q = no_fault t r q.0 p
alike t replies (NoRoute r) (NoRoute s) p q = tt
alike t replies (NoRoute r) (Cycle l) p q = no_fault t r q.0 p
alike t replies (Cycle k) (Rising n) p q = no_numbers t replies k.items p.1 _ _ 1 plain q.1.above (q.1.net 1 plain)
alike t replies (Cycle k) (NoRoute s) p q = no_fault t s p.0 q
alike t replies (Cycle k) (Cycle l) p q = tt
