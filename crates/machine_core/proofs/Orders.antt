-- Arbiters, and today's rounds by one of them.
use Rattle.std.proofs.Common.{◌≡◌, inl, inr, ℕ, ◌+◌, ◌-◌, ◌%◌, ◌<◌, ◌≤◌, zero, suc, Bool, true, false, List, [], ◌∷◌, ◌++◌, length, map, filter, sym, ap, ◌∙◌, refl, arith, subst, append_assoc, length-append, All}
use Rattle.std.specs.Prelude.{if◌then◌else◌, is_some, nat_le}
use Rattle.std.specs.List.{flat_map, range_with_len}
use Rattle.std.proofs.lemmas.Bool.{cases_lt, leb-true, leb-false}
use Rattle.std.proofs.lemmas.List.{map-append}
use Rattle.std.proofs.lemmas.List.Elements.{All-nil, All-cons, All-head, All-tail}
use Rattle.torus.specs.Shape.{tiles_of, dims_of}
use Rattle.torus.specs.declared.step.Choice.{Choice}
use Rattle.torus.specs.declared.step.Choice.TheVariants as choice
use Rattle.torus.specs.Choices.{processor_choices, bank_choices}
use Rattle.channel_number.specs.Ports.{port_count}
use Rattle.core_laws.specs.Rounds.{IsOn}
use Rattle.router.specs.Table.{latch_of}
use Rattle.tile.specs.declared.agent.Agent.TheVariants.{Processor, Router, Bank}
use Rattle.tile.specs.Agents.{agent_number}
use Rattle.core_laws.specs.Core.{step, attempts_of}
use Rattle.core_laws.specs.Machine.{Core, built_to}
use Rattle.core_laws.specs.Mirrors.{tile_at}
use Rattle.core_laws.proofs.Attempts.{on_left, on_right, on_range}
use Rattle.machine_core.specs.Rounds.{attempts_between}
use Rattle.machine_core.specs.Clocked.{clocked_round, turned_at}
use Rattle.machine_core.specs.Arbiters.{NamesInputs, IsArbiter, arbited_at, arbited_round, by_turn}
use Rattle.machine_core.specs.Oldest.{age_of, inserted, sorted_by, RisesBy, oldest}

length_range : (a n : ℕ) → length (range_with_len a n) ≡ n
length_range a zero = refl
length_range a (suc n) = ap suc (length_range (a + 1) n)

in_range : (n i : ℕ) → i < n → IsOn i (range_with_len 0 n)
in_range n i low = subst (λ z. IsOn z (range_with_len 0 n)) (let e : 0 + i ≡ i = omega arith in e) (on_range 0 n i low)

-- the inputs from one on, and then those before it
turned_order : (ports first : ℕ) → first < ports → NamesInputs ports (range_with_len first (ports - first) ++ range_with_len 0 first)
turned_order ports first low = record {
  count =
      let all = length-append (range_with_len first (ports - first)) (range_with_len 0 first) in
      let a = length_range first (ports - first) in
      let b = length_range 0 first in
      omega (arith, all, a, b);
  all = λ i within. elim (cases_lt i first) [
    | inl before ↦ on_right i (range_with_len first (ports - first)) (range_with_len 0 first) (in_range first i before)
    | inr behind ↦
        let e : first + (i - first) ≡ i = omega (arith, behind) in
        on_left i (range_with_len first (ports - first)) (range_with_len 0 first)
        (subst (λ z. IsOn z (range_with_len first (ports - first))) e (on_range first (ports - first) (i - first) (omega (arith, behind, within))))
  ];
}

pub turned_is : (turn : ℕ) → IsArbiter (by_turn turn)
turned_is turn c t low = turned_order (port_count (dims_of c.shape)) (turn % port_count (dims_of c.shape)) (omega arith)

-- the attempts of some choices and of others
attempts_both : (agent : ℕ) (a b : List Choice) → attempts_of agent (a ++ b) ≡ attempts_of agent a ++ attempts_of agent b
attempts_both agent a b = map-append (λ (c : Choice). record { agent = agent; choice = c }) a b

at_one : (ports first t : ℕ) → arbited_at ports (range_with_len first (ports - first) ++ range_with_len 0 first) t ≡ turned_at ports first t
at_one ports first t =
    let puts : attempts_of (agent_number t Router) (map (λ input. choice.Put input) (range_with_len first (ports - first) ++ range_with_len 0 first))
    ≡ attempts_between (λ input. choice.Put input) (agent_number t Router) first ports ++ attempts_between (λ input. choice.Put input) (agent_number t Router) 0 first =
    ap (attempts_of (agent_number t Router)) (map-append (λ input. choice.Put input) (range_with_len first (ports - first)) (range_with_len 0 first))
    ∙ (attempts_both (agent_number t Router) (map (λ input. choice.Put input) (range_with_len first (ports - first))) (map (λ input. choice.Put input) (range_with_len 0 first))
    ∙ ap (λ n. attempts_between (λ input. choice.Put input) (agent_number t Router) first ports
    ++ attempts_of (agent_number t Router) (map (λ input. choice.Put input) (range_with_len 0 n))) (let e : first ≡ first - 0 = omega arith in e)) in
    ap (λ xs. xs ++ attempts_between (λ output. choice.CreditOf output) (agent_number t Router) 0 ports ++ attempts_of (agent_number t Bank) bank_choices)
    (ap (λ xs. attempts_of (agent_number t Processor) processor_choices
    ++ attempts_between (λ input. choice.TakeFrom input) (agent_number t Router) 0 ports ++ xs) puts
    ∙ sym (append_assoc
    (attempts_of (agent_number t Processor) processor_choices ++ attempts_between (λ input. choice.TakeFrom input) (agent_number t Router) 0 ports)
    (attempts_between (λ input. choice.Put input) (agent_number t Router) first ports)
    (attempts_between (λ input. choice.Put input) (agent_number t Router) 0 first)))

pub turned_round_is : (c : Core) (turn : ℕ) → clocked_round c turn ≡ arbited_round (by_turn turn) c
turned_round_is c turn =
    let ports : ℕ = port_count (dims_of c.shape) in
    ap (filter (λ a. is_some (step (built_to c) c.state a)))
    (sym (same (range_with_len 0 (tiles_of c.shape))))
  where
    same : (ts : List ℕ)
        → flat_map (λ t. arbited_at (port_count (dims_of c.shape)) (by_turn turn c t) t) ts
        ≡ flat_map (turned_at (port_count (dims_of c.shape)) (turn % port_count (dims_of c.shape))) ts
    same ts = λ i. flat_map (λ t. at_one (port_count (dims_of c.shape)) (turn % port_count (dims_of c.shape)) t i) ts

-- sorting keeps each item, and sorts
module _ (key : ℕ → ℕ) where
  length_inserted : (x : ℕ) (ys : List ℕ) → length (inserted key x ys) ≡ suc (length ys)
  length_inserted x [] = refl
  length_inserted x (y ∷ ys) = by_key (nat_le (key x) (key y)) (length_inserted x ys)
    where
      by_key : (b : Bool) → length (inserted key x ys) ≡ suc (length ys) → length (if b then x ∷ y ∷ ys else y ∷ inserted key x ys) ≡ suc (suc (length ys))
      by_key true rest = refl
      by_key false rest = ap suc rest

  pub length_sorted : (xs : List ℕ) → length (sorted_by key xs) ≡ length xs
  length_sorted [] = refl
  length_sorted (x ∷ xs) = length_inserted x (sorted_by key xs) ∙ ap suc (length_sorted xs)

  tail_on : (z y : ℕ) (ys : List ℕ) → IsOn z ys → IsOn z (y ∷ ys)
  tail_on z y ys on = (y ∷ on.0, on.1, ap (λ zs. y ∷ zs) on.2)

  on_inserted : (x : ℕ) (ys : List ℕ) → IsOn x (inserted key x ys)
  on_inserted x [] = ([], [], refl)
  on_inserted x (y ∷ ys) = by_key (nat_le (key x) (key y)) (on_inserted x ys)
    where
      by_key : (b : Bool) → IsOn x (inserted key x ys) → IsOn x (if b then x ∷ y ∷ ys else y ∷ inserted key x ys)
      by_key true rest = ([], y ∷ ys, refl)
      by_key false rest = tail_on x y (inserted key x ys) rest

  still_on : (z x : ℕ) (ys : List ℕ) → IsOn z ys → IsOn z (inserted key x ys)
  still_on z x [] on = tail_on z x [] on
  still_on z x (y ∷ ys) on = by_key (nat_le (key x) (key y)) on.0 on.2 (λ at. still_on z x ys at)
    where
      by_key : (b : Bool) (before : List ℕ) → y ∷ ys ≡ before ++ z ∷ on.1 → (IsOn z ys → IsOn z (inserted key x ys))
          → IsOn z (if b then x ∷ y ∷ ys else y ∷ inserted key x ys)
      by_key true before e rest = (x ∷ before, on.1, ap (λ zs. x ∷ zs) e)
      by_key false [] e rest = let same : y ≡ z = cc in ([], inserted key x ys, ap (λ w. w ∷ inserted key x ys) same)
      by_key false (w ∷ before) e rest = let same : ys ≡ before ++ z ∷ on.1 = cc in tail_on z y (inserted key x ys) (rest (before, on.1, same))

  on_sorted : (z : ℕ) (xs : List ℕ) → IsOn z xs → IsOn z (sorted_by key xs)
  on_sorted z [] on = by_empty on.0 on.2
    where
      by_empty : (before : List ℕ) → [] ≡ before ++ z ∷ on.1 → IsOn z []
      by_empty [] e = absurd (cc)
      by_empty (w ∷ before) e = absurd (cc)
  on_sorted z (x ∷ xs) on = by_first on.0 on.2 (λ at. on_sorted z xs at)
    where
      by_first : (before : List ℕ) → x ∷ xs ≡ before ++ z ∷ on.1 → (IsOn z xs → IsOn z (sorted_by key xs)) → IsOn z (inserted key x (sorted_by key xs))
      by_first [] e rest =
          let same : x ≡ z = cc in
          subst (λ w. IsOn w (inserted key x (sorted_by key xs))) same (on_inserted x (sorted_by key xs))
      by_first (w ∷ before) e rest =
          let same : xs ≡ before ++ z ∷ on.1 = cc in still_on z x (sorted_by key xs) (rest (before, on.1, same))

  pub all_inserted : (P : ℕ → Type 0) (x : ℕ) (ys : List ℕ) → P x → All P ys → All P (inserted key x ys)
  all_inserted P x [] here all = All-cons P x [] here (All-nil P)
  all_inserted P x (y ∷ ys) here all =
      by_key (nat_le (key x) (key y)) (all_inserted P x ys here (All-tail P y ys all))
    where
      by_key : (b : Bool) → All P (inserted key x ys) → All P (if b then x ∷ y ∷ ys else y ∷ inserted key x ys)
      by_key true rest = All-cons P x (y ∷ ys) here all
      by_key false rest = All-cons P y (inserted key x ys) (All-head P y ys all) rest

  all_more : (m n : ℕ) → m ≤ n → (ys : List ℕ) → All (λ y. n ≤ key y) ys → All (λ y. m ≤ key y) ys
  all_more m n low [] all = All-nil (λ y. m ≤ key y)
  all_more m n low (y ∷ ys) all =
      let here = All-head (λ y. n ≤ key y) y ys all in
      All-cons (λ y. m ≤ key y) y ys (omega (arith, here, low)) (all_more m n low ys (All-tail (λ y. n ≤ key y) y ys all))

  pub rises_inserted : (x : ℕ) (ys : List ℕ) → RisesBy key ys → RisesBy key (inserted key x ys)
  rises_inserted x [] rises = (All-nil (λ y. key x ≤ key y), tt)
  rises_inserted x (y ∷ ys) rises = by_key (nat_le (key x) (key y)) refl (rises_inserted x ys rises.1)
    where
      by_key : (b : Bool) → nat_le (key x) (key y) ≡ b → RisesBy key (inserted key x ys) → RisesBy key (if b then x ∷ y ∷ ys else y ∷ inserted key x ys)
      by_key true is rest =
          let low = leb-true (key x) (key y) is in
          (All-cons (λ z. key x ≤ key z) y ys low (all_more (key x) (key y) low ys rises.0), rises)
      by_key false is rest =
          let high = leb-false (key x) (key y) is in
          (all_inserted (λ z. key y ≤ key z) x ys (omega (arith, high)) rises.0, rest)

  pub rises_sorted : (xs : List ℕ) → RisesBy key (sorted_by key xs)
  rises_sorted [] = tt
  rises_sorted (x ∷ xs) = rises_inserted x (sorted_by key xs) (rises_sorted xs)

pub oldest_is : IsArbiter oldest
oldest_is c t low =
    let ports : ℕ = port_count (dims_of c.shape) in
    let key : ℕ → ℕ = λ i. age_of c (latch_of (tile_at c.state t).router i) in
    record {
      count = length_sorted (λ i. age_of c (latch_of (tile_at c.state t).router i)) (range_with_len 0 (port_count (dims_of c.shape)))
          ∙ length_range 0 (port_count (dims_of c.shape));
      all = λ i within. on_sorted (λ i. age_of c (latch_of (tile_at c.state t).router i)) i (range_with_len 0 (port_count (dims_of c.shape)))
          (in_range (port_count (dims_of c.shape)) i within);
    }

pub oldest_first : (c : Core) (t : ℕ) → RisesBy (λ i. age_of c (latch_of (tile_at c.state t).router i)) (oldest c t)
oldest_first c t = rises_sorted (λ i. age_of c (latch_of (tile_at c.state t).router i)) (range_with_len 0 (port_count (dims_of c.shape)))
