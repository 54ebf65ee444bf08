-- The step at each place of a round.
use Rattle.std.proofs.Common.{◌≡◌, ℕ, zero, suc, ◌+◌, ◌-◌, ◌*◌, ◌<◌, ◌≤◌, List, [], ◌∷◌, ◌++◌, length, map, Some, refl, ap, ◌∙◌, subst, arith}
use Rattle.std.specs.Prelude.{slice_get, option_map}
use Rattle.std.specs.List.{range_with_len}
use Rattle.std.proofs.lemmas.List.{length-append}
use Rattle.std.proofs.lemmas.List.FromFn.{length-map-range_with_len}
use Rattle.std.proofs.lemmas.Option.{slice_get-map}
use Rattle.torus.specs.declared.step.Step.{Step}
use Rattle.torus.specs.declared.step.Choice.{Choice}
use Rattle.torus.specs.declared.step.Choice.TheVariants.{TakeFrom, Put, CreditOf}
use Rattle.fabric_rule.specs.Core.{attempts_of, round_at}
use Rattle.worker_run.specs.Places.{choice_count}
use Rattle.worker_run.specs.RouterTurns.{choice_of, start_of}
use Rattle.worker_run.specs.declared.router_turns.Port.{Port}
use Rattle.worker_run.specs.declared.router_turns.Port.TheVariants.{Take, Put as PutAt, Credit}
use Rattle.torus.specs.Choices.{processor_choices, router_choices, bank_choices}

-- an element of the first list stands in both together, and one of the second stands behind it
front : {X : Type 0} (xs ys : List X) (i : ℕ) (x : X) → slice_get xs i ≡ Some x → slice_get (xs ++ ys) i ≡ Some x
front [] ys i x e = absurd (cc)
front (y ∷ xs) ys zero x e = e
front (y ∷ xs) ys (suc i) x e = front xs ys i x e

skip : {X : Type 0} (xs ys : List X) (i : ℕ) → slice_get (xs ++ ys) (length xs + i) ≡ slice_get ys i
skip [] ys i = ap (slice_get ys) (omega arith)
skip (x ∷ xs) ys i =
    let one_less : length (x ∷ xs) + i ≡ suc (length xs + i) = omega arith in
    ap (slice_get (x ∷ (xs ++ ys))) one_less ∙ skip xs ys i

behind : {X : Type 0} (xs ys : List X) (n i : ℕ) → length xs ≡ n → n ≤ i → slice_get (xs ++ ys) i ≡ slice_get ys (i - n)
behind xs ys n i e le =
    let at : i ≡ length xs + (i - n) = omega (arith, e, le) in
    ap (slice_get (xs ++ ys)) at ∙ skip xs ys (i - n)

ranged : {X : Type 0} (f : ℕ → X) (a n i : ℕ) → i < n → slice_get (map f (range_with_len a n)) i ≡ Some (f (a + i))
ranged f a zero i lt = absurd (omega (arith, lt))
ranged f a (suc n) zero lt = ap (λ (k : ℕ). Some (f k)) (omega arith)
ranged f a (suc n) (suc i) lt = ranged f (a + 1) n i (omega (arith, lt)) ∙ ap (λ (k : ℕ). Some (f k)) (omega arith)

from_0 : {X : Type 0} (f : ℕ → X) (n i : ℕ) → i < n → slice_get (map f (range_with_len 0 n)) i ≡ Some (f i)
from_0 f n i lt =
    let same : 0 + i ≡ i = omega arith in
    ranged f 0 n i lt ∙ ap (λ (k : ℕ). Some (f k)) same

-- the choices of each port, in three parts
abbrev takes : ℕ → List Choice
takes ports = map (λ i. TakeFrom i) (range_with_len 0 ports)

abbrev puts : ℕ → List Choice
puts ports = map (λ i. Put i) (range_with_len 0 ports)

abbrev credits : ℕ → List Choice
credits ports = map (λ o. CreditOf o) (range_with_len 0 ports)

takes_and_puts : (ports : ℕ) → length (takes ports ++ puts ports) ≡ 2 * ports
takes_and_puts ports =
    let a = length-map-range_with_len (λ i. TakeFrom i) 0 ports in
    let b = length-map-range_with_len (λ i. Put i) 0 ports in
    let sum : length (takes ports) + length (puts ports) ≡ 2 * ports = omega (arith, a, b) in
    length-append (takes ports) (puts ports) ∙ sum

pub take_choice : (ports i : ℕ) → i < ports → slice_get (router_choices ports) i ≡ Some (TakeFrom i)
take_choice ports i lt =
    front (takes ports ++ puts ports) (credits ports) i (TakeFrom i)
    (front (takes ports) (puts ports) i (TakeFrom i) (from_0 (λ i. TakeFrom i) ports i lt))

pub put_choice : (ports i : ℕ) → ports ≤ i → i < 2 * ports → slice_get (router_choices ports) i ≡ Some (Put (i - ports))
put_choice ports i le lt =
    front (takes ports ++ puts ports) (credits ports) i (Put (i - ports))
    (behind (takes ports) (puts ports) ports i (length-map-range_with_len (λ i. TakeFrom i) 0 ports) le
    ∙ from_0 (λ i. Put i) ports (i - ports) (omega (arith, le, lt)))

pub credit_choice : (ports i : ℕ) → 2 * ports ≤ i → i < 3 * ports → slice_get (router_choices ports) i ≡ Some (CreditOf (i - 2 * ports))
credit_choice ports i le lt =
    behind (takes ports ++ puts ports) (credits ports) (2 * ports) i (takes_and_puts ports) le
    ∙ from_0 (λ o. CreditOf o) ports (i - 2 * ports) (omega (arith, le, lt))

-- the step of an agent's choice
chosen : (agent : ℕ) (choices : List Choice) (i : ℕ) (c : Choice) → slice_get choices i ≡ Some c
    → slice_get (attempts_of agent choices) i ≡ Some (record { agent = agent; choice = c })
chosen agent choices i c e =
    let v : Choice → Step = λ x. record { agent = agent; choice = x } in
    slice_get-map v choices i ∙ ap (option_map v) e

attempt_count : (agent : ℕ) (choices : List Choice) → length (attempts_of agent choices) ≡ length choices
attempt_count agent [] = refl
attempt_count agent (c ∷ choices) = ap suc (attempt_count agent choices)

router_count : (ports : ℕ) → length (router_choices ports) ≡ 3 * ports
router_count ports =
    let ab = takes_and_puts ports in
    let c = length-map-range_with_len (λ o. CreditOf o) 0 ports in
    let sum : length (takes ports ++ puts ports) + length (credits ports) ≡ 3 * ports = omega (arith, ab, c) in
    length-append (takes ports ++ puts ports) (credits ports) ∙ sum

module _ (ports t i : ℕ) (c : Choice) where
  pub processor_step : slice_get processor_choices i ≡ Some c → slice_get (round_at ports t) i ≡ Some (record { agent = 3 * t; choice = c })
  processor_step e = front (attempts_of (3 * t) processor_choices) _ i _ (chosen (3 * t) processor_choices i c e)

  pub router_step : 5 ≤ i → slice_get (router_choices ports) (i - 5) ≡ Some c → slice_get (round_at ports t) i ≡ Some (record { agent = 3 * t + 1; choice = c })
  router_step le e =
      behind (attempts_of (3 * t) processor_choices) _ 5 i refl le
      ∙ front (attempts_of (3 * t + 1) (router_choices ports)) _ (i - 5) _ (chosen (3 * t + 1) (router_choices ports) (i - 5) c e)

  pub bank_step : 5 + 3 * ports ≤ i → slice_get bank_choices (i - 5 - 3 * ports) ≡ Some c
      → slice_get (round_at ports t) i ≡ Some (record { agent = 3 * t + 2; choice = c })
  bank_step le e =
      behind (attempts_of (3 * t) processor_choices) _ 5 i refl (omega (arith, le))
      ∙ (behind (attempts_of (3 * t + 1) (router_choices ports)) _ (3 * ports) (i - 5) (attempt_count (3 * t + 1) (router_choices ports) ∙ router_count ports)
      (omega (arith, le))
      ∙ chosen (3 * t + 2) bank_choices (i - 5 - 3 * ports) c e)

-- the steps at the places of a tile, agent by agent
pub take_step : (ports t k i : ℕ) → i ≡ 5 + k → k < ports → slice_get (round_at ports t) i ≡ Some (record { agent = 3 * t + 1; choice = TakeFrom k })
take_step ports t k i e lt =
    let back : k ≡ i - 5 = omega (arith, e) in
    router_step ports t i (TakeFrom k) (omega (arith, e))
    (subst (λ (n : ℕ). slice_get (router_choices ports) n ≡ Some (TakeFrom k)) back (take_choice ports k lt))

pub put_step : (ports t k i : ℕ) → i ≡ 5 + ports + k → k < ports → slice_get (round_at ports t) i ≡ Some (record { agent = 3 * t + 1; choice = Put k })
put_step ports t k i e lt =
    let back : ports + k ≡ i - 5 = omega (arith, e) in
    let same : ports + k - ports ≡ k = omega arith in
    router_step ports t i (Put k) (omega (arith, e))
    (subst (λ (n : ℕ). slice_get (router_choices ports) n ≡ Some (Put k)) back
    (put_choice ports (ports + k) (omega arith) (omega (arith, lt)) ∙ ap (λ (n : ℕ). Some (Put n)) same))

pub credit_step : (ports t k i : ℕ) → i ≡ 5 + 2 * ports + k → k < ports → slice_get (round_at ports t) i ≡ Some (record { agent = 3 * t + 1; choice = CreditOf k })
credit_step ports t k i e lt =
    let back : 2 * ports + k ≡ i - 5 = omega (arith, e) in
    let same : 2 * ports + k - 2 * ports ≡ k = omega arith in
    router_step ports t i (CreditOf k) (omega (arith, e))
    (subst (λ (n : ℕ). slice_get (router_choices ports) n ≡ Some (CreditOf k)) back
    (credit_choice ports (2 * ports + k) (omega arith) (omega (arith, lt)) ∙ ap (λ (n : ℕ). Some (CreditOf n)) same))

pub bank_place : (ports t j i : ℕ) (c : Choice) → i ≡ 5 + 3 * ports + j → slice_get bank_choices j ≡ Some c
    → slice_get (round_at ports t) i ≡ Some (record { agent = 3 * t + 2; choice = c })
bank_place ports t j i c e is =
    let back : j ≡ i - 5 - 3 * ports = omega (arith, e) in
    bank_step ports t i c (omega (arith, e)) (subst (λ (n : ℕ). slice_get bank_choices n ≡ Some c) back is)

-- the choice of a router at a port, by its kind
pub port_step : (kind : Port) (ports t k : ℕ) → k < ports → slice_get (round_at ports t) (start_of ports kind + k) ≡ Some (record { agent = 3 * t + 1; choice = choice_of kind k })
port_step Take ports t k low = take_step ports t k (5 + k) refl low
port_step PutAt ports t k low = put_step ports t k (5 + ports + k) refl low
port_step Credit ports t k low = credit_step ports t k (5 + 2 * ports + k) refl low

pub within_tile : (kind : Port) (ports k : ℕ) → k ≤ ports → start_of ports kind + k < choice_count ports
within_tile Take ports k le = omega (arith, le)
within_tile PutAt ports k le = omega (arith, le)
within_tile Credit ports k le = omega (arith, le)
