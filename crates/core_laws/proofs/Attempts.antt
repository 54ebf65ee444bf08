-- Which attempts are in a round.
use Rattle.std.proofs.Common.{◌≡◌, ℕ, zero, suc, ◌+◌, ◌<◌, List, [], ◌∷◌, ◌++◌, map, sym, ◌∙◌, ap, subst, arith, append_assoc}
use Rattle.std.specs.List.{flat_map, range_with_len}
use Rattle.torus.specs.Shape.{Shape, tiles_of, dims_of}
use Rattle.torus.specs.declared.step.Step.{Step}
use Rattle.torus.specs.declared.step.Choice.{Choice}
use Rattle.torus.specs.declared.step.Choice.TheVariants.{Send, Take, TakeFrom, Put, Credit, CreditOf, Serve, Done, Look}
use Rattle.wormhole.specs.Net.{IsOn}
use Rattle.channel_number.specs.Ports.{port_count}
use Rattle.core_laws.specs.Agent.TheVariants.{Processor, Router, Bank}
use Rattle.core_laws.specs.Agents.{agent_number}
use Rattle.core_laws.specs.Core.{attempts_of, round_at, round}
use Rattle.core_laws.proofs.Members.{on_head, on_tail}

module _ {A : Type 0} where
  pub on_left : (x : A) (xs ys : List A) → IsOn x xs → IsOn x (xs ++ ys)
  on_left x xs ys on = (on.0, on.1 ++ ys, ap (λ zs. zs ++ ys) on.2 ∙ append_assoc on.0 (x ∷ on.1) ys)

  pub on_right : (x : A) (xs ys : List A) → IsOn x ys → IsOn x (xs ++ ys)
  on_right x xs ys on = (xs ++ on.0, on.1, ap (λ zs. xs ++ zs) on.2 ∙ sym (append_assoc xs on.0 (x ∷ on.1)))

module _ {A B : Type 0} where
  map_split : (f : A → B) (x : A) (before after : List A) → IsOn (f x) (map f (before ++ x ∷ after))
  map_split f x [] after = on_head (f x) (map f after)
  map_split f x (b ∷ bs) after = on_tail (f b) (f x) (map f (bs ++ x ∷ after)) (map_split f x bs after)

  pub on_map : (f : A → B) (x : A) (xs : List A) → IsOn x xs → IsOn (f x) (map f xs)
  on_map f x xs on = subst (λ zs. IsOn (f x) (map f zs)) (sym on.2) (map_split f x on.0 on.1)

  flat_split : (f : A → List B) (x : A) (y : B) (before after : List A) → IsOn y (f x) → IsOn y (flat_map f (before ++ x ∷ after))
  flat_split f x y [] after on = on_left y (f x) (flat_map f after) on
  flat_split f x y (b ∷ bs) after on = on_right y (f b) (flat_map f (bs ++ x ∷ after)) (flat_split f x y bs after on)

  pub on_flat_map : (f : A → List B) (x : A) (y : B) (xs : List A) → IsOn x xs → IsOn y (f x) → IsOn y (flat_map f xs)
  on_flat_map f x y xs on there = subst (λ zs. IsOn y (flat_map f zs)) (sym on.2) (flat_split f x y on.0 on.1 there)

-- a number of a range
pub on_range : (a n x : ℕ) → x < n → IsOn (a + x) (range_with_len a n)
on_range a zero x low = absurd (omega arith)
on_range a (suc n) zero low = subst (λ z. IsOn z (a ∷ range_with_len (a + 1) n)) (let e : a ≡ a + 0 = omega arith in e) (on_head a (range_with_len (a + 1) n))
on_range a (suc n) (suc x) low =
    let there : IsOn (a + 1 + x) (range_with_len (a + 1) n) = on_range (a + 1) n x (omega arith) in
    let same : a + 1 + x ≡ a + suc x = omega arith in
    on_tail a (a + suc x) (range_with_len (a + 1) n) (subst (λ z. IsOn z (range_with_len (a + 1) n)) same there)

module _ (s : Shape) (t : ℕ) (here : t < tiles_of s) where
  in_round : (a : Step) → IsOn a (round_at (port_count (dims_of s)) t) → IsOn a (round s)
  in_round a on = on_flat_map (round_at (port_count (dims_of s))) t a (range_with_len 0 (tiles_of s))
      (subst (λ z. IsOn z (range_with_len 0 (tiles_of s))) (let e : 0 + t ≡ t = omega arith in e) (on_range 0 (tiles_of s) t here)) on

  abbrev pub processor_choices : List Choice
  processor_choices = Send ∷ Take ∷ Credit ∷ Done ∷ Look ∷ []

  abbrev pub bank_choices : List Choice
  bank_choices = Take ∷ Serve ∷ Send ∷ Credit ∷ []

  abbrev pub router_choices : List Choice
  router_choices = map (λ i. TakeFrom i) (range_with_len 0 (port_count (dims_of s))) ++ map (λ i. Put i) (range_with_len 0 (port_count (dims_of s)))
      ++ map (λ o. CreditOf o) (range_with_len 0 (port_count (dims_of s)))

  -- the round's attempts at the tile, by agent
  abbrev of_processor : List Step
  of_processor = attempts_of (agent_number t Processor) processor_choices

  abbrev of_router : List Step
  of_router = attempts_of (agent_number t Router) router_choices

  abbrev of_bank : List Step
  of_bank = attempts_of (agent_number t Bank) bank_choices

  pub processor_on : (choice : Choice) → IsOn choice processor_choices → IsOn (record { agent = agent_number t Processor; choice = choice }) (round s)
  processor_on choice on = in_round (record { agent = agent_number t Processor; choice = choice })
      (on_left (record { agent = agent_number t Processor; choice = choice }) of_processor (of_router ++ of_bank)
      (on_map (λ c. record { agent = agent_number t Processor; choice = c }) choice processor_choices on))

  pub router_on : (choice : Choice) → IsOn choice router_choices → IsOn (record { agent = agent_number t Router; choice = choice }) (round s)
  router_on choice on = in_round (record { agent = agent_number t Router; choice = choice })
      (on_right (record { agent = agent_number t Router; choice = choice }) of_processor (of_router ++ of_bank)
      (on_left (record { agent = agent_number t Router; choice = choice }) of_router of_bank
      (on_map (λ c. record { agent = agent_number t Router; choice = c }) choice router_choices on)))

  pub bank_on : (choice : Choice) → IsOn choice bank_choices → IsOn (record { agent = agent_number t Bank; choice = choice }) (round s)
  bank_on choice on = in_round (record { agent = agent_number t Bank; choice = choice })
      (on_right (record { agent = agent_number t Bank; choice = choice }) of_processor (of_router ++ of_bank)
      (on_right (record { agent = agent_number t Bank; choice = choice }) of_router of_bank
      (on_map (λ c. record { agent = agent_number t Bank; choice = c }) choice bank_choices on)))

  port_on : (f : ℕ → Choice) (i : ℕ) → i < port_count (dims_of s) → IsOn (f i) (map f (range_with_len 0 (port_count (dims_of s))))
  port_on f i low = on_map f i (range_with_len 0 (port_count (dims_of s)))
      (subst (λ z. IsOn z (range_with_len 0 (port_count (dims_of s)))) (let e : 0 + i ≡ i = omega arith in e) (on_range 0 (port_count (dims_of s)) i low))

  pub takes_on : (i : ℕ) → i < port_count (dims_of s) → IsOn (TakeFrom i) router_choices
  takes_on i low =
      let ports : List ℕ = range_with_len 0 (port_count (dims_of s)) in
      on_left (TakeFrom i) (map (λ i. TakeFrom i) ports ++ map (λ i. Put i) ports) (map (λ o. CreditOf o) ports)
      (on_left (TakeFrom i) (map (λ i. TakeFrom i) ports) (map (λ i. Put i) ports) (port_on (λ i. TakeFrom i) i low))

  pub puts_on : (i : ℕ) → i < port_count (dims_of s) → IsOn (Put i) router_choices
  puts_on i low =
      let ports : List ℕ = range_with_len 0 (port_count (dims_of s)) in
      on_left (Put i) (map (λ i. TakeFrom i) ports ++ map (λ i. Put i) ports) (map (λ o. CreditOf o) ports)
      (on_right (Put i) (map (λ i. TakeFrom i) ports) (map (λ i. Put i) ports) (port_on (λ i. Put i) i low))

  pub credits_on : (o : ℕ) → o < port_count (dims_of s) → IsOn (CreditOf o) router_choices
  credits_on o low =
      let ports : List ℕ = range_with_len 0 (port_count (dims_of s)) in
      on_right (CreditOf o) (map (λ i. TakeFrom i) ports ++ map (λ i. Put i) ports) (map (λ o. CreditOf o) ports) (port_on (λ o. CreditOf o) o low)
