-- The first enabled step of a round, found part by part.
use Rattle.std.proofs.Common.{◌≡◌, ℕ, suc, ◌+◌, ◌-◌, ◌*◌, ◌<◌, ◌≤◌, true, false, List, [], ◌∷◌, ◌++◌, map, Option, Some, None, refl, sym, ◌∙◌, ap, arith}
use Rattle.std.specs.Prelude.{is_some}
use Rattle.std.specs.Option.{option_or}
use Rattle.std.specs.List.{flat_map, range_with_len}
use Rattle.std.proofs.lemmas.List.{map-append}
use Rattle.torus.specs.declared.step.Step.{Step}
use Rattle.torus.specs.declared.step.Choice.{Choice}
use Rattle.machine_parts.specs.Rounds.{if_enabled}
use Rattle.machine_parts.specs.Core.{State, step, attempts_of, round_at}
use Rattle.machine_parts.specs.Machine.{Core, built_to}
use Rattle.torus.specs.Choices.{processor_choices, bank_choices, takes_of_all, puts_of_all, credits_of_all}
use Rattle.machine_core.specs.Rounds.{first_in}

-- an alternative, by whether there is a first
pub or_first : {T : Type 0} (o p : Option T) → is_some o ≡ true → option_or o p ≡ o
or_first None p is = absurd (cc)
or_first (Some x) p is = refl

pub or_second : {T : Type 0} (o p : Option T) → is_some o ≡ false → option_or o p ≡ p
or_second None p is = refl
or_second (Some x) p is = absurd (cc)

-- a whole that is the first of two where it has one, and else the second
pub picks : {T : Type 0} (whole o p found : Option T) → whole ≡ option_or o p → found ≡ o → is_some found ≡ true → found ≡ whole
picks whole o p found w e is = e ∙ sym (w ∙ or_first o p (sym (ap is_some e) ∙ is))

pub passes : {T : Type 0} (whole o p found : Option T) → whole ≡ option_or o p → found ≡ o → is_some found ≡ false → whole ≡ p
passes whole o p found w e is = w ∙ or_second o p (sym (ap is_some e) ∙ is)

or_assoc : {T : Type 0} (o p q : Option T) → option_or (option_or o p) q ≡ option_or o (option_or p q)
or_assoc None p q = refl
or_assoc (Some x) p q = refl

-- the attempts of a choice for each port from one on
abbrev pub from_port : (ℕ → Choice) → ℕ → ℕ → ℕ → List Step
from_port f agent ports k = attempts_of agent (map f (range_with_len k (ports - k)))

-- the attempts at the tiles from one on
abbrev pub from_tile : ℕ → ℕ → ℕ → List Step
from_tile ports tiles t = flat_map (round_at ports) (range_with_len t (tiles - t))

module _ (c : Core) where
  -- the first of a list, by whether its first attempt is enabled
  pub skipped : (x : Step) (xs : List Step) → is_some (step (built_to c) c.state x) ≡ false → first_in c (x ∷ xs) ≡ first_in c xs
  skipped x xs = by_step (step (built_to c) c.state x)
    where
      by_step : (o : Option State) → is_some o ≡ false → if_enabled (step (built_to c)) x (first_in c xs) o ≡ first_in c xs
      by_step None is = refl
      by_step (Some s) is = absurd (cc)

  pub found : (x : Step) (xs : List Step) → is_some (step (built_to c) c.state x) ≡ true → first_in c (x ∷ xs) ≡ Some x
  found x xs = by_step (step (built_to c) c.state x)
    where
      by_step : (o : Option State) → is_some o ≡ true → if_enabled (step (built_to c)) x (first_in c xs) o ≡ Some x
      by_step None is = absurd (cc)
      by_step (Some s) is = refl

  -- the first of two lists is that of the one, and where it has none, that of the other
  pub first_append : (xs ys : List Step) → first_in c (xs ++ ys) ≡ option_or (first_in c xs) (first_in c ys)
  first_append [] ys = refl
  first_append (x ∷ xs) ys = by_step (step (built_to c) c.state x) (first_append xs ys)
    where
      by_step : (o : Option State) → first_in c (xs ++ ys) ≡ option_or (first_in c xs) (first_in c ys)
          → if_enabled (step (built_to c)) x (first_in c (xs ++ ys)) o ≡ option_or (if_enabled (step (built_to c)) x (first_in c xs) o) (first_in c ys)
      by_step None more = more
      by_step (Some s) more = refl

  pub port_start : (f : ℕ → Choice) (agent ports : ℕ) → first_in c (from_port f agent ports 0) ≡ first_in c (attempts_of agent (map f (range_with_len 0 ports)))
  port_start f agent ports = let e : ports - 0 ≡ ports = omega arith in ap (λ n. first_in c (attempts_of agent (map f (range_with_len 0 n)))) e

  module _ (f : ℕ → Choice) (agent ports k : ℕ) where
    port_first : k < ports → from_port f agent ports k ≡ record { agent = agent; choice = f k } ∷ from_port f agent ports (k + 1)
    port_first low = let e : ports - k ≡ suc (ports - (k + 1)) = omega arith in ap (λ n. attempts_of agent (map f (range_with_len k n))) e

    pub port_skipped : k < ports → is_some (step (built_to c) c.state (record { agent = agent; choice = f k })) ≡ false
        → first_in c (from_port f agent ports k) ≡ first_in c (from_port f agent ports (k + 1))
    port_skipped low is = ap (first_in c) (port_first low) ∙ skipped (record { agent = agent; choice = f k }) (from_port f agent ports (k + 1)) is

    pub port_found : k < ports → is_some (step (built_to c) c.state (record { agent = agent; choice = f k })) ≡ true
        → first_in c (from_port f agent ports k) ≡ Some (record { agent = agent; choice = f k })
    port_found low is = ap (first_in c) (port_first low) ∙ found (record { agent = agent; choice = f k }) (from_port f agent ports (k + 1)) is

    pub port_past : ports ≤ k → first_in c (from_port f agent ports k) ≡ None
    port_past high = let e : ports - k ≡ 0 = omega arith in ap (λ n. first_in c (attempts_of agent (map f (range_with_len k n)))) e

  pub tile_start : (ports tiles : ℕ) → first_in c (from_tile ports tiles 0) ≡ first_in c (flat_map (round_at ports) (range_with_len 0 tiles))
  tile_start ports tiles = let e : tiles - 0 ≡ tiles = omega arith in ap (λ n. first_in c (flat_map (round_at ports) (range_with_len 0 n))) e

  module _ (ports tiles t : ℕ) where
    pub tile_next : t < tiles → first_in c (from_tile ports tiles t) ≡ option_or (first_in c (round_at ports t)) (first_in c (from_tile ports tiles (t + 1)))
    tile_next low =
        let e : tiles - t ≡ suc (tiles - (t + 1)) = omega arith in
        ap (λ n. first_in c (flat_map (round_at ports) (range_with_len t n))) e
        ∙ first_append (round_at ports t) (from_tile ports tiles (t + 1))

    pub tile_past : tiles ≤ t → first_in c (from_tile ports tiles t) ≡ None
    tile_past high = let e : tiles - t ≡ 0 = omega arith in ap (λ n. first_in c (flat_map (round_at ports) (range_with_len t n))) e

  -- the first at a tile is that of the first part that has one
  routed : (agent : ℕ) (xs ys : List Choice)
      → first_in c (attempts_of agent (xs ++ ys)) ≡ option_or (first_in c (attempts_of agent xs)) (first_in c (attempts_of agent ys))
  routed agent xs ys =
      ap (first_in c) (map-append (λ (choice : Choice). record { agent = agent; choice = choice }) xs ys)
      ∙ first_append (attempts_of agent xs) (attempts_of agent ys)

  module _ (ports t : ℕ) where
    abbrev pub own : Option Step
    own = first_in c (attempts_of (3 * t) processor_choices)

    abbrev pub takes : Option Step
    takes = first_in c (attempts_of (3 * t + 1) (takes_of_all ports))

    abbrev pub puts : Option Step
    puts = first_in c (attempts_of (3 * t + 1) (puts_of_all ports))

    abbrev pub credits : Option Step
    credits = first_in c (attempts_of (3 * t + 1) (credits_of_all ports))

    abbrev pub bank : Option Step
    bank = first_in c (attempts_of (3 * t + 2) bank_choices)

    router : first_in c (attempts_of (3 * t + 1) (takes_of_all ports ++ puts_of_all ports ++ credits_of_all ports)) ≡ option_or takes (option_or puts credits)
    router =
        routed (3 * t + 1) (takes_of_all ports ++ puts_of_all ports) (credits_of_all ports)
        ∙ (ap (λ o. option_or o credits) (routed (3 * t + 1) (takes_of_all ports) (puts_of_all ports)) ∙ or_assoc takes puts credits)

    pub tile_parts : first_in c (round_at ports t) ≡ option_or own (option_or takes (option_or puts (option_or credits bank)))
    tile_parts =
        let of_router : List Step = attempts_of (3 * t + 1) (takes_of_all ports ++ puts_of_all ports ++ credits_of_all ports) in
        first_append (attempts_of (3 * t) processor_choices ++ of_router) (attempts_of (3 * t + 2) bank_choices)
        ∙ (ap (λ o. option_or o bank) (first_append (attempts_of (3 * t) processor_choices) of_router ∙ ap (option_or own) router)
        ∙ (or_assoc own (option_or takes (option_or puts credits)) bank
        ∙ ap (option_or own) (or_assoc takes (option_or puts credits) bank ∙ ap (option_or takes) (or_assoc puts credits bank))))
