-- Attempts of a router that are left out because they don't count as awake, and choices that fall asleep.
use Rattle.std.proofs.Common.{◌≡◌, ℕ, zero, suc, ◌+◌, ◌-◌, ◌<◌, ◌≤◌, List, [], ◌∷◌, ◌++◌, map, Option, Some, None, refl, sym, ◌∙◌, ap, subst, arith}
use Rattle.std.specs.List.{range_with_len}
use Rattle.std.specs.Slice.Scan.{HoldsNowhere}
use Rattle.std.proofs.lemmas.List.{map-append}
use Rattle.std.proofs.lemmas.List.FromFn.{map-range_with_len_more}
use Rattle.torus.specs.declared.step.Step.{Step}
use Rattle.torus.specs.declared.step.Choice.{Choice}
use Rattle.torus.specs.declared.step.Choice.TheVariants.{TakeFrom, Put, CreditOf}
use Rattle.torus.specs.declared.step.Stepped.{Stepped}
use Rattle.torus.specs.declared.step.Stepped.TheVariants.{Idle}
use Rattle.tile.specs.Tile.{Design}
use Rattle.machine_parts.specs.Core.{State, design_of, step, after, attempts_of}
use Rattle.machine_parts.specs.Machine.{Core, Steps, built_to, machine_told, event_in, core_with, core_next, core_after}
use Rattle.machine_parts.specs.Routers.{PortFlags, OtherPortsSleep, of_router}
use Rattle.machine_parts.specs.Ports.{AwakePorts, flags_of, take_rested, put_rested, credit_rested}
use Rattle.machine_core.specs.declared.machine.Machine.TheInside.{Inside}
use Rattle.machine_core.specs.Inside.{core_of, IsMachine}
use Rattle.machine_core.specs.Rounds.{attempts_between, first_in}
use Rattle.machine_core.proofs.FirstEnabled.{from_port, port_skipped}
use Rattle.std.specs.Prelude.{is_some}
use Rattle.machine_core.proofs.Fields.{with_parts}
use Rattle.machine_core.proofs.RouterFlags.{lowered_is}
use Rattle.machine_core.proofs.Rounds.{core_append, attempt_more}
use Rattle.machine_core.proofs.Standing.{design_is, state_is}

-- an attempt is of a choice that is enabled, or not
abbrev pub IsIdle : Core → Step → Type 0
IsIdle c attempt = step (built_to c) c.state attempt ≡ None

pub idle_of : (old new : Core) (stepped : Stepped) (attempt : Step) → Steps old new stepped attempt → stepped ≡ Idle → IsIdle new attempt
idle_of old new stepped attempt h is =
    let none = by_told (step (built_to old) old.state attempt) (sym h.result ∙ is) in
    let same : new ≡ old = h.change ∙ ap (core_with old (event_in (built_to old) old.state attempt)) none in
    subst (λ (c : Core). IsIdle c attempt) (sym same) none
  where
    by_told : (o : Option State) → machine_told o ≡ Idle → o ≡ None
    by_told None e = refl
    by_told (Some s) e = absurd (cc)

-- attempts for each of some numbers
module _ (f : ℕ → Choice) (agent : ℕ) where
  abbrev with : ℕ → Step
  with k = record { agent = agent; choice = f k }

  left_out : (c : Core) (n from : ℕ) → ((k : ℕ) → from ≤ k → k < from + n → IsIdle c (with k))
      → core_after c (attempts_of agent (map f (range_with_len from n))) ≡ c
  left_out c zero from none = refl
  left_out c (suc n) from none =
      ap (λ (o : Option State). core_after (core_with c (event_in (built_to c) c.state (with from)) o) (attempts_of agent (map f (range_with_len (from + 1) n))))
      (none from (omega arith) (omega arith))
      ∙ left_out c n (from + 1) (λ k l m. none k (omega (arith, l)) (omega (arith, m)))

  -- those left out change nothing
  pub skipped : (c : Core) (from to : ℕ) → ((k : ℕ) → from ≤ k → k < to → IsIdle c (with k)) → c ≡ core_after c (attempts_between f agent from to)
  skipped c from to none = sym (left_out c (to - from) from (λ k l m. none k l (omega (arith, l, m))))

  more_of : (a n k : ℕ) → a + n ≡ k → (c now after : Core) → now ≡ core_after c (attempts_of agent (map f (range_with_len a n)))
      → after ≡ core_next now (with k)
      → after ≡ core_after c (attempts_of agent (map f (range_with_len a (n + 1))))
  more_of a n k e c now after so_far is =
      attempt_more c now after (attempts_of agent (map f (range_with_len a n))) (with k) so_far is
      ∙ ap (core_after c)
      (sym (map-append (λ (choice : Choice). record { agent = agent; choice = choice }) (map f (range_with_len a n)) (f k ∷ []))
      ∙ ap (attempts_of agent) (sym (map-range_with_len_more f a n k e)))

  -- one attempt behind those left out
  pub skipped_to : (c now : Core) (from k : ℕ) → from ≤ k → ((j : ℕ) → from ≤ j → j < k → IsIdle c (with j)) → now ≡ core_next c (with k)
      → now ≡ core_after c (attempts_between f agent from (k + 1))
  skipped_to c now from k low none is =
      let e : k - from + 1 ≡ k + 1 - from = omega (arith, low) in
      subst (λ (n : ℕ). now ≡ core_after c (attempts_of agent (map f (range_with_len from n)))) e
      (more_of from (k - from) k (omega (arith, low)) c c now (skipped c from k none) is)

  from_both : (a m n : ℕ) → map f (range_with_len a (m + n)) ≡ map f (range_with_len a m) ++ map f (range_with_len (a + m) n)
  from_both a zero n =
      let e : a ≡ a + 0 = omega arith in
      let z : 0 + n ≡ n = omega arith in
      ap (λ (k : ℕ). map f (range_with_len a k)) z ∙ ap (λ (k : ℕ). map f (range_with_len k n)) e
  from_both a (suc m) n =
      let e : a + 1 + m ≡ a + suc m = omega arith in
      let z : suc m + n ≡ suc (m + n) = omega arith in
      ap (λ (k : ℕ). map f (range_with_len a k)) z
      ∙ ap (λ (cs : List Choice). f a ∷ cs) (from_both (a + 1) m n ∙ ap (λ (k : ℕ). map f (range_with_len (a + 1) m) ++ map f (range_with_len k n)) e)

  -- those up to a number, and then those up to another
  pub further : (c now after : Core) (from to : ℕ) → from ≤ to → now ≡ core_after c (attempts_of agent (map f (range_with_len 0 from)))
      → after ≡ core_after now (attempts_between f agent from to)
      → after ≡ core_after c (attempts_of agent (map f (range_with_len 0 to)))
  further c now after from to low so_far is =
      let first : List Choice = map f (range_with_len 0 from) in
      let second : List Choice = map f (range_with_len from (to - from)) in
      let e : from + (to - from) ≡ to = omega (arith, low) in
      let z : from ≡ 0 + from = omega arith in
      is
      ∙ (ap (λ (v : Core). core_after v (attempts_of agent second)) so_far
      ∙ (sym (core_append c (attempts_of agent first) (attempts_of agent second))
      ∙ ap (core_after c)
      (sym (map-append (λ (choice : Choice). record { agent = agent; choice = choice }) first second)
      ∙ ap (attempts_of agent) (ap (λ (k : ℕ). first ++ map f (range_with_len k (to - from))) z ∙ sym (from_both 0 from (to - from)) ∙ ap (λ (n : ℕ). map f (range_with_len 0 n)) e))))

-- the first of those from a port on is the first behind those that aren't enabled
module _ (f : ℕ → Choice) (agent : ℕ) (c : Core) (ports : ℕ) where
  some_passed : (n from : ℕ) → from + n ≤ ports → ((k : ℕ) → from ≤ k → k < from + n → IsIdle c (record { agent = agent; choice = f k }))
      → first_in c (from_port f agent ports from) ≡ first_in c (from_port f agent ports (from + n))
  some_passed zero from low none = let e : from ≡ from + 0 = omega arith in ap (λ (k : ℕ). first_in c (from_port f agent ports k)) e
  some_passed (suc n) from low none =
      let e : from + 1 + n ≡ from + suc n = omega arith in
      port_skipped c f agent ports from (omega (arith, low)) (ap (λ (o : Option State). is_some o) (none from (omega arith) (omega arith)))
      ∙ (some_passed n (from + 1) (omega (arith, low)) (λ k l m. none k (omega (arith, l)) (omega (arith, m)))
      ∙ ap (λ (k : ℕ). first_in c (from_port f agent ports k)) e)

  pub passed : (from to : ℕ) → from ≤ to → to ≤ ports → ((k : ℕ) → from ≤ k → k < to → IsIdle c (record { agent = agent; choice = f k }))
      → first_in c (from_port f agent ports from) ≡ first_in c (from_port f agent ports to)
  passed from to low high none =
      let e : from + (to - from) ≡ to = omega (arith, low) in
      some_passed (to - from) from (omega (arith, low, high)) (λ k l m. none k l (omega (arith, l, m, low)))
      ∙ ap (λ (k : ℕ). first_in c (from_port f agent ports k)) e

module _ {A : Type 0} (a : Inside A) (is : IsMachine a) where
  abbrev d : Design
  d = design_of is.load

  abbrev s : State
  s = after is.load is.steps

  pub idle_here : (attempt : Step) → step d s attempt ≡ None → IsIdle (core_of a) attempt
  idle_here attempt none =
      subst (λ (x : Design). step x (core_of a).state attempt ≡ None) (sym (design_is a is))
      (subst (λ (z : State). step d z attempt ≡ None) (sym (state_is a is)) none)

  pub idle_there : (attempt : Step) → IsIdle (core_of a) attempt → step d s attempt ≡ None
  idle_there attempt none =
      subst (λ (z : State). step d z attempt ≡ None) (state_is a is)
      (subst (λ (x : Design). step x (core_of a).state attempt ≡ None) (design_is a is) none)

  -- a choice that doesn't count as awake isn't enabled
  module _ (c : Core) (view : core_of a ≡ c) (t from end : ℕ) where
    abbrev IdleThere : (ℕ → Choice) → Type 0
    IdleThere f = (k : ℕ) → from ≤ k → k < end → IsIdle c (of_router t (f k))

    there : (f : ℕ → Choice) → ((k : ℕ) → from ≤ k → k < end → step d s (of_router t (f k)) ≡ None) → IdleThere f
    there f none k l m = subst (λ (x : Core). IsIdle x (of_router t (f k))) view (idle_here (of_router t (f k)) (none k l m))

    pub takes_asleep : HoldsNowhere ((flags_of a.ports).takes t) from end → IdleThere (λ k. TakeFrom k)
    takes_asleep off = there (λ k. TakeFrom k) (λ k l m. is.ports.takes t k (off k l m))

    pub puts_asleep : HoldsNowhere ((flags_of a.ports).puts t) from end → IdleThere (λ k. Put k)
    puts_asleep off = there (λ k. Put k) (λ k l m. is.ports.puts t k (off k l m))

    pub credits_asleep : HoldsNowhere ((flags_of a.ports).credits t) from end → IdleThere (λ k. CreditOf k)
    credits_asleep off = there (λ k. CreditOf k) (λ k l m. is.ports.credits t k (off k l m))

  -- a choice that isn't enabled may count as asleep
  with_flags : (ports : AwakePorts) → ports.design ≡ a.ports.design → OtherPortsSleep d s (flags_of ports)
      → IsMachine (with_parts a a.tiles a.row a.book a.awake ports a.left)
  with_flags ports built sleep = record {
    load = is.load;
    steps = is.steps;
    after = is.after;
    seen = is.seen;
    banks = is.banks;
    room = is.room;
    built = is.built;
    sleepers = is.sleepers;
    routed = built ∙ is.routed;
    ports = sleep;
  }

  module _ (c : Core) (view : core_of a ≡ c) (t i : ℕ) where
    not_enabled : (choice : Choice) → IsIdle c (of_router t choice) → step d s (of_router t choice) ≡ None
    not_enabled choice none = idle_there (of_router t choice) (subst (λ (x : Core). IsIdle x (of_router t choice)) (sym view) none)

    pub take_rests : IsIdle c (of_router t (TakeFrom i)) → (ports : AwakePorts) → ports.design ≡ a.ports.design
        → flags_of ports ≡ take_rested t i (flags_of a.ports)
        → IsMachine (with_parts a a.tiles a.row a.book a.awake ports a.left)
    take_rests none ports built rested =
        with_flags ports built
        (subst (λ (f : PortFlags). OtherPortsSleep d s f) (sym rested) (record {
          takes = lowered_is (flags_of a.ports).takes t i (λ u k. step d s (of_router u (TakeFrom k)) ≡ None) is.ports.takes (not_enabled (TakeFrom i) none);
          puts = is.ports.puts;
          credits = is.ports.credits;
          full = is.ports.full;
        }))

    pub put_rests : IsIdle c (of_router t (Put i)) → (ports : AwakePorts) → ports.design ≡ a.ports.design
        → flags_of ports ≡ put_rested t i (flags_of a.ports)
        → IsMachine (with_parts a a.tiles a.row a.book a.awake ports a.left)
    put_rests none ports built rested =
        with_flags ports built
        (subst (λ (f : PortFlags). OtherPortsSleep d s f) (sym rested) (record {
          takes = is.ports.takes;
          puts = lowered_is (flags_of a.ports).puts t i (λ u k. step d s (of_router u (Put k)) ≡ None) is.ports.puts (not_enabled (Put i) none);
          credits = is.ports.credits;
          full = is.ports.full;
        }))

    pub credit_rests : IsIdle c (of_router t (CreditOf i)) → (ports : AwakePorts) → ports.design ≡ a.ports.design
        → flags_of ports ≡ credit_rested t i (flags_of a.ports)
        → IsMachine (with_parts a a.tiles a.row a.book a.awake ports a.left)
    credit_rests none ports built rested =
        with_flags ports built
        (subst (λ (f : PortFlags). OtherPortsSleep d s f) (sym rested) (record {
          takes = is.ports.takes;
          puts = is.ports.puts;
          credits = lowered_is (flags_of a.ports).credits t i (λ u k. step d s (of_router u (CreditOf k)) ≡ None) is.ports.credits
              (not_enabled (CreditOf i) none);
          full = is.ports.full;
        }))
