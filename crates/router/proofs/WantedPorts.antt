-- A router wants no port that isn't there.
use Rattle.std.proofs.Common.{◌≡◌, ◌≢◌, ℕ, ◌<◌, Bool, true, false, List, length, get_or, set, replicate, Option, Some, None, inl, inr, refl, sym, ap, ◌∙◌}
use Rattle.std.proofs.Common.{arith, subst, length-set, get_or-set_same, get_or-set_other, nat_lt, if◌then◌else◌}
use Rattle.std.specs.Prelude.{option_map, not, ◌==◌}
use Rattle.std.proofs.lemmas.Bool.{cases_eq, cases_lt}
use Rattle.std.proofs.lemmas.Bool.Decides.{nat_tests}
use Rattle.std.proofs.lemmas.List.{get_or-replicate, get_or_past, length-replicate}
use Rattle.torus.specs.Shape.{Shape, dims_of, digit_of}
use Rattle.torus.specs.declared.shape.Class.{Class}
use Rattle.torus.specs.declared.shape.Class.TheVariants.{Request, Reply}
use Rattle.torus.specs.declared.shape.Dir.TheVariants.{Plus, Minus}
use Rattle.torus.specs.declared.step.Choice.{Choice}
use Rattle.torus.specs.declared.step.Choice.TheVariants as choice
use Rattle.packet.specs.declared.heading.Head.{Head}
use Rattle.packet.specs.Flits.{head_of, is_tail}
use Rattle.dateline_route.specs.declared.channel.Input.{Input}
use Rattle.dateline_route.specs.declared.channel.Output.{Output}
use Rattle.dateline_route.specs.declared.channel.Output.TheVariants.{Eject, Hop as To}
use Rattle.dateline_route.specs.Next.{next_of, output_in, first_apart}
use Rattle.channel_number.specs.Ports.{port_count, input_numbered, output_number}
use Rattle.flit_buffer.specs.Surroundings.{Surroundings, Wiring, IsPossible}
use Rattle.flit_buffer.specs.declared.want.Want.{Want}
use Rattle.flit_buffer.specs.declared.want.Want.TheVariants.{Take, Put, Credit}
use Rattle.router.specs.Table.{RouterState, empty_router, way_of, latch_of, output_for, is_owned, wants_to_take, wants_to_put, router_wants, router_after}
use Rattle.router.specs.Ways.{HasDimension}
use Rattle.router.specs.Reach.{IsRouterState}
use Rattle.router.proofs.Ways.{found_below}

some_same : {A : Type 0} {a b : A} → Some a ≡ Some b → a ≡ b
some_same e = cc

-- an output whose dimension is there has a number below the count of ports
number_within : (dims : ℕ) (class : Class) (out : Output) → HasDimension dims out → output_number dims class out < port_count dims
number_within dims Request Eject low = omega arith
number_within dims Reply Eject low = omega arith
number_within dims Request (To d Plus true) low = omega arith
number_within dims Request (To d Plus false) low = omega arith
number_within dims Request (To d Minus true) low = omega arith
number_within dims Request (To d Minus false) low = omega arith
number_within dims Reply (To d Plus true) low = omega arith
number_within dims Reply (To d Plus false) low = omega arith
number_within dims Reply (To d Minus true) low = omega arith
number_within dims Reply (To d Minus false) low = omega arith

module _ (s : Shape) (tile : ℕ) where
  next_in : (came : Input) (dst : ℕ) (m : Option ℕ) → first_apart s tile dst ≡ m → HasDimension (dims_of s) (output_in s tile came dst m)
  next_in came dst None e = tt
  next_in came dst (Some d) e = found_below (λ d. not (digit_of s tile d == digit_of s dst d)) (dims_of s) d e

  way_within : (i : ℕ) (head : Head) → way_of s tile i head < port_count (dims_of s)
  way_within i head =
      let came : Input = input_numbered (dims_of s) i in
      number_within (dims_of s) head.class (next_of s tile came head.destination) (next_in came head.destination (first_apart s tile head.destination) refl)

  free_way : (b : Bool) (way o ports : ℕ) → way < ports → (if b then None else Some way) ≡ Some o → o < ports
  free_way true way o ports low e = cc
  free_way false way o ports low e = omega (arith, some_same e)

  module _ (r : RouterState) (is : IsRouterState (port_count (dims_of s)) r) where
    output_within : (i : ℕ) (head : Option Head) (o : ℕ) → output_for s tile r i head ≡ Some o → o < port_count (dims_of s)
    output_within i None o e = is.outputs i o e
    output_within i (Some head) o e = free_way (is_owned r (way_of s tile i head)) (way_of s tile i head) o (port_count (dims_of s)) (way_within i head) e

    -- what a put wants: a flit that the latch holds, on an output that is there
    pub record Puts (i : ℕ) (want : Want) : Type 0 where
      pub output : ℕ
      pub flit : ℕ
      pub is_put : want ≡ Put output flit
      pub there : output < port_count (dims_of s)
      pub is_flit : flit ≢ 0

    put_mapped : (i flit : ℕ) (o : Option ℕ) (want : Want) → flit ≢ 0 → ((n : ℕ) → o ≡ Some n → n < port_count (dims_of s))
        → option_map (λ n. Put n flit) o ≡ Some want → Puts i want
    put_mapped i flit None want word low e = cc
    put_mapped i flit (Some n) want word low e = record { output = n; flit = flit; is_put = sym (some_same e); there = low n refl; is_flit = word }

    put_latched : (i : ℕ) (latch : Option ℕ) (want : Want) → latch_of r i ≡ latch → wants_to_put s tile r i latch ≡ Some want → Puts i want
    put_latched i None want held e = cc
    put_latched i (Some flit) want held e =
        put_mapped i flit (output_for s tile r i (head_of flit)) want (is.flits i flit held) (λ n h. output_within i (head_of flit) n h) e

    put_tested : (i : ℕ) (b : Bool) (want : Want) → (if b then wants_to_put s tile r i (latch_of r i) else None) ≡ Some want → Puts i want
    put_tested i true want e = put_latched i (latch_of r i) want refl e
    put_tested i false want e = cc

    -- what a take wants, and a credit: the port of its number
    take_latched : (i : ℕ) (latch : Option ℕ) (want : Want) → wants_to_take s tile i latch ≡ Some want → want ≡ Take i
    take_latched i None want e = sym (some_same e)
    take_latched i (Some flit) want e = cc

    take_tested : (i : ℕ) (b : Bool) (want : Want) → nat_lt i (port_count (dims_of s)) ≡ b
        → (if b then wants_to_take s tile i (latch_of r i) else None) ≡ Some want → (i < port_count (dims_of s)) × (want ≡ Take i)
    take_tested i true want low e = (grind (arith, nat_tests), take_latched i (latch_of r i) want e)
    take_tested i false want low e = cc

    credit_tested : (o : ℕ) (b : Bool) (want : Want) → nat_lt o (port_count (dims_of s)) ≡ b → (if b then Some (Credit o) else None) ≡ Some want
        → (o < port_count (dims_of s)) × (want ≡ Credit o)
    credit_tested o true want low e = (grind (arith, nat_tests), sym (some_same e))
    credit_tested o false want low e = cc

pub possible : (s : Shape) (tile : ℕ) (r : RouterState) (choice : Choice) (want : Want) (around : Surroundings) (wiring : Wiring)
    → IsRouterState (port_count (dims_of s)) r
    → length wiring.inputs ≡ port_count (dims_of s) → length wiring.outputs ≡ port_count (dims_of s)
    → router_wants s tile r choice ≡ Some want → IsPossible around wiring want
possible s tile r (choice.TakeFrom i) want around wiring is inputs outputs e =
    let t = take_tested s tile r is i (nat_lt i (port_count (dims_of s))) want refl e in
    subst (λ (w : Want). IsPossible around wiring w) (sym t.1) (omega (arith, t.0))
possible s tile r (choice.Put i) want around wiring is inputs outputs e =
    let p = put_tested s tile r is i (nat_lt i (port_count (dims_of s))) want e in
    subst (λ (w : Want). IsPossible around wiring w) (sym p.is_put) (omega (arith, p.there), p.is_flit)
possible s tile r (choice.CreditOf o) want around wiring is inputs outputs e =
    let t = credit_tested s tile r is o (nat_lt o (port_count (dims_of s))) want refl e in
    subst (λ (w : Want). IsPossible around wiring w) (sym t.1) (omega (arith, t.0))
possible s tile r choice.Send want around wiring is inputs outputs e = cc
possible s tile r choice.Take want around wiring is inputs outputs e = cc
possible s tile r choice.Credit want around wiring is inputs outputs e = cc
possible s tile r choice.Serve want around wiring is inputs outputs e = cc
possible s tile r choice.Done want around wiring is inputs outputs e = cc
possible s tile r choice.Look want around wiring is inputs outputs e = cc

not_some : (v : ℕ) → None ≡ Some v → ⊥
not_some v e = cc

-- an entry of a list that holds nothing
none_there : (n i v : ℕ) → get_or (replicate n None) i None ≡ Some v → ⊥
none_there n i v e = elim (cases_lt i n) [
  | inl low ↦ not_some v (sym (get_or-replicate n i None None low) ∙ e)
  | inr high ↦ not_some v (sym (get_or_past (replicate n None) i None (omega (arith, length-replicate {A = Option ℕ} n None))) ∙ e)
]

pub at_start : (ports : ℕ) → IsRouterState ports (empty_router ports)
at_start ports = record {
  latches = length-replicate ports None;
  owned = length-replicate ports None;
  flits = λ i flit e z. none_there ports i flit e;
  outputs = λ i o e. absurd (none_there ports i o e);
}

-- an entry of a written list: the one written, or one that was there
written : (P : ℕ → Type 0) (xs : List (Option ℕ)) (i : ℕ) (x : Option ℕ) → ((v : ℕ) → x ≡ Some v → P v) → ((j v : ℕ) → get_or xs j None ≡ Some v → P v)
    → (j v : ℕ) → get_or (set xs i x) j None ≡ Some v → P v
written P xs i x new old j v e = elim (cases_eq j i) [
  | inl same ↦
      elim (cases_lt i (length xs)) [
        | inl low ↦ new v (sym (get_or-set_same xs i x None low) ∙ ap (λ k. get_or (set xs i x) k None) (sym same) ∙ e)
        | inr high ↦
            let none : get_or (set xs i x) j None ≡ None = get_or_past (set xs i x) j None (omega (arith, length-set xs i x)) in
            let wrong : None ≡ Some v = sym none ∙ e in cc
      ]
  | inr other ↦ old j v (sym (get_or-set_other xs i j x None other) ∙ e)
]

owned_after : (b : Bool) (o v : ℕ) → (if b then None else Some o) ≡ Some v → o ≡ v
owned_after true o v e = cc
owned_after false o v e = some_same e

pub kept : (s : Shape) (tile : ℕ) (r : RouterState) (choice : Choice) (want : Want) (learned : ℕ) → IsRouterState (port_count (dims_of s)) r
    → router_wants s tile r choice ≡ Some want → ((i : ℕ) → want ≡ Take i → learned ≢ 0)
    → IsRouterState (port_count (dims_of s)) (router_after r choice want learned)
kept s tile r (choice.TakeFrom i) want learned is e word =
    let t = take_tested s tile r is i (nat_lt i (port_count (dims_of s))) want refl e in
    record {
      latches = length-set r.latches i (Some learned) ∙ is.latches;
      owned = is.owned;
      flits = written (λ v. v ≢ 0) r.latches i (Some learned) (λ v h z. word i t.1 (some_same h ∙ z)) is.flits;
      outputs = is.outputs;
    }
kept s tile r (choice.Put i) want learned is e word =
    let p = put_tested s tile r is i (nat_lt i (port_count (dims_of s))) want e in
    subst (λ (w : Want). IsRouterState (port_count (dims_of s)) (router_after r (choice.Put i) w learned)) (sym p.is_put) record {
      latches = length-set r.latches i None ∙ is.latches;
      owned = length-set r.owned i (if is_tail p.flit then None else Some p.output) ∙ is.owned;
      flits = written (λ v. v ≢ 0) r.latches i None (λ v h. absurd (let wrong : None ≡ Some v = h in cc)) is.flits;
      outputs = written (λ v. v < port_count (dims_of s)) r.owned i (if is_tail p.flit then None else Some p.output)
          (λ v h. omega (arith, owned_after (is_tail p.flit) p.output v h, p.there)) is.outputs;
    }
kept s tile r (choice.CreditOf o) want learned is e word = is
kept s tile r choice.Send want learned is e word = is
kept s tile r choice.Take want learned is e word = is
kept s tile r choice.Credit want learned is e word = is
kept s tile r choice.Serve want learned is e word = is
kept s tile r choice.Done want learned is e word = is
kept s tile r choice.Look want learned is e word = is
