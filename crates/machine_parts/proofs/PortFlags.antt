-- The flags of routers after a move, and the routers' ends of a place.
use Rattle.std.proofs.Common.{◌≡◌, inl, inr, ℕ, ◌*◌, ◌/◌, ◌<◌, ◌≤◌, ◌==◌, ◌&&◌, Bool, true, false, List, length, Option, Some, None, refl, sym, ◌∙◌}
use Rattle.std.proofs.Common.{ap, arith, eq-eqb, slice_index_or, vec_len, if◌then◌else◌}
use Rattle.std.specs.Prelude.{◌||◌, not, nat_lt}
use Rattle.std.proofs.lemmas.Bool.{cases_eq, ne_eqb}
use Rattle.std.proofs.lemmas.List.FromFn.{get_or-map-range_with_len, length-map-range_with_len}
use Rattle.std.proofs.lemmas.Option.{same_Some}
use Rattle.torus.specs.Shape.{Shape, IsAccepted}
use Rattle.torus.specs.declared.step.Choice.{Choice}
use Rattle.torus.specs.declared.step.Choice.TheVariants as choice
use Rattle.channel_number.specs.Order.{channel_at, channel_count}
use Rattle.channel_number.specs.Ports.{is_injection, is_ejection, input_router, input_port, output_router, output_port}
use Rattle.channel_number.proofs.Ports.{has_input, has_output}
use Rattle.flit_buffer.specs.declared.word_op.WordOp.TheVariants.{Store, Swap}
use Rattle.flit_buffer.proofs.PortLaws.{is_less}
use Rattle.tile.specs.Tile.{Design}
use Rattle.core_laws.specs.Operations.{wake_places}
use Rattle.core_laws.specs.Routers.{PortFlags, input_end, output_end, is_port, brings_flit, returns_credit, empties, fills, frees_put, ports_woken}
use Rattle.core_laws.specs.Routers.{full_after, router_moved}
use Rattle.machine_parts.specs.Ports.{is_raised, raised, lowered, joined, ports_at, flags_of}
use Rattle.machine_parts.specs.InsidePorts.{awake_ports, TellPorts}
use Rattle.machine_parts.specs.declared.port_ends.PortEnds.{PortEnds}
use Rattle.machine_parts.specs.declared.ports.RouterFlags.TheInside.{Inside}
use Rattle.machine_parts.proofs.PlacesOfLines.{channel_below}
use Rattle.machine_parts.proofs.PortSets.{not_less, or_false, or_true}

-- flags are the same that are the same port by port
pub flags_path : (f g : PortFlags) → ((t k : ℕ) → f.takes t k ≡ g.takes t k) → ((t k : ℕ) → f.puts t k ≡ g.puts t k)
    → ((t k : ℕ) → f.credits t k ≡ g.credits t k) → ((t k : ℕ) → f.full t k ≡ g.full t k) → f ≡ g
flags_path f g takes puts credits full = λ i. record {
  takes = λ t k. takes t k i;
  puts = λ t k. puts t k i;
  credits = λ t k. credits t k i;
  full = λ t k. full t k i;
}

pub same_flag : (f : ℕ → ℕ → Bool) (t k : ℕ) → f t k ≡ f t k
same_flag f t k = refl

eq_sym : (a b : ℕ) → (a == b) ≡ (b == a)
eq_sym a b = elim (cases_eq a b) [
  | inl e ↦ eq-eqb a b e ∙ sym (eq-eqb b a (sym e))
  | inr ne ↦ ne_eqb a b ne ∙ sym (ne_eqb b a (λ e. ne (sym e)))
]

-- a port that an end is, is raised
end_raised : (f : ℕ → ℕ → Bool) (end : ℕ × ℕ) (u k : ℕ) → raised f end.0 end.1 u k ≡ (f u k || is_port (Some end) u k)
end_raised f end u k =
    ap (λ (b : Bool). f u k || (b && (k == end.1))) (eq_sym u end.0) ∙ ap (λ (b : Bool). f u k || ((end.0 == u) && b)) (eq_sym k end.1)

-- a router's end is one of a tile that is there
module _ (s : Shape) (ok : IsAccepted s) (x : ℕ) (there : x < channel_count s) (end : ℕ × ℕ) where
  pub input_small : input_end s x ≡ Some end → end.0 < 64
  input_small = by_kind (is_ejection (channel_at s x).kind) refl
    where
      by_kind : (b : Bool) → is_ejection (channel_at s x).kind ≡ b → (if b then None else Some (input_router s x, input_port s x)) ≡ Some end → end.0 < 64
      by_kind true e h = absurd (cc)
      by_kind false e h =
          let k = has_input s ok x there e in
          let same : input_router s x ≡ end.0 = ap (λ (p : ℕ × ℕ). p.0) (same_Some _ _ h) in
          omega (arith, k.tile, same, ok.tiles)

  pub output_small : output_end s x ≡ Some end → end.0 < 64
  output_small = by_kind (is_injection (channel_at s x).kind) refl
    where
      by_kind : (b : Bool) → is_injection (channel_at s x).kind ≡ b → (if b then None else Some (output_router s x, output_port s x)) ≡ Some end
          → end.0 < 64
      by_kind true e h = absurd (cc)
      by_kind false e h =
          let k = has_output s x there e in
          let same : output_router s x ≡ end.0 = ap (λ (p : ℕ × ℕ). p.0) (same_Some _ _ h) in
          omega (arith, k.tile, same, ok.tiles)

module _ {A : Type 0} (a : Inside A) (is : TellPorts a) (word : ℕ) where
  abbrev d : Design
  d = (awake_ports a).design

  abbrev f : PortFlags
  f = flags_of (awake_ports a)

  as_many_places : vec_len a.ends ≡ wake_places d
  as_many_places =
      let counted = a.ends.ok.0 in
      let long = ap (λ (xs : List PortEnds). length xs) is.ends in
      let all = length-map-range_with_len (λ place. ports_at a.torus (place / a.depth)) 0 (channel_count a.torus * a.depth) in
      omega (arith, counted, long, all)

  -- a word that is a place
  module _ (low : word < vec_len a.ends) (e : PortEnds) (at : e ≡ slice_index_or a.ends.items word e) where
    place : word < channel_count a.torus * a.depth
    place = let same = as_many_places in omega (arith, same, low)

    those : e ≡ ports_at a.torus (word / a.depth)
    those =
        at ∙ (ap (λ (xs : List PortEnds). slice_index_or xs word e) is.ends
        ∙ get_or-map-range_with_len (λ place. ports_at a.torus (place / a.depth)) 0 (channel_count a.torus * a.depth) word word e place (omega arith))

    in_places : nat_lt word (wake_places d) ≡ true
    in_places = is_less word (wake_places d) place

    pub takes_small : (end : ℕ × ℕ) → e.input ≡ Some end → end.0 < 64
    takes_small end h =
        input_small a.torus is.accepted (word / a.depth) (channel_below a.torus a.depth word is.some place) end
        (sym (ap (λ (x : PortEnds). x.input) those) ∙ h)

    pub credits_small : (end : ℕ × ℕ) → e.output ≡ Some end → end.0 < 64
    credits_small end h =
        output_small a.torus is.accepted (word / a.depth) (channel_below a.torus a.depth word is.some place) end
        (sym (ap (λ (x : PortEnds). x.output) those) ∙ h)

    brought : (flit t i : ℕ) → brings_flit d (Store word flit) t i ≡ is_port e.input t i
    brought flit t i =
        ap (λ (b : Bool). b && is_port (input_end a.torus (word / a.depth)) t i) in_places
        ∙ ap (λ (x : PortEnds). is_port x.input t i) (sym those)

    returned : (value t o : ℕ) → returns_credit d (Swap word value) t o ≡ is_port e.output t o
    returned value t o =
        ap (λ (b : Bool). b && is_port (output_end a.torus (word / a.depth)) t o) in_places
        ∙ ap (λ (x : PortEnds). is_port x.output t o) (sym those)

    pub take_raised : (flit : ℕ) (end : ℕ × ℕ) → e.input ≡ Some end → (takes : List ℕ)
        → ((t k : ℕ) → is_raised takes t k ≡ raised (is_raised a.takes) end.0 end.1 t k)
        → ◌≡◌ {A = PortFlags} (record { takes = is_raised takes; puts = f.puts; credits = f.credits; full = f.full }) (ports_woken d (Store word flit) f)
    take_raised flit end h takes up = flags_path _ _
        (λ t k. up t k ∙ (end_raised f.takes end t k
        ∙ ap (λ (b : Bool). f.takes t k || b) (sym (ap (λ (o : Option (ℕ × ℕ)). is_port o t k) h) ∙ sym (brought flit t k))))
        (same_flag f.puts) (λ t k. sym (or_false (f.credits t k))) (same_flag f.full)

    pub credit_raised : (value : ℕ) (end : ℕ × ℕ) → e.output ≡ Some end → (credits : List ℕ)
        → ((t k : ℕ) → is_raised credits t k ≡ raised (is_raised a.credits) end.0 end.1 t k)
        → ◌≡◌ {A = PortFlags} (record { takes = f.takes; puts = f.puts; credits = is_raised credits; full = f.full }) (ports_woken d (Swap word value) f)
    credit_raised value end h credits up = flags_path _ _
        (λ t k. sym (or_false (f.takes t k))) (same_flag f.puts)
        (λ t k. up t k ∙ (end_raised f.credits end t k
        ∙ ap (λ (b : Bool). f.credits t k || b) (sym (ap (λ (o : Option (ℕ × ℕ)). is_port o t k) h) ∙ sym (returned value t k))))
        (same_flag f.full)

    pub no_take : (flit : ℕ) → e.input ≡ None → f ≡ ports_woken d (Store word flit) f
    no_take flit h = flags_path _ _
        (λ t k. sym (ap (λ (b : Bool). f.takes t k || b) (brought flit t k ∙ ap (λ (o : Option (ℕ × ℕ)). is_port o t k) h) ∙ or_false (f.takes t k)))
        (same_flag f.puts) (λ t k. sym (or_false (f.credits t k))) (same_flag f.full)

    pub no_credit : (value : ℕ) → e.output ≡ None → f ≡ ports_woken d (Swap word value) f
    no_credit value h = flags_path _ _
        (λ t k. sym (or_false (f.takes t k))) (same_flag f.puts)
        (λ t k. sym (ap (λ (b : Bool). f.credits t k || b) (returned value t k ∙ ap (λ (o : Option (ℕ × ℕ)). is_port o t k) h) ∙ or_false (f.credits t k)))
        (same_flag f.full)

  -- and one that isn't
  module _ (high : vec_len a.ends ≤ word) where
    past_places : nat_lt word (wake_places d) ≡ false
    past_places = let same = as_many_places in not_less word (wake_places d) (omega (arith, same, high))

    pub past_store : (flit : ℕ) → f ≡ ports_woken d (Store word flit) f
    past_store flit = flags_path _ _
        (λ t k. sym (ap (λ (b : Bool). f.takes t k || (b && is_port (input_end a.torus (word / a.depth)) t k)) past_places ∙ or_false (f.takes t k)))
        (same_flag f.puts) (λ t k. sym (or_false (f.credits t k))) (same_flag f.full)

    pub past_swap : (value : ℕ) → f ≡ ports_woken d (Swap word value) f
    past_swap value = flags_path _ _
        (λ t k. sym (or_false (f.takes t k))) (same_flag f.puts)
        (λ t k. sym (ap (λ (b : Bool). f.credits t k || (b && is_port (output_end a.torus (word / a.depth)) t k)) past_places ∙ or_false (f.credits t k)))
        (same_flag f.full)

-- a router's own flags, by its choice
module _ (t : ℕ) (f : PortFlags) where
  -- what is lowered of the full, and what joins the puts
  full_taken : (i u k : ℕ) → raised f.full t i u k ≡ full_after t (choice.TakeFrom i) f.full u k
  full_taken i u k = by_flags (f.full u k) (u == t) (k == i) (i == k) (eq_sym k i)
    where
      by_flags : (a b x y : Bool) → x ≡ y → (a || (b && x)) ≡ ((a && not (b && (false && nat_lt k 32))) || (b && y))
      by_flags true true x y e = refl
      by_flags true false x y e = refl
      by_flags false true x y e = e
      by_flags false false x y e = refl

  puts_taken : (i u k : ℕ) → raised f.puts t i u k ≡ (f.puts u k || ((u == t) && ((i == k) && full_after t (choice.TakeFrom i) f.full u k)))
  puts_taken i u k =
      ap (λ (b : Bool). f.puts u k || ((u == t) && b)) (eq_sym k i)
      ∙ ap (λ (b : Bool). f.puts u k || b) (by_flags (f.full u k && not ((u == t) && (false && nat_lt k 32))) (u == t) (i == k))
    where
      by_flags : (a b y : Bool) → (b && y) ≡ (b && (y && (a || (b && y))))
      by_flags a false y = refl
      by_flags a true false = refl
      by_flags a true true = sym (or_true a)

  pub taken : (i : ℕ) (g : PortFlags) → ((u k : ℕ) → g.takes u k ≡ f.takes u k) → ((u k : ℕ) → g.puts u k ≡ raised f.puts t i u k)
      → ((u k : ℕ) → g.credits u k ≡ f.credits u k)
      → ((u k : ℕ) → g.full u k ≡ raised f.full t i u k)
      → g ≡ router_moved t (choice.TakeFrom i) f
  taken i g takes puts credits full = flags_path g (router_moved t (choice.TakeFrom i) f)
      (λ u k. takes u k ∙ by_tile (f.takes u k) (u == t)) (λ u k. puts u k ∙ puts_taken i u k) credits (λ u k. full u k ∙ full_taken i u k)
    where
      by_tile : (a b : Bool) → a ≡ (a || (b && false))
      by_tile a true = sym (or_false a)
      by_tile a false = sym (or_false a)

  full_put : (i u k : ℕ) → lowered f.full t i u k ≡ full_after t (choice.Put i) f.full u k
  full_put i u k = ap (λ (b : Bool). f.full u k && not ((u == t) && (b && nat_lt k 32))) (eq_sym k i)
      ∙ by_flags (f.full u k && not ((u == t) && ((i == k) && nat_lt k 32))) (u == t)
    where
      by_flags : (a b : Bool) → a ≡ (a || (b && false))
      by_flags a true = sym (or_false a)
      by_flags a false = sym (or_false a)

  pub put : (i : ℕ) (g : PortFlags) → ((u k : ℕ) → g.takes u k ≡ raised f.takes t i u k)
      → ((u k : ℕ) → g.puts u k ≡ joined f.puts t g.full u k)
      → ((u k : ℕ) → g.credits u k ≡ f.credits u k)
      → ((u k : ℕ) → g.full u k ≡ lowered f.full t i u k)
      → g ≡ router_moved t (choice.Put i) f
  put i g takes puts credits full = flags_path g (router_moved t (choice.Put i) f)
      (λ u k. takes u k ∙ ap (λ (b : Bool). f.takes u k || ((u == t) && b)) (eq_sym k i))
      (λ u k. puts u k ∙ ap (λ (b : Bool). f.puts u k || ((u == t) && b)) (full u k ∙ full_put i u k)) credits (λ u k. full u k ∙ full_put i u k)

  full_kept : (u k : ℕ) → f.full u k ≡ ((f.full u k && not ((u == t) && (false && nat_lt k 32))) || ((u == t) && false))
  full_kept u k = by_flags (f.full u k) (u == t)
    where
      by_flags : (a b : Bool) → a ≡ ((a && not (b && (false && nat_lt k 32))) || (b && false))
      by_flags true true = refl
      by_flags true false = refl
      by_flags false true = refl
      by_flags false false = refl

  takes_kept : (u k : ℕ) → f.takes u k ≡ (f.takes u k || ((u == t) && false))
  takes_kept u k = by_flags (f.takes u k) (u == t)
    where
      by_flags : (a b : Bool) → a ≡ (a || (b && false))
      by_flags a true = sym (or_false a)
      by_flags a false = sym (or_false a)

  pub credited : (o : ℕ) (g : PortFlags) → ((u k : ℕ) → g.takes u k ≡ f.takes u k) → ((u k : ℕ) → g.puts u k ≡ joined f.puts t f.full u k)
      → ((u k : ℕ) → g.credits u k ≡ f.credits u k)
      → ((u k : ℕ) → g.full u k ≡ f.full u k)
      → g ≡ router_moved t (choice.CreditOf o) f
  credited o g takes puts credits full = flags_path g (router_moved t (choice.CreditOf o) f)
      (λ u k. takes u k ∙ takes_kept u k) (λ u k. puts u k ∙ ap (λ (b : Bool). f.puts u k || ((u == t) && b)) (full_kept u k)) credits
      (λ u k. full u k ∙ full_kept u k)

  -- a choice that isn't a router's
  nothing : (c : Choice) → ((k : ℕ) → empties c k ≡ false) → ((k : ℕ) → fills c k ≡ false) → ((k : ℕ) → frees_put c k ≡ false) → f ≡ router_moved t c f
  nothing c no_empty no_fill no_put = flags_path f (router_moved t c f)
      (λ u k. takes_kept u k ∙ ap (λ (b : Bool). f.takes u k || ((u == t) && b)) (sym (no_empty k)))
      (λ u k. puts_kept u k ∙ ap (λ (b : Bool). f.puts u k || ((u == t) && (b && full_after t c f.full u k))) (sym (no_put k)))
      (same_flag f.credits)
      (λ u k. full_kept u k ∙ (ap (λ (b : Bool). (f.full u k && not ((u == t) && (b && nat_lt k 32))) || ((u == t) && false)) (sym (no_empty k))
      ∙ ap (λ (b : Bool). (f.full u k && not ((u == t) && (empties c k && nat_lt k 32))) || ((u == t) && b)) (sym (no_fill k))))
    where
      puts_kept : (u k : ℕ) → f.puts u k ≡ (f.puts u k || ((u == t) && (false && full_after t c f.full u k)))
      puts_kept u k = by_flags (f.puts u k) (u == t)
        where
          by_flags : (a b : Bool) → a ≡ (a || (b && false))
          by_flags a true = sym (or_false a)
          by_flags a false = sym (or_false a)

  pub others : (c : Choice) → ((i : ℕ) → c ≡ choice.TakeFrom i → ⊥) → ((i : ℕ) → c ≡ choice.Put i → ⊥) → ((o : ℕ) → c ≡ choice.CreditOf o → ⊥)
      → f ≡ router_moved t c f
  others (choice.TakeFrom i) take put credit = absurd (take i refl)
  others (choice.Put i) take put credit = absurd (put i refl)
  others (choice.CreditOf o) take put credit = absurd (credit o refl)
  others choice.Send take put credit = nothing choice.Send (λ k. refl) (λ k. refl) (λ k. refl)
  others choice.Take take put credit = nothing choice.Take (λ k. refl) (λ k. refl) (λ k. refl)
  others choice.Credit take put credit = nothing choice.Credit (λ k. refl) (λ k. refl) (λ k. refl)
  others choice.Serve take put credit = nothing choice.Serve (λ k. refl) (λ k. refl) (λ k. refl)
  others choice.Done take put credit = nothing choice.Done (λ k. refl) (λ k. refl) (λ k. refl)
  others choice.Look take put credit = nothing choice.Look (λ k. refl) (λ k. refl) (λ k. refl)
