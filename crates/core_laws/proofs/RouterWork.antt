-- Each enabled step of a router is an event of the network, and so makes a move that is owed.
use Rattle.std.proofs.Common.{◌≡◌, ℕ, ◌<◌, Bool, true, false, List, [], ◌∷◌, Option, Some, None, refl, sym, ◌∙◌, ap, subst, arith, slice_index}
use Rattle.std.specs.Prelude.{nat_lt, if◌then◌else◌}
use Rattle.std.proofs.lemmas.Bool.{ltb-true}
use Rattle.std.proofs.lemmas.List.FromFn.{get_or-map-range_with_len}
use Rattle.std.proofs.lemmas.Option.{same_Some}
use Rattle.torus.specs.Shape.{IsAccepted, tiles_of, dims_of}
use Rattle.torus.specs.declared.step.Choice.{Choice}
use Rattle.torus.specs.declared.step.Choice.TheVariants as choice
use Rattle.packet.specs.declared.heading.Head.{Head}
use Rattle.flit_buffer.specs.declared.want.Want.{Want}
use Rattle.flit_buffer.specs.declared.want.Want.TheVariants as want
use Rattle.std.specs.Prelude.{option_map}
use Rattle.flit_buffer.specs.Channel as channel
use Rattle.flit_buffer.specs.Surroundings.{granted, ring}
use Rattle.wormhole.specs.State.{NetState}
use Rattle.wormhole.specs.Events.{NetEvent, Latch, ForwardHead, ForwardRest}
use Rattle.channel_number.proofs.Ports.{is_input, is_output}
use Rattle.wormhole.specs.Work.{End, IsChange, NetStays, EventMayHappen}
use Rattle.packet.specs.Flits.{head_of}
use Rattle.channel_number.specs.Ports.{port_count}
use Rattle.router.specs.Table.{latch_of, output_owned, is_owned, output_for, wants_to_take, wants_to_put, router_wants, way_of}
use Rattle.channel_number.specs.Ports.{input_channel, output_channel}
use Rattle.router.specs.Beginning.{router_wiring}
use Rattle.core_laws.specs.Tile.{Design}
use Rattle.core_laws.specs.Core.{State}
use Rattle.core_laws.proofs.AgentSteps.{option_map_some}
use Rattle.core_laws.proofs.WiredUp.{not_owned as no_owner}
use Rattle.core_laws.proofs.Projection.{net_of}
use Rattle.core_laws.proofs.Stands.{tile_at, IsLane, Mirrors}
use Rattle.core_laws.specs.Network as network
use Rattle.core_laws.proofs.Wires.{Chooses, FlitsTell}

-- a choice that is made where a test passes
pub if_so : {A : Type 0} (b : Bool) (x : Option A) (y : A) → (if b then x else None) ≡ Some y → (b ≡ true) × (x ≡ Some y)
if_so true x y h = (refl, h)
if_so false x y h = absurd (cc)

if_not : {A : Type 0} (b : Bool) (x y : A) → (if b then None else Some x) ≡ Some y → (b ≡ false) × (x ≡ y)
if_not true x y h = absurd (cc)
if_not false x y h = (refl, same_Some x y h)

pub first_there : (fs : List ℕ) (f : ℕ) → channel.first_of fs ≡ Some f → fs ≡ f ∷ channel.rest fs
first_there [] f h = absurd (cc)
first_there (g ∷ gs) f h = ap (λ z. z ∷ gs) (same_Some g f h)

-- ends that stay as they were
same_ends : (e : End) → NetStays e e
same_ends e = record { left = omega arith; reports = refl; room = refl; unsent = refl }

-- an event of the network that a router's step is
pub record IsRouterEvent (d : Design) (net : NetState) (event : Option NetEvent) : Type 0 where
  pub may : EventMayHappen (net_of d) net event
  pub stays : (e : End) → IsChange (net_of d) event e e

module _ (d : Design) (s : State) (net : NetState) (accepted : IsAccepted d.shape) (mirrors : Mirrors d s net.lines) (tell : FlitsTell d s) (t : ℕ)
    (here : t < tiles_of d.shape) where
  in_low : (i : ℕ) → i < port_count (dims_of d.shape)
      → (input_channel d.shape t i < (net_of d).channels) × ((net_of d).ejects (input_channel d.shape t i) ≡ false)
  unfolding net_of
  in_low i low =
      let at = is_input d.shape accepted t i here low in
      (at.below, at.leads)

  out_low : (o : ℕ) → o < port_count (dims_of d.shape)
      → (output_channel d.shape t o < (net_of d).channels) × ((net_of d).injects (output_channel d.shape t o) ≡ false)
  unfolding net_of
  out_low o low = let at = is_output d.shape t o here low in (at.below, at.leaves)

  lane : (x : ℕ) → x < (net_of d).channels → IsLane (ring s.around.rings x).channel (net.lines x)
  unfolding net_of
  lane x within = mirrors.rings x within

  input_at : (i : ℕ) → i < port_count (dims_of d.shape) → slice_index (router_wiring d.shape t).inputs i ≡ input_channel d.shape t i
  input_at i low = get_or-map-range_with_len (input_channel d.shape t) 0 (port_count (dims_of d.shape)) i i 0 low (omega arith)

  output_at : (o : ℕ) → o < port_count (dims_of d.shape) → slice_index (router_wiring d.shape t).outputs o ≡ output_channel d.shape t o
  output_at o low = get_or-map-range_with_len (output_channel d.shape t) 0 (port_count (dims_of d.shape)) o o 0 low (omega arith)

  has_flit : (i f : ℕ) → i < port_count (dims_of d.shape) → granted s.around (router_wiring d.shape t) (want.Take i) ≡ Some f
      → (net.lines (input_channel d.shape t i)).flits ≡ f ∷ channel.rest (ring s.around.rings (input_channel d.shape t i)).channel.flits
  has_flit i f low grants =
      let x : ℕ = input_channel d.shape t i in
      let at = first_there (ring s.around.rings x).channel.flits f
      (ap (λ z. channel.first_of (ring s.around.rings z).channel.flits) (sym (input_at i low)) ∙ grants) in
      (lane x (in_low i low).0).flits ∙ at

  has_credit : (o f l : ℕ) → o < port_count (dims_of d.shape) → granted s.around (router_wiring d.shape t) (want.Put o f) ≡ Some l
      → 0 < (net.lines (output_channel d.shape t o)).held
  has_credit o f l low grants =
      let y : ℕ = output_channel d.shape t o in
      let test = (if_so (nat_lt 0 (ring s.around.rings (slice_index (router_wiring d.shape t).outputs o)).channel.held) (Some 0) l grants).0 in
      subst (λ n. 0 < n) (ap (λ z. (ring s.around.rings z).channel.held) (output_at o low) ∙ sym (lane y (out_low o low).0).held)
      (ltb-true 0 (ring s.around.rings (slice_index (router_wiring d.shape t).outputs o)).channel.held test)

  has_returning : (o l : ℕ) → o < port_count (dims_of d.shape) → granted s.around (router_wiring d.shape t) (want.Credit o) ≡ Some l
      → 0 < (net.lines (output_channel d.shape t o)).returning
  has_returning o l low grants =
      let y : ℕ = output_channel d.shape t o in
      let test = (if_so (nat_lt 0 (ring s.around.rings (slice_index (router_wiring d.shape t).outputs o)).channel.returning) (Some 0) l grants).0 in
      subst (λ n. 0 < n) (ap (λ z. (ring s.around.rings z).channel.returning) (output_at o low) ∙ sym (lane y (out_low o low).0).returning)
      (ltb-true 0 (ring s.around.rings (slice_index (router_wiring d.shape t).outputs o)).channel.returning test)

  -- a flit is taken into an empty latch
  take_event : (i learned : ℕ) (w : Want) (l : Option ℕ) → i < port_count (dims_of d.shape) → latch_of (tile_at s t).router i ≡ l
      → wants_to_take d.shape t i l ≡ Some w → granted s.around (router_wiring d.shape t) w ≡ Some learned
      → IsRouterEvent d net (Some (Latch (input_channel d.shape t i) learned (channel.rest (ring s.around.rings (input_channel d.shape t i)).channel.flits)))
  take_event i learned w (Some f) low latched wanted grants = absurd (cc)
  take_event i learned w None low latched wanted grants =
      let at = has_flit i learned low (ap (granted s.around (router_wiring d.shape t)) (same_Some (want.Take i) w wanted) ∙ grants) in
      record {
        may = record { here = (in_low i low).0; input = (in_low i low).1; free = mirrors.latches t i here low ∙ latched; first = at };
        stays = same_ends;
      }

  -- a latched flit goes to its output
  head_event : (i f o l : ℕ) (h : Head) → i < port_count (dims_of d.shape) → latch_of (tile_at s t).router i ≡ Some f → head_of f ≡ Some h
      → output_for d.shape t (tile_at s t).router i (Some h) ≡ Some o
      → granted s.around (router_wiring d.shape t) (want.Put o f) ≡ Some l → (b : Bool) → (net_of d).is_head f ≡ b
      → IsRouterEvent d net (Some (ForwardHead (input_channel d.shape t i) (output_channel d.shape t o) f))
  head_event i f o l h low latched told output grants false bit = let never : ◌≡◌ {A = Option Head} None (Some h) = sym (tell.rests f bit) ∙ told in absurd (cc)
  head_event i f o l h low latched told output grants true bit =
      let way : Chooses d t i f = tell.heads t i f here low latched bit in
      let same : way.head ≡ h = same_Some way.head h (sym way.told ∙ told) in
      let out = if_not (is_owned (tile_at s t).router (way_of d.shape t i h)) (way_of d.shape t i h) o output in
      let is : way_of d.shape t i way.head ≡ o = ap (way_of d.shape t i) same ∙ out.1 in
      let o_low : o < port_count (dims_of d.shape) = subst (λ n. n < port_count (dims_of d.shape)) is way.low in
      let unowned : is_owned (tile_at s t).router o ≡ false = ap (is_owned (tile_at s t).router) (sym out.1) ∙ out.0 in
      record {
        may = record {
          here = (in_low i low).0;
          input = (in_low i low).1;
          full = mirrors.latches t i here low ∙ latched;
          head = bit;
          output = ap (output_channel d.shape t) (sym is) ∙ way.is;
          free = mirrors.unowned t o here o_low (no_owner (tile_at s t).router o unowned);
          credit = has_credit o f l o_low grants;
        };
        stays = same_ends;
      }

  rest_event : (i f o l : ℕ) → i < port_count (dims_of d.shape) → latch_of (tile_at s t).router i ≡ Some f → head_of f ≡ None
      → output_owned (tile_at s t).router i ≡ Some o
      → granted s.around (router_wiring d.shape t) (want.Put o f) ≡ Some l → (b : Bool) → (net_of d).is_head f ≡ b
      → IsRouterEvent d net (Some (ForwardRest (input_channel d.shape t i) (output_channel d.shape t o) f))
  rest_event i f o l low latched told owned grants true bit =
      let way : Chooses d t i f = tell.heads t i f here low latched bit in
      let never : ◌≡◌ {A = Option Head} None (Some way.head) = sym told ∙ way.told in absurd (cc)
  rest_event i f o l low latched told owned grants false bit =
      let o_low : o < port_count (dims_of d.shape) = mirrors.outputs t i o here owned in
      record {
        may = record {
          here = (in_low i low).0;
          input = (in_low i low).1;
          full = mirrors.latches t i here low ∙ latched;
          rest = bit;
          owned = (mirrors.owners t i o here low o_low).1 owned;
          credit = has_credit o f l o_low grants;
        };
        stays = same_ends;
      }

  put_by : (i f o l : ℕ) (h : Option Head) → i < port_count (dims_of d.shape) → latch_of (tile_at s t).router i ≡ Some f → head_of f ≡ h
      → output_for d.shape t (tile_at s t).router i h ≡ Some o
      → granted s.around (router_wiring d.shape t) (want.Put o f) ≡ Some l
      → IsRouterEvent d net (Some (network.words_forwarded h (input_channel d.shape t i) (output_channel d.shape t o) f))
  put_by i f o l (Some h) low latched told output grants = head_event i f o l h low latched told output grants ((net_of d).is_head f) refl
  put_by i f o l None low latched told output grants = rest_event i f o l low latched told output grants ((net_of d).is_head f) refl

  put_event : (i learned : ℕ) (w : Want) (l : Option ℕ) → i < port_count (dims_of d.shape) → latch_of (tile_at s t).router i ≡ l
      → wants_to_put d.shape t (tile_at s t).router i l ≡ Some w → granted s.around (router_wiring d.shape t) w ≡ Some learned
      → IsRouterEvent d net (network.put_event d t (tile_at s t).router i l)
  put_event i learned w None low latched wanted grants = absurd (cc)
  put_event i learned w (Some f) low latched wanted grants =
      let o = option_map_some (λ o. want.Put o f) (output_for d.shape t (tile_at s t).router i (head_of f)) w wanted in
      subst (λ (p : Option ℕ). IsRouterEvent d net
      (option_map (λ q. network.words_forwarded (head_of f) (input_channel d.shape t i) (output_channel d.shape t q) f) p)) (sym o.1)
      (put_by i f o.0 learned (head_of f) low latched refl o.1 (ap (granted s.around (router_wiring d.shape t)) o.2 ∙ grants))

  -- each choice of a router that is enabled
  pub router_event : (c : Choice) (w : Want) (learned : ℕ) → router_wants d.shape t (tile_at s t).router c ≡ Some w
      → granted s.around (router_wiring d.shape t) w ≡ Some learned
      → IsRouterEvent d net (network.router_event d t (tile_at s t).router s.around c learned)
  router_event (choice.TakeFrom i) w learned wanted grants =
      let at = if_so (nat_lt i (port_count (dims_of d.shape))) (wants_to_take d.shape t i (latch_of (tile_at s t).router i)) w wanted in
      take_event i learned w (latch_of (tile_at s t).router i) (ltb-true i (port_count (dims_of d.shape)) at.0) refl at.1 grants
  router_event (choice.Put i) w learned wanted grants =
      let at = if_so (nat_lt i (port_count (dims_of d.shape))) (wants_to_put d.shape t (tile_at s t).router i (latch_of (tile_at s t).router i)) w wanted in
      put_event i learned w (latch_of (tile_at s t).router i) (ltb-true i (port_count (dims_of d.shape)) at.0) refl at.1 grants
  router_event (choice.CreditOf o) w learned wanted grants =
      let at = if_so (nat_lt o (port_count (dims_of d.shape))) (Some (want.Credit o)) w wanted in
      let low : o < port_count (dims_of d.shape) = ltb-true o (port_count (dims_of d.shape)) at.0 in
      let returns = has_returning o learned low (ap (granted s.around (router_wiring d.shape t)) (same_Some (want.Credit o) w at.1) ∙ grants) in
      record { may = record { here = (out_low o low).0; returns = returns }; stays = same_ends }
  router_event choice.Send w learned wanted grants = absurd (cc)
  router_event choice.Take w learned wanted grants = absurd (cc)
  router_event choice.Credit w learned wanted grants = absurd (cc)
  router_event choice.Serve w learned wanted grants = absurd (cc)
  router_event choice.Done w learned wanted grants = absurd (cc)
  router_event choice.Look w learned wanted grants = absurd (cc)
