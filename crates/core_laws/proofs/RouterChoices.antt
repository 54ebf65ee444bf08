-- From the router's table to what its steps leave standing: takes, puts of body and tail flits, and credits.
use Rattle.std.proofs.Common.{◌≡◌, ◌≢◌, ℕ, ◌<◌, Bool, true, false, List, ◌∷◌, ◌++◌, Option, Some, None, refl, sym, ◌∙◌, ap, subst, arith, slice_index}
use Rattle.std.proofs.Common.{slice_set, if◌then◌else◌}
use Rattle.std.specs.Prelude.{option_map, nat_lt}
use Rattle.std.proofs.lemmas.Bool.{ltb-true}
use Rattle.std.proofs.lemmas.List.FromFn.{get_or-map-range_with_len}
use Rattle.std.proofs.lemmas.Option.{same_Some}
use Rattle.torus.specs.Shape.{Shape, IsAccepted, tiles_of, dims_of}
use Rattle.torus.specs.declared.step.Choice.{Choice}
use Rattle.torus.specs.declared.step.Choice.TheVariants.{Send, Take, TakeFrom, Put, Credit, CreditOf, Serve, Done, Look}
use Rattle.packet.specs.declared.heading.Head.{Head}
use Rattle.one_order.specs.Order.{LinearizationPoint}
use Rattle.flit_buffer.specs.Channel.{rest}
use Rattle.flit_buffer.specs.Places.{put_in_ring, take_from_ring, credit_of_ring}
use Rattle.flit_buffer.specs.declared.want.Want.{Want}
use Rattle.flit_buffer.specs.declared.want.Want.TheVariants as want
use Rattle.flit_buffer.specs.Surroundings.{ring, granted, surroundings_after, changed}
use Rattle.wormhole.specs.Net.{Net}
use Rattle.wormhole.proofs.Receivers.{moved}
use Rattle.wormhole.proofs.Routers.{latched}
use Rattle.wormhole.specs.Events.{NetEvent, ForwardRest, Return}
use Rattle.packet.specs.Flits.{head_of, is_tail}
use Rattle.core_laws.specs.Heads.{carries_route}
use Rattle.router.specs.Table.{RouterState, latch_of, output_owned, output_for, wants_to_take, wants_to_put, router_wants, router_after}
use Rattle.channel_number.specs.Ports.{port_count, input_channel, output_channel}
use Rattle.router.specs.Beginning.{router_wiring}
use Rattle.tile.specs.Tile.{Design}
use Rattle.core_laws.specs.Core.{State}
use Rattle.core_laws.proofs.Projection.{net_of}
use Rattle.core_laws.proofs.AgentSteps.{option_map_some}
use Rattle.core_laws.proofs.ChannelFacts.{is_head_of}
use Rattle.core_laws.proofs.Networks.{network}
use Rattle.core_laws.proofs.StepEvents.{first_there}
use Rattle.core_laws.proofs.Wired.{is_wired_up}
use Rattle.core_laws.proofs.ChannelWants.{if_what}
use Rattle.core_laws.proofs.Quiet.{quiet_state, quiet_ghost, back_quiet, back_stands}
use Rattle.core_laws.specs.Network.{put_event, words_forwarded, router_event}
use Rattle.core_laws.proofs.QuietSteps.{Stays}
use Rattle.core_laws.proofs.RouterSteps.{output_at, held_of, then_put}
use Rattle.core_laws.proofs.Latches.{latched_state, latched_ghost, can_latch, latched_stands}
use Rattle.core_laws.proofs.RestPuts.{rest_state, rest_ghost, can_forward as can_rest, rest_stands}
use Rattle.core_laws.proofs.Stands.{Ghost, Stands, tile_at}

-- the channel at an input
input_at : (s : Shape) (t i : ℕ) → i < port_count (dims_of s) → slice_index (router_wiring s t).inputs i ≡ input_channel s t i
input_at s t i h = get_or-map-range_with_len (input_channel s t) 0 (port_count (dims_of s)) i i 0 h (omega arith)

pub if_true : {A : Type 0} (b : Bool) (o : Option A) (y : A) → (if b then o else None) ≡ Some y → b ≡ true
if_true true o y h = refl
if_true false o y h = cc

is_not : (b : Bool) → (b ≡ true → ⊥) → b ≡ false
is_not true h = absurd (h refl)
is_not false h = refl

-- a take is wanted into an empty latch
take_told : (s : Shape) (t i : ℕ) (latch : Option ℕ) (w : Want) → wants_to_take s t i latch ≡ Some w → (latch ≡ None) × (want.Take i ≡ w)
take_told s t i None w h = (refl, same_Some _ _ h)
take_told s t i (Some flit) w h = cc

-- a put is wanted of a latched flit
put_told : (s : Shape) (t : ℕ) (r : RouterState) (i : ℕ) (latch : Option ℕ) (w : Want) → wants_to_put s t r i latch ≡ Some w → (flit : ℕ) × (latch ≡ Some flit)
put_told s t r i None w h = absurd (cc)
put_told s t r i (Some flit) w h = (flit, refl)

module _ (d : Design) (accepted : IsAccepted d.shape) (tags : ℕ) (opening : List ℕ) (s : State) (g : Ghost) (order : List LinearizationPoint)
    (st : Stands d tags opening s g order)
    (t : ℕ) (t_in : t < tiles_of d.shape) where
  abbrev r : RouterState
  r = (tile_at s t).router

  abbrev ports : ℕ
  ports = port_count (dims_of d.shape)

  -- what stands after a granted want of the router
  abbrev pub router_then : Choice → Want → ℕ → State
  router_then choice w learned =
      record {
        tiles = slice_set s.tiles t (record (tile_at s t) { router = router_after r choice w learned });
        around = surroundings_after d.depth s.around (router_wiring d.shape t) w;
      }

  abbrev Keeps : State → Option NetEvent → Type 0
  Keeps after e = Stays d tags opening g order after e

  then_latch : (i : ℕ) (w : Want) (learned : ℕ) → router_wants d.shape t r (TakeFrom i) ≡ Some w → granted s.around (router_wiring d.shape t) w ≡ Some learned
      → Keeps (router_then (TakeFrom i) w learned) (router_event d t r s.around (TakeFrom i) learned)
  then_latch i w learned is grants =
      let wired = is_wired_up d accepted in
      let net = network d accepted in
      let i_in : i < ports = ltb-true i ports (if_true (nat_lt i ports) (wants_to_take d.shape t i (latch_of r i)) w is) in
      let told = take_told d.shape t i (latch_of r i) w (if_what (nat_lt i ports) (wants_to_take d.shape t i (latch_of r i)) w is) in
      let x : ℕ = input_channel d.shape t i in
      let at : slice_index (router_wiring d.shape t).inputs i ≡ x = input_at d.shape t i i_in in
      let flits : List ℕ = (ring s.around.rings x).channel.flits in
      let first : flits ≡ learned ∷ rest flits =
      subst (λ (z : ℕ). (ring s.around.rings z).channel.flits ≡ learned ∷ rest (ring s.around.rings z).channel.flits) at
      (first_there (ring s.around.rings (slice_index (router_wiring d.shape t).inputs i)).channel.flits learned
      (ap (granted s.around (router_wiring d.shape t)) told.1 ∙ grants)) in
      let new = latched_stands d net wired tags opening s g order st t t_in i i_in learned (rest flits) told.0 first in
      let same : latched_state d net wired tags opening s g order st t t_in i i_in learned (rest flits) told.0 first ≡ router_then (TakeFrom i) w learned =
      ap (λ (z : ℕ). record {
        tiles = slice_set s.tiles t (record (tile_at s t) { router = record { latches = slice_set r.latches i (Some learned); owned = r.owned } });
        around = changed s.around z (take_from_ring d.depth);
      }) (sym at)
      ∙ ap (λ (v : Want). router_then (TakeFrom i) v learned) told.1 in
      record {
        stands = subst (λ (z : State). Stands d tags opening z
            (latched_ghost d net wired tags opening s g order st t t_in i i_in learned (rest flits) told.0 first) order) same new;
        may = can_latch d net wired tags opening s g order st t t_in i i_in learned (rest flits) told.0 first;
      }

  then_credit : (o : ℕ) (w : Want) (learned : ℕ) → router_wants d.shape t r (CreditOf o) ≡ Some w → granted s.around (router_wiring d.shape t) w ≡ Some learned
      → Keeps (router_then (CreditOf o) w learned) (router_event d t r s.around (CreditOf o) learned)
  then_credit o w learned is grants =
      let wired = is_wired_up d accepted in
      let net = network d accepted in
      let o_in : o < ports = ltb-true o ports (if_true (nat_lt o ports) (Some (want.Credit o)) w is) in
      let w_is : want.Credit o ≡ w = same_Some _ _ (if_what (nat_lt o ports) (Some (want.Credit o)) w is) in
      let y : ℕ = output_channel d.shape t o in
      let y_in = wired.outputs_within t o t_in o_in in
      let at : slice_index (router_wiring d.shape t).outputs o ≡ y = output_at d.shape t o o_in in
      let returns : 0 < (ring s.around.rings y).channel.returning =
      subst (λ (z : ℕ). 0 < (ring s.around.rings z).channel.returning) at
      (ltb-true 0 _ (held_of (nat_lt 0 (ring s.around.rings (slice_index (router_wiring d.shape t).outputs o)).channel.returning) learned
      (ap (granted s.around (router_wiring d.shape t)) w_is ∙ grants))) in
      let new = back_stands d net tags opening s g order st t t_in y y_in returns in
      let same : quiet_state d net tags opening s g order st t t_in (tile_at s t) y y_in credit_of_ring (Return y) ≡ router_then (CreditOf o) w learned =
      ap (λ (z : ℕ). record { tiles = slice_set s.tiles t (tile_at s t); around = changed s.around z credit_of_ring }) (sym at)
      ∙ ap (λ (v : Want). router_then (CreditOf o) v learned) w_is in
      record {
        stands = subst (λ (z : State). Stands d tags opening z
            (quiet_ghost d net tags opening s g order st t t_in (tile_at s t) y y_in credit_of_ring (Return y)) order) same new;
        may = (back_quiet d net tags opening s g order st t t_in y y_in returns).can;
      }

  -- an input that owns an output has no head flit in its latch
  no_head_owns : (i o flit : ℕ) → i < ports → latch_of r i ≡ Some flit → output_owned r i ≡ Some o → carries_route flit ≡ true → ⊥
  no_head_owns i o flit i_in full owns head =
      let n : Net = net_of d in
      let x : ℕ = input_channel d.shape t i in
      let owner = (st.mirrors.owners t i o t_in i_in (st.mirrors.outputs t i o t_in owns)).1 owns in
      let m = moved n (g.net.notes x) flit ((g.net.lines x).flits ++ (g.net.notes x).owed) (st.lines.parcels x) (st.lines.awaited x) (is_head_of d flit ∙ head)
      (latched n g.net x flit st.lines (st.mirrors.latches t i t_in i_in ∙ full)) in
      (st.lines.held x (output_channel d.shape t o) owner).more m.none

  then_rest : (i : ℕ) (w : Want) (learned : ℕ) → router_wants d.shape t r (Put i) ≡ Some w → granted s.around (router_wiring d.shape t) w ≡ Some learned
      → i < ports → (flit : ℕ) → latch_of r i ≡ Some flit → head_of flit ≡ None → flit ≢ 0
      → Keeps (router_then (Put i) w learned) (put_event d t r i (latch_of r i))
  then_rest i w learned is grants i_in flit full tells some =
      let wired = is_wired_up d accepted in
      let net = network d accepted in
      let wants : wants_to_put d.shape t r i (Some flit) ≡ Some w =
      ap (wants_to_put d.shape t r i) (sym full) ∙ if_what (nat_lt i ports) (wants_to_put d.shape t r i (latch_of r i)) w is in
      let k = option_map_some (λ (p : ℕ). want.Put p flit) (output_owned r i) w
      (ap (λ (z : Option Head). option_map (λ (p : ℕ). want.Put p flit) (output_for d.shape t r i z)) (sym tells) ∙ wants) in
      let o : ℕ = k.0 in
      let o_in = st.mirrors.outputs t i o t_in k.1 in
      let body : carries_route flit ≡ false = is_not (carries_route flit) (no_head_owns i o flit i_in full k.1) in
      let at : slice_index (router_wiring d.shape t).outputs o ≡ output_channel d.shape t o = output_at d.shape t o o_in in
      let held : 0 < (ring s.around.rings (output_channel d.shape t o)).channel.held =
      subst (λ (z : ℕ). 0 < (ring s.around.rings z).channel.held) at
      (ltb-true 0 _ (held_of (nat_lt 0 (ring s.around.rings (slice_index (router_wiring d.shape t).outputs o)).channel.held) learned
      (ap (granted s.around (router_wiring d.shape t)) k.2 ∙ grants))) in
      let new = rest_stands d net wired tags opening s g order st t t_in i i_in flit o full body k.1 held some in
      let same : rest_state d net wired tags opening s g order st t t_in i i_in flit o full body k.1 held some ≡ router_then (Put i) w learned =
      ap (λ (z : ℕ). record {
        tiles = slice_set s.tiles t
            (record (tile_at s t) {
              router =
                  record { latches = slice_set r.latches i None; owned = slice_set r.owned i (if is_tail flit then None else Some o) };
            });
        around = changed s.around z (put_in_ring flit);
      }) (sym at)
      ∙ ap (λ (v : Want). router_then (Put i) v learned) k.2 in
      let x : ℕ = input_channel d.shape t i in
      let event : Some (ForwardRest x (output_channel d.shape t o) flit) ≡ put_event d t r i (latch_of r i) =
      ap (option_map (λ (p : ℕ). ForwardRest x (output_channel d.shape t p) flit)) (sym k.1)
      ∙ (ap (λ (z : Option Head). option_map (λ (p : ℕ). words_forwarded z x (output_channel d.shape t p) flit) (output_for d.shape t r i z)) (sym tells)
      ∙ ap (put_event d t r i) (sym full)) in
      subst (λ (e : Option NetEvent). Keeps (router_then (Put i) w learned) e) event
      (record {
        stands = subst (λ (z : State). Stands d tags opening z (rest_ghost d net wired tags opening s g order st t t_in i i_in flit o full body k.1 held some)
            order) same new;
        may = can_rest d net wired tags opening s g order st t t_in i i_in flit o full body k.1 held some;
      })

  -- What a granted want of the router leaves stands, where no latched flit is 0.
  pub then_router : ((i flit : ℕ) → i < ports → latch_of r i ≡ Some flit → flit ≢ 0)
      → (choice : Choice) (w : Want) (learned : ℕ) → router_wants d.shape t r choice ≡ Some w → granted s.around (router_wiring d.shape t) w ≡ Some learned
      → Keeps (router_then choice w learned) (router_event d t r s.around choice learned)
  then_router some (TakeFrom i) w learned is grants = then_latch i w learned is grants
  then_router some (CreditOf o) w learned is grants = then_credit o w learned is grants
  then_router some (Put i) w learned is grants =
      let i_in : i < ports = ltb-true i ports (if_true (nat_lt i ports) (wants_to_put d.shape t r i (latch_of r i)) w is) in
      let told = put_told d.shape t r i (latch_of r i) w (if_what (nat_lt i ports) (wants_to_put d.shape t r i (latch_of r i)) w is) in
      by_head i_in told.0 told.1 (head_of told.0) refl
    where
      by_head : i < ports → (flit : ℕ) → latch_of r i ≡ Some flit → (head : Option Head) → head_of flit ≡ head
          → Keeps (router_then (Put i) w learned) (put_event d t r i (latch_of r i))
      by_head i_in flit full None tells = then_rest i w learned is grants i_in flit full tells (some i flit i_in full)
      by_head i_in flit full (Some head) tells =
          then_put d accepted tags opening s g order st t t_in i w learned is grants i_in flit full head tells (some i flit i_in full)
  then_router some Send w learned is grants = absurd (cc)
  then_router some Take w learned is grants = absurd (cc)
  then_router some Credit w learned is grants = absurd (cc)
  then_router some Serve w learned is grants = absurd (cc)
  then_router some Done w learned is grants = absurd (cc)
  then_router some Look w learned is grants = absurd (cc)
