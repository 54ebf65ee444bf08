-- From the router's table to the put of a head flit.
use Rattle.std.proofs.Common.{◌≡◌, ◌≢◌, ℕ, ◌<◌, Bool, true, false, List, Option, Some, None, refl, sym, ◌∙◌, ap, subst, arith, slice_index, slice_set}
use Rattle.std.proofs.Common.{if◌then◌else◌}
use Rattle.std.specs.Prelude.{option_map, nat_lt}
use Rattle.std.proofs.lemmas.Bool.{ltb-true}
use Rattle.std.proofs.lemmas.List.FromFn.{get_or-map-range_with_len}
use Rattle.std.proofs.lemmas.Option.{same_Some}
use Rattle.torus.specs.Shape.{Shape, IsAccepted, tiles_of, dims_of}
use Rattle.torus.specs.declared.step.Choice.TheVariants.{Put}
use Rattle.packet.specs.declared.heading.Head.{Head}
use Rattle.one_order.specs.Order.{LinearizationPoint}
use Rattle.flit_buffer.specs.declared.want.Want.{Want}
use Rattle.flit_buffer.specs.declared.want.Want.TheVariants as want
use Rattle.flit_buffer.specs.Surroundings.{ring, granted, surroundings_after, changed}
use Rattle.flit_buffer.specs.Places.{put_in_ring}
use Rattle.packet.specs.Flits.{head_of, is_tail}
use Rattle.router.specs.Table.{RouterState, latch_of, output_for, way_of, is_owned, wants_to_put, router_wants, router_after}
use Rattle.channel_number.specs.Ports.{port_count, input_channel, output_channel}
use Rattle.router.specs.Beginning.{router_wiring}
use Rattle.tile.specs.Tile.{Design}
use Rattle.core_laws.specs.Core.{State}
use Rattle.core_laws.proofs.AgentSteps.{option_map_some}
use Rattle.core_laws.proofs.ChannelFacts.{is_head_of}
use Rattle.core_laws.proofs.Networks.{network}
use Rattle.core_laws.proofs.WiredUp.{head_told}
use Rattle.core_laws.proofs.Puts.{put_state, put_ghost, put_stands, can_forward}
use Rattle.core_laws.specs.Network.{put_event, words_forwarded}
use Rattle.wormhole.specs.Events.{NetEvent, ForwardHead}
use Rattle.core_laws.proofs.QuietSteps.{Stays}
use Rattle.core_laws.proofs.Wired.{is_wired_up, head_there}
use Rattle.core_laws.proofs.ChannelWants.{if_what}
use Rattle.core_laws.proofs.Stands.{Ghost, Stands, tile_at}

-- the channel at an output
pub output_at : (s : Shape) (t o : ℕ) → o < port_count (dims_of s) → slice_index (router_wiring s t).outputs o ≡ output_channel s t o
output_at s t o h = get_or-map-range_with_len (output_channel s t) 0 (port_count (dims_of s)) o o 0 h (omega arith)

if_none : (b : Bool) (o p : ℕ) → (if b then None else Some o) ≡ Some p → (b ≡ false) × (o ≡ p)
if_none true o p h = cc
if_none false o p h = (refl, same_Some o p h)

pub held_of : (b : Bool) (learned : ℕ) → (if b then Some 0 else None) ≡ Some learned → b ≡ true
held_of true learned h = refl
held_of false learned h = cc

module _ (d : Design) (accepted : IsAccepted d.shape) (tags : ℕ) (opening : List ℕ) (s : State) (g : Ghost) (order : List LinearizationPoint)
    (st : Stands d tags opening s g order)
    (t : ℕ) (t_in : t < tiles_of d.shape) (i : ℕ) (w : Want) (learned : ℕ)
    (is : router_wants d.shape t (tile_at s t).router (Put i) ≡ Some w) (grants : granted s.around (router_wiring d.shape t) w ≡ Some learned)
    (i_in : i < port_count (dims_of d.shape)) (flit : ℕ) (full : latch_of (tile_at s t).router i ≡ Some flit) (head : Head) (tells : head_of flit ≡ Some head)
    (some : flit ≢ 0) where
  abbrev r : RouterState
  r = (tile_at s t).router

  abbrev router_then : State
  router_then = record {
    tiles = slice_set s.tiles t (record (tile_at s t) { router = router_after r (Put i) w learned });
    around = surroundings_after d.depth s.around (router_wiring d.shape t) w;
  }

  -- What the table makes of the put of a head flit keeps what holds.
  pub then_put : Stays d tags opening g order router_then (put_event d t r i (latch_of r i))
  then_put =
      let wired = is_wired_up d accepted in
      let net = network d accepted in
      let told = head_told flit head tells in
      let o : ℕ = way_of d.shape t i head in
      let there = head_there d accepted g.net net st.lines st.routes (input_channel d.shape t i) flit head (wired.inputs_lead t i t_in i_in)
      (st.mirrors.latches t i t_in i_in ∙ full) (is_head_of d flit ∙ told.bit) told in
      let wants : wants_to_put d.shape t r i (Some flit) ≡ Some w =
      ap (wants_to_put d.shape t r i) (sym full) ∙ if_what (nat_lt i (port_count (dims_of d.shape))) (wants_to_put d.shape t r i (latch_of r i)) w is in
      let k = option_map_some (λ (p : ℕ). want.Put p flit) (output_for d.shape t r i (Some head)) w
      (ap (λ (x : Option Head). option_map (λ (p : ℕ). want.Put p flit) (output_for d.shape t r i x)) (sym tells) ∙ wants) in
      let free = if_none (is_owned r o) o k.0 k.1 in
      let w_is : want.Put o flit ≡ w = ap (λ (p : ℕ). want.Put p flit) free.1 ∙ k.2 in
      let o_in = (wired.chosen t i head t_in i_in there.0 there.1).0 in
      let at : slice_index (router_wiring d.shape t).outputs o ≡ output_channel d.shape t o = output_at d.shape t o o_in in
      let held : 0 < (ring s.around.rings (output_channel d.shape t o)).channel.held =
      subst (λ (x : ℕ). 0 < (ring s.around.rings x).channel.held) at
      (ltb-true 0 _ (held_of (nat_lt 0 (ring s.around.rings (slice_index (router_wiring d.shape t).outputs o)).channel.held) learned
      (ap (granted s.around (router_wiring d.shape t)) w_is ∙ grants))) in
      let new = put_stands d net wired tags opening s g order st t t_in i i_in flit head full tells there.0 there.1 free.0 held some in
      let same : put_state d net wired tags opening s g order st t t_in i i_in flit head full tells there.0 there.1 free.0 held ≡ router_then =
      ap (λ (x : ℕ). record {
        tiles = slice_set s.tiles t
            (record (tile_at s t) {
              router =
                  record { latches = slice_set r.latches i None; owned = slice_set r.owned i (if is_tail flit then None else Some o) };
            });
        around = changed s.around x (put_in_ring flit);
      }) (sym at)
      ∙ ap (λ (v : Want). record {
        tiles = slice_set s.tiles t (record (tile_at s t) { router = router_after r (Put i) v learned });
        around = surroundings_after d.depth s.around (router_wiring d.shape t) v;
      }) w_is in
      let x : ℕ = input_channel d.shape t i in
      let event : Some (ForwardHead x (output_channel d.shape t o) flit) ≡ put_event d t r i (latch_of r i) =
      ap (λ (p : ℕ). Some (ForwardHead x (output_channel d.shape t p) flit)) free.1
      ∙ (ap (option_map (λ (p : ℕ). ForwardHead x (output_channel d.shape t p) flit)) (sym k.1)
      ∙ (ap (λ (z : Option Head). option_map (λ (p : ℕ). words_forwarded z x (output_channel d.shape t p) flit) (output_for d.shape t r i z)) (sym tells)
      ∙ ap (put_event d t r i) (sym full))) in
      subst (λ (e : Option NetEvent). Stays d tags opening g order router_then e) event
      (record {
        stands = subst (λ (x : State). Stands d tags opening x
            (put_ghost d net wired tags opening s g order st t t_in i i_in flit head full tells there.0 there.1 free.0 held) order) same new;
        may = can_forward d net wired tags opening s g order st t t_in i i_in flit head full tells there.0 there.1 free.0 held;
      })
