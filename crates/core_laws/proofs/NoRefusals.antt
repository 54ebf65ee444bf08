-- No flit that a processor takes is refused by its assembler.
use Rattle.std.proofs.Common.{◌≡◌, ℕ, ◌<◌, List, ◌∷◌, ◌++◌, map, None, sym, ◌∙◌, ap, subst}
use Rattle.torus.specs.Shape.{tiles_of}
use Rattle.torus.specs.declared.shape.Class.TheVariants.{Reply}
use Rattle.packet.specs.declared.kinds.Packet.TheVariants as packet
use Rattle.packet.specs.declared.kinds.Response.{Response as Telling}
use Rattle.packet.specs.Refusal.{refusal}
use Rattle.packet.specs.Spelling.{Spells}
use Rattle.packet.proofs.Answered.{IsTaken-spelled}
use Rattle.one_order.specs.Order.{LinearizationPoint}
use Rattle.flit_buffer.specs.Surroundings.{ring}
use Rattle.wormhole.specs.Net.{IsNet, Parcel, IsOn, net_flits as flits_in}
use Rattle.wormhole.proofs.Lists.{all_on, on_left}
use Rattle.wormhole.proofs.Takes.{is_taken}
use Rattle.packet.specs.Flits.{flits_of}
use Rattle.core_laws.specs.Heads.{carries_route}
use Rattle.channel_number.specs.Ports.{injection_channel, ejection_channel}
use Rattle.tile.specs.Tile.{Design}
use Rattle.core_laws.specs.Core.{State}
use Rattle.core_laws.proofs.Projection.{net_of, response_parcel}
use Rattle.core_laws.proofs.Parcels.{parcel_flits}
use Rattle.core_laws.proofs.ChannelFacts.{joined_from}
use Rattle.core_laws.proofs.TakesFound.{can_accept, on_map}
use Rattle.core_laws.proofs.Stands.{Ghost, Stands, IsProperResponse, tile_at, responses_from, unsent}

module _ (d : Design) (net : IsNet (net_of d)) (tags : ℕ) (opening : List ℕ) (s : State) (g : Ghost) (order : List LinearizationPoint)
    (st : Stands d tags opening s g order)
    (p : ℕ) (p_in : p < tiles_of d.shape) (flit : ℕ) (more : List ℕ)
    (first : (ring s.around.rings (ejection_channel d.shape p Reply)).channel.flits ≡ flit ∷ more) where
  pub not_refused : refusal (tile_at s p).processor.so_far flit ≡ None
  not_refused =
      let x : ℕ = ejection_channel d.shape p Reply in
      let t = is_taken (net_of d) g.net x flit more (carries_route flit) net st.lines st.routes (can_accept d net tags opening s g order st p p_in flit more first) in
      let from = joined_from d t.packet.source p Reply (ap ((net_of d).joins t.packet.source) (sym t.destination) ∙ t.parcel.joined) in
      let b : ℕ = from.0 in
      let responses : List Telling = responses_from b 0 (tile_at s b).bank.entries in
      let sent : IsOn t.packet (g.net.notes (injection_channel d.shape b Reply)).sent = subst (λ (i : ℕ). IsOn t.packet (g.net.notes i).sent) from.2 t.sent in
      let made : IsOn t.packet (map (response_parcel d.shape) responses) =
      subst (λ (ks : List Parcel). IsOn t.packet ks) (sym (st.carries.replies_sent b from.1))
      (on_left t.packet (g.net.notes (injection_channel d.shape b Reply)).sent (map (response_parcel d.shape) (unsent (tile_at s b).bank.to_put responses))
      sent) in
      let q = on_map (response_parcel d.shape) responses t.packet made in
      let proper = all_on (λ r. IsProperResponse d r × (r.source ≡ b)) responses q.0 (st.carries.replies_proper b from.1) q.1 in
      let flits : flits_of (packet.Response q.0) ≡ (tile_at s p).processor.so_far ++ flit ∷ t.rest =
      parcel_flits d.shape (packet.Response q.0) proper.0.spelled
      ∙ (ap flits_in q.2 ∙ (t.flits ∙ ap (λ (xs : List ℕ). xs ++ flit ∷ t.rest) (st.mirrors.takes_replies p p_in))) in
      (IsTaken-spelled (packet.Response q.0) (tile_at s p).processor.so_far flit t.rest (subst (Spells (packet.Response q.0)) flits proper.0.spelled)).taken
