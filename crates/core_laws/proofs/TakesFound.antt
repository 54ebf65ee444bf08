-- The reply that becomes whole at a processor is the first of its bank among those told to the processor.
use Rattle.std.proofs.Common.{◌≡◌, ℕ, ◌<◌, Bool, true, false, cond, List, [], ◌∷◌, ◌++◌, map, length, Option, Some, None, All, refl, sym, ◌∙◌, ap, ap₂, subst}
use Rattle.std.proofs.Common.{append_assoc, eq-eqb}
use Rattle.std.specs.Prelude.{◌&&◌}
use Rattle.std.proofs.lemmas.List.{map-append}
use Rattle.std.proofs.lemmas.List.Elements.{filter-append, All-filter}
use Rattle.torus.specs.Shape.{tiles_of}
use Rattle.torus.specs.declared.shape.Class.TheVariants.{Reply}
use Rattle.packet.specs.declared.kinds.Packet.{Packet}
use Rattle.packet.specs.declared.kinds.Packet.TheVariants as packet
use Rattle.packet.specs.declared.kinds.Response.{Response as Telling}
use Rattle.packet.specs.declared.assembler.Kind.{Kind}
use Rattle.packet.specs.declared.assembler.Offered.{Offered}
use Rattle.packet.specs.declared.assembler.Offered.TheVariants.{More, Whole as Complete, Refused}
use Rattle.packet.specs.Refusal.{refusal}
use Rattle.packet.specs.Reading.{packet_told}
use Rattle.packet.proofs.Told.{packet_told-spelled}
use Rattle.one_order.specs.Observed.{list_at}
use Rattle.one_order.specs.Order.{LinearizationPoint}
use Rattle.flit_buffer.specs.Surroundings.{ring}
use Rattle.wormhole.specs.Net.{Net, IsNet, Parcel, IsOn, net_flits as flits_in}
use Rattle.wormhole.specs.State.{NetState}
use Rattle.wormhole.specs.Events.{CanAccept, after}
use Rattle.wormhole.specs.Routes.{between}
use Rattle.wormhole.specs.Delivery.{whole}
use Rattle.wormhole.proofs.Lists.{all_on, on_left}
use Rattle.wormhole.proofs.Arrivals.{delivered}
use Rattle.one_order.specs.Flight.{Takes, is_told_alike, IsFound}
use Rattle.one_order.proofs.FirstPlaces.{first_there}
use Rattle.packet.specs.Flits.{is_tail, offered, offered_by, flits_of}
use Rattle.core_laws.specs.Heads.{carries_route}
use Rattle.channel_number.specs.Ports.{injection_channel, ejection_channel}
use Rattle.tile.specs.Tile.{Design}
use Rattle.core_laws.specs.Core.{State}
use Rattle.core_laws.proofs.Projection.{net_of, response_parcel}
use Rattle.core_laws.proofs.Parcels.{between_responses, one_response, parcel_flits, response_ends, same_response}
use Rattle.core_laws.proofs.ChannelFacts.{joined, joined_from, ejects_at, ejection_tile, ejection_in, is_tail_of, is_head_of, channels_of}
use Rattle.core_laws.proofs.Completes.{accepts, Completes, completes, sent_kept, accept_routes}
use Rattle.core_laws.proofs.ServesFound.{next_of_map, first_of_map}
use Rattle.core_laws.proofs.Stands.{Ghost, Stands, IsProperResponse, tile_at, flight_of, told_between, responses_from, unsent}

-- a flit that makes a packet whole is a tail, and the packet is what the flits tell
pub record TellsWhole (so_far : List ℕ) (flit : ℕ) (p : Packet) : Type 0 where
  pub tail : is_tail flit ≡ true
  pub told : packet_told (so_far ++ flit ∷ []) ≡ p

abbrev whole_in : Offered → Packet → Packet
whole_in (Complete p) d = p
whole_in More d = d
whole_in (Refused k) d = d

pub tells_whole : (so_far : List ℕ) (flit : ℕ) (p : Packet) → offered so_far flit ≡ Complete p → TellsWhole so_far flit p
unfolding offered
tells_whole so_far flit p h = by_refusal so_far flit p (refusal so_far flit) h
  where
    by_tail : (so_far : List ℕ) (flit : ℕ) (p : Packet) (b : Bool) → is_tail flit ≡ b → cond b (Complete (packet_told (so_far ++ flit ∷ []))) More ≡ Complete p
        → TellsWhole so_far flit p
    by_tail so_far flit p true is h = record { tail = is; told = ap (λ (o : Offered). whole_in o p) h }
    by_tail so_far flit p false is h = cc

    by_refusal : (so_far : List ℕ) (flit : ℕ) (p : Packet) (k : Option Kind) → offered_by k so_far flit ≡ Complete p → TellsWhole so_far flit p
    by_refusal so_far flit p None h = by_tail so_far flit p (is_tail flit) refl h
    by_refusal so_far flit p (Some k) h = cc

-- who is on a list of images is the image of one on the list
pub on_map : {A B : Type 0} (f : A → B) (xs : List A) (y : B) → IsOn y (map f xs) → (x : A) × IsOn x xs × (f x ≡ y)
on_map {A} {B} f xs y on = at f xs y on.0 on.1 on.2
  where
    at : {A B : Type 0} (f : A → B) (xs : List A) (y : B) (before after : List B) → map f xs ≡ before ++ y ∷ after → (x : A) × IsOn x xs × (f x ≡ y)
    at f [] y [] after e = absurd (cc)
    at f [] y (b ∷ before) after e = absurd (cc)
    at f (x ∷ xs) y [] after e = (x, ([], xs, refl), cc)
    at f (x ∷ xs) y (b ∷ before) after e =
        let q = at f xs y before after (cc) in (q.0, (x ∷ q.1.0, q.1.1, ap (λ ys. x ∷ ys) q.1.2), q.2)

own_told : (r : Telling) → told_between r.source r.destination (r ∷ []) ≡ r ∷ []
own_told r = ap₂ (λ (x y : Bool). cond (x && y) (r ∷ []) []) (eq-eqb r.source r.source refl) (eq-eqb r.destination r.destination refl)

module _ (d : Design) (net : IsNet (net_of d)) (tags : ℕ) (opening : List ℕ) (s : State) (g : Ghost) (order : List LinearizationPoint)
    (st : Stands d tags opening s g order)
    (p : ℕ) (p_in : p < tiles_of d.shape) (flit : ℕ) (more : List ℕ)
    (first : (ring s.around.rings (ejection_channel d.shape p Reply)).channel.flits ≡ flit ∷ more) where
  abbrev pub lane_in : ℕ
  lane_in = ejection_channel d.shape p Reply

  -- the network's event may happen
  pub can_accept : CanAccept (net_of d) (g.net.lines lane_in) lane_in flit more (carries_route flit)
  can_accept = record {
    here = subst (λ (n : ℕ). lane_in < n) (sym (channels_of d)) (ejection_in d.shape p Reply p_in);
    ejects = ejects_at d p Reply;
    first = (st.mirrors.rings lane_in (ejection_in d.shape p Reply p_in)).flits ∙ first;
    head = is_head_of d flit;
  }

  abbrev pub taken_net : NetState
  taken_net = after (net_of d) g.net (accepts lane_in flit more (carries_route flit))

  module _ (r : Telling) (is_whole : offered (tile_at s p).processor.so_far flit ≡ Complete (packet.Response r)) where
    pub tells : TellsWhole (tile_at s p).processor.so_far flit (packet.Response r)
    tells = tells_whole (tile_at s p).processor.so_far flit (packet.Response r) is_whole

    pub done : Completes (net_of d) g.net taken_net lane_in flit
    done = completes (net_of d) g.net lane_in flit more (carries_route flit) net st.lines st.routes can_accept (is_tail_of d flit ∙ tells.tail)

    -- the packet is a response that a bank made: the one that the processor has whole
    pub record ComesFrom : Type 0 where
      pub bank_in : r.source < tiles_of d.shape
      pub here : r.destination ≡ p
      pub proper : IsProperResponse d r
      pub packet_is : done.packet ≡ response_parcel d.shape r

    pub comes_from : ComesFrom
    comes_from =
        let joins = ap ((net_of d).joins done.packet.source) (sym done.destination) ∙ done.parcel.joined in
        let from = joined_from d done.packet.source p Reply joins in
        let b : ℕ = from.0 in
        let responses : List Telling = responses_from b 0 (tile_at s b).bank.entries in
        let sent : IsOn done.packet (g.net.notes (injection_channel d.shape b Reply)).sent =
        subst (λ (i : ℕ). IsOn done.packet (g.net.notes i).sent) from.2 done.sent in
        let made : IsOn done.packet (map (response_parcel d.shape) responses) =
        subst (λ (ks : List Parcel). IsOn done.packet ks) (sym (st.carries.replies_sent b from.1))
        (on_left done.packet (g.net.notes (injection_channel d.shape b Reply)).sent (map (response_parcel d.shape) (unsent (tile_at s b).bank.to_put responses))
        sent) in
        let q = on_map (response_parcel d.shape) responses done.packet made in
        let proper = all_on (λ r. IsProperResponse d r × (r.source ≡ b)) responses q.0 (st.carries.replies_proper b from.1) q.1 in
        let flits : flits_of (packet.Response q.0) ≡ (tile_at s p).processor.so_far ++ flit ∷ [] =
        parcel_flits d.shape (packet.Response q.0) proper.0.spelled
        ∙ (ap flits_in q.2 ∙ (done.flits ∙ ap (λ (xs : List ℕ). xs ++ flit ∷ []) (st.mirrors.takes_replies p p_in))) in
        let same : r ≡ q.0 = same_response r q.0
        (sym tells.told ∙ (ap packet_told (sym flits) ∙ packet_told-spelled (packet.Response q.0) (flits_of (packet.Response q.0)) proper.0.spelled)) in
        let is : IsProperResponse d r = subst (IsProperResponse d) (sym same) proper.0 in
        let packet_is : done.packet ≡ response_parcel d.shape r = sym q.2 ∙ ap (response_parcel d.shape) (sym same) in
        record {
          bank_in = is.source;
          here = ejection_tile d.shape r.destination p Reply Reply
              (sym (response_ends d.shape r).1 ∙ (ap (λ (k : Parcel). k.destination) (sym packet_is) ∙ done.destination));
          proper = is;
          packet_is = packet_is;
        }

    -- the response is the first of its bank among those told to the processor
    pub taken_first : (others : List Telling) × (told_between r.source p g.told ≡ r ∷ others)
    taken_first =
        let n : Net = net_of d in
        let R : Telling → Parcel = response_parcel d.shape in
        let from = comes_from in
        let b : ℕ = r.source in
        let i : ℕ = injection_channel d.shape b Reply in
        let taken : List Telling = told_between b p (list_at g.taken p) in
        let told : List Telling = told_between b p g.told in
        let responses : List Telling = responses_from b 0 (tile_at s b).bank.entries in
        let rest : List Parcel = map R (unsent (tile_at s b).bank.to_put responses) in
        let arrives = delivered n taken_net i lane_in (accept_routes n g.net lane_in flit more (carries_route flit) net st.lines st.routes can_accept)
        (joined d b p Reply from.bank_in p_in) in
        let own : told_between b p (r ∷ []) ≡ r ∷ [] = ap (λ (t : ℕ). told_between b t (r ∷ [])) (sym from.here) ∙ own_told r in
        let took : between i lane_in (whole taken_net lane_in) ≡ map R (taken ++ r ∷ []) =
        ap (between i lane_in) (done.whole_now
        ∙ (ap₂ (λ (ks : List Parcel) (k : Parcel). ks ++ k ∷ []) (st.carries.replies_whole p p_in) from.packet_is
        ∙ sym (map-append R (list_at g.taken p) (r ∷ []))))
        ∙ (between_responses d.shape b p (list_at g.taken p ++ r ∷ [])
        ∙ ap (map R) (filter-append _ (list_at g.taken p) (r ∷ []) ∙ ap (λ (qs : List Telling). taken ++ qs) own)) in
        let made : map R (taken ++ told) ≡ between i lane_in ((taken_net.notes i).sent ++ rest) =
        ap (map R) (sym (st.carries.told b p from.bank_in p_in)) ∙ (sym (between_responses d.shape b p responses)
        ∙ ap (between i lane_in) (st.carries.replies_sent b from.bank_in
        ∙ ap (λ (ks : List Parcel). ks ++ rest) (sym (sent_kept n g.net lane_in flit more (carries_route flit) i)))) in
        let all : map R (taken ++ told) ≡ map R (taken ++ r ∷ []) ++ (arrives.0 ++ between i lane_in rest) =
        made ∙ (filter-append _ (taken_net.notes i).sent rest
        ∙ (ap (λ (ks : List Parcel). ks ++ between i lane_in rest) (arrives.1 ∙ ap (λ (ks : List Parcel). ks ++ arrives.0) took)
        ∙ append_assoc (map R (taken ++ r ∷ [])) arrives.0 (between i lane_in rest))) in
        let left : map R told ≡ R r ∷ (arrives.0 ++ between i lane_in rest) = next_of_map R taken told r (arrives.0 ++ between i lane_in rest) all in
        let f = first_of_map R told (R r) (arrives.0 ++ between i lane_in rest) left in
        let every : All (λ q. IsProperResponse d q × (q.source ≡ b)) (taken ++ told) =
        subst (λ (qs : List Telling). All (λ q. IsProperResponse d q × (q.source ≡ b)) qs) (st.carries.told b p from.bank_in p_in)
        (All-filter _ (λ q. IsProperResponse d q × (q.source ≡ b)) responses (st.carries.replies_proper b from.bank_in)) in
        let proper = all_on (λ q. IsProperResponse d q × (q.source ≡ b)) (taken ++ told) f.first every
        (taken, f.others, ap (λ (qs : List Telling). taken ++ qs) f.is) in
        let same : f.first ≡ r = one_response d.shape f.first r proper.0.spelled from.proper.spelled f.same in
        (f.others, f.is ∙ ap (λ (q : Telling). q ∷ f.others) same)

    -- so the take is a move that is found, of this tile
    pub takes_found : IsFound (length opening) (flight_of d.words s g) (Takes r) × (r.destination ≡ p)
    takes_found =
        let from = comes_from in
        let f = taken_first in
        (first_there (is_told_alike r) g.told r f.0 (ap (λ (t : ℕ). told_between r.source t g.told) from.here ∙ f.1), from.here)
