-- An end takes a flit from an ejection_channel channel: what its assembler answers, and how the channels change.
use Rattle.std.proofs.Common.{◌≡◌, ◌≢◌, ⊎_elim, ℕ, ◌+◌, ◌<◌, Bool, true, false, cond, List, [], ◌∷◌, ◌++◌, map, length, Option, refl, sym, ◌∙◌, ap, subst}
use Rattle.std.proofs.Common.{arith}
use Rattle.std.proofs.lemmas.Bool.{cases_eq}
use Rattle.torus.specs.Shape.{Shape, tiles_of}
use Rattle.torus.specs.declared.shape.Class.{Class}
use Rattle.torus.specs.declared.shape.Class.TheVariants.{Request, Reply}
use Rattle.packet.specs.declared.kinds.Packet.{Packet}
use Rattle.packet.specs.declared.kinds.Packet.TheVariants as packet
use Rattle.packet.specs.declared.kinds.Request.{Request as Asking}
use Rattle.packet.specs.declared.kinds.Response.{Response as Telling}
use Rattle.packet.specs.declared.assembler.Kind.{Kind}
use Rattle.packet.specs.declared.assembler.Offered.TheVariants.{More, Whole as Complete}
use Rattle.packet.specs.Reading.{packet_told}
use Rattle.packet.specs.Spelling.{Spells}
use Rattle.packet.proofs.Told.{packet_told-spelled}
use Rattle.packet.proofs.Answered.{IsTaken-spelled}
use Rattle.one_order.specs.Observed.{list_at}
use Rattle.one_order.specs.Order.{LinearizationPoint}
use Rattle.channel_number.specs.Order.{channel_count, channel_at}
use Rattle.dateline_route.specs.declared.channel.Channel.{Channel}
use Rattle.flit_buffer.specs.Channel.{CanTake, rest}
use Rattle.flit_buffer.specs.Places.{IsRing, take_from_ring}
use Rattle.flit_buffer.specs.Surroundings.{ring}
use Rattle.flit_buffer.proofs.RingLaws.{take_ring}
use Rattle.wormhole.specs.Net.{Net, IsNet, Parcel, IsOn, has_no_flit, net_flits as flits_in}
use Rattle.wormhole.specs.State.{NetLine as Lane, NetState, update}
use Rattle.wormhole.specs.Events.{accepted, after, CanAccept, CanHappen}
use Rattle.wormhole.specs.Delivery.{whole, accept, StayWhole}
use Rattle.wormhole.proofs.Changes.{update_same, update_other}
use Rattle.wormhole.proofs.Lists.{all_on, on_left}
use Rattle.wormhole.proofs.Takes.{is_taken}
use Rattle.wormhole.proofs.Wholes.{none_arrives}
use Rattle.packet.specs.Flits.{is_tail, offered, offered_by, flits_of}
use Rattle.core_laws.specs.Heads.{carries_route}
use Rattle.channel_number.specs.Ports.{injection_channel, ejection_channel}
use Rattle.tile.specs.Tile.{Design}
use Rattle.core_laws.specs.Core.{State}
use Rattle.core_laws.proofs.Projection.{net_of, request_parcel, response_parcel}
use Rattle.core_laws.proofs.Parcels.{parcel_flits}
use Rattle.core_laws.proofs.ChannelFacts.{channels_of, ejects_at, ejection_is, ejection_in, joined_from, is_tail_of, is_head_of}
use Rattle.core_laws.proofs.Completes.{accepts}
use Rattle.core_laws.proofs.TakesFound.{on_map}
use Rattle.core_laws.proofs.Stands.{Ghost, Stands, IsLane, IsProperRequest, IsProperResponse, tile_at, responses_from, unsent}

pub ejection_class : (s : Shape) (t u : ℕ) (c e : Class) → ejection_channel s t c ≡ ejection_channel s u e → c ≡ e
ejection_class s t u c e h = ap (λ (x : Channel). x.class) (sym (ejection_is s t c) ∙ (ap (channel_at s) h ∙ ejection_is s u e))

-- a flit after those so far goes on with a packet that is spelled, and is a tail just at its end
pub record GoesOn (p : Packet) (so_far : List ℕ) (flit : ℕ) : Type 0 where
  pub left : List ℕ
  pub spelled : Spells p (so_far ++ flit ∷ left)
  pub tail : is_tail flit ≡ has_no_flit left

empty_only : (xs : List ℕ) → has_no_flit xs ≡ true → xs ≡ []
empty_only [] h = refl
empty_only (x ∷ xs) h = cc

pub is_more : (p : Packet) (so_far : List ℕ) (flit : ℕ) → GoesOn p so_far flit → is_tail flit ≡ false → offered so_far flit ≡ More
unfolding offered
is_more p so_far flit g h =
    ap (λ (k : Option Kind). offered_by k so_far flit) (IsTaken-spelled p so_far flit g.left g.spelled).taken
    ∙ ap (λ (b : Bool). cond b (Complete (packet_told (so_far ++ flit ∷ []))) More) h

pub is_complete : (p : Packet) (so_far : List ℕ) (flit : ℕ) → GoesOn p so_far flit → is_tail flit ≡ true → offered so_far flit ≡ Complete p
unfolding offered
is_complete p so_far flit g h =
    let none : g.left ≡ [] = empty_only g.left (sym g.tail ∙ h) in
    ap (λ (k : Option Kind). offered_by k so_far flit) (IsTaken-spelled p so_far flit g.left g.spelled).taken
    ∙ (ap (λ (b : Bool). cond b (Complete (packet_told (so_far ++ flit ∷ []))) More) h
    ∙ ap Complete (packet_told-spelled p (so_far ++ flit ∷ []) (subst (λ (xs : List ℕ). Spells p (so_far ++ flit ∷ xs)) none g.spelled)))

-- how an accept changes the lines and the notes
pub lines_accepts : (n : Net) (s : NetState) (x flit : ℕ) (more : List ℕ) (bit : Bool)
    → (after n s (accepts x flit more bit)).lines ≡ update s.lines x (accepted n flit more (s.lines x))
lines_accepts n s x flit more true = refl
lines_accepts n s x flit more false = refl

pub notes_other : (n : Net) (s : NetState) (x flit : ℕ) (more : List ℕ) (bit : Bool) (z : ℕ) → z ≢ x → (after n s (accepts x flit more bit)).notes z ≡ s.notes z
notes_other n s x flit more true z other = update_other s.notes x _ z other
notes_other n s x flit more false z other = update_other s.notes x _ z other

can_happen : (n : Net) (s : NetState) (x flit : ℕ) (more : List ℕ) (bit : Bool) → CanAccept n (s.lines x) x flit more bit
    → CanHappen n s.lines (accepts x flit more bit)
can_happen n s x flit more true c = c
can_happen n s x flit more false c = c

same_accept : (x flit : ℕ) (more : List ℕ) (bit : Bool) → accept bit x flit more ≡ accepts x flit more bit
same_accept x flit more true = refl
same_accept x flit more false = refl

module _ (d : Design) (net : IsNet (net_of d)) (tags : ℕ) (opening : List ℕ) (s : State) (g : Ghost) (order : List LinearizationPoint)
    (st : Stands d tags opening s g order)
    (t : ℕ) (t_in : t < tiles_of d.shape) (class : Class) (flit : ℕ) (more : List ℕ)
    (first : (ring s.around.rings (ejection_channel d.shape t class)).channel.flits ≡ flit ∷ more) where
  abbrev pub n : Net
  n = net_of d

  abbrev pub lane : ℕ
  lane = ejection_channel d.shape t class

  abbrev pub taken_net : NetState
  taken_net = after n g.net (accepts lane flit more (carries_route flit))

  pub lane_in : lane < channel_count d.shape
  lane_in = ejection_in d.shape t class t_in

  pub may_accept : CanAccept n (g.net.lines lane) lane flit more (carries_route flit)
  may_accept = record {
    here = subst (λ (k : ℕ). lane < k) (sym (channels_of d)) lane_in;
    ejects = ejects_at d t class;
    first = (st.mirrors.rings lane lane_in).flits ∙ first;
    head = is_head_of d flit;
  }

  pub may_happen : CanHappen n g.net.lines (accepts lane flit more (carries_route flit))
  may_happen = can_happen n g.net lane flit more (carries_route flit) may_accept

  abbrev pub new_line : Lane
  new_line = accepted n flit more (g.net.lines lane)

  pub line_here : taken_net.lines lane ≡ new_line
  line_here = ap (λ (f : ℕ → Lane). f lane) (lines_accepts n g.net lane flit more (carries_route flit)) ∙ update_same g.net.lines lane new_line

  pub line_other : (z : ℕ) → z ≢ lane → taken_net.lines z ≡ g.net.lines z
  line_other z other = ap (λ (f : ℕ → Lane). f z) (lines_accepts n g.net lane flit more (carries_route flit)) ∙ update_other g.net.lines lane new_line z other

  pub line_kept : {A : Type 0} (f : Lane → A) → f new_line ≡ f (g.net.lines lane) → (z : ℕ) → f (taken_net.lines z) ≡ f (g.net.lines z)
  line_kept f same z = ⊎_elim
      (λ (h : z ≡ lane). ap (λ (w : ℕ). f (taken_net.lines w)) h ∙ (ap f line_here ∙ (same ∙ ap (λ (w : ℕ). f (g.net.lines w)) (sym h))))
      (λ (other : z ≢ lane). ap f (line_other z other))
      (cases_eq z lane)

  pub taken_ring : IsRing d.depth (take_from_ring d.depth (ring s.around.rings lane))
  taken_ring =
      let some : CanTake (ring s.around.rings lane).channel = rw first (let l : 0 < length (flit ∷ more) = omega arith in l) in
      take_ring d.depth (ring s.around.rings lane) (st.rings lane (subst (λ (k : ℕ). lane < k) (sym st.mirrors.count) lane_in)) some

  pub taken_lane : IsLane (take_from_ring d.depth (ring s.around.rings lane)).channel (taken_net.lines lane)
  taken_lane =
      let old = st.mirrors.rings lane lane_in in
      record {
        flits = ap (λ (l : Lane). l.flits) line_here ∙ ap rest (sym first);
        held = ap (λ (l : Lane). l.held) line_here ∙ old.held;
        returning = ap (λ (l : Lane). l.returning) line_here ∙ ap (λ (k : ℕ). k + 1) old.returning;
      }

  -- the flits so far after a flit that is no tail, or is one
  pub so_far_now : (b : Bool) → is_tail flit ≡ b → (taken_net.lines lane).so_far ≡ cond b [] ((g.net.lines lane).so_far ++ flit ∷ [])
  so_far_now b is = ap (λ (l : Lane). l.so_far) line_here ∙ ap (λ (c : Bool). cond c [] ((g.net.lines lane).so_far ++ flit ∷ [])) (is_tail_of d flit ∙ is)

  -- a flit that is no tail makes no packet whole
  pub none_whole : is_tail flit ≡ false → StayWhole n g.net taken_net
  none_whole body = λ z ejects.
      ap (λ e. whole (after n g.net e) z) (sym (same_accept lane flit more (carries_route flit)))
      ∙ none_arrives n g.net lane flit more (carries_route flit) net st.lines st.routes may_accept (is_tail_of d flit ∙ body) z ejects

-- a flit that a processor takes goes on with a response
pub reply_goes_on : (d : Design) (net : IsNet (net_of d)) (tags : ℕ) (opening : List ℕ) (s : State) (g : Ghost) (order : List LinearizationPoint)
    (st : Stands d tags opening s g order)
    (p : ℕ) (p_in : p < tiles_of d.shape) (flit : ℕ) (more : List ℕ)
    (first : (ring s.around.rings (ejection_channel d.shape p Reply)).channel.flits ≡ flit ∷ more)
    → (r : Telling) × GoesOn (packet.Response r) (tile_at s p).processor.so_far flit
reply_goes_on d net tags opening s g order st p p_in flit more first =
    let x : ℕ = ejection_channel d.shape p Reply in
    let t = is_taken (net_of d) g.net x flit more (carries_route flit) net st.lines st.routes
    (may_accept d net tags opening s g order st p p_in Reply flit more first) in
    let from = joined_from d t.packet.source p Reply (ap ((net_of d).joins t.packet.source) (sym t.destination) ∙ t.parcel.joined) in
    let b : ℕ = from.0 in
    let responses : List Telling = responses_from b 0 (tile_at s b).bank.entries in
    let sent : IsOn t.packet (g.net.notes (injection_channel d.shape b Reply)).sent = subst (λ (i : ℕ). IsOn t.packet (g.net.notes i).sent) from.2 t.sent in
    let made : IsOn t.packet (map (response_parcel d.shape) responses) =
    subst (λ (ks : List Parcel). IsOn t.packet ks) (sym (st.carries.replies_sent b from.1))
    (on_left t.packet (g.net.notes (injection_channel d.shape b Reply)).sent (map (response_parcel d.shape) (unsent (tile_at s b).bank.to_put responses))
    sent) in
    let q = on_map (response_parcel d.shape) responses t.packet made in
    let proper = all_on (λ r. IsProperResponse d r × (r.source ≡ b)) responses q.0 (st.carries.replies_proper b from.1) q.1 in
    let flits : flits_of (packet.Response q.0) ≡ (tile_at s p).processor.so_far ++ flit ∷ t.rest =
    parcel_flits d.shape (packet.Response q.0) proper.0.spelled
    ∙ (ap flits_in q.2 ∙ (t.flits ∙ ap (λ (xs : List ℕ). xs ++ flit ∷ t.rest) (st.mirrors.takes_replies p p_in))) in
    (q.0, record { left = t.rest; spelled = subst (Spells (packet.Response q.0)) flits proper.0.spelled; tail = sym (is_tail_of d flit) ∙ t.tail })

-- a flit that a bank takes goes on with a request
pub request_goes_on : (d : Design) (net : IsNet (net_of d)) (tags : ℕ) (opening : List ℕ) (s : State) (g : Ghost) (order : List LinearizationPoint)
    (st : Stands d tags opening s g order)
    (b : ℕ) (b_in : b < tiles_of d.shape) (flit : ℕ) (more : List ℕ)
    (first : (ring s.around.rings (ejection_channel d.shape b Request)).channel.flits ≡ flit ∷ more)
    → (r : Asking) × GoesOn (packet.Request r) (tile_at s b).bank.so_far flit
request_goes_on d net tags opening s g order st b b_in flit more first =
    let x : ℕ = ejection_channel d.shape b Request in
    let t = is_taken (net_of d) g.net x flit more (carries_route flit) net st.lines st.routes
    (may_accept d net tags opening s g order st b b_in Request flit more first) in
    let from = joined_from d t.packet.source b Request (ap ((net_of d).joins t.packet.source) (sym t.destination) ∙ t.parcel.joined) in
    let p : ℕ = from.0 in
    let sent : IsOn t.packet (g.net.notes (injection_channel d.shape p Request)).sent = subst (λ (i : ℕ). IsOn t.packet (g.net.notes i).sent) from.2 t.sent in
    let made : IsOn t.packet (map (request_parcel d.shape) (list_at g.requests p)) =
    subst (λ (ks : List Parcel). IsOn t.packet ks) (st.carries.requests_sent p from.1) sent in
    let q = on_map (request_parcel d.shape) (list_at g.requests p) t.packet made in
    let proper = all_on (λ r. IsProperRequest d r × (r.source ≡ p)) (list_at g.requests p) q.0 (st.carries.requests_proper p) q.1 in
    let flits : flits_of (packet.Request q.0) ≡ (tile_at s b).bank.so_far ++ flit ∷ t.rest =
    parcel_flits d.shape (packet.Request q.0) proper.0.spelled
    ∙ (ap flits_in q.2 ∙ (t.flits ∙ ap (λ (xs : List ℕ). xs ++ flit ∷ t.rest) (st.mirrors.takes_requests b b_in))) in
    (q.0, record { left = t.rest; spelled = subst (Spells (packet.Request q.0)) flits proper.0.spelled; tail = sym (is_tail_of d flit) ∙ t.tail })
