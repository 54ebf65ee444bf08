-- The head flits of requests on their way name words of the memory.
use Rattle.std.proofs.Common.{◌≡◌, ℕ, suc, ◌<◌, ◌≤◌, ◌==◌, Bool, true, false, List, [], ◌∷◌, map, Some, All, refl, sym, ◌∙◌, ap, subst, arith, slice_get}
use Rattle.std.specs.Prelude.{None, IfSome, ◌&&◌, if◌then◌else◌, option_to_list}
use Rattle.std.proofs.lemmas.Bool.{eqb-true}
use Rattle.std.proofs.lemmas.List.Elements.{All-nil, All-head, All-cons}
use Rattle.std.proofs.Math.Nat.{le-mul_of_pos_right}
use Rattle.torus.specs.Shape.{IsAccepted, tiles_of}
use Rattle.torus.specs.declared.shape.Class.{Class}
use Rattle.torus.specs.declared.shape.Class.TheVariants.{Request, Reply}
use Rattle.packet.specs.declared.heading.Head.{Head}
use Rattle.packet.specs.declared.kinds.Operation.{Operation}
use Rattle.packet.specs.declared.kinds.Packet.{Packet}
use Rattle.packet.specs.declared.kinds.Packet.TheVariants as packet
use Rattle.packet.specs.declared.kinds.Request.{Request as Asking}
use Rattle.packet.specs.declared.kinds.Response.{Response as Telling}
use Rattle.packet.specs.Flit.{field, class_numbered, Heading}
use Rattle.packet.specs.Spelling.{Spells, SpellsWith, IsTailShaped, heading_of, values_of, word_or_place, class_of}
use Rattle.packet.specs.Flits.{flits_of, head_of}
use Rattle.packet.proofs.Shapes.{TellsPacket-spelled, IsTailShaped-spelled}
use Rattle.one_order.specs.Observed.{list_at}
use Rattle.one_order.specs.Order.{LinearizationPoint}
use Rattle.flit_buffer.specs.Surroundings.{ring}
use Rattle.wormhole.specs.Net.{IsOn, Parcel, net_flits as flits_in}
use Rattle.wormhole.proofs.FlitsHold.{HoldsOfNoted, line_holds, sent_holds}
use Rattle.wormhole.proofs.Lists.{all_on, on_left, all_right}
use Rattle.channel_number.specs.Ports.{injection_channel, ejection_channel}
use Rattle.one_order.proofs.Parts.{issued_at}
use Rattle.one_order.specs.ProcessorRecord.{ProcessorRecord}
use Rattle.tile.specs.Tile.{Design}
use Rattle.core_laws.specs.Core.{State}
use Rattle.core_laws.specs.Delivery.{next_flit, asked_operation}
use Rattle.core_laws.specs.Asks.{flit_found}
use Rattle.core_laws.proofs.Projection.{net_of, request_parcel, response_parcel}
use Rattle.core_laws.proofs.ChannelFacts.{ejection_in}
use Rattle.core_laws.proofs.Networks.{network}
use Rattle.core_laws.proofs.NoZeroFlits.{joined_source}
use Rattle.core_laws.proofs.Parcels.{parcel_flits}
use Rattle.core_laws.proofs.TakesFound.{on_map}
use Rattle.core_laws.proofs.ValuesProper.{record_here}
use Rattle.core_laws.proofs.Stands.{Ghost, Stands, IsProperRequest, IsProperResponse, tile_at, flight_of, responses_from, unsent}

-- a head flit of a request names a word that a memory may have
abbrev pub NamesWord : ℕ → Type 0
NamesWord flit = IfSome (head_of flit) (λ head. head.class ≡ Request → field flit 0 32 < 65536)

names_where : (flit : ℕ) → ((field flit 63 1 == 1) ≡ true → class_numbered (field flit 57 1) ≡ Request → field flit 0 32 < 65536) → NamesWord flit
names_where flit h = by_bits (field flit 63 1 == 1) (field flit 61 1 == 1) h
  where
    by_bits : (a b : Bool) → (a ≡ true → class_numbered (field flit 57 1) ≡ Request → field flit 0 32 < 65536)
        → IfSome (if a && b then Some (record { destination = field flit 51 6; class = class_numbered (field flit 57 1) }) else None)
        (λ (x : Head). x.class ≡ Request → field flit 0 32 < 65536)
    by_bits true true h = h refl
    by_bits true false h = tt
    by_bits false b h = tt

-- no flit names nothing
none_names : NamesWord 0
unfolding field
none_names = tt

tail_names : (flits : List ℕ) → IsTailShaped flits → All NamesWord flits
tail_names [] h = All-nil NamesWord
tail_names (flit ∷ flits) h =
    All-cons NamesWord flit flits
    (names_where flit (λ e request. let k = eqb-true (field flit 63 1) 1 e in absurd (omega (arith, k, h.0))))
    (tail_names flits h.2)

head_place : (told : Heading) (vs : List ℕ) (h : ℕ) (t : List ℕ) → SpellsWith told vs (h ∷ t) → field h 0 32 ≡ told.place
head_place told [] h [] s = s.place
head_place told (v ∷ []) h (a ∷ b ∷ []) s = s.0.place
head_place told (v ∷ w ∷ []) h (a ∷ b ∷ c ∷ d ∷ []) s = s.0.place
head_place told vs h t s = absurd s

-- the flits of a packet name such a word, where as a request it is for one
packet_names : (p : Packet) (k : Parcel) → Spells p (k.head ∷ k.tail) → (class_of p ≡ Request → word_or_place p < 65536) → All NamesWord (flits_in k)
packet_names p k spelled low =
    let tells = TellsPacket-spelled p k.head k.tail spelled in
    All-cons NamesWord k.head k.tail
    (names_where k.head (λ _ request. subst (λ (x : ℕ). x < 65536) (sym (head_place (heading_of p) (values_of p) k.head k.tail spelled.bits))
    (low (sym tells.class ∙ request))))
    (tail_names k.tail (IsTailShaped-spelled p k.head k.tail spelled))

-- what holds of all images holds so of all items
all_mapped : {A B : Type 0} (f : A → B) (P : B → Type 0) (xs : List A) → ((i : ℕ) (y : B) → slice_get (map f xs) i ≡ Some y → P y) → All (λ x. P (f x)) xs
all_mapped f P [] h = All-nil (λ x. P (f x))
all_mapped f P (x ∷ xs) h = All-cons (λ z. P (f z)) x xs (h 0 (f x) refl) (all_mapped f P xs (λ i y there. h (suc i) y there))

module _ (d : Design) (accepted : IsAccepted d.shape) (few : d.words ≤ 65536) (tags : ℕ) (opening : List ℕ) (s : State) (g : Ghost)
    (order : List LinearizationPoint) (st : Stands d tags opening s g order) where
  abbrev IsLow : Operation → Type 0
  IsLow o = o.address < d.words

  asked_low : (b : ℕ) → All (λ (r : Asking). IsLow (asked_operation (tiles_of d.shape) r)) (list_at g.requests b)
  asked_low b = all_mapped (asked_operation (tiles_of d.shape)) IsLow (list_at g.requests b) (λ i o there.
      let f = flight_of d.words s g in
      let same = issued_at f b ∙ ap (λ (x : ProcessorRecord). x.issued) (record_here s.tiles b) in
      subst (λ (k : ℕ). o.address < k) (sym st.words)
      (st.flight.account.shown.addresses b i o (ap (λ xs. slice_get xs i) same ∙ (sym (ap (λ xs. slice_get xs i) (st.carries.issued b)) ∙ there))))

  request_names : (b : ℕ) → b < tiles_of d.shape → (k : Parcel) → IsOn k (g.net.notes (injection_channel d.shape b Request)).sent → All NamesWord (flits_in k)
  request_names b b_in k sent =
      let q = on_map (request_parcel d.shape) (list_at g.requests b) k (subst (λ (ks : List Parcel). IsOn k ks) (st.carries.requests_sent b b_in) sent) in
      let proper = all_on (λ r. IsProperRequest d r × (r.source ≡ b)) (list_at g.requests b) q.0 (st.carries.requests_proper b) q.1 in
      let low = all_on (λ (r : Asking). IsLow (asked_operation (tiles_of d.shape) r)) (list_at g.requests b) q.0 (asked_low b) q.1 in
      let flits : flits_of (packet.Request q.0) ≡ k.head ∷ k.tail = parcel_flits d.shape (packet.Request q.0) proper.0.spelled ∙ ap flits_in q.2 in
      let more = le-mul_of_pos_right {m = tiles_of d.shape} q.0.word (omega (arith, b_in)) in
      packet_names (packet.Request q.0) k (subst (Spells (packet.Request q.0)) flits proper.0.spelled) (λ _. omega (arith, low, more, few))

  response_names : (b : ℕ) → b < tiles_of d.shape → (k : Parcel) → IsOn k (g.net.notes (injection_channel d.shape b Reply)).sent → All NamesWord (flits_in k)
  response_names b b_in k sent =
      let responses : List Telling = responses_from b 0 (tile_at s b).bank.entries in
      let made : IsOn k (map (response_parcel d.shape) responses) =
      subst (λ (ks : List Parcel). IsOn k ks) (sym (st.carries.replies_sent b b_in))
      (on_left k (g.net.notes (injection_channel d.shape b Reply)).sent (map (response_parcel d.shape) (unsent (tile_at s b).bank.to_put responses)) sent) in
      let q = on_map (response_parcel d.shape) responses k made in
      let proper = all_on (λ r. IsProperResponse d r × (r.source ≡ b)) responses q.0 (st.carries.replies_proper b b_in) q.1 in
      let flits : flits_of (packet.Response q.0) ≡ k.head ∷ k.tail = parcel_flits d.shape (packet.Response q.0) proper.0.spelled ∙ ap flits_in q.2 in
      packet_names (packet.Response q.0) k (subst (Spells (packet.Response q.0)) flits proper.0.spelled)
      (λ request. let no : ◌≡◌ {A = Class} Reply Request = request in absurd (cc))

  by_class : (b : ℕ) → b < tiles_of d.shape → (class : Class) (k : Parcel) → IsOn k (g.net.notes (injection_channel d.shape b class)).sent
      → All NamesWord (flits_in k)
  by_class b b_in Request k sent = request_names b b_in k sent
  by_class b b_in Reply k sent = response_names b b_in k sent

  names : HoldsOfNoted NamesWord g.net
  names = sent_holds (net_of d) NamesWord g.net (network d accepted) st.lines st.routes (λ k parcel sent.
      let from = joined_source d k.source k.destination parcel.joined in
      by_class from.0 from.2 from.1 k (subst (λ (z : ℕ). IsOn k (g.net.notes z).sent) from.3 sent))

  first_names : (flits : List ℕ) → All NamesWord flits → NamesWord (next_flit flits)
  first_names [] h = none_names
  first_names (flit ∷ flits) h = All-head NamesWord flit flits h

  -- the flit that a bank finds names such a word
  pub bank_head : (t : ℕ) → t < tiles_of d.shape → NamesWord (flit_found s.around (ejection_channel d.shape t Request))
  bank_head t t_in =
      let x : ℕ = ejection_channel d.shape t Request in
      let line = line_holds (net_of d) NamesWord g.net x st.lines names in
      first_names (ring s.around.rings x).channel.flits
      (subst (λ (xs : List ℕ). All NamesWord xs) (st.mirrors.rings x (ejection_in d.shape t Request t_in)).flits
      (all_right NamesWord (option_to_list (g.net.lines x).latch) (g.net.lines x).flits line))
