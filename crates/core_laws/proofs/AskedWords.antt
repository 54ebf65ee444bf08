-- What agents find in a state that stands is as they ask.
use Rattle.std.proofs.Common.{◌≡◌, ◌≢◌, ℕ, ◌<◌, ◌==◌, Bool, true, false, List, [], ◌∷◌, map, length, Some, None, All, refl, sym, ◌∙◌, ap, subst, arith}
use Rattle.std.proofs.Common.{slice_get, is_none, if◌then◌else◌}
use Rattle.std.specs.Prelude.{IfSome, ◌&&◌, option_to_list}
use Rattle.std.proofs.lemmas.Bool.{eqb-true}
use Rattle.std.proofs.lemmas.List.Elements.{All-nil, All-head, All-cons}
use Rattle.torus.specs.Shape.{Shape, IsAccepted, tiles_of, dims_of}
use Rattle.torus.specs.declared.shape.Class.{Class}
use Rattle.torus.specs.declared.shape.Class.TheVariants.{Request, Reply}
use Rattle.torus.specs.declared.step.Choice.TheVariants as choice
use Rattle.packet.specs.declared.heading.Head.{Head}
use Rattle.packet.specs.declared.kinds.Packet.{Packet}
use Rattle.packet.specs.declared.kinds.Packet.TheVariants as packet
use Rattle.packet.specs.declared.kinds.Request.{Request as Asking}
use Rattle.packet.specs.declared.kinds.Response.{Response as Telling}
use Rattle.packet.specs.declared.assembler.Offered.{Offered}
use Rattle.packet.specs.declared.assembler.Offered.TheVariants.{More, Whole as Complete, Refused}
use Rattle.packet.specs.Flit.{field, class_numbered}
use Rattle.packet.specs.Spelling.{Spells, IsTailShaped, destination_of}
use Rattle.packet.specs.Flits.{is_tail, offered, flits_of}
use Rattle.packet.proofs.Shapes.{TellsPacket-spelled, IsTailShaped-spelled}
use Rattle.packet.proofs.Spelled.{IsSpellable-spelled}
use Rattle.one_order.specs.Observed.{list_at}
use Rattle.one_order.specs.Order.{LinearizationPoint}
use Rattle.flit_buffer.specs.declared.want.Want.TheVariants.{Take}
use Rattle.flit_buffer.specs.Surroundings.{ring}
use Rattle.wormhole.specs.Net.{IsNet, IsOn, Parcel, net_flits as flits_in}
use Rattle.wormhole.proofs.FlitsHold.{HoldsOfNoted, line_holds, sent_holds}
use Rattle.wormhole.proofs.Lists.{all_on, on_left, all_right}
use Rattle.channel_number.specs.Ports.{port_count, injection_channel, ejection_channel, input_channel}
use Rattle.home_bank.specs.BankTable.{bank_wants, is_nil}
use Rattle.one_order.specs.ProcessorRecord.{ProcessorRecord}
use Rattle.one_order.specs.Flight.{show, told_place}
use Rattle.one_order.proofs.Parts.{tags_of, tags_at, issued_at}
use Rattle.router.specs.Table.{NamesTile}
use Rattle.tile.specs.Tile.{Design, TileState}
use Rattle.core_laws.specs.Core.{State}
use Rattle.core_laws.specs.Delivery.{next_flit}
use Rattle.core_laws.specs.Asks.{flit_found, IsNextFlit, AnswersHeld, IsResponseTo, AsksHere, IsRequestTo, RouterAsks}
use Rattle.core_laws.proofs.Projection.{net_of, request_parcel, response_parcel}
use Rattle.core_laws.proofs.Networks.{network}
use Rattle.core_laws.proofs.NoZeroFlits.{joined_source}
use Rattle.core_laws.proofs.Parcels.{parcel_flits}
use Rattle.core_laws.proofs.TakesFound.{on_map, takes_found, comes_from}
use Rattle.core_laws.proofs.TakesWhole as whole
use Rattle.core_laws.proofs.Accepting.{GoesOn, is_more, is_complete, reply_goes_on, request_goes_on}
use Rattle.core_laws.proofs.ServesFound.{serves_found}
use Rattle.core_laws.proofs.QuietSteps.{both_true, if_true, none_there}
use Rattle.core_laws.proofs.ValuesProper.{record_here}
use Rattle.core_laws.proofs.Stands.{Ghost, Stands, IsProperRequest, IsProperResponse, tile_at, flight_of, responses_from, unsent}

-- a flit names a tile where, as a head flit, it is for one
pub names_where : (s : Shape) (flit : ℕ) → ((field flit 63 1 == 1) ≡ true → field flit 51 6 < tiles_of s) → NamesTile s flit
names_where s flit h = by_bits (field flit 63 1 == 1) (field flit 61 1 == 1) h
  where
    by_bits : (a b : Bool) → (a ≡ true → field flit 51 6 < tiles_of s)
        → IfSome (if a && b then Some (record { destination = field flit 51 6; class = class_numbered (field flit 57 1) }) else None)
        (λ (x : Head). x.destination < tiles_of s)
    by_bits true true h = h refl
    by_bits true false h = tt
    by_bits false b h = tt

-- no head flit follows in a packet
tail_names : (s : Shape) (flits : List ℕ) → IsTailShaped flits → All (NamesTile s) flits
tail_names s [] h = All-nil (NamesTile s)
tail_names s (flit ∷ flits) h =
    All-cons (NamesTile s) flit flits
    (names_where s flit (λ e. let k = eqb-true (field flit 63 1) 1 e in absurd (omega (arith, k, h.0))))
    (tail_names s flits h.2)

-- the flits of a packet to a tile name it
packet_names : (s : Shape) (p : Packet) (k : Parcel) → Spells p (k.head ∷ k.tail) → destination_of p < tiles_of s → All (NamesTile s) (flits_in k)
packet_names s p k spelled low =
    let tells = TellsPacket-spelled p k.head k.tail spelled in
    All-cons (NamesTile s) k.head k.tail
    (names_where s k.head (λ _. subst (λ (x : ℕ). x < tiles_of s) (sym tells.destination) low))
    (tail_names s k.tail (IsTailShaped-spelled p k.head k.tail spelled))

-- no flit names nothing
none_names : (s : Shape) → NamesTile s 0
unfolding field
none_names s = tt

-- the first of a channel's flits
first_there : (flits : List ℕ) → next_flit flits ≢ 0 → (more : List ℕ) × (flits ≡ next_flit flits ∷ more)
first_there [] some = absurd (some refl)
first_there (flit ∷ flits) some = (flits, refl)

-- a flit that goes on with a packet is taken, and makes whole what passes
next_by : (passes : Packet → Type 0) (so_far : List ℕ) (flit : ℕ) (p : Packet) → GoesOn p so_far flit
    → (offered so_far flit ≡ Complete p → passes p) → (last : Bool) → is_tail flit ≡ last → IsNextFlit passes so_far flit
next_by passes so_far flit p goes is true tail =
    let done = is_complete p so_far flit goes tail in
    record {
      taken = λ kind refused. let e : ◌≡◌ {A = Offered} (Complete p) (Refused kind) = sym done ∙ refused in absurd (cc);
      whole = λ q told. let e : ◌≡◌ {A = Offered} (Complete p) (Complete q) = sym done ∙ told in subst passes (cc) (is done);
    }
next_by passes so_far flit p goes is false tail =
    let more = is_more p so_far flit goes tail in
    record {
      taken = λ kind refused. let e : ◌≡◌ {A = Offered} More (Refused kind) = sym more ∙ refused in absurd (cc);
      whole = λ q told. let e : ◌≡◌ {A = Offered} More (Complete q) = sym more ∙ told in absurd (cc);
    }

module _ (d : Design) (accepted : IsAccepted d.shape) (tags : ℕ) (opening : List ℕ) (s : State) (g : Ghost) (order : List LinearizationPoint)
    (st : Stands d tags opening s g order) where
  net : IsNet (net_of d)
  net = network d accepted

  request_names : (b : ℕ) → b < tiles_of d.shape → (k : Parcel) → IsOn k (g.net.notes (injection_channel d.shape b Request)).sent
      → All (NamesTile d.shape) (flits_in k)
  request_names b b_in k sent =
      let q = on_map (request_parcel d.shape) (list_at g.requests b) k (subst (λ (ks : List Parcel). IsOn k ks) (st.carries.requests_sent b b_in) sent) in
      let proper = all_on (λ r. IsProperRequest d r × (r.source ≡ b)) (list_at g.requests b) q.0 (st.carries.requests_proper b) q.1 in
      let flits : flits_of (packet.Request q.0) ≡ k.head ∷ k.tail = parcel_flits d.shape (packet.Request q.0) proper.0.spelled ∙ ap flits_in q.2 in
      packet_names d.shape (packet.Request q.0) k (subst (Spells (packet.Request q.0)) flits proper.0.spelled) proper.0.destination

  response_names : (b : ℕ) → b < tiles_of d.shape → (k : Parcel) → IsOn k (g.net.notes (injection_channel d.shape b Reply)).sent
      → All (NamesTile d.shape) (flits_in k)
  response_names b b_in k sent =
      let responses : List Telling = responses_from b 0 (tile_at s b).bank.entries in
      let made : IsOn k (map (response_parcel d.shape) responses) =
      subst (λ (ks : List Parcel). IsOn k ks) (sym (st.carries.replies_sent b b_in))
      (on_left k (g.net.notes (injection_channel d.shape b Reply)).sent (map (response_parcel d.shape) (unsent (tile_at s b).bank.to_put responses)) sent) in
      let q = on_map (response_parcel d.shape) responses k made in
      let proper = all_on (λ r. IsProperResponse d r × (r.source ≡ b)) responses q.0 (st.carries.replies_proper b b_in) q.1 in
      let flits : flits_of (packet.Response q.0) ≡ k.head ∷ k.tail = parcel_flits d.shape (packet.Response q.0) proper.0.spelled ∙ ap flits_in q.2 in
      packet_names d.shape (packet.Response q.0) k (subst (Spells (packet.Response q.0)) flits proper.0.spelled) proper.0.destination

  by_class : (b : ℕ) → b < tiles_of d.shape → (class : Class) (k : Parcel) → IsOn k (g.net.notes (injection_channel d.shape b class)).sent
      → All (NamesTile d.shape) (flits_in k)
  by_class b b_in Request k sent = request_names b b_in k sent
  by_class b b_in Reply k sent = response_names b b_in k sent

  names : HoldsOfNoted (NamesTile d.shape) g.net
  names = sent_holds (net_of d) (NamesTile d.shape) g.net net st.lines st.routes (λ k parcel sent.
      let from = joined_source d k.source k.destination parcel.joined in
      by_class from.0 from.2 from.1 k (subst (λ (z : ℕ). IsOn k (g.net.notes z).sent) from.3 sent))

  first_names : (flits : List ℕ) → All (NamesTile d.shape) flits → NamesTile d.shape (next_flit flits)
  first_names [] h = none_names d.shape
  first_names (flit ∷ flits) h = All-head (NamesTile d.shape) flit flits h

  -- the flits that a router finds name tiles
  pub router_asks : (t : ℕ) → ((i : ℕ) → i < port_count (dims_of d.shape) → input_channel d.shape t i < length s.around.rings) → RouterAsks d t s.around
  router_asks t within = record {
    flits = λ i i_in.
        let x : ℕ = input_channel d.shape t i in
        let line = line_holds (net_of d) (NamesTile d.shape) g.net x st.lines names in
        let lane = st.mirrors.rings x (subst (λ (k : ℕ). x < k) st.mirrors.count (within i i_in)) in
        first_names (ring s.around.rings x).channel.flits
        (subst (λ (xs : List ℕ). All (NamesTile d.shape) xs) lane.flits
        (all_right (NamesTile d.shape) (option_to_list (g.net.lines x).latch) (g.net.lines x).flits line));
  }

  -- a response that is whole is to an operation that holds its tag
  held : (t : ℕ) → t < tiles_of d.shape → (flit : ℕ) (more : List ℕ) → (ring s.around.rings (ejection_channel d.shape t Reply)).channel.flits ≡ flit ∷ more
      → (r : Telling) → offered (tile_at s t).processor.so_far flit ≡ Complete (packet.Response r)
      → AnswersHeld (tiles_of d.shape) t (tile_at s t).processor.operations r
  held t t_in flit more first r told =
      let f = flight_of d.words s g in
      let found = takes_found d net tags opening s g order st t t_in flit more first r told in
      let from = comes_from d net tags opening s g order st t t_in flit more first r told in
      let q = st.flight.sound.responses (told_place f.told r) r found.0 in
      let same : ◌≡◌ {A = ProcessorRecord} _ (tile_at s t).processor.operations = record_here s.tiles t in
      let holds = subst (λ (u : ℕ). slice_get (list_at (tags_of f) u) r.tag.0 ≡ Some (Some (record { 0 = q.index }))) found.1 q.holds in
      let below = subst (λ (u : ℕ). q.index < length (list_at (show f).issued u)) found.1 (st.flight.sound.held r.destination r.tag.0 q.index q.holds).0 in
      record {
        destination = found.1;
        bank = from.bank_in;
        index = q.index;
        holds = sym (ap (λ xs. slice_get xs r.tag.0) (tags_at f t ∙ ap (λ (b : ProcessorRecord). b.tags) same)) ∙ holds;
        issued = subst (λ (k : ℕ). q.index < k) (ap length (issued_at f t) ∙ ap (λ (b : ProcessorRecord). length b.issued) same) below;
      }

  -- the flit that a processor finds is the next of a response to it
  pub processor_finds : (t : ℕ) → t < tiles_of d.shape → flit_found s.around (ejection_channel d.shape t Reply) ≢ 0
      → IsNextFlit (IsResponseTo (tiles_of d.shape) t (tile_at s t).processor.operations) (tile_at s t).processor.so_far
      (flit_found s.around (ejection_channel d.shape t Reply))
  processor_finds t t_in some =
      let flit : ℕ = flit_found s.around (ejection_channel d.shape t Reply) in
      let first = first_there (ring s.around.rings (ejection_channel d.shape t Reply)).channel.flits some in
      let goes = reply_goes_on d net tags opening s g order st t t_in flit first.0 first.1 in
      next_by (IsResponseTo (tiles_of d.shape) t (tile_at s t).processor.operations) (tile_at s t).processor.so_far flit (packet.Response goes.0) goes.1
      (λ told. held t t_in flit first.0 first.1 goes.0 told) (is_tail flit) refl

  -- a request that waits is of a word of its bank
  pub waiting_here : (t : ℕ) (r : Asking) → (tile_at s t).bank.waiting ≡ Some r → AsksHere (tiles_of d.shape) t d.words r
  waiting_here t r waits =
      let is = st.carries.waiting_proper t r waits in
      let found = serves_found d net tags opening s g order st t r waits in
      record {
        destination = is.1;
        source = is.0.source;
        word = found.1.1;
        spellable = IsSpellable-spelled (packet.Request r) (flits_of (packet.Request r)) is.0.spelled;
      }

  -- a request that becomes whole is of a word of its bank: it is the one that waits after the take
  whole_here : (t : ℕ) (t_in : t < tiles_of d.shape) (flit : ℕ) (more : List ℕ)
      (first : (ring s.around.rings (ejection_channel d.shape t Request)).channel.flits ≡ flit ∷ more)
      (none : (tile_at s t).bank.waiting ≡ None) (idle : (tile_at s t).bank.to_put ≡ []) (r : Asking)
      → offered (tile_at s t).bank.so_far flit ≡ Complete (packet.Request r)
      → (last : Bool) → is_tail flit ≡ last → AsksHere (tiles_of d.shape) t d.words r
  whole_here t t_in flit more first none idle r told true tail =
      let c = whole.comes_from d net tags opening s g order st t t_in flit more first tail none idle in
      let after = whole.whole_stands d net tags opening s g order st t t_in flit more first tail none idle in
      let new = whole.tile_new d net tags opening s g order st t t_in flit more first tail none idle in
      let q : Asking = c.request in
      let waits = ap (λ (x : TileState). x.bank.waiting) new in
      let found = serves_found d net tags opening _ _ order after t q waits in
      let here : AsksHere (tiles_of d.shape) t d.words q = record {
        destination = c.here;
        source = c.proper.source;
        word = found.1.1;
        spellable = IsSpellable-spelled (packet.Request q) (flits_of (packet.Request q)) c.proper.spelled;
      } in
      let e : ◌≡◌ {A = Offered} (Complete (packet.Request q)) (Complete (packet.Request r)) = sym c.complete ∙ told in
      subst (AsksHere (tiles_of d.shape) t d.words) (cc) here
  whole_here t t_in flit more first none idle r told false tail =
      let goes = request_goes_on d net tags opening s g order st t t_in flit more first in
      let e : ◌≡◌ {A = Offered} More (Complete (packet.Request r)) = sym (is_more (packet.Request goes.0) (tile_at s t).bank.so_far flit goes.1 tail) ∙ told in
      absurd (cc)

  nil_there : (xs : List ℕ) → is_nil xs ≡ true → xs ≡ []
  nil_there [] h = refl
  nil_there (x ∷ xs) h = absurd (cc)

  -- the flit that a bank finds, when it takes one, is the next of a request to it
  pub bank_finds : (t : ℕ) → t < tiles_of d.shape → bank_wants (tiles_of d.shape) t (tile_at s t).bank choice.Take ≡ Some (Take 0)
      → flit_found s.around (ejection_channel d.shape t Request) ≢ 0
      → IsNextFlit (IsRequestTo (tiles_of d.shape) t d.words) (tile_at s t).bank.so_far (flit_found s.around (ejection_channel d.shape t Request))
  bank_finds t t_in takes some =
      let b = (tile_at s t).bank in
      let flit : ℕ = flit_found s.around (ejection_channel d.shape t Request) in
      let first = first_there (ring s.around.rings (ejection_channel d.shape t Request)).channel.flits some in
      let free = both_true (is_none b.waiting) (is_nil b.to_put) (if_true (is_none b.waiting && is_nil b.to_put) (Take 0) (Take 0) takes) in
      let goes = request_goes_on d net tags opening s g order st t t_in flit first.0 first.1 in
      next_by (IsRequestTo (tiles_of d.shape) t d.words) b.so_far flit (packet.Request goes.0) goes.1
      (λ told. whole_here t t_in flit first.0 first.1 (none_there b.waiting free.0) (nil_there b.to_put free.1) goes.0 told (is_tail flit) refl) (is_tail flit)
      refl
