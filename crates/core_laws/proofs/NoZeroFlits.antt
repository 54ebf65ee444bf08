-- No flit on its way is 0: each is of a request or a response that was sent, and those are spelled.
use Rattle.std.proofs.Common.{◌≡◌, ◌≢◌, ℕ, ◌+◌, ◌*◌, ◌%◌, ◌<◌, Bool, true, false, cond, List, [], ◌∷◌, map, Some, All, refl, sym, ◌∙◌, ap, subst, arith}
use Rattle.std.specs.Prelude.{nat_lt, ◌&&◌}
use Rattle.std.proofs.lemmas.Bool.{ltb-true}
use Rattle.std.proofs.lemmas.List.Elements.{All-head}
use Rattle.std.proofs.lemmas.Nat.{div_below}
use Rattle.torus.specs.Shape.{Shape, IsAccepted, tiles_of, dims_of}
use Rattle.torus.specs.declared.shape.Class.{Class}
use Rattle.torus.specs.declared.shape.Class.TheVariants.{Request, Reply}
use Rattle.packet.specs.declared.kinds.Packet.{Packet}
use Rattle.packet.specs.declared.kinds.Packet.TheVariants as packet
use Rattle.packet.specs.declared.kinds.Response.{Response as Telling}
use Rattle.packet.specs.Spelling.{Spells}
use Rattle.packet.proofs.Shapes.{flits_above_zero}
use Rattle.one_order.specs.Observed.{list_at}
use Rattle.one_order.specs.Order.{LinearizationPoint}
use Rattle.dateline_route.specs.declared.channel.Channel.{Channel}
use Rattle.dateline_route.specs.declared.channel.Kind.{Kind}
use Rattle.dateline_route.specs.declared.channel.Kind.TheVariants.{Injection, Hop, Ejection}
use Rattle.dateline_route.specs.Walk.{IsInside}
use Rattle.channel_number.specs.Order.{channel_count, channels_at_tile, channel_at}
use Rattle.wormhole.specs.Net.{IsOn, Parcel, net_flits as flits_in}
use Rattle.wormhole.proofs.FlitsHold.{HoldsOfNoted, latch_holds, sent_holds}
use Rattle.wormhole.proofs.Lists.{all_on, on_left}
use Rattle.channel_number.specs.Ports.{is_injection, is_ejection, port_count, injection_channel, input_channel}
use Rattle.core_laws.specs.TorusNet.{same_class, joins_in}
use Rattle.channel_number.proofs.Decoding.{kind_by}
use Rattle.core_laws.proofs.Numbers.{number_below}
use Rattle.packet.specs.Flits.{flits_of}
use Rattle.core_laws.specs.Heads.{carries_route}
use Rattle.router.specs.Table.{latch_of}
use Rattle.tile.specs.Tile.{Design}
use Rattle.core_laws.specs.Core.{State}
use Rattle.core_laws.proofs.Projection.{net_of, request_parcel, response_parcel}
use Rattle.core_laws.proofs.ChannelFacts.{injects_at, injection_from}
use Rattle.core_laws.proofs.Parcels.{parcel_flits}
use Rattle.core_laws.proofs.TakesFound.{on_map}
use Rattle.core_laws.proofs.Networks.{network}
use Rattle.core_laws.proofs.ResponseLists.{no_head}
use Rattle.core_laws.proofs.Stands.{Ghost, Stands, IsProperRequest, IsProperResponse, tile_at, in_course, responses_from, unsent}

-- the kind of a channel of any number is inside, so its number is bounded
kind_inside : (s : Shape) (p : ℕ) (hops injects : Bool) → nat_lt p (8 * dims_of s) ≡ hops → IsInside s (kind_by hops injects p)
kind_inside s p true injects is = let under = ltb-true p (8 * dims_of s) is in omega arith
kind_inside s p false true is = tt
kind_inside s p false false is = tt

pub number_bounded : (d : Design) → IsAccepted d.shape → (x : ℕ) → (net_of d).number x < (net_of d).top
unfolding net_of
number_bounded d h x =
    let c : Channel = channel_at d.shape x in
    let p : ℕ = x % channels_at_tile d.shape in
    number_below d.shape h c.tile c.class c.kind (kind_inside d.shape p (nat_lt p (8 * dims_of d.shape)) (nat_lt p (8 * dims_of d.shape + 2)) refl)

and_left : (a b : Bool) → a && b ≡ true → a ≡ true
and_left true b h = refl
and_left false b h = cc

and_right : (a b : Bool) → a && b ≡ true → b ≡ true
and_right true b h = h
and_right false b h = cc

is_injected : (k : Kind) → is_injection k ≡ true → k ≡ Injection
is_injected Injection h = refl
is_injected (Hop e dir bit) h = cc
is_injected Ejection h = cc

-- packets come from the injections of tiles
joins_source : (s : Shape) (i j : ℕ) → joins_in s i j ≡ true → (b : ℕ) × (class : Class) × (b < tiles_of s) × (i ≡ injection_channel s b class)
joins_source s i j h =
    let x : Channel = channel_at s i in
    let from : Bool = nat_lt i (channel_count s) && is_injection x.kind in
    let to : Bool = nat_lt j (channel_count s) && is_ejection (channel_at s j).kind in
    let f = and_left from to (and_left (from && to) (same_class x.class (channel_at s j).class) h) in
    let within = ltb-true i (channel_count s) (and_left (nat_lt i (channel_count s)) (is_injection x.kind) f) in (
      x.tile,
      x.class,
      div_below i (channels_at_tile s) (tiles_of s) (omega arith) within,
      injection_from s i
          (is_injected x.kind (and_right (nat_lt i (channel_count s)) (is_injection x.kind) f)),
    )

pub joined_source : (d : Design) (i j : ℕ) → (net_of d).joins i j ≡ true
    → (b : ℕ) × (class : Class) × (b < tiles_of d.shape) × (i ≡ injection_channel d.shape b class)
unfolding net_of
joined_source d i j h = joins_source d.shape i j h

module _ (d : Design) (accepted : IsAccepted d.shape) (tags : ℕ) (opening : List ℕ) (s : State) (g : Ghost) (order : List LinearizationPoint)
    (st : Stands d tags opening s g order) where
  abbrev Above : ℕ → Type 0
  Above flit = 0 < flit

  spelled_above : (p : Packet) (k : Parcel) → Spells p (k.head ∷ k.tail) → All Above (flits_in k)
  spelled_above p k h = flits_above_zero p (k.head ∷ k.tail) h

  request_above : (b : ℕ) → b < tiles_of d.shape → (k : Parcel) → IsOn k (g.net.notes (injection_channel d.shape b Request)).sent → All Above (flits_in k)
  request_above b b_in k sent =
      let q = on_map (request_parcel d.shape) (list_at g.requests b) k (subst (λ (ks : List Parcel). IsOn k ks) (st.carries.requests_sent b b_in) sent) in
      let proper = all_on (λ r. IsProperRequest d r × (r.source ≡ b)) (list_at g.requests b) q.0 (st.carries.requests_proper b) q.1 in
      let flits : flits_of (packet.Request q.0) ≡ k.head ∷ k.tail = parcel_flits d.shape (packet.Request q.0) proper.0.spelled ∙ ap flits_in q.2 in
      spelled_above (packet.Request q.0) k (subst (Spells (packet.Request q.0)) flits proper.0.spelled)

  response_above : (b : ℕ) → b < tiles_of d.shape → (k : Parcel) → IsOn k (g.net.notes (injection_channel d.shape b Reply)).sent → All Above (flits_in k)
  response_above b b_in k sent =
      let responses : List Telling = responses_from b 0 (tile_at s b).bank.entries in
      let made : IsOn k (map (response_parcel d.shape) responses) =
      subst (λ (ks : List Parcel). IsOn k ks) (sym (st.carries.replies_sent b b_in))
      (on_left k (g.net.notes (injection_channel d.shape b Reply)).sent (map (response_parcel d.shape) (unsent (tile_at s b).bank.to_put responses)) sent) in
      let q = on_map (response_parcel d.shape) responses k made in
      let proper = all_on (λ r. IsProperResponse d r × (r.source ≡ b)) responses q.0 (st.carries.replies_proper b b_in) q.1 in
      let flits : flits_of (packet.Response q.0) ≡ k.head ∷ k.tail = parcel_flits d.shape (packet.Response q.0) proper.0.spelled ∙ ap flits_in q.2 in
      spelled_above (packet.Response q.0) k (subst (Spells (packet.Response q.0)) flits proper.0.spelled)

  by_class : (b : ℕ) → b < tiles_of d.shape → (class : Class) (k : Parcel) → IsOn k (g.net.notes (injection_channel d.shape b class)).sent
      → All Above (flits_in k)
  by_class b b_in Request k sent = request_above b b_in k sent
  by_class b b_in Reply k sent = response_above b b_in k sent

  -- each flit on its way is above 0
  pub flits_above : HoldsOfNoted Above g.net
  flits_above = sent_holds (net_of d) Above g.net (network d accepted) st.lines st.routes (λ k parcel sent.
      let from = joined_source d k.source k.destination parcel.joined in
      by_class from.0 from.2 from.1 k (subst (λ (z : ℕ). IsOn k (g.net.notes z).sent) from.3 sent))

  -- A latched flit isn't 0.
  pub latched_some : (t i flit : ℕ) → t < tiles_of d.shape → i < port_count (dims_of d.shape) → latch_of (tile_at s t).router i ≡ Some flit → flit ≢ 0
  latched_some t i flit t_in i_in full e =
      let above : 0 < flit = latch_holds (net_of d) Above g.net (input_channel d.shape t i) flit st.lines flits_above
      (st.mirrors.latches t i t_in i_in ∙ full) in
      omega arith

  -- a flit that is owed in an injection_channel isn't 0
  owed_some : (z flit : ℕ) (more : List ℕ) → (net_of d).injects z ≡ true → (g.net.lines z).rest ≡ flit ∷ more → flit ≢ 0
  owed_some z flit more injects is e =
      let above : 0 < flit = All-head Above flit more (subst (λ (fs : List ℕ). All Above fs) (st.lines.senders z injects ∙ is) (flits_above.owed z)) in
      omega arith

  -- A further flit that a processor has yet to put isn't 0.
  pub processor_some : (t flit : ℕ) (more : List ℕ) → t < tiles_of d.shape → (tile_at s t).processor.to_put ≡ flit ∷ more → flit ≢ 0
  processor_some t flit more t_in course =
      owed_some (injection_channel d.shape t Request) flit more (injects_at d t Request) (st.mirrors.sends_requests t t_in ∙ course)

  -- a flit with the head bit isn't 0
  head_some : (flit : ℕ) → carries_route flit ≡ true → flit ≢ 0
  head_some flit head e = let no' : ◌≡◌ {A = Bool} true false = sym head ∙ (ap carries_route e ∙ no_head) in cc

  bank_by : (t flit : ℕ) (more : List ℕ) → t < tiles_of d.shape → (tile_at s t).bank.to_put ≡ flit ∷ more → (head : Bool) → carries_route flit ≡ head → flit ≢ 0
  bank_by t flit more t_in course true is = head_some flit is
  bank_by t flit more t_in course false is =
      let left : in_course (tile_at s t).bank.to_put ≡ flit ∷ more = ap in_course course ∙ ap (λ (b : Bool). cond b [] (flit ∷ more)) is in
      owed_some (injection_channel d.shape t Reply) flit more (injects_at d t Reply) (st.mirrors.sends_replies t t_in ∙ left)

  -- A flit that a bank has yet to put isn't 0.
  pub bank_some : (t flit : ℕ) (more : List ℕ) → t < tiles_of d.shape → (tile_at s t).bank.to_put ≡ flit ∷ more → flit ≢ 0
  bank_some t flit more t_in course = bank_by t flit more t_in course (carries_route flit) refl
