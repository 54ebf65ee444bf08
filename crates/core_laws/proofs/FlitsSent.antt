-- What holds of the flits of all packets that were sent holds of all flits on their way, and of those that are still to be put.
use Rattle.std.proofs.Common.{◌≡◌, ◌≢◌, ⊎_elim, ℕ, zero, suc, ◌+◌, ◌*◌, ◌%◌, ◌<◌, ◌≤◌, Bool, true, false, List, [], ◌∷◌, ◌++◌, map, Option, Some, All, refl}
use Rattle.std.proofs.Common.{sym, ◌∙◌, ap, subst, arith}
use Rattle.std.specs.Prelude.{nat_lt, ◌&&◌}
use Rattle.std.proofs.lemmas.Bool.{ltb-true}
use Rattle.std.proofs.Math.Nat.{div-lt_iff_lt-mul}
use Rattle.std.proofs.lemmas.List.Elements.{All-nil, All-cons, All-head, All-tail, All-append}
use Rattle.torus.specs.Shape.{Shape, IsAccepted, tiles_of, dims_of}
use Rattle.torus.specs.declared.shape.Class.{Class}
use Rattle.torus.specs.declared.shape.Class.TheVariants.{Request, Reply}
use Rattle.packet.specs.declared.kinds.Packet.{Packet}
use Rattle.packet.specs.declared.kinds.Packet.TheVariants as packet
use Rattle.packet.specs.declared.kinds.Response.{Response as Telling}
use Rattle.packet.specs.Spelling.{Spells}
use Rattle.packet.proofs.Shapes.{flits_above_zero}
use Rattle.dateline_route.specs.declared.channel.Channel.{Channel}
use Rattle.dateline_route.specs.Walk.{IsInside}
use Rattle.channel_number.specs.Order.{channel_count, channels_at_tile, channel_at}
use Rattle.one_order.specs.Observed.{list_at}
use Rattle.one_order.specs.Order.{LinearizationPoint}
use Rattle.channel_number.specs.Ports.{is_injection, is_ejection, injection_channel}
use Rattle.core_laws.specs.TorusNet.{same_class as is_same_class, joins_in}
use Rattle.channel_number.proofs.Decoding.{kind_by}
use Rattle.core_laws.proofs.Numbers.{number_below}
use Rattle.wormhole.specs.Net.{Net, Parcel, IsParcel, IsOn, net_flits as flits_in, flits_of_all}
use Rattle.wormhole.specs.State.{NetState, in_line}
use Rattle.wormhole.specs.Words.{Words}
use Rattle.wormhole.specs.Routes.{Routes, IsBegunHere}
use Rattle.wormhole.proofs.FlitsHold.{HoldsOfNoted, line_holds}
use Rattle.wormhole.proofs.Lists.{all_on, on_left}
use Rattle.wormhole.proofs.Arrivals.{was_sent, begun_was_sent}
use Rattle.packet.specs.Flits.{flits_of}
use Rattle.tile.specs.Tile.{Design}
use Rattle.core_laws.specs.Core.{State}
use Rattle.core_laws.proofs.Projection.{net_of, request_parcel, response_parcel, parcel_of}
use Rattle.core_laws.proofs.Parcels.{parcel_flits}
use Rattle.core_laws.proofs.ChannelFacts.{and_parts, injects_only, injection_from}
use Rattle.core_laws.proofs.TakesFound.{on_map}
use Rattle.core_laws.proofs.Stands.{Ghost, Stands, IsProperRequest, IsProperResponse, tile_at, responses_from, unsent}

all_right : (P : ℕ → Type 0) (xs ys : List ℕ) → All P (xs ++ ys) → All P ys
all_right P [] ys h = h
all_right P (x ∷ xs) ys h = all_right P xs ys (All-tail P x (xs ++ ys) h)

later : {A : Type 0} (y x : A) (xs : List A) → IsOn x xs → IsOn x (y ∷ xs)
later y x xs on = (y ∷ on.0, on.1, ap (λ zs. y ∷ zs) on.2)

each_holds : (P : ℕ → Type 0) (ks : List Parcel) → ((k : Parcel) → IsOn k ks → All P (flits_in k)) → All (λ (k : Parcel). All P (flits_in k)) ks
each_holds P [] h = All-nil (λ (k : Parcel). All P (flits_in k))
each_holds P (k ∷ ks) h = All-cons (λ (k : Parcel). All P (flits_in k)) k ks (h k ([], ks, refl)) (each_holds P ks (λ l on. h l (later k l ks on)))

all_hold : (P : ℕ → Type 0) (ks : List Parcel) → All (λ (k : Parcel). All P (flits_in k)) ks → All P (flits_of_all ks)
all_hold P [] h = All-nil P
all_hold P (k ∷ ks) h =
    All-append P (flits_in k) (flits_of_all ks) (All-head (λ (k : Parcel). All P (flits_in k)) k ks h)
    (all_hold P ks (All-tail (λ (k : Parcel). All P (flits_in k)) k ks h))

module _ (n : Net) (s : NetState) (w : Words n s) (r : Routes n s) (bounded : (x : ℕ) → n.number x < n.top) (P : ℕ → Type 0)
    (sent : (k : Parcel) → IsParcel n k → IsOn k (s.notes k.source).sent → All P (flits_in k)) where
  parcels_hold : (x : ℕ) → All (λ (k : Parcel). All P (flits_in k)) (s.notes x).parcels
  parcels_hold x = each_holds P (s.notes x).parcels (λ k on. sent k (all_on (IsParcel n) (s.notes x).parcels k (w.parcels x) on) (was_sent n s x k w r on))

  -- the flits that a sender has yet to put follow those in the channel
  owed_after : (x : ℕ) → All P (s.notes x).awaited → All P (s.notes x).owed
  owed_after x h =
      all_right P (in_line (s.lines x)) (s.notes x).owed
      (subst (λ (fs : List ℕ). All P fs) (w.contiguous x)
      (All-append P (s.notes x).awaited (flits_of_all (s.notes x).parcels) h (all_hold P (s.notes x).parcels (parcels_hold x))))

  -- the flits that are awaited behind a channel are those that its packet's next channel is owed
  awaited_by : (x : ℕ) (b : Bool) → n.ejects x ≡ b → ((y : ℕ) → n.number x < n.number y → All P (s.notes y).awaited) → All P (s.notes x).awaited
  awaited_by x true ejects further = ⊎_elim
      (λ (none : ((s.notes x).awaited ≡ []) × ((s.lines x).so_far ≡ [])). subst (λ (fs : List ℕ). All P fs) (sym none.0) (All-nil P))
      (λ (q : (before : List Parcel) × (last : Parcel) × ((s.notes x).begun ≡ before ++ last ∷ []) × ((s.lines x).so_far ++ (s.notes x).awaited ≡ flits_in last)
      × ((s.lines x).so_far ≢ []) × ((s.notes x).awaited ≢ [])).
      let here : IsOn q.1 (s.notes x).begun = (q.0, [], q.2) in
      let begun = all_on (IsBegunHere n x) (s.notes x).begun q.1 (r.begun x) here in
      all_right P (s.lines x).so_far (s.notes x).awaited
      (subst (λ (fs : List ℕ). All P fs) (sym q.3) (sent q.1 begun.parcel (begun_was_sent n s x q.1 r here))))
      (w.assembling x ejects)
  awaited_by x false input further = ⊎_elim
      (λ (none : (s.notes x).awaited ≡ []). subst (λ (fs : List ℕ). All P fs) (sym none) (All-nil P))
      (λ (o : (y : ℕ) × ((s.lines y).owner ≡ Some x)).
      subst (λ (fs : List ℕ). All P fs) (w.held x o.0 o.1).same (owed_after o.0 (further o.0 (r.rising x o.0 o.1))))
      (w.owning x input)

  awaited_hold : (fuel x : ℕ) → n.top ≤ n.number x + fuel → All P (s.notes x).awaited
  awaited_hold zero x h = let below = bounded x in absurd (omega (arith, below, h))
  awaited_hold (suc fuel) x h = awaited_by x (n.ejects x) refl (λ y up. awaited_hold fuel y (omega (arith, h, up)))

  pub flits_sent_hold : HoldsOfNoted P s
  flits_sent_hold = record {
    parcels = parcels_hold;
    awaited = λ x. awaited_hold n.top x (omega arith);
    owed = λ x. owed_after x (awaited_hold n.top x (omega arith));
  }

-- each number has a channel of a dimension that is there
inside_by : (s : Shape) (j : ℕ) (b c : Bool) → nat_lt j (8 * dims_of s) ≡ b → IsInside s (kind_by b c j)
inside_by s j true c h = let low = ltb-true j (8 * dims_of s) h in (div-lt_iff_lt-mul {k = 8} {x = j} {y = dims_of s} (omega arith)).1 (omega (arith, low))
inside_by s j false true h = tt
inside_by s j false false h = tt

numbers_bounded : (d : Design) → IsAccepted d.shape → (x : ℕ) → (net_of d).number x < (net_of d).top
unfolding net_of
numbers_bounded d accepted x =
    let s : Shape = d.shape in
    let j : ℕ = x % channels_at_tile s in
    number_below s accepted (channel_at s x).tile (channel_at s x).class (channel_at s x).kind
    (inside_by s j (nat_lt j (8 * dims_of s)) (nat_lt j (8 * dims_of s + 2)) refl)

source_in : (s : Shape) (i j : ℕ) → joins_in s i j ≡ true → (b : ℕ) × (class : Class) × (b < tiles_of s) × (i ≡ injection_channel s b class)
source_in s i j h =
    let x : Channel = channel_at s i in
    let c : ℕ = channels_at_tile s in
    let y : Channel = channel_at s j in
    let a = and_parts ((nat_lt i (channel_count s) && is_injection x.kind) && (nat_lt j (channel_count s) && is_ejection y.kind))
    (is_same_class x.class y.class) h in
    let b = and_parts (nat_lt i (channel_count s) && is_injection x.kind) (nat_lt j (channel_count s) && is_ejection y.kind) a.0 in
    let f = and_parts (nat_lt i (channel_count s)) (is_injection x.kind) b.0 in
    let within = ltb-true i (channel_count s) f.0 in
    (x.tile, x.class, (div-lt_iff_lt-mul {k = c} {x = i} {y = tiles_of s} (omega arith)).1 within, injection_from s i (injects_only x.kind f.1))

-- a packet of the machine comes from an injection_channel
source_of_parcel : (d : Design) (k : Parcel) → IsParcel (net_of d) k
    → (b : ℕ) × (class : Class) × (b < tiles_of d.shape) × (k.source ≡ injection_channel d.shape b class)
unfolding net_of
source_of_parcel d k h = source_in d.shape k.source k.destination h.joined

module _ (d : Design) (accepted : IsAccepted d.shape) (tags : ℕ) (opening : List ℕ) (s : State) (g : Ghost) (order : List LinearizationPoint)
    (st : Stands d tags opening s g order) where
  spelled_above : (p : Packet) → Spells p (flits_of p) → All (λ f. 0 < f) (flits_in (parcel_of d.shape p))
  spelled_above p h = subst (λ (fs : List ℕ). All (λ f. 0 < f) fs) (parcel_flits d.shape p h) (flits_above_zero p (flits_of p) h)

  sent_above : (b : ℕ) (class : Class) → b < tiles_of d.shape → (k : Parcel) → IsOn k (g.net.notes (injection_channel d.shape b class)).sent
      → All (λ f. 0 < f) (flits_in k)
  sent_above b Request b_in k on =
      let q = on_map (request_parcel d.shape) (list_at g.requests b) k (subst (λ (ks : List Parcel). IsOn k ks) (st.carries.requests_sent b b_in) on) in
      let proper = all_on (λ r. IsProperRequest d r × (r.source ≡ b)) (list_at g.requests b) q.0 (st.carries.requests_proper b) q.1 in
      subst (λ (l : Parcel). All (λ f. 0 < f) (flits_in l)) q.2 (spelled_above (packet.Request q.0) proper.0.spelled)
  sent_above b Reply b_in k on =
      let responses : List Telling = responses_from b 0 (tile_at s b).bank.entries in
      let made : IsOn k (map (response_parcel d.shape) responses) = subst (λ (ks : List Parcel). IsOn k ks) (sym (st.carries.replies_sent b b_in))
      (on_left k (g.net.notes (injection_channel d.shape b Reply)).sent (map (response_parcel d.shape) (unsent (tile_at s b).bank.to_put responses)) on) in
      let q = on_map (response_parcel d.shape) responses k made in
      let proper = all_on (λ r. IsProperResponse d r × (r.source ≡ b)) responses q.0 (st.carries.replies_proper b b_in) q.1 in
      subst (λ (l : Parcel). All (λ f. 0 < f) (flits_in l)) q.2 (spelled_above (packet.Response q.0) proper.0.spelled)

  -- no flit on its way, and none still to be put, is 0
  pub flits_above : HoldsOfNoted (λ f. 0 < f) g.net
  flits_above = flits_sent_hold (net_of d) g.net st.lines st.routes (numbers_bounded d accepted) (λ f. 0 < f) (λ k is on.
      let from = source_of_parcel d k is in
      sent_above from.0 from.1 from.2 k (subst (λ (i : ℕ). IsOn k (g.net.notes i).sent) from.3 on))

  -- a latched flit isn't 0
  pub latched_above : (x flit : ℕ) → (g.net.lines x).latch ≡ Some flit → flit ≢ 0
  latched_above x flit full e =
      let all = line_holds (net_of d) (λ f. 0 < f) g.net x st.lines flits_above in
      let some : 0 < flit = All-head (λ f. 0 < f) flit (g.net.lines x).flits
      (subst (λ (o : Option ℕ). All (λ f. 0 < f) (in_line (record (g.net.lines x) { latch = o }))) full all) in
      omega (arith, some, e)

  -- what a sender has yet to put of a packet isn't 0
  pub rest_above : (x flit : ℕ) (more : List ℕ) → (net_of d).injects x ≡ true → (g.net.lines x).rest ≡ flit ∷ more → flit ≢ 0
  rest_above x flit more injects course e =
      let all = flits_above.owed x in
      let some : 0 < flit = All-head (λ f. 0 < f) flit more (subst (λ (fs : List ℕ). All (λ f. 0 < f) fs) (st.lines.senders x injects ∙ course) all) in
      omega (arith, some, e)
