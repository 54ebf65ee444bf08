-- The operations that are out bound what a machine has still to do for them.
use Rattle.std.proofs.Common.{◌≡◌, ℕ, ◌+◌, ◌*◌, ◌<◌, ◌≤◌, zero, suc, true, List, [], ◌∷◌, ◌++◌, length, map, sym, ap, ◌∙◌, refl, arith, subst, All}
use Rattle.std.proofs.Common.{length-append}
use Rattle.std.specs.Prelude.{option_to_list, is_some}
use Rattle.std.specs.List.{sum_by}
use Rattle.std.proofs.Math.Nat.{suc-mul}
use Rattle.std.proofs.Math.ListN.{get_or-map}
use Rattle.wormhole.proofs.Lists.{all_left}
use Rattle.one_order.specs.ProcessorRecord.{ProcessorRecord}
use Rattle.one_order.specs.Flight.{Flight}
use Rattle.one_order.proofs.Parts.{tags_at}
use Rattle.core_laws.specs.Delivery.{asked_operation, notice_of, notice_by}
use Rattle.wormhole.proofs.Sums.{sum_same}
use Rattle.std.proofs.lemmas.List.{length-map}
use Rattle.std.proofs.lemmas.List.Sums.{count_by-le-length}
use Rattle.std.proofs.lemmas.List.Elements.{All-nil, All-cons, All-head, All-tail}
use Rattle.torus.specs.Shape.{tiles_of}
use Rattle.torus.specs.declared.shape.Class.{Class}
use Rattle.torus.specs.declared.shape.Class.TheVariants.{Request, Reply}
use Rattle.torus.specs.declared.step.Step.{Step}
use Rattle.packet.specs.declared.kinds.Packet.TheVariants as packet
use Rattle.packet.specs.declared.kinds.Request.{Request as Asking}
use Rattle.packet.specs.declared.kinds.Response.{Response as Telling}
use Rattle.packet.specs.Spelling.{Spells}
use Rattle.packet.proofs.Shapes.{at_most_five}
use Rattle.dateline_route.specs.declared.channel.Channel.{Channel}
use Rattle.channel_number.specs.Order.{channel_at}
use Rattle.channel_number.specs.Ports.{injection_channel, ejection_channel}
use Rattle.wormhole.specs.Net.{IsNet, Parcel, net_flits}
use Rattle.wormhole.specs.Routes.{IsSentHere}
use Rattle.wormhole.specs.Delivery.{whole}
use Rattle.wormhole.specs.Weight.{sum_below}
use Rattle.one_order.specs.Events.{order_after}
use Rattle.one_order.specs.Observed.{list_at}
use Rattle.home_bank.specs.declared.entry.Entry.{Entry}
use Rattle.tile.specs.Tile.{Design, TileState}
use Rattle.core_laws.specs.Core.{Load, State, design_of}
use Rattle.core_laws.specs.Runs.{IsAcceptedLoad, state_after}
use Rattle.core_laws.specs.Noted.{noted}
use Rattle.core_laws.proofs.Projection.{net_of, request_parcel, response_parcel}
use Rattle.core_laws.proofs.ChannelFacts.{injection_is}
use Rattle.core_laws.proofs.Parcels.{parcel_flits}
use Rattle.core_laws.proofs.ProgressWired.{net_is, wires}
use Rattle.core_laws.proofs.TorusEnds.{few_channels}
use Rattle.core_laws.proofs.Histories.{event_at}
use Rattle.core_laws.proofs.EveryRun.{holds_in}
use Rattle.core_laws.proofs.Balanced.{tile_balanced}
use Rattle.core_laws.proofs.Wires.{HasEnd}
use Rattle.core_laws.proofs.Stands.{Ghost, Stands, IsProperRequest, IsProperResponse, tile_at, responses_from, unsent, served_requests, request_of_entry, no_tile, flight_of}
use Rattle.fair_rounds.specs.Burden.{HasShortRoutes, AreShort, caps_sent, caps_whole}
use Rattle.fair_rounds.specs.Chores.{unsent_of, issued_count, served_count, answered_count, chores}
use Rattle.fair_rounds.proofs.Reindexing.{sum_most, sum_plus}
use Rattle.fair_rounds.proofs.UnderWay.{Known, under_way_most, whole_most}
use Rattle.fair_rounds.proofs.KnownRuns.{known_noted, of_class, sent_most, whole_least}
use Rattle.fair_rounds.proofs.ClassCounts.{both, both_parts, sum_both, length_from, reply_short, unsent_short, sum_times}

module _ (l : Load) (ok : IsAcceptedLoad l) (steps : List Step) (m : ℕ) where
  abbrev d : Design
  d = design_of l

  abbrev s : State
  s = state_after l steps m

  abbrev g : Ghost
  g = noted l steps m

  abbrev tiles : ℕ
  tiles = tiles_of l.shape

  st : Stands d l.tags l.opening s g (order_after (event_at l steps) m)
  st = (holds_in l ok steps m).stands

  k : Known (net_of d) g.net
  k = known_noted l ok steps m

  short_ways : HasShortRoutes (net_of d)
  unfolding net_of
  short_ways i j joined = few_channels d.shape d.depth i j ok.shape joined

  abbrev cap : ℕ → ℕ → ℕ → ℕ
  cap a b x = both a b (channel_at d.shape x).class

  cap_at : (a b t : ℕ) (c : Class) → cap a b (injection_channel d.shape t c) ≡ both a b c
  cap_at a b t c = ap (λ (x : Channel). both a b x.class) (injection_is d.shape t c)

  -- what is counted of both classes
  sent_both : (a b : ℕ) → caps_sent (net_of d) (cap a b) g.net
      ≤ a * sum_below tiles (λ t. length (g.net.notes (injection_channel d.shape t Request)).sent)
      + b * sum_below tiles (λ t. length (g.net.notes (injection_channel d.shape t Reply)).sent)
  sent_both a b =
      let c : ℕ = (net_of d).channels in
      let of : Class → ℕ → ℕ → ℕ = λ e w x. of_class e w (channel_at d.shape x).class in
      let parts : caps_sent (net_of d) (cap a b) g.net ≡ caps_sent (net_of d) (of Request a) g.net + caps_sent (net_of d) (of Reply b) g.net =
      sum_same c _ _ (λ x low. sum_both (λ p. cap a b p.source) (λ p. of Request a p.source) (λ p. of Reply b p.source)
      (λ p. both_parts a b (channel_at d.shape p.source).class) (g.net.notes x).sent)
      ∙ sum_plus c (λ x. sum_by (λ p. of Request a p.source) (g.net.notes x).sent) (λ x. sum_by (λ p. of Reply b p.source) (g.net.notes x).sent) in
      let q = sent_most d g.net (net_is d ok.shape) (wires d ok.shape) k Request a in
      let r = sent_most d g.net (net_is d ok.shape) (wires d ok.shape) k Reply b in
      let t = sum_times tiles a (λ t. length (g.net.notes (injection_channel d.shape t Request)).sent) in
      let u = sum_times tiles b (λ t. length (g.net.notes (injection_channel d.shape t Reply)).sent) in
      omega (arith, parts, q, r, t, u)

  whole_both : (a b : ℕ) → a * sum_below tiles (λ t. length (whole g.net (ejection_channel d.shape t Request)))
      + b * sum_below tiles (λ t. length (whole g.net (ejection_channel d.shape t Reply))) ≤ caps_whole (net_of d) (cap a b) g.net
  whole_both a b =
      let c : ℕ = (net_of d).channels in
      let of : Class → ℕ → ℕ → ℕ = λ e w x. of_class e w (channel_at d.shape x).class in
      let parts : caps_whole (net_of d) (cap a b) g.net ≡ caps_whole (net_of d) (of Request a) g.net + caps_whole (net_of d) (of Reply b) g.net =
      sum_same c _ _ (λ x low. sum_both (λ p. cap a b p.source) (λ p. of Request a p.source) (λ p. of Reply b p.source)
      (λ p. both_parts a b (channel_at d.shape p.source).class) (whole g.net x))
      ∙ sum_plus c (λ x. sum_by (λ p. of Request a p.source) (whole g.net x)) (λ x. sum_by (λ p. of Reply b p.source) (whole g.net x)) in
      let q = whole_least d g.net (net_is d ok.shape) (wires d ok.shape) k Request a in
      let r = whole_least d g.net (net_is d ok.shape) (wires d ok.shape) k Reply b in
      let t = sum_times tiles a (λ t. length (whole g.net (ejection_channel d.shape t Request))) in
      let u = sum_times tiles b (λ t. length (whole g.net (ejection_channel d.shape t Reply))) in
      omega (arith, parts, q, r, t, u)

  -- packets of requests have at most 5 flits, and of replies at most 3
  request_short : (r : Asking) → IsProperRequest d r → length (net_flits (request_parcel d.shape r)) ≤ 5
  request_short r proper =
      let flits = parcel_flits d.shape (packet.Request r) proper.spelled in
      at_most_five (packet.Request r) (net_flits (request_parcel d.shape r)) (subst (Spells (packet.Request r)) flits proper.spelled)

  response_short : (r : Telling) → IsProperResponse d r → length (net_flits (response_parcel d.shape r)) ≤ 3
  response_short r proper =
      let flits = ap length (parcel_flits d.shape (packet.Response r) proper.spelled) in
      let short = reply_short r in
      omega (arith, flits, short)

  short_all : (v x : ℕ) (ps : List Parcel) → cap 5 3 x ≡ v → All (λ p. length (net_flits p) ≤ v) ps → All (IsSentHere (net_of d) x) ps
      → All (AreShort (cap 5 3)) ps
  short_all v x [] is short sent = All-nil (AreShort (cap 5 3))
  short_all v x (p ∷ ps) is short sent =
      let size = All-head (λ p. length (net_flits p) ≤ v) p ps short in
      let here = All-head (IsSentHere (net_of d) x) p ps sent in
      let most : cap 5 3 p.source ≡ v = ap (cap 5 3) here.source ∙ is in
      All-cons (AreShort (cap 5 3)) p ps (omega (arith, size, most))
      (short_all v x ps is (All-tail (λ p. length (net_flits p) ≤ v) p ps short) (All-tail (IsSentHere (net_of d) x) p ps sent))

  requests_short : (p : ℕ) (rs : List Asking) → All (λ r. IsProperRequest d r × (r.source ≡ p)) rs
      → All (λ q. length (net_flits q) ≤ 5) (map (request_parcel d.shape) rs)
  requests_short p [] all = All-nil (λ q. length (net_flits q) ≤ 5)
  requests_short p (r ∷ rs) all = All-cons (λ q. length (net_flits q) ≤ 5) (request_parcel d.shape r) (map (request_parcel d.shape) rs)
      (request_short r (All-head (λ r. IsProperRequest d r × (r.source ≡ p)) r rs all).0)
      (requests_short p rs (All-tail (λ r. IsProperRequest d r × (r.source ≡ p)) r rs all))

  responses_short : (b : ℕ) (rs : List Telling) → All (λ r. IsProperResponse d r × (r.source ≡ b)) rs
      → All (λ q. length (net_flits q) ≤ 3) (map (response_parcel d.shape) rs)
  responses_short b [] all = All-nil (λ q. length (net_flits q) ≤ 3)
  responses_short b (r ∷ rs) all = All-cons (λ q. length (net_flits q) ≤ 3) (response_parcel d.shape r) (map (response_parcel d.shape) rs)
      (response_short r (All-head (λ r. IsProperResponse d r × (r.source ≡ b)) r rs all).0)
      (responses_short b rs (All-tail (λ r. IsProperResponse d r × (r.source ≡ b)) r rs all))

  short_at : (t : ℕ) (c : Class) → t < tiles → All (AreShort (cap 5 3)) (g.net.notes (injection_channel d.shape t c)).sent
  short_at t Request here = short_all 5 (injection_channel d.shape t Request) (g.net.notes (injection_channel d.shape t Request)).sent (cap_at 5 3 t Request)
      (subst (All (λ q. length (net_flits q) ≤ 5)) (sym (st.carries.requests_sent t here))
      (requests_short t (list_at g.requests t) (st.carries.requests_proper t)))
      (k.routes.sent (injection_channel d.shape t Request))
  short_at t Reply here = short_all 3 (injection_channel d.shape t Reply) (g.net.notes (injection_channel d.shape t Reply)).sent (cap_at 5 3 t Reply)
      (all_left (λ q. length (net_flits q) ≤ 3) (g.net.notes (injection_channel d.shape t Reply)).sent
      (map (response_parcel d.shape) (unsent (tile_at s t).bank.to_put (responses_from t 0 (tile_at s t).bank.entries)))
      (subst (All (λ q. length (net_flits q) ≤ 3)) (st.carries.replies_sent t here)
      (responses_short t (responses_from t 0 (tile_at s t).bank.entries) (st.carries.replies_proper t here))))
      (k.routes.sent (injection_channel d.shape t Reply))

  short_sent : (x : ℕ) (ps : List Parcel) → (g.net.notes x).sent ≡ ps → All (AreShort (cap 5 3)) (g.net.notes x).sent
  short_sent x [] is = subst (All (AreShort (cap 5 3))) (sym is) (All-nil (AreShort (cap 5 3)))
  short_sent x (p ∷ ps) is =
      let sent = All-head (IsSentHere (net_of d) x) p ps (subst (All (IsSentHere (net_of d) x)) is (k.routes.sent x)) in
      let net : IsNet (net_of d) = net_is d ok.shape in
      let begins = net.begins p.source p.destination sent.parcel.joined in
      let low : x < (net_of d).channels =
      subst (λ (z : ℕ). z < (net_of d).channels) sent.source
      (net.within p.source p.destination p.source sent.parcel.joined ([], begins.0, begins.1)) in
      let injects : (net_of d).injects x ≡ true = ap (net_of d).injects (sym sent.source) ∙ net.senders p.source p.destination sent.parcel.joined in
      let at : HasEnd d (injection_channel d.shape) x = (wires d ok.shape).injections x low injects in
      subst (λ (z : ℕ). All (AreShort (cap 5 3)) (g.net.notes z).sent) (sym at.is) (short_at at.tile at.class at.here)

  -- what is sent and whole at each tile
  requests_are : (p : ℕ) → p < tiles
      → length (g.net.notes (injection_channel d.shape p Request)).sent ≡ length (tile_at s p).processor.operations.issued
  requests_are p here =
      ap length (st.carries.requests_sent p here) ∙ (length-map (list_at g.requests p) (request_parcel d.shape)
      ∙ (sym (length-map (list_at g.requests p) (asked_operation tiles)) ∙ ap length (st.carries.issued p)))

  served_are : (b : ℕ) → b < tiles → length (tile_at s b).bank.entries ≤ length (whole g.net (ejection_channel d.shape b Request))
  served_are b here =
      let entries : List Entry = (tile_at s b).bank.entries in
      let all = ap length (st.carries.requests_whole b here)
      ∙ length-map (served_requests tiles b entries ++ option_to_list (tile_at s b).bank.waiting) (request_parcel d.shape) in
      let parts = length-append (served_requests tiles b entries) (option_to_list (tile_at s b).bank.waiting) in
      let served = length-map entries (request_of_entry tiles b) in
      omega (arith, all, parts, served)

  replies_are : (b : ℕ) → b < tiles → length (tile_at s b).bank.entries
      ≡ length (g.net.notes (injection_channel d.shape b Reply)).sent
      + length (unsent (tile_at s b).bank.to_put (responses_from b 0 (tile_at s b).bank.entries))
  replies_are b here =
      let entries : List Entry = (tile_at s b).bank.entries in
      let made : List Telling = responses_from b 0 entries in
      let all = ap length (st.carries.replies_sent b here) in
      let first = length-map made (response_parcel d.shape) in
      let parts = length-append (g.net.notes (injection_channel d.shape b Reply)).sent (map (response_parcel d.shape) (unsent (tile_at s b).bank.to_put made)) in
      let last = length-map (unsent (tile_at s b).bank.to_put made) (response_parcel d.shape) in
      let count = length_from b 0 entries in
      omega (arith, all, first, parts, last, count)

  answers_are : (p : ℕ) → p < tiles → length (whole g.net (ejection_channel d.shape p Reply)) ≡ length (tile_at s p).processor.operations.answers
  answers_are p here =
      ap length (st.carries.replies_whole p here) ∙ (length-map (list_at g.taken p) (response_parcel d.shape)
      ∙ (sym (length-map (list_at g.taken p) notice_of)
      ∙ (sym (ap length (st.carries.answered p)) ∙ length-map (tile_at s p).processor.operations.answers (notice_by p))))

  unsent_are : (b : ℕ) → unsent_of (tile_at s b).bank.to_put
      ≤ 3 * length (unsent (tile_at s b).bank.to_put (responses_from b 0 (tile_at s b).bank.entries))
  unsent_are b = unsent_short b (tile_at s b).bank.to_put (tile_at s b).bank.entries (st.phases b).fresh

  -- a processor has no more operations out than it has tags
  out_are : (p : ℕ) → p < tiles → length (tile_at s p).processor.operations.issued ≤ length (tile_at s p).processor.operations.answers + l.tags
  out_are p here =
      let b : ProcessorRecord = (tile_at s p).processor.operations in
      let balanced = tile_balanced l ok steps m p in
      let f : Flight = flight_of d.words s g in
      let count : length b.tags ≡ l.tags =
      sym (ap length (tags_at f p ∙ ap (λ (b : ProcessorRecord). b.tags) (get_or-map (λ (t : TileState). t.processor.operations) s.tiles p no_tile)))
      ∙ st.flight.tag_counts p here in
      let out = count_by-le-length is_some b.tags in
      let waits = balanced.out in
      let all = balanced.answered in
      omega (arith, count, out, waits, all)

  -- The operations that are out bound what is still to do for them.
  pub chores_most : chores l steps m + 91 * issued_count d s + 241 * answered_count d s ≤ 241 * issued_count d s + 91 * served_count d s
  chores_most =
      let U : ℕ → ℕ = λ b. length (unsent (tile_at s b).bank.to_put (responses_from b 0 (tile_at s b).bank.entries)) in
      let most = under_way_most (net_of d) g.net (net_is d ok.shape) short_ways k (cap 5 3) (λ x. short_sent x (g.net.notes x).sent refl) in
      let sent = sent_both 5 3 in
      let whole_too = whole_both 5 3 in
      let fewer = whole_most (net_of d) g.net k (cap 0 1) in
      let sent_one = sent_both 0 1 in
      let whole_one = whole_both 0 1 in
      let issued : sum_below tiles (λ t. length (g.net.notes (injection_channel d.shape t Request)).sent) ≡ issued_count d s =
      sum_same tiles _ _ (λ p here. requests_are p here) in
      let served : served_count d s ≤ sum_below tiles (λ t. length (whole g.net (ejection_channel d.shape t Request))) =
      sum_most tiles _ _ (λ b here. served_are b here) in
      let replied : served_count d s ≡ sum_below tiles (λ t. length (g.net.notes (injection_channel d.shape t Reply)).sent) + sum_below tiles U =
      sum_same tiles _ _ (λ b here. replies_are b here) ∙ sum_plus tiles (λ t. length (g.net.notes (injection_channel d.shape t Reply)).sent) U in
      let answered : sum_below tiles (λ t. length (whole g.net (ejection_channel d.shape t Reply))) ≡ answered_count d s =
      sum_same tiles _ _ (λ p here. answers_are p here) in
      let left : sum_below tiles (λ b. unsent_of (tile_at s b).bank.to_put) ≤ sum_below tiles (λ b. 3 * U b) = sum_most tiles _ _ (λ b here. unsent_are b) in
      let left_too = sum_times tiles 3 U in
      omega (arith, most, sent, whole_too, fewer, sent_one, whole_one, issued, served, replied, answered, left, left_too)

  pub out_most : issued_count d s ≤ answered_count d s + tiles * l.tags
  out_most =
      let each : issued_count d s ≤ sum_below tiles (λ p. length (tile_at s p).processor.operations.answers + l.tags) = sum_most tiles _ _ (λ p here. out_are p here) in
      let parts = sum_plus tiles (λ p. length (tile_at s p).processor.operations.answers) (λ p. l.tags) in
      let all = sum_const tiles l.tags in
      omega (arith, each, parts, all)
    where
      sum_const : (n v : ℕ) → sum_below n (λ x. v) ≡ n * v
      sum_const zero v = omega arith
      sum_const (suc n) v = let rest = sum_const n v in let split = suc-mul n v in omega (arith, rest, split)

  -- so the tags do
  pub chores_by_tags : chores l steps m + 91 * issued_count d s ≤ 91 * served_count d s + 241 * (tiles * l.tags)
  chores_by_tags = omega (arith, chores_most, out_most)

  -- and no more is served than is issued
  pub served_few : served_count d s ≤ issued_count d s
  served_few =
      let fewer = whole_most (net_of d) g.net k (cap 1 0) in
      let sent = sent_both 1 0 in
      let whole_too = whole_both 1 0 in
      let issued : sum_below tiles (λ t. length (g.net.notes (injection_channel d.shape t Request)).sent) ≡ issued_count d s =
      sum_same tiles _ _ (λ p here. requests_are p here) in
      let served : served_count d s ≤ sum_below tiles (λ t. length (whole g.net (ejection_channel d.shape t Request))) =
      sum_most tiles _ _ (λ b here. served_are b here) in
      omega (arith, fewer, sent, whole_too, issued, served)
