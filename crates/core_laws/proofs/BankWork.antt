-- Each enabled step of a bank is an event of the network or none, and makes a move that is owed.
use Rattle.std.proofs.Common.{◌≡◌, ℕ, ◌<◌, ◌≤◌, Bool, true, false, cond, List, [], ◌∷◌, length, map, Option, Some, inl, inr, refl, sym, ◌∙◌, ap, subst, arith}
use Rattle.std.specs.Prelude.{option_map, is_none, ◌&&◌, ◌+◌, if◌then◌else◌}
use Rattle.std.proofs.lemmas.Option.{same_Some}
use Rattle.torus.specs.Shape.{IsAccepted, tiles_of}
use Rattle.torus.specs.declared.shape.Class.TheVariants.{Request, Reply}
use Rattle.torus.specs.declared.step.Choice.{Choice}
use Rattle.torus.specs.declared.step.Choice.TheVariants as choice
use Rattle.packet.specs.declared.kinds.Packet.TheVariants as packet
use Rattle.packet.specs.declared.kinds.Request.{Request as Asking}
use Rattle.packet.specs.declared.kinds.Response.{Response as Telling}
use Rattle.packet.specs.declared.kinds.Reply.{Reply as Value}
use Rattle.packet.specs.declared.kinds.Reply.TheVariants.{Old, Ok as Stored}
use Rattle.packet.specs.Spelling.{heading_of, values_of_reply}
use Rattle.packet.specs.Written.{head_flit, flits_for}
use Rattle.packet.specs.Memory.{reply_to}
use Rattle.home_bank.specs.ServiceList.{response_of}
use Rattle.flit_buffer.specs.declared.want.Want.{Want}
use Rattle.flit_buffer.specs.declared.want.Want.TheVariants as want
use Rattle.flit_buffer.specs.Channel as channel
use Rattle.flit_buffer.specs.Surroundings.{granted, ring}
use Rattle.wormhole.specs.Net.{IsOn, IsParcel, EndsWithTail, Parcel, net_flits as flits_in}
use Rattle.wormhole.specs.Words.{Words}
use Rattle.wormhole.specs.Events.{InjectHead, InjectRest}
use Rattle.core_laws.proofs.TorusEnds.{few_channels}
use Rattle.wormhole.specs.Work.{End}
use Rattle.core_laws.proofs.Members.{on_head, on_tail}
use Rattle.wormhole.proofs.Lists.{all_on}
use Rattle.packet.specs.Flits.{flits_of}
use Rattle.core_laws.specs.Heads.{carries_route}
use Rattle.home_bank.specs.BankTable.{bank_wants, bank_after, is_nil}
use Rattle.channel_number.specs.Ports.{injection_channel, ejection_channel}
use Rattle.core_laws.specs.Wiring.{bank_wiring}
use Rattle.core_laws.specs.Tile.{Design}
use Rattle.core_laws.specs.Core.{State}
use Rattle.core_laws.proofs.AgentSteps.{option_map_some}
use Rattle.core_laws.proofs.Projection.{net_of, response_parcel, first_flit}
use Rattle.core_laws.proofs.ChannelFacts.{is_head_of}
use Rattle.core_laws.proofs.Parcels.{parcel_flits, response_ends}
use Rattle.core_laws.proofs.PacketFacts.{is_parcel}
use Rattle.core_laws.proofs.Stands.{tile_at, Ghost, Mirrors, Carries, IsInPhase, IsProperResponse, responses_from, last_of}
use Rattle.core_laws.proofs.Lives.{no_head}
use Rattle.home_bank.specs.declared.entry.Entry.{Entry}
use Rattle.core_laws.specs.Delivery.{responses_made, response_made}
use Rattle.core_laws.specs.Network as network
use Rattle.core_laws.proofs.RouterWork.{if_so}
use Rattle.core_laws.proofs.ProcessorWork.{IsTileEvent, injection_low, ejection_low, flit_there, credit_there, returning_there, accepts}
use Rattle.core_laws.proofs.Rows.{end_of, serve_serves, reply_begins, reply_goes_on, bank_takes, bank_credit}

-- a reply has at most 3 flits
reply_short : (r : Telling) → length (flits_of (packet.Response r)) ≤ 3
unfolding flits_of
reply_short r = by_value (head_flit (heading_of (packet.Response r))) r.reply
  where
    by_value : (h : ℕ) (v : Value) → length (flits_for h (values_of_reply v)) ≤ 3
    by_value h Stored = omega arith
    by_value h (Old w) = omega arith

-- the one item of a list
one_item : {A B : Type 0} (f : A → B) (xs : List A) (y : B) → map f xs ≡ y ∷ [] → (x : A) × (xs ≡ x ∷ []) × (f x ≡ y)
one_item f [] y e = absurd (cc)
one_item f (x ∷ []) y e = (x, refl, cc)
one_item f (x ∷ z ∷ zs) y e = absurd (cc)

last_on : (xs : List Telling) (r : Telling) → last_of xs ≡ r ∷ [] → IsOn r xs
last_on [] r e = absurd (cc)
last_on (x ∷ []) r e = let same : x ≡ r = cc in subst (λ y. IsOn y (x ∷ [])) same (on_head x [])
last_on (x ∷ y ∷ zs) r e = on_tail x r (y ∷ zs) (last_on (y ∷ zs) r e)

-- the last response of a bank
last_is : (xs : List Telling) (r : Telling) → last_of xs ≡ r ∷ [] → network.last_response xs ≡ Some r
last_is [] r e = absurd (cc)
last_is (x ∷ []) r e = cc
last_is (x ∷ y ∷ zs) r e = last_is (y ∷ zs) r e

made_same : (b k : ℕ) (es : List Entry) → responses_from b k es ≡ responses_made b k es
made_same b k [] = refl
made_same b k (e ∷ es) = ap (λ rs. response_made b k e ∷ rs) (made_same b (k + 1) es)

-- flits that follow a head have no head first
tail_first : (d : Design) (fs : List ℕ) → EndsWithTail (net_of d) fs → carries_route (first_flit fs) ≡ false
tail_first d [] shaped = no_head
tail_first d (f ∷ fs) shaped = sym (is_head_of d f) ∙ shaped.0

module _ (d : Design) (s : State) (g : Ghost) (mirrors : Mirrors d s g.net.lines) (accepted : IsAccepted d.shape) (words : Words (net_of d) g.net)
    (carries : Carries d s g) (t cap : ℕ) (here : t < tiles_of d.shape)
    (phase : IsInPhase t (tile_at s t).bank) (room : (r : Asking) → (tile_at s t).bank.waiting ≡ Some r → length (tile_at s t).bank.entries < cap) where
  abbrev after_choice : Choice → Want → ℕ → End
  after_choice c w learned = end_of cap (tile_at s t).processor (bank_after (tiles_of d.shape) t (tile_at s t).bank c w learned)

  abbrev now : End
  now = end_of cap (tile_at s t).processor (tile_at s t).bank

  short_ways : (i j : ℕ) → (net_of d).joins i j ≡ true → length ((net_of d).route i j) ≤ 10
  unfolding net_of
  short_ways i j joined = few_channels d.shape d.depth i j accepted joined

  -- the first flit of a reply
  send_first : (w : Want) (learned f : ℕ) (fs : List ℕ) → (tile_at s t).bank.to_put ≡ f ∷ fs → carries_route f ≡ true
      → granted s.around (bank_wiring d.shape t) (want.Put 0 f) ≡ Some learned
      → IsTileEvent d g.net (network.reply_event d t (tile_at s t).bank (f ∷ fs)) now (after_choice choice.Send w learned)
  send_first w learned f fs due head grants =
      let x : ℕ = injection_channel d.shape t Reply in
      let end = injection_low d s g.net mirrors t Reply here in
      let made : List Telling = responses_from t 0 (tile_at s t).bank.entries in
      let bit : carries_route (first_flit (tile_at s t).bank.to_put) ≡ true = ap (λ l. carries_route (first_flit l)) due ∙ head in
      let one = one_item (λ (r : Telling). flits_of (packet.Response r)) (last_of made) (tile_at s t).bank.to_put (phase.fresh bit) in
      let r : Telling = one.0 in
      let is : IsProperResponse d r × (r.source ≡ t) =
      all_on (λ (q : Telling). IsProperResponse d q × (q.source ≡ t)) made r (carries.replies_proper t here) (last_on made r one.1) in
      let k : Parcel = response_parcel d.shape r in
      let parcel : IsParcel (net_of d) k = is_parcel d (packet.Response r) is.0.spelled is.0.source is.0.destination in
      let flits : flits_in k ≡ f ∷ fs = sym (parcel_flits d.shape (packet.Response r) is.0.spelled) ∙ one.2 ∙ due in
      let tail : k.tail ≡ fs = cc in
      let later : carries_route (first_flit fs) ≡ false = ap (λ l. carries_route (first_flit l)) (sym tail) ∙ tail_first d k.tail parcel.tail in
      let last : network.last_response (responses_made t 0 (tile_at s t).bank.entries) ≡ Some r =
      ap network.last_response (sym (made_same t 0 (tile_at s t).bank.entries)) ∙ last_is made r one.1 in
      subst (λ (b : Bool). IsTileEvent d g.net
      (if b then option_map (λ q. InjectHead x (response_parcel d.shape q)) (network.last_response (responses_made t 0 (tile_at s t).bank.entries))
      else Some (InjectRest x f fs)) now (after_choice choice.Send w learned)) (sym head)
      (subst (λ (q : Option Telling). IsTileEvent d g.net (option_map (λ p. InjectHead x (response_parcel d.shape p)) q) now
      (after_choice choice.Send w learned)) (sym last) (record {
        may = record {
          here = end.0;
          injects = end.1;
          idle = mirrors.sends_replies t here ∙ ap (λ b. cond b [] (tile_at s t).bank.to_put) bit;
          credit = credit_there d s g.net mirrors (bank_wiring d.shape t) x f learned refl end.0 grants;
          parcel = parcel;
          source = (response_ends d.shape r).0 ∙ ap (λ z. injection_channel d.shape z Reply) is.1;
        };
        change = inr (reply_begins (tiles_of d.shape) d.words t cap (tile_at s t).processor (tile_at s t).bank (net_of d) k w learned f fs due head later
            (ap length flits) (short_ways k.source k.destination parcel.joined));
      }))

  -- a further flit of a reply
  send_on : (w : Want) (learned f : ℕ) (fs : List ℕ) → (tile_at s t).bank.to_put ≡ f ∷ fs → carries_route f ≡ false
      → granted s.around (bank_wiring d.shape t) (want.Put 0 f) ≡ Some learned
      → IsTileEvent d g.net (network.reply_event d t (tile_at s t).bank (f ∷ fs)) now (after_choice choice.Send w learned)
  send_on w learned f fs due rest grants =
      let x : ℕ = injection_channel d.shape t Reply in
      let end = injection_low d s g.net mirrors t Reply here in
      let bit : carries_route (first_flit (tile_at s t).bank.to_put) ≡ false = ap (λ l. carries_route (first_flit l)) due ∙ rest in
      let course : (g.net.lines x).rest ≡ f ∷ fs = mirrors.sends_replies t here ∙ ap (λ b. cond b [] (tile_at s t).bank.to_put) bit ∙ due in
      let shaped : EndsWithTail (net_of d) (f ∷ fs) = subst (EndsWithTail (net_of d)) (words.senders x end.1 ∙ course) (words.owed x) in
      subst (λ (b : Bool). IsTileEvent d g.net
      (if b then option_map (λ q. InjectHead x (response_parcel d.shape q)) (network.last_response (responses_made t 0 (tile_at s t).bank.entries))
      else Some (InjectRest x f fs)) now (after_choice choice.Send w learned)) (sym rest)
      (record {
        may = record {
          here = end.0;
          injects = end.1;
          course = course;
          credit = credit_there d s g.net mirrors (bank_wiring d.shape t) x f learned refl end.0 grants;
        };
        change = reply_goes_on (tiles_of d.shape) d.words t cap (tile_at s t).processor (tile_at s t).bank w learned f fs due rest (tail_first d fs shaped.2);
      })

  send_bit : (w : Want) (learned f : ℕ) (fs : List ℕ) → (tile_at s t).bank.to_put ≡ f ∷ fs → (b : Bool) → carries_route f ≡ b
      → granted s.around (bank_wiring d.shape t) (want.Put 0 f) ≡ Some learned
      → IsTileEvent d g.net (network.reply_event d t (tile_at s t).bank (f ∷ fs)) now (after_choice choice.Send w learned)
  send_bit w learned f fs due true bit grants = send_first w learned f fs due bit grants
  send_bit w learned f fs due false bit grants = send_on w learned f fs due bit grants

  send_by : (w : Want) (learned : ℕ) (l : List ℕ) → (tile_at s t).bank.to_put ≡ l → option_map (λ f. want.Put 0 f) (channel.first_of l) ≡ Some w
      → granted s.around (bank_wiring d.shape t) w ≡ Some learned
      → IsTileEvent d g.net (network.reply_event d t (tile_at s t).bank l) now (after_choice choice.Send w learned)
  send_by w learned [] due wanted grants = absurd (cc)
  send_by w learned (f ∷ fs) due wanted grants =
      send_bit w learned f fs due (carries_route f) refl (ap (granted s.around (bank_wiring d.shape t)) (same_Some (want.Put 0 f) w wanted) ∙ grants)

  -- each choice of a bank that is enabled
  pub bank_event : (c : Choice) (w : Want) (learned : ℕ) → bank_wants (tiles_of d.shape) t (tile_at s t).bank c ≡ Some w
      → granted s.around (bank_wiring d.shape t) w ≡ Some learned
      → IsTileEvent d g.net (network.bank_event d t (tile_at s t).bank s.around c learned) (end_of cap (tile_at s t).processor (tile_at s t).bank)
      (end_of cap (tile_at s t).processor (bank_after (tiles_of d.shape) t (tile_at s t).bank c w learned))
  bank_event choice.Take w learned wanted grants =
      let x : ℕ = ejection_channel d.shape t Request in
      let end = ejection_low d s g.net mirrors t Request here in
      let is = if_so (is_none (tile_at s t).bank.waiting && is_nil (tile_at s t).bank.to_put) (Some (want.Take 0)) w wanted in
      let f = flit_there d s g.net mirrors (bank_wiring d.shape t) x learned refl end.0
      (ap (granted s.around (bank_wiring d.shape t)) (same_Some (want.Take 0) w is.1) ∙ grants) in
      accepts d s g.net mirrors x learned (channel.rest (ring s.around.rings x).channel.flits) now (after_choice choice.Take w learned) end.0 end.1 f
      (bank_takes (tiles_of d.shape) d.words t cap (tile_at s t).processor (tile_at s t).bank w learned)
      (carries_route learned) (is_head_of d learned)
  bank_event choice.Serve w learned wanted grants =
      let r = option_map_some _ (tile_at s t).bank.waiting w wanted in
      record {
        may = tt;
        change = inl (serve_serves (tiles_of d.shape) d.words t cap (tile_at s t).processor (tile_at s t).bank w learned r.0 r.1 (room r.0 r.1)
            (reply_short (response_of t (length (tile_at s t).bank.entries) r.0 (reply_to (r.0).op learned))));
      }
  bank_event choice.Send w learned wanted grants = send_by w learned (tile_at s t).bank.to_put refl wanted grants
  bank_event choice.Credit w learned wanted grants =
      let x : ℕ = injection_channel d.shape t Reply in
      let end = injection_low d s g.net mirrors t Reply here in
      record {
        may = record {
          here = end.0;
          returns = returning_there d s g.net mirrors (bank_wiring d.shape t) x learned refl end.0
              (ap (granted s.around (bank_wiring d.shape t)) (same_Some (want.Credit 0) w wanted) ∙ grants);
        };
        change = bank_credit (tiles_of d.shape) d.words t cap (tile_at s t).processor (tile_at s t).bank w learned;
      }
  bank_event (choice.TakeFrom i) w learned wanted grants = absurd (cc)
  bank_event (choice.Put i) w learned wanted grants = absurd (cc)
  bank_event (choice.CreditOf o) w learned wanted grants = absurd (cc)
  bank_event choice.Done w learned wanted grants = absurd (cc)
  bank_event choice.Look w learned wanted grants = absurd (cc)
