-- Each enabled step of a processor is an event of the network or none, and makes a move that is owed.
use Rattle.std.proofs.Common.{◌≡◌, ℕ, ◌<◌, ◌≤◌, Bool, true, false, List, [], ◌∷◌, length, Option, Some, None, inl, inr, refl, sym, ◌∙◌, ap, subst, slice_index}
use Rattle.std.specs.Prelude.{option_map, nat_lt}
use Rattle.std.proofs.lemmas.Bool.{ltb-true}
use Rattle.std.proofs.lemmas.Option.{same_Some}
use Rattle.torus.specs.Shape.{IsAccepted, tiles_of}
use Rattle.torus.specs.declared.shape.Class.{Class}
use Rattle.torus.specs.declared.shape.Class.TheVariants.{Request, Reply}
use Rattle.torus.specs.declared.step.Choice.{Choice}
use Rattle.torus.specs.declared.step.Choice.TheVariants as choice
use Rattle.packet.specs.declared.kinds.Operation.{Operation}
use Rattle.packet.specs.declared.kinds.Packet.TheVariants as packet
use Rattle.packet.specs.declared.kinds.Request.{Request as Asking}
use Rattle.packet.specs.Spelling.{Spells}
use Rattle.packet.proofs.Shapes.{at_most_five}
use Rattle.one_order.specs.Following.{left_of, after_issue}
use Rattle.one_order.proofs.Shown.{left_after_issue}
use Rattle.flit_buffer.specs.declared.want.Want.{Want}
use Rattle.flit_buffer.specs.declared.want.Want.TheVariants as want
use Rattle.flit_buffer.specs.Channel as channel
use Rattle.flit_buffer.specs.Surroundings.{Wiring, granted, ring}
use Rattle.one_order.specs.ProcessorRecord.{ready, request_of}
use Rattle.wormhole.specs.Net.{IsParcel, Parcel, net_flits as flits_in}
use Rattle.wormhole.specs.State.{NetState}
use Rattle.wormhole.specs.Events.{NetEvent, InjectHead, InjectRest}
use Rattle.core_laws.proofs.TorusEnds.{ends_are, few_channels}
use Rattle.wormhole.specs.Work.{End, IsChange, EventMayHappen, NetStays}
use Rattle.one_order.specs.ProcessorTable.{processor_wants, processor_after, flits_due, request_flits}
use Rattle.channel_number.specs.Ports.{injection_channel, ejection_channel}
use Rattle.core_laws.specs.Wiring.{processor_wiring}
use Rattle.core_laws.specs.Tile.{Design}
use Rattle.core_laws.specs.Core.{State}
use Rattle.core_laws.proofs.AgentSteps.{option_map_some}
use Rattle.core_laws.proofs.Projection.{net_of, request_parcel}
use Rattle.core_laws.proofs.Parcels.{parcel_flits, request_ends}
use Rattle.core_laws.proofs.PacketFacts.{is_parcel}
use Rattle.core_laws.proofs.SendFacts.{ready_parts}
use Rattle.core_laws.proofs.Stands.{tile_at, IsLane, Mirrors, IsProperRequest}
use Rattle.core_laws.proofs.Machine.{IsFollowing}
use Rattle.wormhole.specs.Delivery.{accept}
use Rattle.core_laws.specs.Heads.{carries_route}
use Rattle.core_laws.proofs.ChannelFacts.{is_head_of}
use Rattle.core_laws.specs.Network as network
use Rattle.core_laws.proofs.RouterWork.{if_so, first_there}
use Rattle.core_laws.proofs.Rows.{end_of, processor_takes, issue_left, send_stays, done_reports, look_reports, processor_credit}

-- an event of the network or none, that a step of the tile is, and what becomes of the ends
pub record IsTileEvent (d : Design) (net : NetState) (event : Option NetEvent) (old new : End) : Type 0 where
  pub may : EventMayHappen (net_of d) net event
  pub change : IsChange (net_of d) event old new

module _ (d : Design) (s : State) (net : NetState) (mirrors : Mirrors d s net.lines) where
  pub lane : (x : ℕ) → x < (net_of d).channels → IsLane (ring s.around.rings x).channel (net.lines x)
  unfolding net_of
  lane x within = mirrors.rings x within

  pub injection_low : (t : ℕ) (class : Class) → t < tiles_of d.shape
      → (injection_channel d.shape t class < (net_of d).channels) × ((net_of d).injects (injection_channel d.shape t class) ≡ true)
  unfolding net_of
  injection_low t class here = let at = ends_are d.shape d.depth t class here in (at.injection_here, at.injects)

  pub ejection_low : (t : ℕ) (class : Class) → t < tiles_of d.shape
      → (ejection_channel d.shape t class < (net_of d).channels) × ((net_of d).ejects (ejection_channel d.shape t class) ≡ true)
  unfolding net_of
  ejection_low t class here = let at = ends_are d.shape d.depth t class here in (at.ejection_here, at.ejects)

  -- what was granted at an end's only port
  pub flit_there : (wiring : Wiring) (x f : ℕ) → slice_index wiring.inputs 0 ≡ x → x < (net_of d).channels → granted s.around wiring (want.Take 0) ≡ Some f
      → (net.lines x).flits ≡ f ∷ channel.rest (ring s.around.rings x).channel.flits
  flit_there wiring x f is within grants =
      let at = first_there (ring s.around.rings x).channel.flits f (ap (λ z. channel.first_of (ring s.around.rings z).channel.flits) (sym is) ∙ grants) in
      (lane x within).flits ∙ at

  pub credit_there : (wiring : Wiring) (x f l : ℕ) → slice_index wiring.outputs 0 ≡ x → x < (net_of d).channels
      → granted s.around wiring (want.Put 0 f) ≡ Some l → 0 < (net.lines x).held
  credit_there wiring x f l is within grants =
      let test = (if_so (nat_lt 0 (ring s.around.rings (slice_index wiring.outputs 0)).channel.held) (Some 0) l grants).0 in
      subst (λ n. 0 < n) (ap (λ z. (ring s.around.rings z).channel.held) is ∙ sym (lane x within).held)
      (ltb-true 0 (ring s.around.rings (slice_index wiring.outputs 0)).channel.held test)

  pub returning_there : (wiring : Wiring) (x l : ℕ) → slice_index wiring.outputs 0 ≡ x → x < (net_of d).channels
      → granted s.around wiring (want.Credit 0) ≡ Some l → 0 < (net.lines x).returning
  returning_there wiring x l is within grants =
      let test = (if_so (nat_lt 0 (ring s.around.rings (slice_index wiring.outputs 0)).channel.returning) (Some 0) l grants).0 in
      subst (λ n. 0 < n) (ap (λ z. (ring s.around.rings z).channel.returning) is ∙ sym (lane x within).returning)
      (ltb-true 0 (ring s.around.rings (slice_index wiring.outputs 0)).channel.returning test)

  -- a receiver takes a flit
  pub accepts : (x f : ℕ) (more : List ℕ) (old new : End) → x < (net_of d).channels → (net_of d).ejects x ≡ true → (net.lines x).flits ≡ f ∷ more
      → NetStays old new → (b : Bool) → (net_of d).is_head f ≡ b → IsTileEvent d net (Some (accept b x f more)) old new
  accepts x f more old new within ejects first row true bit =
      record { may = record { here = within; ejects = ejects; first = first; head = bit }; change = row }
  accepts x f more old new within ejects first row false bit =
      record { may = record { here = within; ejects = ejects; first = first; head = bit }; change = row }

  -- a processor's steps, whose bank may make so many entries
  module _ (accepted : IsAccepted d.shape) (t cap : ℕ) (here : t < tiles_of d.shape) (follows : IsFollowing s t)
      (proper : (tag : ℕ) (o : Operation) → ready (tile_at s t).processor.operations ≡ Some (tag, o)
      → IsProperRequest d (request_of (tiles_of d.shape) t tag o)) where
    short_ways : (i j : ℕ) → (net_of d).joins i j ≡ true → length ((net_of d).route i j) ≤ 10
    unfolding net_of
    short_ways i j joined = few_channels d.shape d.depth i j accepted joined

    abbrev after_choice : Choice → Want → ℕ → End
    after_choice c w learned = end_of cap (processor_after (tiles_of d.shape) d.words t (tile_at s t).processor c w learned) (tile_at s t).bank

    abbrev now : End
    now = end_of cap (tile_at s t).processor (tile_at s t).bank

    -- a further flit of the request in course
    send_on : (w : Want) (learned f : ℕ) (fs : List ℕ) → (tile_at s t).processor.to_put ≡ f ∷ fs
        → granted s.around (processor_wiring d.shape t) (want.Put 0 f) ≡ Some learned
        → IsTileEvent d net (Some (InjectRest (injection_channel d.shape t Request) f fs)) now (after_choice choice.Send w learned)
    send_on w learned f fs due grants =
        let x : ℕ = injection_channel d.shape t Request in
        let end = injection_low t Request here in
        record {
          may = record {
            here = end.0;
            injects = end.1;
            course = mirrors.sends_requests t here ∙ due;
            credit = credit_there (processor_wiring d.shape t) x f learned refl end.0 grants;
          };
          change = send_stays (tiles_of d.shape) d.words t cap (tile_at s t).processor (tile_at s t).bank w learned f fs due;
        }

    -- the first flit of a new request
    send_first : (w : Want) (learned f tag : ℕ) (o : Operation) → (tile_at s t).processor.to_put ≡ [] → ready (tile_at s t).processor.operations ≡ Some (tag, o)
        → granted s.around (processor_wiring d.shape t) (want.Put 0 f) ≡ Some learned
        → IsTileEvent d net (Some (InjectHead (injection_channel d.shape t Request) (request_parcel d.shape (request_of (tiles_of d.shape) t tag o)))) now
        (after_choice choice.Send w learned)
    send_first w learned f tag o none due grants =
        let x : ℕ = injection_channel d.shape t Request in
        let end = injection_low t Request here in
        let r : Asking = request_of (tiles_of d.shape) t tag o in
        let k : Parcel = request_parcel d.shape r in
        let is : IsProperRequest d r = proper tag o due in
        let parcel : IsParcel (net_of d) k = is_parcel d (packet.Request r) is.spelled is.source is.destination in
        let spelled : Spells (packet.Request r) (flits_in k) =
        subst (Spells (packet.Request r)) (parcel_flits d.shape (packet.Request r) is.spelled) is.spelled in
        let falls : left_of (after_issue (tile_at s t).processor.operations.following) < left_of (tile_at s t).processor.operations.following =
        left_after_issue follows.lines follows.past (tile_at s t).processor.operations.following follows.accepted follows.shows o
        (ready_parts (tile_at s t).processor.operations tag o due).0 in
        record {
          may = record {
            here = end.0;
            injects = end.1;
            idle = mirrors.sends_requests t here ∙ none;
            credit = credit_there (processor_wiring d.shape t) x f learned refl end.0 grants;
            parcel = parcel;
            source = (request_ends d.shape r).0;
          };
          change = inl (issue_left (tiles_of d.shape) d.words t cap (tile_at s t).processor (tile_at s t).bank (net_of d) k w learned tag o none due falls
              (at_most_five (packet.Request r) (flits_in k) spelled) (short_ways k.source k.destination parcel.joined));
        }

    send_by_ready : (w : Want) (learned : ℕ) (n : Option (ℕ × Operation)) → (tile_at s t).processor.to_put ≡ [] → ready (tile_at s t).processor.operations ≡ n
        → option_map (λ f. want.Put 0 f) (channel.first_of (request_flits (tiles_of d.shape) d.words t n)) ≡ Some w
        → granted s.around (processor_wiring d.shape t) w ≡ Some learned
        → IsTileEvent d net (network.request_event d t [] n) now (after_choice choice.Send w learned)
    send_by_ready w learned None none due wanted grants = absurd (cc)
    send_by_ready w learned (Some n) none due wanted grants =
        let f = option_map_some (λ f. want.Put 0 f) (channel.first_of (request_flits (tiles_of d.shape) d.words t (Some n))) w wanted in
        send_first w learned f.0 n.0 n.1 none due (ap (granted s.around (processor_wiring d.shape t)) f.2 ∙ grants)

    send_by : (w : Want) (learned : ℕ) (l : List ℕ) → (tile_at s t).processor.to_put ≡ l
        → option_map (λ f. want.Put 0 f) (channel.first_of (flits_due (tiles_of d.shape) d.words t l (ready (tile_at s t).processor.operations))) ≡ Some w
        → granted s.around (processor_wiring d.shape t) w ≡ Some learned
        → IsTileEvent d net (network.request_event d t l (ready (tile_at s t).processor.operations)) now (after_choice choice.Send w learned)
    send_by w learned (f ∷ fs) due wanted grants =
        send_on w learned f fs due (ap (granted s.around (processor_wiring d.shape t)) (same_Some (want.Put 0 f) w wanted) ∙ grants)
    send_by w learned [] none wanted grants = send_by_ready w learned (ready (tile_at s t).processor.operations) none refl wanted grants

    -- each choice of a processor that is enabled
    pub processor_event : (c : Choice) (w : Want) (learned : ℕ) → processor_wants (tiles_of d.shape) d.words t (tile_at s t).processor c ≡ Some w
        → granted s.around (processor_wiring d.shape t) w ≡ Some learned
        → IsTileEvent d net (network.processor_event d t (tile_at s t).processor s.around c learned) (end_of cap (tile_at s t).processor (tile_at s t).bank)
        (end_of cap (processor_after (tiles_of d.shape) d.words t (tile_at s t).processor c w learned) (tile_at s t).bank)
    processor_event choice.Send w learned wanted grants = send_by w learned (tile_at s t).processor.to_put refl wanted grants
    processor_event choice.Take w learned wanted grants =
        let x : ℕ = ejection_channel d.shape t Reply in
        let end = ejection_low t Reply here in
        let f = flit_there (processor_wiring d.shape t) x learned refl end.0
        (ap (granted s.around (processor_wiring d.shape t)) (same_Some (want.Take 0) w wanted) ∙ grants) in
        accepts x learned (channel.rest (ring s.around.rings x).channel.flits) now (after_choice choice.Take w learned) end.0 end.1 f
        (processor_takes (tiles_of d.shape) d.words t cap (tile_at s t).processor (tile_at s t).bank w learned)
        (carries_route learned) (is_head_of d learned)
    processor_event choice.Credit w learned wanted grants =
        let x : ℕ = injection_channel d.shape t Request in
        let end = injection_low t Request here in
        record {
          may = record {
            here = end.0;
            returns = returning_there (processor_wiring d.shape t) x learned refl end.0
                (ap (granted s.around (processor_wiring d.shape t)) (same_Some (want.Credit 0) w wanted) ∙ grants);
          };
          change = processor_credit (tiles_of d.shape) d.words t cap (tile_at s t).processor (tile_at s t).bank w learned;
        }
    processor_event choice.Done w learned wanted grants =
        record { may = tt; change = inr (done_reports (tiles_of d.shape) d.words t cap (tile_at s t).processor (tile_at s t).bank w learned wanted) }
    processor_event choice.Look w learned wanted grants =
        record { may = tt; change = inr (look_reports (tiles_of d.shape) d.words t cap (tile_at s t).processor (tile_at s t).bank w learned wanted) }
    processor_event (choice.TakeFrom i) w learned wanted grants = absurd (cc)
    processor_event (choice.Put i) w learned wanted grants = absurd (cc)
    processor_event (choice.CreditOf o) w learned wanted grants = absurd (cc)
    processor_event choice.Serve w learned wanted grants = absurd (cc)
