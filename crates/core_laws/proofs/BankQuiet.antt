-- The steps of a bank that serve nothing keep what holds of every reached state.
use Rattle.std.proofs.Common.{◌≡◌, ◌≢◌, ℕ, ◌<◌, Bool, true, false, cond, List, [], ◌∷◌, Option, Some, None, refl, sym, ◌∙◌, ap, subst, slice_set}
use Rattle.std.proofs.Common.{is_none, if◌then◌else◌}
use Rattle.std.specs.Prelude.{option_map, nat_lt, ◌&&◌}
use Rattle.std.proofs.lemmas.Bool.{ltb-true}
use Rattle.std.proofs.lemmas.Option.{same_Some}
use Rattle.torus.specs.Shape.{IsAccepted, tiles_of}
use Rattle.torus.specs.declared.shape.Class.TheVariants.{Request, Reply}
use Rattle.torus.specs.declared.step.Choice.{Choice}
use Rattle.torus.specs.declared.step.Choice.TheVariants.{Send, Take, TakeFrom, Put, Credit, CreditOf, Serve, Done, Look}
use Rattle.torus.specs.declared.step.Step.{Step}
use Rattle.packet.specs.declared.kinds.Packet.TheVariants as packet
use Rattle.packet.specs.declared.kinds.Request.{Request as Asking}
use Rattle.packet.specs.declared.assembler.Offered.{Offered}
use Rattle.packet.specs.Answer.{flits_left}
use Rattle.home_bank.specs.ServiceList.{address_of}
use Rattle.one_order.specs.Order.{LinearizationPoint}
use Rattle.flit_buffer.specs.Channel.{first_of, rest}
use Rattle.flit_buffer.specs.declared.want.Want.{Want}
use Rattle.flit_buffer.specs.declared.want.Want.TheVariants as want
use Rattle.flit_buffer.specs.Surroundings.{Surroundings, ring, granted, surroundings_after}
use Rattle.wormhole.specs.Net.{IsNet}
use Rattle.one_order.specs.Flight.{Serves}
use Rattle.packet.specs.Flits.{is_tail, offered}
use Rattle.core_laws.specs.Heads.{carries_route}
use Rattle.home_bank.specs.BankTable.{BankState, bank_wants, bank_after, is_nil, waiting_offered}
use Rattle.channel_number.specs.Ports.{injection_channel, ejection_channel}
use Rattle.tile.specs.Wiring.{bank_wiring}
use Rattle.tile.specs.declared.agent.Agent.TheVariants.{Bank}
use Rattle.tile.specs.Tile.{Design, tile_step}
use Rattle.tile.specs.Agents.{agent_kind}
use Rattle.core_laws.specs.Core.{State, next}
use Rattle.core_laws.specs.Moves.{bank_move, tile_move, move_of}
use Rattle.core_laws.proofs.Projection.{net_of, first_flit}
use Rattle.core_laws.proofs.Networks.{network}
use Rattle.core_laws.proofs.ChannelFacts.{injects_at, injection_in}
use Rattle.core_laws.proofs.AgentSteps.{option_map_some, option_map_none}
use Rattle.core_laws.proofs.TileMoves.{if_some}
use Rattle.core_laws.proofs.StepEvents.{first_there}
use Rattle.core_laws.proofs.Accepting.{request_goes_on, is_more, may_happen}
use Rattle.core_laws.proofs.TakesMore.{more_state, more_ghost, bank_more, bank_tile}
use Rattle.core_laws.proofs.TakesWhole.{whole_state, whole_ghost, whole_stands, comes_from}
use Rattle.core_laws.proofs.FlitsSent.{rest_above}
use Rattle.core_laws.proofs.Replies.{fresh, can, reply_stands}
use Rattle.core_laws.proofs.RepliesRest.{rest_quiet, rest_stands}
use Rattle.core_laws.proofs.Quiet.{back_quiet, back_stands}
use Rattle.core_laws.proofs.Completes.{accepts}
use Rattle.core_laws.proofs.ResponseLists.{last_is, made_from}
use Rattle.core_laws.specs.Delivery.{responses_made}
use Rattle.core_laws.specs.Network.{response_parcel, last_response, reply_event, bank_event, tile_event, network_event}
use Rattle.wormhole.specs.Events.{NetEvent, InjectHead, InjectRest, Return}
use Rattle.packet.specs.declared.kinds.Response.{Response as Telling}
use Rattle.core_laws.proofs.QuietSteps.{Stays, with_tile, agent_stays, attempt_stays, if_true, both_true, none_there}
use Rattle.core_laws.proofs.Stands.{Ghost, Stands, tile_at, in_course, responses_from}

nil_there : (xs : List ℕ) → is_nil xs ≡ true → xs ≡ []
nil_there [] h = refl
nil_there (x ∷ xs) h = absurd (cc)

module _ (d : Design) (accepted : IsAccepted d.shape) (tags : ℕ) (opening : List ℕ) (s : State) (g : Ghost) (order : List LinearizationPoint)
    (st : Stands d tags opening s g order) where
  net : IsNet (net_of d)
  net = network d accepted

  abbrev tiles : ℕ
  tiles = tiles_of d.shape

  abbrev Kept : State → Option NetEvent → Type 0
  Kept after e = Stays d tags opening g order after e

  abbrev bank_then : ℕ → BankState → Want → State
  bank_then t b w = record {
    tiles = slice_set s.tiles t (record (tile_at s t) { bank = b });
    around = surroundings_after d.depth s.around (bank_wiring d.shape t) w;
  }

  module _ (t : ℕ) (t_in : t < tiles_of d.shape) where
    abbrev b : BankState
    b = (tile_at s t).bank

    -- a flit taken
    abbrev taking : Offered → ℕ → BankState
    taking o flit = record b { waiting = waiting_offered tiles t b.waiting o; so_far = flits_left o b.so_far flit }

    take_flit : (flit : ℕ) (more : List ℕ) → (ring s.around.rings (ejection_channel d.shape t Request)).channel.flits ≡ flit ∷ more → b.waiting ≡ None
        → b.to_put ≡ [] → (last : Bool) → is_tail flit ≡ last
        → Kept (bank_then t (taking (offered b.so_far flit) flit) (want.Take 0)) (Some (accepts (ejection_channel d.shape t Request) flit more (carries_route flit)))
    take_flit flit more first none idle true is =
        let c = comes_from d net tags opening s g order st t t_in flit more first is none idle in
        let same : whole_state d net tags opening s g order st t t_in flit more first is none idle
        ≡ bank_then t (taking (offered b.so_far flit) flit) (want.Take 0) =
        ap (λ (o : Offered). bank_then t (taking o flit) (want.Take 0)) (sym c.complete) in
        record {
          stands = subst (λ (x : State). Stands d tags opening x (whole_ghost d net tags opening s g order st t t_in flit more first is none idle) order) same
              (whole_stands d net tags opening s g order st t t_in flit more first is none idle);
          may = may_happen d net tags opening s g order st t t_in Request flit more first;
        }
    take_flit flit more first none idle false is =
        let c = request_goes_on d net tags opening s g order st t t_in flit more first in
        let same : more_state d net tags opening s g order st t t_in Request flit more first is (bank_tile d net tags opening s g order st t t_in flit more is)
        ≡ bank_then t (taking (offered b.so_far flit) flit) (want.Take 0) =
        ap (λ (o : Offered). bank_then t (taking o flit) (want.Take 0)) (sym (is_more (packet.Request c.0) b.so_far flit c.1 is)) in
        record {
          stands = subst (λ (x : State). Stands d tags opening x
              (more_ghost d net tags opening s g order st t t_in Request flit more first is (bank_tile d net tags opening s g order st t t_in flit more is))
              order) same
              (bank_more d net tags opening s g order st t t_in flit more is first none idle);
          may = may_happen d net tags opening s g order st t t_in Request flit more first;
        }

    -- a flit of a reply sent
    send_flit : (flit : ℕ) → b.to_put ≡ flit ∷ rest b.to_put → 0 < (ring s.around.rings (injection_channel d.shape t Reply)).channel.held → (head : Bool)
        → carries_route flit ≡ head
        → Kept (bank_then t (record b { to_put = rest b.to_put }) (want.Put 0 flit)) (reply_event d t b b.to_put)
    send_flit flit course credit true is =
        let first : first_flit b.to_put ≡ flit = ap first_flit course in
        let starts : carries_route (first_flit b.to_put) ≡ true = ap carries_route first ∙ is in
        let q = fresh d net tags opening s g order st t t_in starts credit in
        let event : Some (InjectHead (injection_channel d.shape t Reply) (response_parcel d.shape q.0)) ≡ reply_event d t b b.to_put =
        ap (option_map (λ (r : Telling). InjectHead (injection_channel d.shape t Reply) (response_parcel d.shape r)))
        (sym (last_is (responses_from t 0 b.entries) q.0 q.1))
        ∙ (ap (λ (rs : List Telling). option_map (λ (r : Telling). InjectHead (injection_channel d.shape t Reply) (response_parcel d.shape r))
        (last_response rs)) (sym (made_from t 0 b.entries))
        ∙ (ap (λ (x : Bool). if x
        then option_map (λ (r : Telling). InjectHead (injection_channel d.shape t Reply) (response_parcel d.shape r))
        (last_response (responses_made t 0 b.entries)) else Some (InjectRest (injection_channel d.shape t Reply) flit (rest b.to_put))) (sym is)
        ∙ ap (reply_event d t b) (sym course))) in
        subst (λ (f : ℕ). Kept (bank_then t (record b { to_put = rest b.to_put }) (want.Put 0 f)) (reply_event d t b b.to_put)) first
        (subst (λ (e : Option NetEvent). Kept (bank_then t (record b { to_put = rest b.to_put }) (want.Put 0 (first_flit b.to_put))) e) event
        (record { stands = reply_stands d net tags opening s g order st t t_in starts credit; may = can d net tags opening s g order st t t_in starts credit }))
    send_flit flit course credit false is =
        let left : (g.net.lines (injection_channel d.shape t Reply)).rest ≡ flit ∷ rest b.to_put =
        st.mirrors.sends_replies t t_in ∙ (ap in_course course ∙ ap (λ (x : Bool). cond x [] (flit ∷ rest b.to_put)) is) in
        let some : flit ≢ 0 = rest_above d accepted tags opening s g order st (injection_channel d.shape t Reply) flit (rest b.to_put) (injects_at d t Reply)
        left in
        let event : Some (InjectRest (injection_channel d.shape t Reply) flit (rest b.to_put)) ≡ reply_event d t b b.to_put =
        ap (λ (x : Bool). if x then option_map (λ (r : Telling). InjectHead (injection_channel d.shape t Reply) (response_parcel d.shape r))
        (last_response (responses_made t 0 b.entries)) else Some (InjectRest (injection_channel d.shape t Reply) flit (rest b.to_put))) (sym is)
        ∙ ap (reply_event d t b) (sym course) in
        subst (λ (e : Option NetEvent). Kept (bank_then t (record b { to_put = rest b.to_put }) (want.Put 0 flit)) e) event
        (record {
          stands = rest_stands d net tags opening s g order st t t_in flit (rest b.to_put) course is some credit;
          may = (rest_quiet d net tags opening s g order st t t_in flit (rest b.to_put) course is some credit).can;
        })

    then_bank : (choice : Choice) (w : Want) (learned : ℕ) → bank_wants tiles t b choice ≡ Some w → granted s.around (bank_wiring d.shape t) w ≡ Some learned
        → bank_move b choice learned ≡ None
        → Kept (bank_then t (bank_after tiles t b choice w learned) w) (bank_event d t b s.around choice learned)
    then_bank Take w learned is grants e =
        let w_is : want.Take 0 ≡ w = if_some (is_none b.waiting && is_nil b.to_put) (want.Take 0) w is in
        let free = both_true (is_none b.waiting) (is_nil b.to_put) (if_true (is_none b.waiting && is_nil b.to_put) (want.Take 0) w is) in
        let flits : List ℕ = (ring s.around.rings (ejection_channel d.shape t Request)).channel.flits in
        let first : flits ≡ learned ∷ rest flits = first_there flits learned (ap (granted s.around (bank_wiring d.shape t)) w_is ∙ grants) in
        subst (λ (v : Want). Kept (bank_then t (taking (offered b.so_far learned) learned) v) (bank_event d t b s.around Take learned)) w_is
        (take_flit learned (rest flits) first (none_there b.waiting free.0) (nil_there b.to_put free.1) (is_tail learned) refl)
    then_bank Send w learned is grants e =
        let k = option_map_some (λ (flit : ℕ). want.Put 0 flit) (first_of b.to_put) w is in
        let held : 0 < (ring s.around.rings (injection_channel d.shape t Reply)).channel.held =
        ltb-true 0 _ (if_true (nat_lt 0 (ring s.around.rings (injection_channel d.shape t Reply)).channel.held) 0 learned
        (ap (granted s.around (bank_wiring d.shape t)) k.2 ∙ grants)) in
        subst (λ (v : Want). Kept (bank_then t (record b { to_put = rest b.to_put }) v) (bank_event d t b s.around Send learned)) k.2
        (send_flit k.0 (first_there b.to_put k.0 k.1) held (carries_route k.0) refl)
    then_bank Credit w learned is grants e =
        let w_is : want.Credit 0 ≡ w = same_Some _ _ is in
        let x : ℕ = injection_channel d.shape t Reply in
        let returns : 0 < (ring s.around.rings x).channel.returning =
        ltb-true 0 _ (if_true (nat_lt 0 (ring s.around.rings x).channel.returning) 0 learned (ap (granted s.around (bank_wiring d.shape t)) w_is ∙ grants)) in
        subst (λ (v : Want). Kept (bank_then t b v) (Some (Return x))) w_is
        (record {
          stands = back_stands d net tags opening s g order st t t_in x (injection_in d.shape t Reply t_in) returns;
          may = (back_quiet d net tags opening s g order st t t_in x (injection_in d.shape t Reply t_in) returns).can;
        })
    then_bank Serve w learned is grants e =
        let k = option_map_some (λ (r : Asking). want.Access (address_of t tiles r.word) r.op) b.waiting w is in
        let none = option_map_none (λ (r : Asking). Serves r) b.waiting e in
        let no : ◌≡◌ {A = Option Asking} None (Some k.0) = sym none ∙ k.1 in absurd (cc)
    then_bank Done w learned is grants e = absurd (cc)
    then_bank Look w learned is grants e = absurd (cc)
    then_bank (TakeFrom i) w learned is grants e = absurd (cc)
    then_bank (Put i) w learned is grants e = absurd (cc)
    then_bank (CreditOf i) w learned is grants e = absurd (cc)

    -- each choice of a bank that is no service
    pub bank_choice_quiet : (choice : Choice) → tile_move d t (tile_at s t) s.around Bank choice ≡ None
        → Stays d tags opening g order (with_tile s t (tile_step d t (tile_at s t) s.around Bank choice)) (tile_event d t (tile_at s t) s.around Bank choice)
    bank_choice_quiet choice h =
        agent_stays (bank_wants tiles t) (bank_after tiles t) d.depth (bank_wiring d.shape t) b s.around choice (bank_move b choice)
        (bank_event d t b s.around choice)
        (λ (o : Option (BankState × Surroundings)) (e : Option NetEvent). Kept (with_tile s t (option_map (λ p. (record (tile_at s t) { bank = p.0 }, p.1)) o))
        e)
        (record { stands = st; may = tt }) (then_bank choice) h

  -- Each attempt of a bank that is no service keeps what holds of every reached state.
  pub bank_quiet : (attempt : Step) → agent_kind attempt.agent ≡ Bank → move_of d s attempt ≡ None
      → Stays d tags opening g order (next d s attempt) (network_event d s attempt)
  bank_quiet = attempt_stays d tags opening s g order st Bank bank_choice_quiet
