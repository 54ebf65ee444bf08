-- The steps of a processor that are no issue and no answer keep what holds of every reached state.
use Rattle.std.proofs.Common.{◌≡◌, ◌≢◌, ℕ, ◌<◌, ◌==◌, Bool, true, false, List, [], ◌∷◌, Option, Some, None, refl, sym, ◌∙◌, ap, subst, slice_index}
use Rattle.std.proofs.Common.{slice_set}
use Rattle.std.specs.Prelude.{option_map, nat_lt, not, ◌&&◌}
use Rattle.std.proofs.lemmas.Bool.{ltb-true, eqb-true}
use Rattle.std.proofs.lemmas.Option.{same_Some}
use Rattle.torus.specs.Shape.{IsAccepted, tiles_of}
use Rattle.torus.specs.declared.shape.Class.TheVariants.{Request, Reply}
use Rattle.torus.specs.declared.step.Choice.{Choice}
use Rattle.torus.specs.declared.step.Choice.TheVariants.{Send, Take, TakeFrom, Put, Credit, CreditOf, Serve, Done, Look}
use Rattle.torus.specs.declared.step.Step.{Step}
use Rattle.packet.specs.declared.kinds.Op.TheVariants as op
use Rattle.packet.specs.declared.kinds.Operation.{Operation}
use Rattle.packet.specs.declared.kinds.Packet.TheVariants as packet
use Rattle.packet.specs.declared.assembler.Offered.{Offered}
use Rattle.packet.specs.Answer.{flits_left}
use Rattle.one_order.specs.Following.{is_finished}
use Rattle.one_order.specs.Order.{LinearizationPoint}
use Rattle.flit_buffer.specs.Channel.{first_of, rest}
use Rattle.flit_buffer.specs.declared.want.Want.{Want}
use Rattle.flit_buffer.specs.declared.want.Want.TheVariants as want
use Rattle.flit_buffer.specs.Surroundings.{Surroundings, ring, granted, surroundings_after}
use Rattle.wormhole.specs.Net.{IsNet}
use Rattle.one_order.specs.ProcessorRecord.{ready}
use Rattle.one_order.specs.Flight.{Move, Takes}
use Rattle.packet.specs.Flits.{is_tail, offered}
use Rattle.one_order.specs.ProcessorTable.{ProcessorState, processor_wants, processor_after, flits_due, record_sent, record_offered}
use Rattle.channel_number.specs.Ports.{injection_channel, ejection_channel}
use Rattle.tile.specs.Wiring.{processor_wiring}
use Rattle.tile.specs.declared.agent.Agent.TheVariants.{Processor}
use Rattle.tile.specs.Tile.{Design, tile_step}
use Rattle.tile.specs.Agents.{agent_kind}
use Rattle.core_laws.specs.Core.{State, next}
use Rattle.core_laws.specs.Moves.{processor_move, answer_by, issue_of, tile_move, move_of}
use Rattle.core_laws.proofs.Projection.{net_of}
use Rattle.core_laws.proofs.Networks.{network}
use Rattle.core_laws.proofs.ChannelFacts.{injects_at, injection_in}
use Rattle.core_laws.proofs.TileMoves.{if_some}
use Rattle.core_laws.proofs.StepEvents.{first_there}
use Rattle.core_laws.proofs.Accepting.{reply_goes_on, is_more, is_complete, may_happen}
use Rattle.core_laws.proofs.TakesMore.{more_state, more_ghost, processor_more, processor_tile}
use Rattle.core_laws.proofs.FlitsSent.{rest_above}
use Rattle.core_laws.proofs.SendsRest.{rest_quiet, rest_stands}
use Rattle.core_laws.proofs.Completes.{accepts}
use Rattle.core_laws.specs.Heads.{carries_route}
use Rattle.core_laws.specs.Network.{request_event, processor_event, tile_event, network_event}
use Rattle.wormhole.specs.Events.{NetEvent, Return}
use Rattle.core_laws.proofs.Reports.{done_stands, seen_stands}
use Rattle.core_laws.proofs.Quiet.{back_quiet, back_stands}
use Rattle.core_laws.proofs.QuietSteps.{Stays, with_tile, agent_stays, attempt_stays, if_true, both_true, not_true}
use Rattle.core_laws.proofs.Stands.{Ghost, Stands, tile_at}

module _ (d : Design) (accepted : IsAccepted d.shape) (tags : ℕ) (opening : List ℕ) (s : State) (g : Ghost) (order : List LinearizationPoint)
    (st : Stands d tags opening s g order) where
  net : IsNet (net_of d)
  net = network d accepted

  abbrev tiles : ℕ
  tiles = tiles_of d.shape

  abbrev Kept : State → Option NetEvent → Type 0
  Kept after e = Stays d tags opening g order after e

  abbrev processor_then : ℕ → ProcessorState → Want → State
  processor_then t q w = record {
    tiles = slice_set s.tiles t (record (tile_at s t) { processor = q });
    around = surroundings_after d.depth s.around (processor_wiring d.shape t) w;
  }

  module _ (t : ℕ) (t_in : t < tiles_of d.shape) where
    abbrev p : ProcessorState
    p = (tile_at s t).processor

    -- a flit taken
    abbrev taking : Offered → ℕ → ProcessorState
    taking o flit = record p { operations = record_offered tiles d.words t p.operations o; so_far = flits_left o p.so_far flit }

    take_flit : (flit : ℕ) (more : List ℕ) → (ring s.around.rings (ejection_channel d.shape t Reply)).channel.flits ≡ flit ∷ more
        → answer_by (offered p.so_far flit) ≡ None → (last : Bool) → is_tail flit ≡ last
        → Kept (processor_then t (taking (offered p.so_far flit) flit) (want.Take 0))
        (Some (accepts (ejection_channel d.shape t Reply) flit more (carries_route flit)))
    take_flit flit more first unanswered true is =
        let c = reply_goes_on d net tags opening s g order st t t_in flit more first in
        let no : ◌≡◌ {A = Option Move} (Some (Takes c.0)) None = ap answer_by (sym (is_complete (packet.Response c.0) p.so_far flit c.1 is)) ∙ unanswered in
        absurd (cc)
    take_flit flit more first unanswered false is =
        let c = reply_goes_on d net tags opening s g order st t t_in flit more first in
        let same : more_state d net tags opening s g order st t t_in Reply flit more first is
        (processor_tile d net tags opening s g order st t t_in flit more is) ≡ processor_then t (taking (offered p.so_far flit) flit) (want.Take 0) =
        ap (λ (o : Offered). processor_then t (taking o flit) (want.Take 0)) (sym (is_more (packet.Response c.0) p.so_far flit c.1 is)) in
        record {
          stands = subst (λ (x : State). Stands d tags opening x
              (more_ghost d net tags opening s g order st t t_in Reply flit more first is
              (processor_tile d net tags opening s g order st t t_in flit more is)) order) same
              (processor_more d net tags opening s g order st t t_in flit more is first);
          may = may_happen d net tags opening s g order st t t_in Reply flit more first;
        }

    -- a flit of a request sent: one is in course
    abbrev sending : List ℕ → Option (ℕ × Operation) → ProcessorState
    sending to_put o = record p { operations = record_sent tiles d.words t to_put p.operations; to_put = rest (flits_due tiles d.words t to_put o) }

    send_flit : (w : Want) (learned : ℕ) (to_put : List ℕ) (o : Option (ℕ × Operation)) → p.to_put ≡ to_put → issue_of t to_put o ≡ None
        → option_map (λ (flit : ℕ). want.Put 0 flit) (first_of (flits_due tiles d.words t to_put o)) ≡ Some w
        → granted s.around (processor_wiring d.shape t) w ≡ Some learned
        → Kept (processor_then t (sending to_put o) w) (request_event d t to_put o)
    send_flit w learned [] None course unissued is grants = absurd (cc)
    send_flit w learned [] (Some f) course unissued is grants = absurd (cc)
    send_flit w learned (flit ∷ more) o course unissued is grants =
        let w_is : want.Put 0 flit ≡ w = same_Some _ _ is in
        let held : 0 < (ring s.around.rings (injection_channel d.shape t Request)).channel.held =
        ltb-true 0 _ (if_true (nat_lt 0 (ring s.around.rings (injection_channel d.shape t Request)).channel.held) 0 learned
        (ap (granted s.around (processor_wiring d.shape t)) w_is ∙ grants)) in
        let some : flit ≢ 0 = rest_above d accepted tags opening s g order st (injection_channel d.shape t Request) flit more (injects_at d t Request)
        (st.mirrors.sends_requests t t_in ∙ course) in
        subst (λ (v : Want). Kept (processor_then t (record p { to_put = more }) v) (request_event d t (flit ∷ more) o)) w_is
        (record {
          stands = rest_stands d net tags opening s g order st t t_in flit more course some held;
          may = (rest_quiet d net tags opening s g order st t t_in flit more course some held).can;
        })

    then_processor : (choice : Choice) (w : Want) (learned : ℕ) → processor_wants tiles d.words t p choice ≡ Some w
        → granted s.around (processor_wiring d.shape t) w ≡ Some learned → processor_move t p choice learned ≡ None
        → Kept (processor_then t (processor_after tiles d.words t p choice w learned) w) (processor_event d t p s.around choice learned)
    then_processor Send w learned is grants e = send_flit w learned p.to_put (ready p.operations) refl e is grants
    then_processor Take w learned is grants e =
        let w_is : want.Take 0 ≡ w = same_Some _ _ is in
        let flits : List ℕ = (ring s.around.rings (ejection_channel d.shape t Reply)).channel.flits in
        let first : flits ≡ learned ∷ rest flits = first_there flits learned (ap (granted s.around (processor_wiring d.shape t)) w_is ∙ grants) in
        subst (λ (v : Want). Kept (processor_then t (taking (offered p.so_far learned) learned) v) (processor_event d t p s.around Take learned)) w_is
        (take_flit learned (rest flits) first e (is_tail learned) refl)
    then_processor Credit w learned is grants e =
        let w_is : want.Credit 0 ≡ w = same_Some _ _ is in
        let x : ℕ = injection_channel d.shape t Request in
        let returns : 0 < (ring s.around.rings x).channel.returning =
        ltb-true 0 _ (if_true (nat_lt 0 (ring s.around.rings x).channel.returning) 0 learned
        (ap (granted s.around (processor_wiring d.shape t)) w_is ∙ grants)) in
        subst (λ (v : Want). Kept (processor_then t p v) (Some (Return x))) w_is
        (record {
          stands = back_stands d net tags opening s g order st t t_in x (injection_in d.shape t Request t_in) returns;
          may = (back_quiet d net tags opening s g order st t t_in x (injection_in d.shape t Request t_in) returns).can;
        })
    then_processor Done w learned is grants e =
        let may : Bool = is_finished p.operations.following && not p.reported in
        let w_is : want.Access d.words (op.Add 1) ≡ w = if_some may (want.Access d.words (op.Add 1)) w is in
        let k = both_true (is_finished p.operations.following) (not p.reported) (if_true may (want.Access d.words (op.Add 1)) w is) in
        subst (λ (v : Want). Kept (processor_then t (record p { reported = true }) v) None) w_is
        (record { stands = done_stands d accepted net tags opening s g order st t t_in k.0 (not_true p.reported k.1); may = tt })
    then_processor Look w learned is grants e =
        let w_is : want.Await d.words tiles ≡ w = if_some (p.reported && not p.seen) (want.Await d.words tiles) w is in
        let all : slice_index s.around.words d.words ≡ tiles =
        eqb-true _ _ (if_true (slice_index s.around.words d.words == tiles) tiles learned (ap (granted s.around (processor_wiring d.shape t)) w_is ∙ grants)) in
        subst (λ (v : Want). Kept (processor_then t (record p { seen = true }) v) None) w_is
        (record { stands = seen_stands d net tags opening s g order st t t_in all; may = tt })
    then_processor (TakeFrom i) w learned is grants e = absurd (cc)
    then_processor (Put i) w learned is grants e = absurd (cc)
    then_processor (CreditOf i) w learned is grants e = absurd (cc)
    then_processor Serve w learned is grants e = absurd (cc)

    -- each choice of a processor that is no issue and no answer
    pub processor_choice_quiet : (choice : Choice) → tile_move d t (tile_at s t) s.around Processor choice ≡ None
        → Stays d tags opening g order (with_tile s t (tile_step d t (tile_at s t) s.around Processor choice))
        (tile_event d t (tile_at s t) s.around Processor choice)
    processor_choice_quiet choice h =
        agent_stays (processor_wants tiles d.words t) (processor_after tiles d.words t) d.depth (processor_wiring d.shape t) p s.around choice
        (processor_move t p choice)
        (processor_event d t p s.around choice)
        (λ (o : Option (ProcessorState × Surroundings)) (e : Option NetEvent). Kept
        (with_tile s t (option_map (λ q. (record (tile_at s t) { processor = q.0 }, q.1)) o)) e)
        (record { stands = st; may = tt }) (then_processor choice) h

  -- Each attempt of a processor that is no issue and no answer keeps what holds of every reached state.
  pub processor_quiet : (attempt : Step) → agent_kind attempt.agent ≡ Processor → move_of d s attempt ≡ None
      → Stays d tags opening g order (next d s attempt) (network_event d s attempt)
  processor_quiet = attempt_stays d tags opening s g order st Processor processor_choice_quiet
