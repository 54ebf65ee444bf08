-- The steps that are issues, services and answers lead to the states that keep what holds; the rest is assumed.
use Rattle.std.proofs.Common.{◌≡◌, ℕ, ◌<◌, Bool, true, false, cond, List, [], ◌∷◌, ◌++◌, length, Option, Some, None, refl, sym, ◌∙◌, ap, ap₂, subst}
use Rattle.std.proofs.Common.{slice_get, slice_index, slice_set}
use Rattle.std.specs.Prelude.{option_and_then, option_map, nat_lt, IfSome}
use Rattle.std.proofs.lemmas.Bool.{ltb-true}
use Rattle.std.proofs.lemmas.List.{append-nil}
use Rattle.std.proofs.lemmas.Option.{same_Some, slice_get_within, get_or_from_slice_get, option_and_then_some}
use Rattle.torus.specs.Shape.{tiles_of}
use Rattle.torus.specs.declared.shape.Class.TheVariants.{Request, Reply}
use Rattle.torus.specs.declared.step.Choice.{Choice}
use Rattle.torus.specs.declared.step.Choice.TheVariants.{Send, Take, TakeFrom, Put, Credit, CreditOf, Serve, Done, Look}
use Rattle.torus.specs.declared.step.Step.{Step}
use Rattle.packet.specs.declared.kinds.Operation.{Operation}
use Rattle.packet.specs.declared.kinds.Packet.TheVariants as packet
use Rattle.packet.specs.declared.kinds.Request.{Request as Asking}
use Rattle.packet.specs.declared.kinds.Response.{Response as Telling}
use Rattle.packet.specs.declared.kinds.Reply.{Reply as Answering}
use Rattle.packet.specs.declared.assembler.Offered.{Offered}
use Rattle.packet.specs.declared.assembler.Offered.TheVariants.{Whole as Complete}
use Rattle.packet.specs.Answer.{flits_left}
use Rattle.packet.specs.Memory.{reply_to}
use Rattle.home_bank.specs.ServiceList.{address_of, entry_of, response_of}
use Rattle.one_order.specs.Order.{LinearizationPoint}
use Rattle.one_order.specs.Events.{points_of, push_at}
use Rattle.flit_buffer.specs.Channel.{first_of, rest}
use Rattle.flit_buffer.specs.declared.want.Want.{Want}
use Rattle.flit_buffer.specs.declared.want.Want.TheVariants as want
use Rattle.flit_buffer.specs.Wants.{told_by}
use Rattle.flit_buffer.specs.Surroundings.{Surroundings, ring, granted, surroundings_after}
use Rattle.wormhole.specs.Net.{IsNet}
use Rattle.one_order.specs.ProcessorRecord.{ProcessorRecord, ready, request_of}
use Rattle.one_order.specs.Flight.{Move, Sends, Serves, Takes, flight_event}
use Rattle.packet.specs.Flits.{offered, flits_of}
use Rattle.one_order.specs.ProcessorTable.{ProcessorState, processor_wants, processor_after, flits_due, record_sent, record_offered, issued_of}
use Rattle.home_bank.specs.BankTable.{BankState, bank_wants, bank_after, served}
use Rattle.channel_number.specs.Ports.{injection_channel, ejection_channel}
use Rattle.tile.specs.Wiring.{processor_wiring, bank_wiring}
use Rattle.tile.specs.declared.agent.Agent.{Agent}
use Rattle.tile.specs.declared.agent.Agent.TheVariants.{Processor, Router, Bank}
use Rattle.tile.specs.Tile.{Design, TileState, tile_step}
use Rattle.tile.specs.Agents.{agent_kind, agent_tile}
use Rattle.core_laws.specs.Heads.{carries_route}
use Rattle.core_laws.specs.Core.{State, next, or_same}
use Rattle.core_laws.specs.Moves.{learned_by, issue_of, processor_move, bank_move, tile_move, move_of}
use Rattle.core_laws.proofs.AgentSteps.{option_map_some, stepped}
use Rattle.core_laws.proofs.Projection.{net_of, first_flit}
use Rattle.core_laws.proofs.ChannelFacts.{injection_in}
use Rattle.core_laws.proofs.PacketFacts.{is_parcel}
use Rattle.core_laws.proofs.TileMoves.{reply_learned}
use Rattle.core_laws.proofs.StepEvents.{issue_told, answer_told, first_there}
use Rattle.core_laws.proofs.Sends.{sent_state, sent_ghost, can_inject, sent_stands}
use Rattle.core_laws.proofs.Services.{served_state, served_ghost, told_same, served_stands}
use Rattle.core_laws.proofs.Answers.{taken_state, taken_ghost, found, taken_stands}
use Rattle.wormhole.specs.Events.{NetEvent, InjectHead, CanHappen}
use Rattle.core_laws.specs.Network.{request_parcel, request_event, processor_event, bank_event, tile_event, network_event}
use Rattle.core_laws.specs.Noted.{noted_by}
use Rattle.core_laws.proofs.GivenSteps.{IsRestAt}
use Rattle.core_laws.proofs.Completes.{accepts}
use Rattle.core_laws.proofs.Accepting.{may_happen}
use Rattle.core_laws.proofs.Stands.{Ghost, Stands, tile_at, no_tile, flight_of}

module _ (d : Design) (net : IsNet (net_of d)) (tags : ℕ) (opening : List ℕ) (s : State) (g : Ghost) (order : List LinearizationPoint)
    (st : Stands d tags opening s g order) (rest_is : IsRestAt d tags opening s g order) (n : ℕ) where
  -- what stands after a move, or none, that is this event of the network, or none
  pub record Goes (after : State) (m : Option Move) (e : Option NetEvent) : Type 0 where
    pub stands : Stands d tags opening after (noted_by d s g m e) (order ++ points_of (flight_event (flight_of d.words s g) m) n)
    pub may : IfSome e (CanHappen (net_of d) g.net.lines)

  abbrev Then : State → Move → Option NetEvent → Type 0
  Then after m e = Goes after (Some m) e

  abbrev with_tile : ℕ → Option (TileState × Surroundings) → State
  with_tile t p = or_same s (option_map (λ p. record { tiles = slice_set s.tiles t p.0; around = p.1 }) p)

  abbrev processor_then : ℕ → ProcessorState → Want → State
  processor_then t q w = record {
    tiles = slice_set s.tiles t (record (tile_at s t) { processor = q });
    around = surroundings_after d.depth s.around (processor_wiring d.shape t) w;
  }

  abbrev bank_then : ℕ → BankState → Want → State
  bank_then t b w = record {
    tiles = slice_set s.tiles t (record (tile_at s t) { bank = b });
    around = surroundings_after d.depth s.around (bank_wiring d.shape t) w;
  }

  -- nothing is in course where a head is sent
  head_sent : (t : ℕ) (to_put : List ℕ) (o : Option (ℕ × Operation)) (m : Move) → issue_of t to_put o ≡ Some m → to_put ≡ []
  head_sent t [] o m h = refl
  head_sent t (flit ∷ flits) o m h = cc

  some_held : (b : Bool) (learned : ℕ) → cond b (Some 0) None ≡ Some learned → b ≡ true
  some_held true learned h = refl
  some_held false learned h = cc

  first_is : (xs : List ℕ) (x : ℕ) → first_of xs ≡ Some x → first_flit xs ≡ x
  first_is [] x h = cc
  first_is (y ∷ xs) x h = same_Some y x h

  then_send : (t : ℕ) → t < tiles_of d.shape → (w : Want) (learned : ℕ) (f : ℕ × Operation) → (tile_at s t).processor.to_put ≡ []
      → ready (tile_at s t).processor.operations ≡ Some f
      → processor_wants (tiles_of d.shape) d.words t (tile_at s t).processor Send ≡ Some w → granted s.around (processor_wiring d.shape t) w ≡ Some learned
      → Then (processor_then t (processor_after (tiles_of d.shape) d.words t (tile_at s t).processor Send w learned) w) (Sends t f.0 f.1)
      (Some (InjectHead (injection_channel d.shape t Request) (request_parcel d.shape (request_of (tiles_of d.shape) t f.0 f.1))))
  then_send t t_in w learned f idle is_ready is grants =
      let p : ProcessorState = (tile_at s t).processor in
      let r : Asking = request_of (tiles_of d.shape) t f.0 f.1 in
      let flits : List ℕ = flits_of (packet.Request r) in
      let due : flits_due (tiles_of d.shape) d.words t p.to_put (ready p.operations) ≡ flits = ap₂ (flits_due (tiles_of d.shape) d.words t) idle is_ready in
      let k = option_map_some (λ (flit : ℕ). want.Put 0 flit) (first_of flits) w
      (ap (λ (xs : List ℕ). option_map (λ (flit : ℕ). want.Put 0 flit) (first_of xs)) (sym due) ∙ is) in
      let first : first_flit flits ≡ k.0 = first_is flits k.0 k.1 in
      let w_is : w ≡ want.Put 0 (first_flit flits) = sym k.2 ∙ ap (want.Put 0) (sym first) in
      let held : 0 < (ring s.around.rings (injection_channel d.shape t Request)).channel.held =
      ltb-true 0 _ (some_held (nat_lt 0 (ring s.around.rings (injection_channel d.shape t Request)).channel.held) learned
      (ap (granted s.around (processor_wiring d.shape t)) (sym w_is) ∙ grants)) in
      let proper = rest_is.requests t f.0 f.1 t_in is_ready in
      let parcel = is_parcel d (packet.Request r) proper.0.spelled proper.0.source proper.0.destination in
      let new = sent_stands d net tags opening s g order st t t_in f.0 f.1 proper.0 (injection_in d.shape t Request t_in) parcel idle held is_ready proper.1 in
      let operations : record_sent (tiles_of d.shape) d.words t p.to_put p.operations ≡ issued_of (tiles_of d.shape) d.words t (Some f) p.operations =
      ap (λ (xs : List ℕ). record_sent (tiles_of d.shape) d.words t xs p.operations) idle
      ∙ ap (λ (o : Option (ℕ × Operation)). issued_of (tiles_of d.shape) d.words t o p.operations) is_ready in
      let same : sent_state d net tags opening s g order st t t_in f.0 f.1
      ≡ processor_then t (processor_after (tiles_of d.shape) d.words t p Send w learned) w =
      ap₂ (λ (b : ProcessorRecord) (xs : List ℕ). processor_then t (record p { operations = b; to_put = xs }) (want.Put 0 (first_flit flits))) (sym operations)
      (ap rest (sym due))
      ∙ ap (λ (v : Want). processor_then t (processor_after (tiles_of d.shape) d.words t p Send v learned) v) (sym w_is) in
      record {
        stands = subst (λ (xs : List LinearizationPoint). Stands d tags opening
            (processor_then t (processor_after (tiles_of d.shape) d.words t p Send w learned) w) (sent_ghost d net tags opening s g order st t t_in f.0 f.1)
            xs) (sym (append-nil order))
            (subst (λ (x : State). Stands d tags opening x (sent_ghost d net tags opening s g order st t t_in f.0 f.1) order) same new);
        may = can_inject d net tags opening s g order st t t_in f.0 f.1 proper.0 (injection_in d.shape t Request t_in) parcel idle held;
      }

  then_take : (t : ℕ) → t < tiles_of d.shape → (w : Want) (learned : ℕ) (r : Telling)
      → offered (tile_at s t).processor.so_far learned ≡ Complete (packet.Response r)
      → processor_wants (tiles_of d.shape) d.words t (tile_at s t).processor Take ≡ Some w → granted s.around (processor_wiring d.shape t) w ≡ Some learned
      → Then (processor_then t (processor_after (tiles_of d.shape) d.words t (tile_at s t).processor Take w learned) w) (Takes r)
      (Some (accepts (ejection_channel d.shape t Reply) learned (rest (ring s.around.rings (ejection_channel d.shape t Reply)).channel.flits)
      (carries_route learned)))
  then_take t t_in w learned r is_whole is grants =
      let p : ProcessorState = (tile_at s t).processor in
      let w_is : want.Take 0 ≡ w = same_Some _ _ is in
      let flits : List ℕ = (ring s.around.rings (ejection_channel d.shape t Reply)).channel.flits in
      let first : flits ≡ learned ∷ rest flits = first_there flits learned (ap (granted s.around (processor_wiring d.shape t)) w_is ∙ grants) in
      let new = taken_stands d net tags opening s g order st t t_in learned (rest flits) first r is_whole n in
      let same : taken_state d net tags opening s g order st t t_in learned (rest flits) first r is_whole
      ≡ processor_then t (processor_after (tiles_of d.shape) d.words t p Take w learned) w =
      ap (λ (o : Offered). processor_then t
      (record p { operations = record_offered (tiles_of d.shape) d.words t p.operations o; so_far = flits_left o p.so_far learned }) (want.Take 0))
      (sym is_whole)
      ∙ ap (λ (v : Want). processor_then t (processor_after (tiles_of d.shape) d.words t p Take v learned) v) w_is in
      let to = found d net tags opening s g order st t t_in learned (rest flits) first r is_whole in
      let noted : taken_ghost d net tags opening s g order st t t_in learned (rest flits) first r is_whole
      ≡ noted_by d s g (Some (Takes r)) (Some (accepts (ejection_channel d.shape t Reply) learned (rest flits) (carries_route learned))) =
      ap (λ (k : ℕ). record (taken_ghost d net tags opening s g order st t t_in learned (rest flits) first r is_whole) { taken = push_at g.taken k r })
      (sym to.1) in
      record {
        stands = subst (λ (h : Ghost). Stands d tags opening (processor_then t (processor_after (tiles_of d.shape) d.words t p Take w learned) w) h
            (order ++ points_of (flight_event (flight_of d.words s g) (Some (Takes r))) n)) noted
            (subst (λ (x : State). Stands d tags opening x (taken_ghost d net tags opening s g order st t t_in learned (rest flits) first r is_whole)
            (order ++ points_of (flight_event (flight_of d.words s g) (Some (Takes r))) n)) same new);
        may = may_happen d net tags opening s g order st t t_in Reply learned (rest flits) first;
      }

  then_serve : (t : ℕ) → t < tiles_of d.shape → (w : Want) (learned : ℕ) (r : Asking) → (tile_at s t).bank.waiting ≡ Some r
      → bank_wants (tiles_of d.shape) t (tile_at s t).bank Serve ≡ Some w → granted s.around (bank_wiring d.shape t) w ≡ Some learned
      → Then (bank_then t (bank_after (tiles_of d.shape) t (tile_at s t).bank Serve w learned) w) (Serves r) None
  then_serve t t_in w learned r waits is grants =
      let b : BankState = (tile_at s t).bank in
      let a : ℕ = address_of t (tiles_of d.shape) r.word in
      let w_is : want.Access a r.op ≡ w =
      same_Some _ _ (ap (λ (o : Option Asking). option_map (λ (x : Asking). want.Access (address_of t (tiles_of d.shape) x.word) x.op) o) (sym waits)
      ∙ is) in
      let learns : told_by r.op (slice_index s.around.words a) ≡ learned = same_Some _ _ (ap (granted s.around (bank_wiring d.shape t)) w_is ∙ grants) in
      let reply : reply_to r.op (slice_index s.around.words a) ≡ reply_to r.op learned =
      sym (reply_learned r.op (slice_index s.around.words a)) ∙ ap (reply_to r.op) learns in
      let new = served_stands d net tags opening s g order st t t_in r waits (rest_is.responses t r t_in waits) n in
      let same : served_state d net tags opening s g order st t t_in r waits ≡ bank_then t (bank_after (tiles_of d.shape) t b Serve w learned) w =
      ap (λ (v : Answering). bank_then t (record {
        entries = b.entries ++ entry_of t (tiles_of d.shape) r v ∷ [];
        so_far = b.so_far;
        waiting = None;
        to_put = flits_of (packet.Response (response_of t (length b.entries) r v));
      }) (want.Access a r.op)) reply
      ∙ (ap (λ (o : Option Asking). bank_then t (served (tiles_of d.shape) t b o learned) (want.Access a r.op)) (sym waits)
      ∙ ap (λ (v : Want). bank_then t (bank_after (tiles_of d.shape) t b Serve v learned) v) w_is) in
      let noted : served_ghost d net tags opening s g order st t t_in r waits ≡ noted_by d s g (Some (Serves r)) None =
      ap (λ (xs : List Telling). record (served_ghost d net tags opening s g order st t t_in r waits) { told = xs })
      (sym (told_same d net tags opening s g order st t t_in r waits (rest_is.responses t r t_in waits))) in
      record {
        stands = subst (λ (h : Ghost). Stands d tags opening (bank_then t (bank_after (tiles_of d.shape) t b Serve w learned) w) h
            (order ++ points_of (flight_event (flight_of d.words s g) (Some (Serves r))) n)) noted
            (subst (λ (x : State). Stands d tags opening x (served_ghost d net tags opening s g order st t t_in r waits)
            (order ++ points_of (flight_event (flight_of d.words s g) (Some (Serves r))) n)) same new);
        may = tt;
      }

  then_processor : (t : ℕ) → t < tiles_of d.shape → (choice : Choice) (w : Want) (learned : ℕ) (m : Move)
      → processor_wants (tiles_of d.shape) d.words t (tile_at s t).processor choice ≡ Some w → granted s.around (processor_wiring d.shape t) w ≡ Some learned
      → processor_move t (tile_at s t).processor choice learned ≡ Some m
      → Then (processor_then t (processor_after (tiles_of d.shape) d.words t (tile_at s t).processor choice w learned) w) m
      (processor_event d t (tile_at s t).processor s.around choice learned)
  then_processor t t_in Send w learned m is grants e =
      let p : ProcessorState = (tile_at s t).processor in
      let f = issue_told t p.to_put (ready p.operations) m e in
      let idle = head_sent t p.to_put (ready p.operations) m e in
      let event : Some (InjectHead (injection_channel d.shape t Request) (request_parcel d.shape (request_of (tiles_of d.shape) t (f.0).0 (f.0).1)))
      ≡ request_event d t p.to_put (ready p.operations) =
      ap₂ (request_event d t) (sym idle) (sym f.1) in
      subst (λ (x : Move). Then (processor_then t (processor_after (tiles_of d.shape) d.words t p Send w learned) w) x
      (request_event d t p.to_put (ready p.operations))) f.2
      (subst (λ (x : Option NetEvent). Then (processor_then t (processor_after (tiles_of d.shape) d.words t p Send w learned) w) (Sends t (f.0).0 (f.0).1) x) event
      (then_send t t_in w learned f.0 idle f.1 is grants))
  then_processor t t_in Take w learned m is grants e =
      let p : ProcessorState = (tile_at s t).processor in
      let a = answer_told (offered p.so_far learned) m e in
      subst (λ (x : Move). Then (processor_then t (processor_after (tiles_of d.shape) d.words t p Take w learned) w) x
      (processor_event d t p s.around Take learned)) a.2 (then_take t t_in w learned a.0 a.1 is grants)
  then_processor t t_in Credit w learned m is grants e = absurd (cc)
  then_processor t t_in Done w learned m is grants e = absurd (cc)
  then_processor t t_in Look w learned m is grants e = absurd (cc)
  then_processor t t_in (TakeFrom i) w learned m is grants e = absurd (cc)
  then_processor t t_in (Put i) w learned m is grants e = absurd (cc)
  then_processor t t_in (CreditOf i) w learned m is grants e = absurd (cc)
  then_processor t t_in Serve w learned m is grants e = absurd (cc)

  then_bank : (t : ℕ) → t < tiles_of d.shape → (choice : Choice) (w : Want) (learned : ℕ) (m : Move)
      → bank_wants (tiles_of d.shape) t (tile_at s t).bank choice ≡ Some w → granted s.around (bank_wiring d.shape t) w ≡ Some learned
      → bank_move (tile_at s t).bank choice learned ≡ Some m
      → Then (bank_then t (bank_after (tiles_of d.shape) t (tile_at s t).bank choice w learned) w) m (bank_event d t (tile_at s t).bank s.around choice learned)
  then_bank t t_in Serve w learned m is grants e =
      let b : BankState = (tile_at s t).bank in
      let f = option_map_some (λ (r : Asking). Serves r) b.waiting m e in
      subst (λ (x : Move). Then (bank_then t (bank_after (tiles_of d.shape) t b Serve w learned) w) x None) f.2 (then_serve t t_in w learned f.0 f.1 is grants)
  then_bank t t_in Send w learned m is grants e = absurd (cc)
  then_bank t t_in Take w learned m is grants e = absurd (cc)
  then_bank t t_in Credit w learned m is grants e = absurd (cc)
  then_bank t t_in Done w learned m is grants e = absurd (cc)
  then_bank t t_in Look w learned m is grants e = absurd (cc)
  then_bank t t_in (TakeFrom i) w learned m is grants e = absurd (cc)
  then_bank t t_in (Put i) w learned m is grants e = absurd (cc)
  then_bank t t_in (CreditOf i) w learned m is grants e = absurd (cc)

  then_tile : (t : ℕ) → t < tiles_of d.shape → (agent : Agent) (choice : Choice) (m : Move) → tile_move d t (tile_at s t) s.around agent choice ≡ Some m
      → Then (with_tile t (tile_step d t (tile_at s t) s.around agent choice)) m (tile_event d t (tile_at s t) s.around agent choice)
  then_tile t t_in Processor choice m h =
      let p : ProcessorState = (tile_at s t).processor in
      let W : ProcessorState → Choice → Option Want = processor_wants (tiles_of d.shape) d.words t in
      let A : ProcessorState → Choice → Want → ℕ → ProcessorState = processor_after (tiles_of d.shape) d.words t in
      option_and_then_some (processor_move t p choice) (learned_by W (processor_wiring d.shape t) p s.around choice) m h (λ learned is e.
      option_and_then_some (granted s.around (processor_wiring d.shape t)) (W p choice) learned is (λ w wanted grants.
      let go = stepped W A d.depth (processor_wiring d.shape t) p s.around choice w learned wanted grants in
      subst (λ (o : Option (ProcessorState × Surroundings)). Then (with_tile t (option_map (λ q. (record (tile_at s t) { processor = q.0 }, q.1)) o)) m
      (option_and_then (processor_event d t p s.around choice) (learned_by W (processor_wiring d.shape t) p s.around choice))) (sym go)
      (subst (λ (o : Option ℕ). Then (processor_then t (A p choice w learned) w) m (option_and_then (processor_event d t p s.around choice) o)) (sym is)
      (then_processor t t_in choice w learned m wanted grants e))))
  then_tile t t_in Router choice m h = absurd (cc)
  then_tile t t_in Bank choice m h =
      let b : BankState = (tile_at s t).bank in
      let W : BankState → Choice → Option Want = bank_wants (tiles_of d.shape) t in
      let A : BankState → Choice → Want → ℕ → BankState = bank_after (tiles_of d.shape) t in
      option_and_then_some (bank_move b choice) (learned_by W (bank_wiring d.shape t) b s.around choice) m h (λ learned is e.
      option_and_then_some (granted s.around (bank_wiring d.shape t)) (W b choice) learned is (λ w wanted grants.
      let go = stepped W A d.depth (bank_wiring d.shape t) b s.around choice w learned wanted grants in
      subst (λ (o : Option (BankState × Surroundings)). Then (with_tile t (option_map (λ q. (record (tile_at s t) { bank = q.0 }, q.1)) o)) m
      (option_and_then (bank_event d t b s.around choice) (learned_by W (bank_wiring d.shape t) b s.around choice))) (sym go)
      (subst (λ (o : Option ℕ). Then (bank_then t (A b choice w learned) w) m (option_and_then (bank_event d t b s.around choice) o)) (sym is)
      (then_bank t t_in choice w learned m wanted grants e))))

  then_move : (attempt : Step) (m : Move) → move_of d s attempt ≡ Some m → Then (next d s attempt) m (network_event d s attempt)
  then_move attempt m h =
      let t : ℕ = agent_tile attempt.agent in
      let agent : Agent = agent_kind attempt.agent in
      option_and_then_some (λ tile. tile_move d t tile s.around agent attempt.choice) (slice_get s.tiles t) m h (λ tile there e.
      let is : tile_at s t ≡ tile = get_or_from_slice_get s.tiles t tile no_tile there in
      let within : t < tiles_of d.shape = subst (λ (k : ℕ). t < k) st.tiles (slice_get_within s.tiles t tile there) in
      subst (λ (o : Option TileState). Then
      (or_same s (option_and_then
      (λ x. option_map (λ p. record { tiles = slice_set s.tiles t p.0; around = p.1 }) (tile_step d t x s.around agent attempt.choice)) o)) m
      (option_and_then (λ x. tile_event d t x s.around agent attempt.choice) o)) (sym there)
      (subst (λ (x : TileState). Then (with_tile t (tile_step d t x s.around agent attempt.choice)) m (tile_event d t x s.around agent attempt.choice)) is
      (then_tile t within agent attempt.choice m (ap (λ (x : TileState). tile_move d t x s.around agent attempt.choice) is ∙ e))))

  -- each step keeps what holds, with what is noted by its move and its event
  pub keeps_step : (attempt : Step) → Goes (next d s attempt) (move_of d s attempt) (network_event d s attempt)
  keeps_step attempt = by_move (move_of d s attempt) refl
    where
      by_move : (m : Option Move) → move_of d s attempt ≡ m → Goes (next d s attempt) m (network_event d s attempt)
      by_move None is =
          let q = rest_is.quiet attempt is in
          record {
            stands = subst (λ (xs : List LinearizationPoint). Stands d tags opening (next d s attempt) (noted_by d s g None (network_event d s attempt)) xs)
                (sym (append-nil order)) q.stands;
            may = q.may;
          }
      by_move (Some m) is = then_move attempt m is
