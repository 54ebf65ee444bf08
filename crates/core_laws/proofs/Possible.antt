-- What a choice wants in a reached state is there, and no flit that it would put is 0.
use Rattle.std.proofs.Common.{◌≡◌, ◌≢◌, ℕ, ◌<◌, ◌&&◌, List, [], ◌∷◌, length, Option, Some, None, refl, subst, arith}
use Rattle.std.specs.Prelude.{not, is_none, option_map}
use Rattle.std.proofs.lemmas.List.FromFn.{length-map-range_with_len}
use Rattle.std.proofs.lemmas.List.Elements.{All-head, All-nil}
use Rattle.std.proofs.lemmas.Option.{same_Some}
use Rattle.torus.specs.Shape.{tiles_of, dims_of}
use Rattle.torus.specs.declared.shape.Class.TheVariants.{Request, Reply}
use Rattle.torus.specs.declared.step.Choice.{Choice}
use Rattle.torus.specs.declared.step.Choice.TheVariants as choice
use Rattle.packet.specs.declared.kinds.Op.TheVariants.{Add}
use Rattle.packet.specs.declared.kinds.Operation.{Operation}
use Rattle.packet.specs.declared.kinds.Packet.TheVariants as packet
use Rattle.packet.specs.declared.kinds.Request.{Request as Asking}
use Rattle.packet.specs.Flits.{flits_of}
use Rattle.packet.proofs.Shapes.{flits_above_zero}
use Rattle.one_order.specs.Order.{LinearizationPoint}
use Rattle.flit_buffer.specs.Channel.{first_of}
use Rattle.flit_buffer.specs.Surroundings.{Wiring, IsPossible}
use Rattle.flit_buffer.specs.declared.want.Want.{Want}
use Rattle.flit_buffer.specs.declared.want.Want.TheVariants as want
use Rattle.flit_buffer.proofs.PortLaws.{some_if}
use Rattle.channel_number.specs.Ports.{port_count, input_channel, output_channel, injection_channel, ejection_channel}
use Rattle.home_bank.specs.ServiceList.{address_of}
use Rattle.one_order.specs.Following.{is_finished}
use Rattle.one_order.specs.ProcessorRecord.{ready, request_of}
use Rattle.one_order.specs.ProcessorTable.{ProcessorState, processor_wants, request_flits, flits_due}
use Rattle.home_bank.specs.BankTable.{BankState, bank_wants, is_nil}
use Rattle.router.specs.Beginning.{router_wiring}
use Rattle.router.specs.Reach.{IsRouterState}
use Rattle.router.proofs.WantedPorts as router
use Rattle.core_laws.specs.Wiring.{processor_wiring, bank_wiring}
use Rattle.core_laws.specs.Agent.{Agent}
use Rattle.core_laws.specs.Agent.TheVariants.{Processor, Router, Bank}
use Rattle.core_laws.specs.Tile.{Design}
use Rattle.core_laws.specs.Refinement.{IsSurrounded, IsPossibleChoice}
use Rattle.core_laws.specs.Core.{State}
use Rattle.core_laws.proofs.AgentSteps.{option_map_some}
use Rattle.core_laws.proofs.Networks.{network}
use Rattle.core_laws.proofs.ServesFound.{serves_found}
use Rattle.core_laws.proofs.Stands.{Ghost, Stands, tile_at}
use Rattle.core_laws.proofs.Values.{IsLimited, AreSome, HasValues}
use Rattle.core_laws.proofs.ValuesProper.{ready_proper}

-- the first of numbers above 0
first_some : (flits : List ℕ) (flit : ℕ) → AreSome flits → first_of flits ≡ Some flit → flit ≢ 0
first_some [] flit all h z = absurd (cc)
first_some (x ∷ flits) flit all h z = let some = All-head (λ n. 0 < n) x flits all in let same : x ≡ flit = same_Some x flit h in omega (arith, some, same, z)

module _ (d : Design) (tags : ℕ) (limits : IsLimited d tags) (opening : List ℕ) (s : State) (g : Ghost) (order : List LinearizationPoint)
    (st : Stands d tags opening s g order) (h : HasValues d s) where
  -- the channels are those of the torus
  pub surrounded : IsSurrounded d s.around
  surrounded = record { count = st.mirrors.count; rings = st.rings }

  module _ (t : ℕ) (t_in : t < tiles_of d.shape) where
    abbrev p : ProcessorState
    p = (tile_at s t).processor

    abbrev b : BankState
    b = (tile_at s t).bank

    abbrev IsThere : Wiring → Want → Type 0
    IsThere wiring w = IsPossible s.around wiring w

    -- the flit of a put on an only output
    put_there : (x : ℕ) (ins : List ℕ) (flits : List ℕ) (w : Want) → AreSome flits → option_map (λ flit. want.Put 0 flit) (first_of flits) ≡ Some w
        → IsThere (record { inputs = ins; outputs = x ∷ [] }) w
    put_there x ins flits w all e =
        let f = option_map_some (λ (flit : ℕ). want.Put 0 flit) (first_of flits) w e in
        subst (IsThere (record { inputs = ins; outputs = x ∷ [] })) f.2 (omega arith, first_some flits f.0 all f.1)

    ready_some : (f : Option (ℕ × Operation)) → ready p.operations ≡ f → AreSome (request_flits (tiles_of d.shape) d.words t f)
    ready_some None e = All-nil (λ flit. 0 < flit)
    ready_some (Some f) e =
        flits_above_zero (packet.Request (request_of (tiles_of d.shape) t f.0 f.1)) (flits_of (packet.Request (request_of (tiles_of d.shape) t f.0 f.1)))
        (ready_proper d tags limits opening s g order st h t f.0 f.1 t_in e).0.spelled

    due_some : (left : List ℕ) → AreSome left → AreSome (flits_due (tiles_of d.shape) d.words t left (ready p.operations))
    due_some [] all = ready_some (ready p.operations) refl
    due_some (flit ∷ flits) all = all

    -- the done word is behind those of the memory
    done_there : d.words < length s.around.words
    done_there = omega (arith, st.size)

    processor_there : (c : Choice) (w : Want) → processor_wants (tiles_of d.shape) d.words t p c ≡ Some w → IsThere (processor_wiring d.shape t) w
    processor_there choice.Send w e =
        put_there (injection_channel d.shape t Request) (ejection_channel d.shape t Reply ∷ [])
        (flits_due (tiles_of d.shape) d.words t p.to_put (ready p.operations)) w (due_some p.to_put (h.tiles t).requests_left) e
    processor_there choice.Take w e = subst (IsThere (processor_wiring d.shape t)) (same_Some _ _ e) (omega arith)
    processor_there choice.Credit w e = subst (IsThere (processor_wiring d.shape t)) (same_Some _ _ e) (omega arith)
    processor_there choice.Done w e =
        subst (IsThere (processor_wiring d.shape t)) (some_if (is_finished p.operations.following && not p.reported) (want.Access d.words (Add 1)) w e).1
        done_there
    processor_there choice.Look w e =
        subst (IsThere (processor_wiring d.shape t)) (some_if (p.reported && not p.seen) (want.Await d.words (tiles_of d.shape)) w e).1 done_there
    processor_there choice.Serve w e = absurd (cc)
    processor_there (choice.TakeFrom i) w e = absurd (cc)
    processor_there (choice.Put i) w e = absurd (cc)
    processor_there (choice.CreditOf o) w e = absurd (cc)

    router_is : IsRouterState (port_count (dims_of d.shape)) (tile_at s t).router
    router_is = record {
      latches = (st.mirrors.ports t t_in).0;
      owned = (st.mirrors.ports t t_in).1;
      flits = λ i flit e. (h.tiles t).latched i flit e;
      outputs = λ i o e. st.mirrors.outputs t i o t_in e;
    }

    bank_there : (c : Choice) (w : Want) → bank_wants (tiles_of d.shape) t b c ≡ Some w → IsThere (bank_wiring d.shape t) w
    bank_there choice.Take w e = subst (IsThere (bank_wiring d.shape t)) (some_if (is_none b.waiting && is_nil b.to_put) (want.Take 0) w e).1 (omega arith)
    bank_there choice.Serve w e =
        let f = option_map_some (λ (r : Asking). want.Access (address_of t (tiles_of d.shape) r.word) r.op) b.waiting w e in
        let here = (serves_found d (network d limits.shape) tags opening s g order st t f.0 f.1).1 in
        let low : address_of t (tiles_of d.shape) f.0.word < d.words = here.1 in
        subst (IsThere (bank_wiring d.shape t)) f.2 (omega (arith, low, st.size))
    bank_there choice.Send w e = put_there (injection_channel d.shape t Reply) (ejection_channel d.shape t Request ∷ []) b.to_put w (h.tiles t).replies_left e
    bank_there choice.Credit w e = subst (IsThere (bank_wiring d.shape t)) (same_Some _ _ e) (omega arith)
    bank_there choice.Done w e = absurd (cc)
    bank_there choice.Look w e = absurd (cc)
    bank_there (choice.TakeFrom i) w e = absurd (cc)
    bank_there (choice.Put i) w e = absurd (cc)
    bank_there (choice.CreditOf o) w e = absurd (cc)

    pub possible_here : (a : Agent) (c : Choice) → IsPossibleChoice d t (tile_at s t) s.around a c
    possible_here Processor c = processor_there c
    possible_here Router c = λ w e.
        router.possible d.shape t (tile_at s t).router c w s.around (router_wiring d.shape t) router_is
        (length-map-range_with_len (input_channel d.shape t) 0 (port_count (dims_of d.shape)))
        (length-map-range_with_len (output_channel d.shape t) 0 (port_count (dims_of d.shape))) e
    possible_here Bank c = bank_there c
