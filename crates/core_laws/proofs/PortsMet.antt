-- The operation of a move tells what it brings to a router, and what another agent's move leaves asleep.
use Rattle.std.proofs.Common.{◌≡◌, ◌≢◌, ℕ, ◌+◌, ◌*◌, ◌%◌, ◌<◌, ◌==◌, ◌&&◌, inl, inr, Bool, true, false, length, Option, Some, None, refl, sym, ◌∙◌}
use Rattle.std.proofs.Common.{ap, subst, arith, slice_get, slice_set, eq-eqb, if◌then◌else◌}
use Rattle.std.specs.Prelude.{◌||◌, nat_lt, option_and_then, slice_index}
use Rattle.std.proofs.lemmas.Bool.{cases_eq}
use Rattle.std.proofs.lemmas.List.{get_or-map}
use Rattle.std.proofs.lemmas.List.FromFn.{length-map-range_with_len}
use Rattle.std.proofs.lemmas.Nat.{mod_below}
use Rattle.std.proofs.lemmas.Option.{same_Some, slice_get_within, option_and_then_some}
use Rattle.one_order.proofs.Lists.{get_set_same}
use Rattle.torus.specs.Shape.{dims_of, tiles_of}
use Rattle.torus.specs.declared.step.Step.{Step}
use Rattle.torus.specs.declared.step.Choice.{Choice}
use Rattle.torus.specs.declared.step.Choice.TheVariants as choice
use Rattle.packet.specs.declared.kinds.Request.{Request as Asking}
use Rattle.channel_number.specs.Ports.{port_count, input_channel, output_channel, input_router, input_port, output_router, output_port}
use Rattle.channel_number.proofs.Ports.{is_input, is_output}
use Rattle.router.specs.Beginning.{router_wiring}
use Rattle.router.specs.Table.{RouterState, latch_of, router_wants}
use Rattle.router.proofs.EmptyChannels.{input_at, output_at}
use Rattle.home_bank.specs.ServiceList.{address_of}
use Rattle.flit_buffer.specs.Ends.{put_op, take_op}
use Rattle.flit_buffer.specs.Places.{sending, receiving}
use Rattle.flit_buffer.specs.Surroundings.{Surroundings, Wiring, ring, ports_of}
use Rattle.flit_buffer.specs.Wants.{PortEnds, no_input, no_output, want_op}
use Rattle.flit_buffer.specs.declared.word_op.WordOp.{WordOp}
use Rattle.flit_buffer.specs.declared.word_op.WordOp.TheVariants as word_op
use Rattle.flit_buffer.specs.declared.want.Want.{Want}
use Rattle.flit_buffer.specs.declared.want.Want.TheVariants.{Take, Put, Credit, Access, Await}
use Rattle.flit_buffer.proofs.PortLaws.{some_if}
use Rattle.core_laws.specs.Agent.{Agent}
use Rattle.core_laws.specs.Agent.TheVariants.{Processor, Router, Bank}
use Rattle.core_laws.specs.Tile.{Design, TileState, tile_step}
use Rattle.core_laws.specs.Agents.{agent_number, agent_kind, agent_tile}
use Rattle.core_laws.specs.Refinement.{IsSurrounded}
use Rattle.core_laws.proofs.AgentNumbers.{number_is, tile_of_number}
use Rattle.core_laws.specs.Core.{State, step}
use Rattle.core_laws.proofs.OneAgent.{other_tiles, processor_alone, bank_alone}
use Rattle.core_laws.proofs.AgentSteps.{option_map_some}
use Rattle.core_laws.specs.Attempts.{step_op}
use Rattle.core_laws.specs.Waking.{wiring_at, wanted, Meets, Disturbs}
use Rattle.core_laws.specs.Operations.{wake_places}
use Rattle.core_laws.specs.Routers.{of_router, input_end, output_end, is_port, brings_flit, returns_credit, latch_at}
use Rattle.core_laws.specs.Routers.{PortFlags, OtherPortsSleep, ports_woken}
use Rattle.core_laws.proofs.Operations.{op_is, in_places, of_channel, is_wired, there_is}
use Rattle.core_laws.proofs.RouterMoves as router
use Rattle.core_laws.proofs.RouterMoves.{wiring_is, wanted_is, with_tile}
use Rattle.core_laws.proofs.RouterWants.{Seeks, seeks}
use Rattle.core_laws.proofs.Wakes.{IsReady, asks_of, low, possible_of, distant}

both : (a b : Bool) → a ≡ true → b ≡ true → (a && b) ≡ true
both true b h k = k
both false b h k = absurd (cc)

pub none_of : (a b : Bool) → (a || b) ≡ false → (a ≡ false) × (b ≡ false)
none_of true b h = absurd (cc)
none_of false b h = (refl, h)

pub true_isnt : (b : Bool) → b ≡ true → b ≡ false → ⊥
true_isnt b h k = let e : ◌≡◌ {A = Bool} true false = sym h ∙ k in cc

module _ (d : Design) (s : State) (is_ready : IsReady d s) (surrounded : IsSurrounded d s.around)
    (in_memory : (t : ℕ) (tile : TileState) → slice_get s.tiles t ≡ Some tile → (r : Asking) → tile.bank.waiting ≡ Some r
    → address_of t (tiles_of d.shape) r.word < d.words)
    (attempt : Step) (op : WordOp) (by : step_op d s attempt ≡ Some op) where
  abbrev v : Wiring
  v = wiring_at d.shape attempt.agent

  abbrev ends : PortEnds
  ends = ports_of d.depth s.around v

  op_of : (want : Want) → wanted d s attempt ≡ Some want → want_op ends want ≡ Some op
  op_of want wants = sym (ap (option_and_then (want_op ends)) wants) ∙ (sym (op_is d s attempt) ∙ by)

  -- an operation at a place of a channel that a router has at a port
  module _ (t : ℕ) (within : t < tiles_of d.shape) where
    input_is : (i : ℕ) → i < port_count (dims_of d.shape) → is_port (input_end d.shape (input_channel d.shape t i)) t i ≡ true
    input_is i small =
        let k = is_input d.shape is_ready.shape t i within small in
        let x : ℕ = input_channel d.shape t i in
        ap (λ (b : Bool). is_port (if b then None else Some (input_router d.shape x, input_port d.shape x)) t i) k.leads
        ∙ both (input_router d.shape x == t) (input_port d.shape x == i) (eq-eqb _ t k.router) (eq-eqb _ i k.port)

    output_is : (o : ℕ) → o < port_count (dims_of d.shape) → is_port (output_end d.shape (output_channel d.shape t o)) t o ≡ true
    output_is o small =
        let k = is_output d.shape t o within small in
        let x : ℕ = output_channel d.shape t o in
        ap (λ (b : Bool). is_port (if b then None else Some (output_router d.shape x, output_port d.shape x)) t o) k.leaves
        ∙ both (output_router d.shape x == t) (output_port d.shape x == o) (eq-eqb _ t k.router) (eq-eqb _ o k.port)

    pub brought : (want : Want) (i : ℕ) → wanted d s attempt ≡ Some want → i < port_count (dims_of d.shape)
        → Meets v want (router_wiring d.shape t) (Take i)
        → brings_flit d op t i ≡ true
    brought (Put o flit) i wants there m =
        let x = asks_of d s is_ready attempt (Put o flit) wants in
        let h = (possible_of d s is_ready attempt (Put o flit) x).0 in
        let y : ℕ = slice_index v.outputs o in
        let y_in = (is_wired d s is_ready surrounded in_memory attempt (Put o flit) x).outputs_within o h in
        let r = ring s.around.rings y in
        let front = (surrounded.rings y (there_is d s is_ready surrounded in_memory attempt y y_in)).front in
        let q : ℕ = (r.front + length r.channel.flits) % d.depth in
        let inside : q < d.depth = mod_below (r.front + length r.channel.flits) d.depth (omega (arith, front)) in
        let end = get_or-map (λ z. sending (z * d.depth) d.depth (ring s.around.rings z)) v.outputs o 0 no_output h in
        let f = some_if (nat_lt 0 r.channel.held) (word_op.Store (y * d.depth + q) flit) op (ap (λ z. put_op z flit) (sym end) ∙ op_of (Put o flit) wants) in
        let long = length-map-range_with_len (input_channel d.shape t) 0 (port_count (dims_of d.shape)) in
        let at = input_at d.shape is_ready.shape t within i (omega (arith, there, long)) in
        let is : y ≡ input_channel d.shape t i = m ∙ at.1 in
        ap (λ (z : WordOp). brings_flit d z t i) (sym f.1)
        ∙ both (nat_lt (y * d.depth + q) (wake_places d)) _ (in_places d s is_ready surrounded in_memory attempt y q y_in inside)
        (ap (λ (z : ℕ). is_port (input_end d.shape z) t i) (of_channel d s is_ready surrounded in_memory attempt y q y_in inside ∙ is) ∙ input_is i at.0)
    brought (Take j) i wants there m = absurd m
    brought (Credit o) i wants there m = absurd m
    brought (Access n act) i wants there m = absurd m
    brought (Await n value) i wants there m = absurd m

    pub returned : (want : Want) (o : ℕ) → wanted d s attempt ≡ Some want → o < port_count (dims_of d.shape)
        → Meets v want (router_wiring d.shape t) (Credit o)
        → returns_credit d op t o ≡ true
    returned (Take i) o wants there m =
        let x = asks_of d s is_ready attempt (Take i) wants in
        let h = possible_of d s is_ready attempt (Take i) x in
        let y : ℕ = slice_index v.inputs i in
        let y_in = (is_wired d s is_ready surrounded in_memory attempt (Take i) x).inputs_within i h in
        let r = ring s.around.rings y in
        let front = (surrounded.rings y (there_is d s is_ready surrounded in_memory attempt y y_in)).front in
        let end = get_or-map (λ z. receiving (z * d.depth) d.depth (ring s.around.rings z)) v.inputs i 0 no_input h in
        let f : word_op.Swap (y * d.depth + r.front) 0 ≡ op = ap take_op (sym end) ∙ same_Some _ _ (op_of (Take i) wants) in
        let long = length-map-range_with_len (output_channel d.shape t) 0 (port_count (dims_of d.shape)) in
        let at = output_at d.shape is_ready.shape t within o (omega (arith, there, long)) in
        let is : y ≡ output_channel d.shape t o = m ∙ at.1 in
        ap (λ (z : WordOp). returns_credit d z t o) (sym f)
        ∙ both (nat_lt (y * d.depth + r.front) (wake_places d)) _ (in_places d s is_ready surrounded in_memory attempt y r.front y_in front)
        (ap (λ (z : ℕ). is_port (output_end d.shape z) t o) (of_channel d s is_ready surrounded in_memory attempt y r.front y_in front ∙ is) ∙ output_is o at.0)
    returned (Put p flit) o wants there m = absurd m
    returned (Credit p) o wants there m = absurd m
    returned (Access n act) o wants there m = absurd m
    returned (Await n value) o wants there m = absurd m

  -- a move of another agent than the router of a tile
  module _ (next : State) (moves : step d s attempt ≡ Some next) (t : ℕ) (other : agent_number t Router ≢ attempt.agent) where
    abbrev w : Wiring
    w = router_wiring d.shape t

    abbrev ports : ℕ
    ports = port_count (dims_of d.shape)

    -- what it seeks, and where
    sought_by : (c : Choice) (sought : Want) → wanted d s (of_router t c) ≡ Some sought → (t < tiles_of d.shape) × Seeks ports c sought
    sought_by c sought e = (
      let there = low d s is_ready (of_router t c) sought (asks_of d s is_ready (of_router t c) sought e) in
          subst (λ (u : ℕ). u < tiles_of d.shape) (tile_of_number t Router) there,
      option_and_then_some (λ (tile : TileState). router_wants d.shape t tile.router c) (slice_get s.tiles t) sought (sym (wanted_is d t s c) ∙ e)
          (λ tile here wants. seeks d.shape t tile.router c sought wants),
    )

    meets_at : (c : Choice) (m : Disturbs d s attempt (of_router t c)) (sought : Want) → m.sought ≡ sought → Meets v m.want w sought
    meets_at c m sought is =
        subst (λ (z : Want). Meets v m.want w z) is (subst (λ (z : Wiring). Meets v m.want z m.sought) (wiring_is d t) m.meets)

    pub other_take : (i : ℕ) → brings_flit d op t i ≡ false → step d s (of_router t (choice.TakeFrom i)) ≡ None
        → step d next (of_router t (choice.TakeFrom i)) ≡ None
    other_take i out none = (distant d s is_ready attempt next moves (of_router t (choice.TakeFrom i)) other (λ m.
        let k = sought_by (choice.TakeFrom i) m.sought m.seeks in
        true_isnt _ (brought t k.0 m.want i m.wants k.1.0 (meets_at (choice.TakeFrom i) m (Take i) k.1.1)) out)).1 none

    pub other_credit : (o : ℕ) → returns_credit d op t o ≡ false → step d s (of_router t (choice.CreditOf o)) ≡ None
        → step d next (of_router t (choice.CreditOf o)) ≡ None
    other_credit o out none = (distant d s is_ready attempt next moves (of_router t (choice.CreditOf o)) other (λ m.
        let k = sought_by (choice.CreditOf o) m.sought m.seeks in
        true_isnt _ (returned t k.0 m.want o m.wants k.1.0 (meets_at (choice.CreditOf o) m (Credit o) k.1.1)) out)).1 none

    unmet_put : (want : Want) (o flit : ℕ) → Meets v want w (Put o flit) → ⊥
    unmet_put (Take i) o flit m = m
    unmet_put (Put p more) o flit m = m
    unmet_put (Credit p) o flit m = m
    unmet_put (Access n act) o flit m = m
    unmet_put (Await n value) o flit m = m

    pub other_put : (i : ℕ) → step d s (of_router t (choice.Put i)) ≡ None → step d next (of_router t (choice.Put i)) ≡ None
    other_put i none = (distant d s is_ready attempt next moves (of_router t (choice.Put i)) other (λ m.
        let k = sought_by (choice.Put i) m.sought m.seeks in
        unmet_put m.want k.1.0 k.1.1 (meets_at (choice.Put i) m (Put k.1.0 k.1.1) k.1.2))).1 none

    -- its router stays
    abbrev latch : ℕ → Option TileState → Option ℕ
    latch i o = option_and_then (λ (tile : TileState). latch_of tile.router i) o

    router_stays : (tile : TileState) (p : TileState × Surroundings) (a : Agent) → agent_kind attempt.agent ≡ a → t ≡ agent_tile attempt.agent
        → tile_step d (agent_tile attempt.agent) tile s.around a attempt.choice ≡ Some p
        → p.0.router ≡ tile.router
    router_stays tile p Processor is same h = (processor_alone d (agent_tile attempt.agent) tile s.around attempt.choice p.0 p.1 h).router
    router_stays tile p Bank is same h = (bank_alone d (agent_tile attempt.agent) tile s.around attempt.choice p.0 p.1 h).router
    router_stays tile p Router is same h = absurd (other (sym (number_is attempt.agent t Router (sym same) is)))

    pub other_latch : (i : ℕ) → latch_at next t i ≡ latch_at s t i
    other_latch i = elim (cases_eq t (agent_tile attempt.agent)) [
      | inl same ↦
          option_and_then_some _ (slice_get s.tiles (agent_tile attempt.agent)) next moves (λ tile here h.
          let u : ℕ = agent_tile attempt.agent in
          let k = option_map_some (λ (p : TileState × Surroundings). with_tile d t s u p) (tile_step d u tile s.around (agent_kind attempt.agent) attempt.choice)
          next h in
          ap (λ (z : State). latch i (slice_get z.tiles t)) (sym k.2)
          ∙ (ap (λ (x : ℕ). latch i (slice_get (slice_set s.tiles u k.0.0) x)) same
          ∙ (ap (latch i) (get_set_same s.tiles u k.0.0 (slice_get_within s.tiles u tile here))
          ∙ (ap (λ (r : RouterState). latch_of r i) (router_stays tile k.0 (agent_kind attempt.agent) refl same k.1)
          ∙ (ap (latch i) (sym here) ∙ ap (λ (x : ℕ). latch i (slice_get s.tiles x)) (sym same))))))
      | inr away ↦ ap (latch i) (other_tiles d s attempt next t moves away)
    ]

    -- so what counts as awake and full still does
    module _ (f : PortFlags) (sleep : OtherPortsSleep d s f) where
      pub take_woken : (i : ℕ) → (ports_woken d op f).takes t i ≡ false → step d next (of_router t (choice.TakeFrom i)) ≡ None
      take_woken i out = let k = none_of (f.takes t i) (brings_flit d op t i) out in other_take i k.1 (sleep.takes t i k.0)

      pub credit_woken : (o : ℕ) → (ports_woken d op f).credits t o ≡ false → step d next (of_router t (choice.CreditOf o)) ≡ None
      credit_woken o out = let k = none_of (f.credits t o) (returns_credit d op t o) out in other_credit o k.1 (sleep.credits t o k.0)

  -- a move of a processor or a bank
  pub woken : (next : State) → step d s attempt ≡ Some next → ((t : ℕ) → agent_number t Router ≢ attempt.agent) → (f : PortFlags) → OtherPortsSleep d s f
      → OtherPortsSleep d next (ports_woken d op f)
  woken next moves other f sleep = record {
    takes = λ t i out. take_woken next moves t (other t) f sleep i out;
    puts = λ t i out. other_put next moves t (other t) i (sleep.puts t i out);
    credits = λ t o out. credit_woken next moves t (other t) f sleep o out;
    full = λ t i out. other_latch next moves t (other t) i ∙ sleep.full t i out;
  }
