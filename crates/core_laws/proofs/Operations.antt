-- The operation of an attempt tells whom it wakes.
use Rattle.std.proofs.Common.{◌≡◌, ◌⊎◌, ℕ, ◌+◌, ◌*◌, ◌/◌, ◌%◌, ◌<◌, ◌≤◌, ◌&&◌, inl, inr, Bool, true, false, List, [], ◌∷◌, length, Option, Some, None, refl}
use Rattle.std.proofs.Common.{sym, ◌∙◌, ap, subst, arith, slice_get, eq-eqb, if◌then◌else◌}
use Rattle.std.specs.Prelude.{nat_lt, not, is_none, option_and_then, option_map, slice_index}
use Rattle.std.proofs.lemmas.Bool.{ne_eqb}
use Rattle.std.proofs.lemmas.List.{get_or-map}
use Rattle.std.proofs.lemmas.Nat.{mod_below, div-mul-add}
use Rattle.std.proofs.lemmas.Option.{same_Some}
use Rattle.torus.specs.Shape.{tiles_of}
use Rattle.torus.specs.declared.step.Step.{Step}
use Rattle.torus.specs.declared.step.Choice.{Choice}
use Rattle.torus.specs.declared.step.Choice.TheVariants as choice
use Rattle.packet.specs.declared.kinds.Op.{Op}
use Rattle.packet.specs.declared.kinds.Op.TheVariants as op
use Rattle.packet.specs.declared.kinds.Request.{Request as Asking}
use Rattle.channel_number.specs.Order.{channel_count}
use Rattle.flit_buffer.specs.Channel.{first_of}
use Rattle.flit_buffer.specs.Ends.{put_op, take_op}
use Rattle.flit_buffer.specs.Places.{sending, receiving}
use Rattle.flit_buffer.specs.Surroundings.{Wiring, ring, ports_of, IsWired}
use Rattle.flit_buffer.specs.Wants.{PortEnds, output, no_input, no_output, want_op}
use Rattle.flit_buffer.specs.Words.{at}
use Rattle.flit_buffer.specs.declared.word_op.WordOp.{WordOp}
use Rattle.flit_buffer.specs.declared.word_op.WordOp.TheVariants as word_op
use Rattle.flit_buffer.specs.declared.want.Want.{Want}
use Rattle.flit_buffer.specs.declared.want.Want.TheVariants.{Take, Put, Credit, Access, Await}
use Rattle.flit_buffer.proofs.ManyRings.{before}
use Rattle.flit_buffer.proofs.PortLaws.{some_if, less, is_less}
use Rattle.one_order.specs.Following.{is_finished}
use Rattle.one_order.specs.ProcessorRecord.{ready}
use Rattle.one_order.specs.ProcessorTable.{ProcessorState, processor_wants, flits_due}
use Rattle.home_bank.specs.BankTable.{bank_wants, is_nil}
use Rattle.home_bank.specs.ServiceList.{address_of}
use Rattle.core_laws.specs.Agent.{Agent}
use Rattle.core_laws.specs.Agent.TheVariants.{Processor, Router, Bank}
use Rattle.core_laws.specs.Tile.{Design, TileState}
use Rattle.core_laws.specs.Agents.{wiring_of, tile_wants, tile_placed, agent_op, tile_next_op, agent_kind, agent_tile}
use Rattle.core_laws.specs.Refinement.{IsSurrounded}
use Rattle.core_laws.proofs.Channels.{wired}
use Rattle.core_laws.specs.Core.{Load, State, design_of, after}
use Rattle.core_laws.specs.Runs.{IsAcceptedLoad}
use Rattle.core_laws.proofs.AgentSteps.{option_map_some}
use Rattle.core_laws.proofs.AskedFor.{bank_asked}
use Rattle.core_laws.proofs.ChannelWants.{router_of_channel}
use Rattle.core_laws.specs.Attempts.{step_op}
use Rattle.core_laws.proofs.RowOfRuns.{all_steps}
use Rattle.core_laws.proofs.RowOfRuns as reached
use Rattle.core_laws.specs.Waking.{receiver_of, sender_of, wiring_at, wanted, processors, woken_by, woken}
use Rattle.core_laws.specs.Operations.{wake_places, woken_by_operation}
use Rattle.core_laws.proofs.Wakes.{IsReady, ready_after, Asks, asks_of, low, possible_of}

-- the operation of an attempt is that of what it wants
module _ (d : Design) (s : State) (attempt : Step) where
  abbrev t : ℕ
  t = agent_tile attempt.agent

  abbrev ports : PortEnds
  ports = ports_of d.depth s.around (wiring_at d.shape attempt.agent)

  of_agent : (tile : TileState) (a : Agent) → agent_op (tile_placed d t tile s.around) a attempt.choice
      ≡ option_and_then (want_op (ports_of d.depth s.around (wiring_of d.shape t a))) (tile_wants d t tile a attempt.choice)
  of_agent tile Processor = refl
  of_agent tile Router = refl
  of_agent tile Bank = refl

  of_tile : (o : Option TileState)
      → option_and_then (λ p. tile_next_op p attempt) (option_map (λ tile. tile_placed d t tile s.around) o)
      ≡ option_and_then (want_op ports) (option_and_then (λ tile. tile_wants d t tile (agent_kind attempt.agent) attempt.choice) o)
  of_tile None = refl
  of_tile (Some tile) =
      let a : Agent = agent_kind attempt.agent in
      ap (λ (b : Bool). if b then agent_op (tile_placed d t tile s.around) a attempt.choice else None) (eq-eqb t t refl) ∙ of_agent tile a

  pub op_is : step_op d s attempt ≡ option_and_then (want_op ports) (wanted d s attempt)
  op_is = of_tile (slice_get s.tiles t)

  -- so it wants something
  wants_for : (o : Option Want) → wanted d s attempt ≡ o → (op : WordOp) → option_and_then (want_op ports) o ≡ Some op
      → (want : Want) × (wanted d s attempt ≡ Some want) × (want_op ports want ≡ Some op)
  wants_for None e op h = absurd (cc)
  wants_for (Some want) e op h = (want, e, h)

-- what is accessed: the done word by an addition, or a word of the memory
abbrev accessed : Want → ℕ
accessed (Access word o) = word
accessed _ = 0

abbrev access_op : Want → Op
access_op (Access word o) = o
access_op _ = op.Load

module _ (d : Design) (t : ℕ) (tile : TileState) (in_memory : (r : Asking) → tile.bank.waiting ≡ Some r → address_of t (tiles_of d.shape) r.word < d.words)
    (n : ℕ) (o : Op) where
  abbrev Accesses : Type 0
  Accesses = ((n ≡ d.words) × (o ≡ op.Add 1)) ⊎ (n < d.words)

  abbrev p : ProcessorState
  p = tile.processor

  processor_accesses : (c : Choice) → processor_wants (tiles_of d.shape) d.words t p c ≡ Some (Access n o) → Accesses
  processor_accesses choice.Send e = let f =
      option_map_some (λ flit. Put 0 flit) (first_of (flits_due (tiles_of d.shape) d.words t p.to_put (ready p.operations))) (Access n o) e in
      let clash = f.2 in absurd (cc)
  processor_accesses choice.Take e = absurd (cc)
  processor_accesses choice.Credit e = absurd (cc)
  processor_accesses choice.Done e =
      let same = (some_if (is_finished p.operations.following && not p.reported) (Access d.words (op.Add 1)) (Access n o) e).1 in
      inl (ap accessed (sym same), ap access_op (sym same))
  processor_accesses choice.Look e = let clash = (some_if (p.reported && not p.seen) (Await d.words (tiles_of d.shape)) (Access n o) e).1 in absurd (cc)
  processor_accesses choice.Serve e = absurd (cc)
  processor_accesses (choice.TakeFrom i) e = absurd (cc)
  processor_accesses (choice.Put i) e = absurd (cc)
  processor_accesses (choice.CreditOf i) e = absurd (cc)

  bank_accesses : (c : Choice) → bank_wants (tiles_of d.shape) t tile.bank c ≡ Some (Access n o) → Accesses
  bank_accesses choice.Take e = let clash = (some_if (is_none tile.bank.waiting && is_nil tile.bank.to_put) (Take 0) (Access n o) e).1 in absurd (cc)
  bank_accesses choice.Serve e =
      let f = option_map_some (λ (r : Asking). Access (address_of t (tiles_of d.shape) r.word) r.op) tile.bank.waiting (Access n o) e in
      inr (subst (λ (k : ℕ). k < d.words) (ap accessed f.2) (in_memory f.0 f.1))
  bank_accesses choice.Send e = let f = option_map_some (λ flit. Put 0 flit) (first_of tile.bank.to_put) (Access n o) e in let clash = f.2 in absurd (cc)
  bank_accesses choice.Credit e = absurd (cc)
  bank_accesses choice.Done e = absurd (cc)
  bank_accesses choice.Look e = absurd (cc)
  bank_accesses (choice.TakeFrom i) e = absurd (cc)
  bank_accesses (choice.Put i) e = absurd (cc)
  bank_accesses (choice.CreditOf i) e = absurd (cc)

  pub accesses : (a : Agent) (c : Choice) → tile_wants d t tile a c ≡ Some (Access n o) → Accesses
  accesses Processor c e = processor_accesses c e
  accesses Router c e = absurd (router_of_channel d.shape t tile.router c (Access n o) e)
  accesses Bank c e = bank_accesses c e

not_less : (a b : ℕ) → b ≤ a → nat_lt a b ≡ false
not_less a b h = by_test (nat_lt a b) refl
  where
    by_test : (x : Bool) → nat_lt a b ≡ x → nat_lt a b ≡ false
    by_test true e = let l = less a b e in absurd (omega (arith, h, l))
    by_test false e = e

module _ (d : Design) (s : State) (is_ready : IsReady d s) (surrounded : IsSurrounded d s.around)
    (in_memory : (t : ℕ) (tile : TileState) → slice_get s.tiles t ≡ Some tile → (r : Asking) → tile.bank.waiting ≡ Some r
    → address_of t (tiles_of d.shape) r.word < d.words)
    (attempt : Step) where
  abbrev v : Wiring
  v = wiring_at d.shape attempt.agent

  abbrev ends : PortEnds
  ends = ports_of d.depth s.around v

  -- a place of a channel is among the places, and tells the channel
  module _ (x q : ℕ) (there : x < channel_count d.shape) (within : q < d.depth) where
    pub in_places : nat_lt (x * d.depth + q) (wake_places d) ≡ true
    in_places = is_less _ _ (let b = before d.depth x (channel_count d.shape) there in omega (arith, b, within))

    pub of_channel : (x * d.depth + q) / d.depth ≡ x
    of_channel = div-mul-add x d.depth q within

    told : (f : ℕ → ℕ) → (f x ∷ []) ≡ (if nat_lt (x * d.depth + q) (wake_places d) then f ((x * d.depth + q) / d.depth) ∷ [] else [])
    told f =
        ap (λ (k : ℕ). f k ∷ []) (sym of_channel)
        ∙ ap (λ (b : Bool). if b then f ((x * d.depth + q) / d.depth) ∷ [] else []) (sym in_places)

  -- a word behind the places
  same_count : length s.around.rings * d.depth ≡ wake_places d
  same_count = ap (λ (k : ℕ). k * d.depth) surrounded.count

  in_rest : (n : ℕ) (o : Op) → n < d.words → woken_by_operation d (at (length s.around.rings * d.depth + n) o) ≡ []
  in_rest n op.Load h = refl
  in_rest n (op.Store k) h =
      let w : ℕ = length s.around.rings * d.depth + n in
      let e = same_count in
      ap (λ (b : Bool). if b then receiver_of d.shape (w / d.depth) ∷ [] else []) (not_less w (wake_places d) (omega (arith, e)))
  in_rest n (op.Swap k) h =
      let w : ℕ = length s.around.rings * d.depth + n in
      let e = same_count in
      ap (λ (b : Bool). if b then sender_of d.shape (w / d.depth) ∷ [] else []) (not_less w (wake_places d) (omega (arith, e)))
  in_rest n (op.Add k) h =
      let w : ℕ = length s.around.rings * d.depth + n in
      let e = same_count in
      ap (λ (b : Bool). if b then processors (tiles_of d.shape) else []) (ne_eqb w (wake_places d + d.words) (λ z. omega (arith, e, h, z)))
  in_rest n (op.Cas a b) h = refl
  in_rest n (op.And k) h = refl
  in_rest n (op.Or k) h = refl
  in_rest n (op.Xor k) h = refl
  in_rest n (op.Max k) h = refl
  in_rest n (op.Min k) h = refl

  by_access : (n : ℕ) (o : Op) → ((n ≡ d.words) × (o ≡ op.Add 1)) ⊎ (n < d.words)
      → woken_by d v (Some (Access n o)) ≡ woken_by_operation d (at (length s.around.rings * d.depth + n) o)
  by_access n o (inl h) =
      let w : ℕ = length s.around.rings * d.depth + n in
      let e = same_count in
      let g = h.0 in
      let pick : Bool → List ℕ = λ b. if b then processors (tiles_of d.shape) else [] in
      ap pick (eq-eqb n d.words h.0)
      ∙ (ap pick (sym (eq-eqb w (wake_places d + d.words) (omega (arith, e, g))))
      ∙ ap (λ (z : Op). woken_by_operation d (at w z)) (sym h.1))
  by_access n o (inr h) =
      ap (λ (b : Bool). if b then processors (tiles_of d.shape) else []) (ne_eqb n d.words (λ z. omega (arith, h, z)))
      ∙ sym (in_rest n o h)

  pub is_wired : (want : Want) → Asks d s is_ready attempt want → IsWired (channel_count d.shape) v
  is_wired want x = wired d.shape is_ready.shape (agent_tile attempt.agent) (low d s is_ready attempt want x) (agent_kind attempt.agent)

  pub there_is : (x : ℕ) → x < channel_count d.shape → x < length s.around.rings
  there_is x h = let e = surrounded.count in omega (arith, e, h)

  tells : (want : Want) (op : WordOp) → Asks d s is_ready attempt want → want_op ends want ≡ Some op → woken_by d v (Some want) ≡ woken_by_operation d op
  tells (Take i) op x e =
      let h = possible_of d s is_ready attempt (Take i) x in
      let y : ℕ = slice_index v.inputs i in
      let y_in = (is_wired (Take i) x).inputs_within i h in
      let r = ring s.around.rings y in
      let front = (surrounded.rings y (there_is y y_in)).front in
      told y r.front y_in front (sender_of d.shape)
      ∙ ap (woken_by_operation d)
      (ap take_op (sym (get_or-map (λ z. receiving (z * d.depth) d.depth (ring s.around.rings z)) v.inputs i 0 no_input h)) ∙ same_Some _ _ e)
  tells (Put o flit) op x e =
      let h = (possible_of d s is_ready attempt (Put o flit) x).0 in
      let y : ℕ = slice_index v.outputs o in
      let y_in = (is_wired (Put o flit) x).outputs_within o h in
      let r = ring s.around.rings y in
      let front = (surrounded.rings y (there_is y y_in)).front in
      let q : ℕ = (r.front + length r.channel.flits) % d.depth in
      let end = get_or-map (λ z. sending (z * d.depth) d.depth (ring s.around.rings z)) v.outputs o 0 no_output h in
      let f = some_if (nat_lt 0 r.channel.held) (word_op.Store (y * d.depth + q) flit) op (ap (λ z. put_op z flit) (sym end) ∙ e) in
      told y q y_in (mod_below (r.front + length r.channel.flits) d.depth (omega (arith, front))) (receiver_of d.shape)
      ∙ ap (woken_by_operation d) f.1
  tells (Credit o) op x e =
      let end = output ends o in
      let f = some_if (nat_lt end.credits end.depth) (word_op.Load (end.base + (end.next + end.credits) % end.depth)) op e in
      ap (woken_by_operation d) f.1
  tells (Access n o) op x e =
      by_access n o (accesses d (agent_tile attempt.agent) x.tile (in_memory (agent_tile attempt.agent) x.tile x.here) n o
      (agent_kind attempt.agent) attempt.choice
      x.asks)
      ∙ ap (woken_by_operation d) (same_Some _ _ e)
  tells (Await n value) op x e = ap (woken_by_operation d) (same_Some _ _ e)

  operation_tells : (op : WordOp) → step_op d s attempt ≡ Some op → woken d s attempt ≡ attempt.agent ∷ woken_by_operation d op
  operation_tells op e =
      let f = wants_for d s attempt (wanted d s attempt) refl op (sym (op_is d s attempt) ∙ e) in
      ap (λ (rest : List ℕ). attempt.agent ∷ rest)
      (ap (woken_by d v) f.1 ∙ tells f.0 op (asks_of d s is_ready attempt f.0 f.1) f.2)

module _ (l : Load) (ok : IsAcceptedLoad l) (steps : List Step) where
  pub surrounded_after : IsSurrounded (design_of l) (after l steps).around
  surrounded_after = subst (λ (s : State). IsSurrounded (design_of l) s.around) (all_steps l steps) (reached.surrounded l ok steps (length steps))

  pub in_memory_after : (t : ℕ) (tile : TileState) → slice_get (after l steps).tiles t ≡ Some tile → (r : Asking) → tile.bank.waiting ≡ Some r
      → address_of t (tiles_of l.shape) r.word < length l.opening
  in_memory_after t tile = subst
      (λ (s : State). slice_get s.tiles t ≡ Some tile → (r : Asking) → tile.bank.waiting ≡ Some r → address_of t (tiles_of l.shape) r.word < length l.opening)
      (all_steps l steps)
      (λ e r is. let x = bank_asked l ok steps (length steps) t tile e in (x.request r is).word)

  pub operations_tell : (attempt : Step) (op : WordOp) → step_op (design_of l) (after l steps) attempt ≡ Some op
      → woken (design_of l) (after l steps) attempt ≡ attempt.agent ∷ woken_by_operation (design_of l) op
  operations_tell attempt op e = operation_tells (design_of l) (after l steps) (ready_after l ok steps) surrounded_after in_memory_after attempt op e
