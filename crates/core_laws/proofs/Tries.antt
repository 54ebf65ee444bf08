-- What an attempt finds in the row of a reached state is as its agent asks.
use Rattle.std.proofs.Common.{◌≡◌, ◌≢◌, ℕ, ◌==◌, ◌<◌, Bool, true, false, List, length, get_or, Option, Some, None, refl, sym, ◌∙◌, ap, subst, arith}
use Rattle.std.proofs.Common.{slice_get, is_none, if◌then◌else◌, nat_lt, ltb-true}
use Rattle.std.specs.Prelude.{◌&&◌, IfSome, IsSome, MatchOption, option_and_then, option_map}
use Rattle.std.proofs.lemmas.List.FromFn.{get_or-map-range_with_len, length-map-range_with_len}
use Rattle.std.proofs.lemmas.Option.{get_or_from_slice_get, same_Some, slice_get_within}
use Rattle.torus.specs.Shape.{tiles_of, dims_of}
use Rattle.torus.specs.declared.step.Choice.{Choice}
use Rattle.torus.specs.declared.step.Choice.TheVariants as choice
use Rattle.torus.specs.declared.step.Step.{Step}
use Rattle.packet.specs.declared.assembler.Offered.{Offered}
use Rattle.packet.specs.declared.assembler.Offered.TheVariants.{More, Whole, Refused}
use Rattle.packet.specs.declared.kinds.Packet.TheVariants as packet
use Rattle.packet.specs.Flits.{offered}
use Rattle.flit_buffer.specs.Words.{word_of}
use Rattle.flit_buffer.specs.Surroundings.{IsWired, ports_of}
use Rattle.flit_buffer.specs.Tries.{take_place}
use Rattle.flit_buffer.specs.Wants.{input, want_op}
use Rattle.flit_buffer.specs.declared.want.Want.{Want}
use Rattle.flit_buffer.specs.declared.want.Want.TheVariants.{Take}
use Rattle.flit_buffer.specs.declared.word_op.WordOp.{WordOp}
use Rattle.channel_number.specs.Ports.{port_count, input_channel}
use Rattle.home_bank.specs.BankAgent.{NamesWord}
use Rattle.home_bank.specs.BankTable.{is_nil}
use Rattle.one_order.specs.ProcessorRecord.{ProcessorRecord}
use Rattle.net_interface.specs.Place.{IsForProcessor}
use Rattle.router.specs.Table.{NamesTile, latch_of, wants_to_take}
use Rattle.core_laws.specs.Agent.{Agent}
use Rattle.core_laws.specs.Agent.TheVariants.{Processor, Router, Bank}
use Rattle.core_laws.specs.Tile.{Design, TileState}
use Rattle.core_laws.specs.Agents.{TilePlace, wiring_of, tile_placed, agent_op, tile_next_op, agent_kind, agent_tile}
use Rattle.core_laws.proofs.Channels.{wired}
use Rattle.tile.specs.Placed.{IsAcceptableTo}
use Rattle.core_laws.specs.Asks.{flit_found, IsNextFlit, IsResponseTo}
use Rattle.core_laws.specs.Core.{Load, State, design_of, step}
use Rattle.core_laws.specs.Runs.{IsAcceptedLoad, state_after}
use Rattle.core_laws.proofs.AskedFor.{router_asked, processor_asked, bank_asked}
use Rattle.core_laws.specs.Row.{row_of}
use Rattle.core_laws.specs.Attempts.{tile_in, LeavesRow, MovesRow}
use Rattle.core_laws.proofs.RowOfRuns.{surrounded, tiles_there, is_operation}
use Rattle.core_laws.proofs.RowRows.{row_shows}
use Rattle.core_laws.specs.Seen.{IsShown}
use Rattle.core_laws.proofs.Found.{input_finds}

-- an operation of which nothing is asked
nothing_asked : (o : Option WordOp) → IfSome o (λ op. Unit {0})
nothing_asked None = tt
nothing_asked (Some op) = tt

-- the next flit of a response to a processor is for it
is_for : (tiles t : ℕ) (b : ProcessorRecord) (so_far : List ℕ) (flit : ℕ) → IsNextFlit (IsResponseTo tiles t b) so_far flit
    → (o : Offered) → offered so_far flit ≡ o → IsForProcessor b o
is_for tiles t b so_far flit asks More e = tt
is_for tiles t b so_far flit asks (Refused kind) e = tt
is_for tiles t b so_far flit asks (Whole (packet.Request r)) e = absurd (asks.whole (packet.Request r) e)
is_for tiles t b so_far flit asks (Whole (packet.Response r)) e =
    let held = asks.whole (packet.Response r) e in
    subst IsSome (sym (get_or_from_slice_get b.tags r.tag.0 _ None held.holds)) refl

module _ (l : Load) (ok : IsAcceptedLoad l) (steps : List Step) (n t : ℕ) (tile : TileState) (there : slice_get (state_after l steps n).tiles t ≡ Some tile) where
  abbrev d : Design
  d = design_of l

  abbrev s : State
  s = state_after l steps n

  abbrev row : List ℕ
  row = row_of d s

  abbrev placed : TilePlace
  placed = tile_placed d t tile s.around

  t_in : t < tiles_of l.shape
  t_in = subst (λ (k : ℕ). t < k) (tiles_there l ok steps n) (slice_get_within s.tiles t tile there)

  wired_here : (a : Agent) → IsWired (length s.around.rings) (wiring_of l.shape t a)
  wired_here a = subst (λ (k : ℕ). IsWired k (wiring_of l.shape t a)) (sym (surrounded l ok steps n).count) (wired l.shape ok.shape t t_in a)

  finds : (a : Agent) (i : ℕ) → i < length (wiring_of l.shape t a).inputs
      → get_or row (take_place (input (ports_of l.depth s.around (wiring_of l.shape t a)) i)) 0
      ≡ flit_found s.around (get_or (wiring_of l.shape t a).inputs i 0)
  finds a i i_in =
      let rings = (surrounded l ok steps n).rings in
      input_finds row l.depth s.around rings (row_shows l.depth s.around rings) (wiring_of l.shape t a) (wired_here a) i i_in

  abbrev MayTry : Agent → Choice → Type 0
  MayTry a c = IfSome (agent_op placed a c) (λ o. IsAcceptableTo placed a c (get_or row (word_of o) 0))

  processor_may : (c : Choice) → MayTry Processor c
  processor_may choice.Take =
      subst (λ (w : ℕ). w ≢ 0 → IsForProcessor tile.processor.operations (offered tile.processor.so_far w)) (sym (finds Processor 0 (omega arith)))
      (λ some.
      let asks = processor_asked l ok steps n t tile there in
      is_for (tiles_of l.shape) t tile.processor.operations tile.processor.so_far _ (asks.flit some) _ refl)
  processor_may choice.Send = nothing_asked (agent_op placed Processor choice.Send)
  processor_may choice.Credit = nothing_asked (agent_op placed Processor choice.Credit)
  processor_may choice.Done = nothing_asked (agent_op placed Processor choice.Done)
  processor_may choice.Look = nothing_asked (agent_op placed Processor choice.Look)
  processor_may choice.Serve = tt
  processor_may (choice.TakeFrom i) = tt
  processor_may (choice.Put i) = tt
  processor_may (choice.CreditOf o) = tt

  abbrev Routes : Option Want → Type 0
  Routes w = IfSome (option_and_then (λ want. want_op placed.router.ports want) w) (λ o. NamesTile l.shape (get_or row (word_of o) 0))

  by_latch : (i : ℕ) → i < port_count (dims_of l.shape) → (o : Option ℕ) → Routes (wants_to_take l.shape t i o)
  by_latch i i_in None =
      let asks = router_asked l ok steps n t tile there in
      let ports : ℕ = port_count (dims_of l.shape) in
      subst (NamesTile l.shape)
      (sym (finds Router i (omega (arith, i_in, length-map-range_with_len (input_channel l.shape t) 0 ports))
      ∙ ap (λ (x : ℕ). flit_found s.around x) (get_or-map-range_with_len (input_channel l.shape t) 0 ports i i 0 i_in (omega arith))))
      (asks.flits i i_in)
  by_latch i i_in (Some flit) = tt

  by_port : (i : ℕ) (b : Bool) → nat_lt i (port_count (dims_of l.shape)) ≡ b → Routes (if b then wants_to_take l.shape t i (latch_of tile.router i) else None)
  by_port i true e = by_latch i (ltb-true i (port_count (dims_of l.shape)) e) (latch_of tile.router i)
  by_port i false e = tt

  router_may : (c : Choice) → MayTry Router c
  router_may (choice.TakeFrom i) = by_port i (nat_lt i (port_count (dims_of l.shape))) refl
  router_may (choice.Put i) = nothing_asked (agent_op placed Router (choice.Put i))
  router_may (choice.CreditOf o) = nothing_asked (agent_op placed Router (choice.CreditOf o))
  router_may choice.Take = tt
  router_may choice.Send = tt
  router_may choice.Credit = tt
  router_may choice.Done = tt
  router_may choice.Look = tt
  router_may choice.Serve = tt

  by_rest : (b : Bool) → IfSome (option_and_then (λ want. want_op placed.bank.ports want) (if b then Some (Take 0) else None))
      (λ o. NamesWord (get_or row (word_of o) 0))
  by_rest true = let asks = bank_asked l ok steps n t tile there in subst NamesWord (sym (finds Bank 0 (omega arith))) asks.head
  by_rest false = tt

  bank_may : (c : Choice) → MayTry Bank c
  bank_may choice.Take = by_rest (is_none tile.bank.waiting && is_nil tile.bank.to_put)
  bank_may choice.Serve = nothing_asked (agent_op placed Bank choice.Serve)
  bank_may choice.Send = nothing_asked (agent_op placed Bank choice.Send)
  bank_may choice.Credit = nothing_asked (agent_op placed Bank choice.Credit)
  bank_may choice.Done = tt
  bank_may choice.Look = tt
  bank_may (choice.TakeFrom i) = tt
  bank_may (choice.Put i) = tt
  bank_may (choice.CreditOf o) = tt

  may : (a : Agent) (c : Choice) → MayTry a c
  may Processor c = processor_may c
  may Router c = router_may c
  may Bank c = bank_may c

  -- at the tile of the attempt
  pub may_try : (attempt : Step)
      → IfSome (tile_next_op placed attempt) (λ o. IsAcceptableTo placed (agent_kind attempt.agent) attempt.choice (get_or row (word_of o) 0))
  may_try attempt = by_tile (agent_tile attempt.agent == t) (may (agent_kind attempt.agent) attempt.choice)
    where
      by_tile : (b : Bool) → MayTry (agent_kind attempt.agent) attempt.choice
          → IfSome (if b then agent_op placed (agent_kind attempt.agent) attempt.choice else None)
          (λ o. IsAcceptableTo placed (agent_kind attempt.agent) attempt.choice (get_or row (word_of o) 0))
      by_tile true k = k
      by_tile false k = tt

module _ (l : Load) (ok : IsAcceptedLoad l) (steps : List Step) (n : ℕ) (places : List TilePlace) (row : List ℕ)
    (shown : IsShown (design_of l) (state_after l steps n) places row) (attempt : Step) (p : TilePlace)
    (there : slice_get places (agent_tile attempt.agent) ≡ Some p) where
  abbrev now : State
  now = state_after l steps n

  place : tile_in (design_of l) now (agent_tile attempt.agent) ≡ Some p
  place = sym (shown.tiles (agent_tile attempt.agent)) ∙ there

  -- the tile of the state that stands in the place
  pub tile_shown : (tile : TileState) × (slice_get now.tiles (agent_tile attempt.agent) ≡ Some tile)
      × (tile_placed (design_of l) (agent_tile attempt.agent) tile now.around ≡ p)
  tile_shown = by_state (slice_get now.tiles (agent_tile attempt.agent)) refl place
    where
      by_state : (o : Option TileState) → slice_get now.tiles (agent_tile attempt.agent) ≡ o
          → option_map (λ tile. tile_placed (design_of l) (agent_tile attempt.agent) tile now.around) o ≡ Some p
          → (tile : TileState) × (slice_get now.tiles (agent_tile attempt.agent) ≡ Some tile)
          × (tile_placed (design_of l) (agent_tile attempt.agent) tile now.around ≡ p)
      by_state None e h = absurd (cc)
      by_state (Some tile) e h = (tile, e, same_Some _ _ h)

  abbrev Tells : Option WordOp → Type 0
  Tells o = MatchOption o (step (design_of l) now attempt ≡ None)
      (λ op. (word_of op < length (row_of (design_of l) now))
      × MatchOption (step (design_of l) now attempt) (LeavesRow (design_of l) now attempt op) (λ next. MovesRow (design_of l) now attempt op next))

  by_op : (o : Option WordOp) → Tells o → IfSome o (λ op. word_of op < length row)
  by_op None k = tt
  by_op (Some op) k = subst (λ (r : List ℕ). word_of op < length r) (sym shown.row_is) k.0

  -- the word of the operation is one of the row
  pub word_there : IfSome (tile_next_op p attempt) (λ o. word_of o < length row)
  word_there =
      by_op (tile_next_op p attempt)
      (subst (λ (o : Option TilePlace). Tells (option_and_then (λ (q : TilePlace). tile_next_op q attempt) o)) place (is_operation l ok steps n attempt))

  -- and the word found is as the agent asks
  pub word_asked : IfSome (tile_next_op p attempt) (λ o. IsAcceptableTo p (agent_kind attempt.agent) attempt.choice (get_or row (word_of o) 0))
  word_asked =
      let k = tile_shown in
      subst (λ (r : List ℕ). IfSome (tile_next_op p attempt)
      (λ o. IsAcceptableTo p (agent_kind attempt.agent) attempt.choice (get_or r (word_of o) 0))) (sym shown.row_is)
      (subst (λ (q : TilePlace). IfSome (tile_next_op q attempt)
      (λ o. IsAcceptableTo q (agent_kind attempt.agent) attempt.choice (get_or (row_of (design_of l) now) (word_of o) 0))) k.2
      (may_try l ok steps n (agent_tile attempt.agent) k.0 k.1 attempt))
