-- Whom a move can wake.
use Rattle.std.proofs.Common.{◌≡◌, ◌≢◌, ◌↔◌, ℕ, ◌<◌, ◌==◌, ◌&&◌, Bool, true, false, List, [], ◌∷◌, length, Option, Some, None, refl, sym}
use Rattle.std.proofs.Common.{◌∙◌, ap, subst, arith, slice_get, eq-eqb, if◌then◌else◌}
use Rattle.std.specs.Prelude.{◌||◌, not, is_none, option_map, option_and_then}
use Rattle.std.specs.List.{list_any}
use Rattle.std.proofs.lemmas.Bool.{ne_eqb}
use Rattle.std.proofs.lemmas.List.FromFn.{length-map-range_with_len, get_or-map-range_with_len}
use Rattle.std.proofs.lemmas.List.Folds.{list_any_at}
use Rattle.std.proofs.lemmas.Option.{slice_get_within, option_and_then_some}
use Rattle.torus.specs.Shape.{IsAccepted as IsAcceptedShape, tiles_of}
use Rattle.torus.specs.declared.step.Step.{Step}
use Rattle.torus.specs.declared.step.Choice.{Choice}
use Rattle.torus.specs.declared.step.Choice.TheVariants as choice
use Rattle.packet.specs.declared.kinds.Op.TheVariants.{Add}
use Rattle.packet.specs.declared.kinds.Request.{Request as Asking}
use Rattle.flit_buffer.specs.Channel.{first_of}
use Rattle.flit_buffer.specs.Joined.{AreDisjoint}
use Rattle.flit_buffer.specs.Surroundings.{Surroundings, granted, surroundings_after, IsPossible}
use Rattle.flit_buffer.specs.declared.want.Want.{Want}
use Rattle.flit_buffer.specs.declared.want.Want.TheVariants.{Take, Put, Credit, Access, Await}
use Rattle.flit_buffer.proofs.PortLaws.{some_if}
use Rattle.one_order.specs.Following.{is_finished}
use Rattle.one_order.specs.ProcessorRecord.{ready}
use Rattle.one_order.specs.ProcessorTable.{ProcessorState, processor_wants, flits_due}
use Rattle.home_bank.specs.BankTable.{BankState, bank_wants, is_nil}
use Rattle.home_bank.specs.ServiceList.{address_of}
use Rattle.core_laws.specs.Agent.{Agent}
use Rattle.core_laws.specs.Agent.TheVariants.{Processor, Router, Bank}
use Rattle.core_laws.specs.Tile.{Design, TileState}
use Rattle.core_laws.specs.Agents.{tile_wants, agent_number, agent_kind, agent_tile}
use Rattle.core_laws.proofs.AgentNumbers.{number_of_agent, number_is}
use Rattle.core_laws.specs.Refinement.{IsPossibleChoice}
use Rattle.core_laws.proofs.Channels.{apart}
use Rattle.core_laws.specs.Core.{Load, State, design_of, step, after}
use Rattle.core_laws.specs.Runs.{IsAcceptedLoad}
use Rattle.core_laws.specs.Asks.{BankAsks}
use Rattle.core_laws.proofs.AgentSteps.{option_map_some}
use Rattle.core_laws.proofs.AskedFor.{bank_asked}
use Rattle.core_laws.proofs.ChannelWants.{router_of_channel}
use Rattle.core_laws.proofs.RowOfRuns.{all_steps}
use Rattle.core_laws.proofs.RowOfRuns as reached
use Rattle.core_laws.specs.Waking.{receiver_of, sender_of, wiring_at, wanted, Meets, Disturbs, processors, woken_by, woken, is_woken}
use Rattle.core_laws.specs.Sleep.{IsAsleep}
use Rattle.core_laws.proofs.WakeEnds.{receiver_is, sender_is}
use Rattle.core_laws.proofs.Grants.{granted_alike}
use Rattle.core_laws.proofs.WakeSteps.{step_idle, stepped, wants_kept}

-- a state with its tiles, whose agents want what is there
pub record IsReady (d : Design) (s : State) : Type 0 where
  pub shape : IsAcceptedShape d.shape
  pub count : length s.tiles ≡ tiles_of d.shape
  pub possible : (attempt : Step) (tile : TileState) → slice_get s.tiles (agent_tile attempt.agent) ≡ Some tile
      → IsPossibleChoice d (agent_tile attempt.agent) tile s.around (agent_kind attempt.agent) attempt.choice

pub ready_after : (l : Load) → IsAcceptedLoad l → (steps : List Step) → IsReady (design_of l) (after l steps)
ready_after l ok steps = subst (IsReady (design_of l)) (all_steps l steps) (record {
  shape = ok.shape;
  count = reached.tiles_there l ok steps (length steps);
  possible = λ attempt tile e. reached.possible_there l ok steps (length steps) attempt tile e;
})

-- what is awaited is the done word, by a processor
abbrev awaited : Want → ℕ
awaited (Await word value) = word
awaited _ = 0

module _ (tiles words t n value : ℕ) where
  processor_awaits : (p : ProcessorState) (c : Choice) → processor_wants tiles words t p c ≡ Some (Await n value) → n ≡ words
  processor_awaits p choice.Send e = let f =
      option_map_some (λ flit. Put 0 flit) (first_of (flits_due tiles words t p.to_put (ready p.operations))) (Await n value) e in let clash = f.2 in
      absurd (cc)
  processor_awaits p choice.Take e = absurd (cc)
  processor_awaits p choice.Credit e = absurd (cc)
  processor_awaits p choice.Done e = let clash = (some_if (is_finished p.operations.following && not p.reported) (Access words (Add 1)) (Await n value) e).1 in
      absurd (cc)
  processor_awaits p choice.Look e = ap awaited (sym (some_if (p.reported && not p.seen) (Await words tiles) (Await n value) e).1)
  processor_awaits p choice.Serve e = absurd (cc)
  processor_awaits p (choice.TakeFrom i) e = absurd (cc)
  processor_awaits p (choice.Put i) e = absurd (cc)
  processor_awaits p (choice.CreditOf o) e = absurd (cc)

  bank_awaits : (b : BankState) (c : Choice) → bank_wants tiles t b c ≡ Some (Await n value) → ⊥
  bank_awaits b choice.Take e = let clash = (some_if (is_none b.waiting && is_nil b.to_put) (Take 0) (Await n value) e).1 in cc
  bank_awaits b choice.Serve e = let f = option_map_some (λ (r : Asking). Access (address_of t tiles r.word) r.op) b.waiting (Await n value) e in
      let clash = f.2 in cc
  bank_awaits b choice.Send e = let f = option_map_some (λ flit. Put 0 flit) (first_of b.to_put) (Await n value) e in let clash = f.2 in cc
  bank_awaits b choice.Credit e = cc
  bank_awaits b choice.Done e = cc
  bank_awaits b choice.Look e = cc
  bank_awaits b (choice.TakeFrom i) e = cc
  bank_awaits b (choice.Put i) e = cc
  bank_awaits b (choice.CreditOf o) e = cc

pub tile_awaits : (d : Design) (t n value : ℕ) (tile : TileState) (a : Agent) (c : Choice) → tile_wants d t tile a c ≡ Some (Await n value)
    → (n ≡ d.words) × (a ≡ Processor)
tile_awaits d t n value tile Processor c e = (processor_awaits (tiles_of d.shape) d.words t n value tile.processor c e, refl)
tile_awaits d t n value tile Router c e = absurd (router_of_channel d.shape t tile.router c (Await n value) e)
tile_awaits d t n value tile Bank c e = absurd (bank_awaits (tiles_of d.shape) d.words t n value tile.bank c e)

or_right : (a b : Bool) → b ≡ true → (a || b) ≡ true
or_right true b h = refl
or_right false b h = h

or_false : (a b : Bool) → (a || b) ≡ false → (a ≡ false) × (b ≡ false)
or_false true b h = absurd (cc)
or_false false b h = (refl, h)

-- every processor is among them
processor_among : (tiles t agent : ℕ) → t < tiles → agent_number t Processor ≡ agent → list_any (λ k. k == agent) (processors tiles) ≡ true
processor_among tiles t agent low is =
    list_any_at (λ k. k == agent) (processors tiles) t 0 (omega (arith, length-map-range_with_len (λ u. agent_number u Processor) 0 tiles))
    (eq-eqb _ agent (get_or-map-range_with_len (λ u. agent_number u Processor) 0 tiles t t 0 low (omega arith) ∙ is))

only_one : (k agent : ℕ) → k ≡ agent → list_any (λ k. k == agent) (k ∷ []) ≡ true
only_one k agent is = ap (λ b. b || false) (eq-eqb k agent is)

module _ (d : Design) (s : State) (is_ready : IsReady d s) where
  -- an attempt that wants something, of a tile that is there
  pub record Asks (attempt : Step) (want : Want) : Type 0 where
    pub tile : TileState
    pub here : slice_get s.tiles (agent_tile attempt.agent) ≡ Some tile
    pub asks : tile_wants d (agent_tile attempt.agent) tile (agent_kind attempt.agent) attempt.choice ≡ Some want

  pub asks_of : (attempt : Step) (want : Want) → wanted d s attempt ≡ Some want → Asks attempt want
  asks_of attempt want e =
      option_and_then_some (λ (tile : TileState). tile_wants d (agent_tile attempt.agent) tile (agent_kind attempt.agent) attempt.choice)
      (slice_get s.tiles (agent_tile attempt.agent)) want e
      (λ tile here asks. record { tile = tile; here = here; asks = asks })

  pub low : (attempt : Step) (want : Want) → Asks attempt want → agent_tile attempt.agent < tiles_of d.shape
  low attempt want x = subst (λ (n : ℕ). agent_tile attempt.agent < n) is_ready.count (slice_get_within s.tiles (agent_tile attempt.agent) x.tile x.here)

  pub possible_of : (attempt : Step) (want : Want) → Asks attempt want → IsPossible s.around (wiring_at d.shape attempt.agent) want
  possible_of attempt want x = is_ready.possible attempt x.tile x.here want x.asks

  apart_of : (one other : Step) (want sought : Want) → Asks one want → Asks other sought → other.agent ≢ one.agent
      → AreDisjoint (wiring_at d.shape one.agent) (wiring_at d.shape other.agent)
  apart_of one other want sought x y ne =
      apart d.shape is_ready.shape (agent_tile one.agent) (agent_tile other.agent) (agent_kind one.agent) (agent_kind other.agent) (low one want x)
      (low other sought y)
      (λ p. ne (number_is other.agent (agent_tile one.agent) (agent_kind one.agent) p.0 p.1 ∙ number_of_agent one.agent))

  -- one step and another's choice
  module _ (attempt : Step) (next : State) (moves : step d s attempt ≡ Some next) (other : Step) (ne : other.agent ≢ attempt.agent)
      (calm : Disturbs d s attempt other → ⊥) where
    abbrev asked : Surroundings → Option Want → Option ℕ
    asked around o = option_and_then (granted around (wiring_at d.shape other.agent)) o

    abbrev left : Want → Surroundings
    left want = surroundings_after d.depth s.around (wiring_at d.shape attempt.agent) want

    by_sought : (want : Want) → wanted d s attempt ≡ Some want → (o : Option Want) → wanted d s other ≡ o
        → (asked (left want) o ≡ None) ↔ (asked s.around o ≡ None)
    by_sought want wants None e = (λ h. h, λ h. h)
    by_sought want wants (Some sought) e =
        let x = asks_of attempt want wants in
        let y = asks_of other sought e in
        granted_alike d.depth s.around (wiring_at d.shape attempt.agent) (wiring_at d.shape other.agent) (apart_of attempt other want sought x y ne) want sought
        (possible_of attempt want x) (possible_of other sought y)
        (λ m. calm (record { want = want; wants = wants; sought = sought; seeks = e; meets = m }))

    pub distant : (step d next other ≡ None) ↔ (step d s other ≡ None)
    distant =
        let x = stepped d s attempt next moves in
        let y = x.alone in
        let wants : wanted d s attempt ≡ Some y.want =
        ap (λ (o : Option TileState). option_and_then
        (λ (tile : TileState). tile_wants d (agent_tile attempt.agent) tile (agent_kind attempt.agent) attempt.choice) o) x.here ∙ y.wants in
        let around : next.around ≡ left y.want = ap (λ (z : State). z.around) (sym x.is) ∙ y.leaves in
        let same : asked next.around (wanted d next other) ≡ asked (left y.want) (wanted d s other) =
        ap (λ (z : Surroundings). asked z (wanted d next other)) around ∙ ap (asked (left y.want)) (wants_kept d s attempt next other x ne) in
        let both = by_sought y.want wants (wanted d s other) refl in
        let before = step_idle d s other in
        let now = step_idle d next other in
        (λ h. before.1 (both.0 (sym same ∙ now.0 h)), λ h. now.1 (same ∙ both.1 (before.0 h)))

  -- whom a want meets is among those that it wakes
  module _ (attempt other : Step) where
    abbrev v : Want → Want → Type 0
    v want sought = Meets (wiring_at d.shape attempt.agent) want (wiring_at d.shape other.agent) sought

    wakes : (want sought : Want) → Asks attempt want → Asks other sought → v want sought
        → list_any (λ k. k == other.agent) (woken_by d (wiring_at d.shape attempt.agent) (Some want)) ≡ true
    wakes (Take i) (Credit o) x y m =
        only_one _ other.agent (ap (sender_of d.shape) m
        ∙ (sender_is d.shape is_ready.shape (agent_tile other.agent) (low other (Credit o) y) (agent_kind other.agent) o (possible_of other (Credit o) y)
        ∙ number_of_agent other.agent))
    wakes (Put o flit) (Take i) x y m =
        only_one _ other.agent (ap (receiver_of d.shape) m
        ∙ (receiver_is d.shape is_ready.shape (agent_tile other.agent) (low other (Take i) y) (agent_kind other.agent) i (possible_of other (Take i) y)
        ∙ number_of_agent other.agent))
    wakes (Access word op) (Await n value) x y m =
        let w = tile_awaits d (agent_tile other.agent) n value y.tile (agent_kind other.agent) other.choice y.asks in
        ap (λ (b : Bool). list_any (λ k. k == other.agent) (if b then processors (tiles_of d.shape) else [])) (eq-eqb word d.words (m ∙ w.0))
        ∙ processor_among (tiles_of d.shape) (agent_tile other.agent) other.agent (low other (Await n value) y)
        (sym (number_is other.agent (agent_tile other.agent) Processor refl w.1))
    wakes (Take i) (Take j) x y m = absurd m
    wakes (Take i) (Put p more) x y m = absurd m
    wakes (Take i) (Access n act) x y m = absurd m
    wakes (Take i) (Await n sought) x y m = absurd m
    wakes (Put o flit) (Put p more) x y m = absurd m
    wakes (Put o flit) (Credit p) x y m = absurd m
    wakes (Put o flit) (Access n act) x y m = absurd m
    wakes (Put o flit) (Await n sought) x y m = absurd m
    wakes (Credit o) (Take j) x y m = absurd m
    wakes (Credit o) (Put p more) x y m = absurd m
    wakes (Credit o) (Credit p) x y m = absurd m
    wakes (Credit o) (Access n act) x y m = absurd m
    wakes (Credit o) (Await n sought) x y m = absurd m
    wakes (Access word op) (Take j) x y m = absurd m
    wakes (Access word op) (Put p more) x y m = absurd m
    wakes (Access word op) (Credit p) x y m = absurd m
    wakes (Access word op) (Access n act) x y m = absurd m
    wakes (Await word value) (Take j) x y m = absurd m
    wakes (Await word value) (Put p more) x y m = absurd m
    wakes (Await word value) (Credit p) x y m = absurd m
    wakes (Await word value) (Access n act) x y m = absurd m
    wakes (Await word value) (Await n sought) x y m = absurd m

    pub disturbed_wake : Disturbs d s attempt other → is_woken d s attempt other.agent ≡ true
    disturbed_wake h =
        or_right (attempt.agent == other.agent) _
        (ap (λ (o : Option Want). list_any (λ k. k == other.agent) (woken_by d (wiring_at d.shape attempt.agent) o)) h.wants
        ∙ wakes h.want h.sought (asks_of attempt h.want h.wants) (asks_of other h.sought h.seeks) h.meets)

  -- all others sleep on
  pub others_sleep : (attempt : Step) (next : State) (agent : ℕ) → step d s attempt ≡ Some next → is_woken d s attempt agent ≡ false → IsAsleep d s agent
      → IsAsleep d next agent
  others_sleep attempt next agent moves out asleep c =
      let other : Step = record { agent = agent; choice = c } in
      let own = (or_false (attempt.agent == agent) _ out).0 in
      let both = distant attempt next moves other
      (λ e. let is : ◌≡◌ {A = Bool} true false = sym (eq-eqb attempt.agent agent (sym e)) ∙ own in absurd (cc))
      (λ m. let is : ◌≡◌ {A = Bool} true false = sym (disturbed_wake attempt other m) ∙ out in absurd (cc)) in
      both.1 (asleep c)

-- a service wakes no other agent
module _ (l : Load) (ok : IsAcceptedLoad l) (steps : List Step) (agent : ℕ) (is_bank : agent_kind agent ≡ Bank) where
  abbrev d : Design
  d = design_of l

  abbrev t : ℕ
  t = agent_tile agent

  asks_after : (tile : TileState) → slice_get (after l steps).tiles t ≡ Some tile → BankAsks (design_of l) l.scripts t tile.bank (after l steps).around
  asks_after tile = subst (λ (s : State). slice_get s.tiles t ≡ Some tile → BankAsks (design_of l) l.scripts t tile.bank s.around) (all_steps l steps)
      (λ e. bank_asked l ok steps (length steps) t tile e)

  abbrev woken_at : Option Want → List ℕ
  woken_at o = woken_by d (wiring_at l.shape agent) o

  by_waiting : (tile : TileState) → slice_get (after l steps).tiles t ≡ Some tile → (w : Option Asking) → tile.bank.waiting ≡ w
      → woken_at (option_map (λ (r : Asking). Access (address_of t (tiles_of l.shape) r.word) r.op) w) ≡ []
  by_waiting tile e None is = refl
  by_waiting tile e (Some r) is =
      let x = asks_after tile e in
      let y = (x.request r is).word in
      ap (λ (b : Bool). if b then processors (tiles_of l.shape) else []) (ne_eqb (address_of t (tiles_of l.shape) r.word) d.words (λ z. omega (arith, y, z)))

  by_tile : (o : Option TileState) → slice_get (after l steps).tiles t ≡ o
      → woken_at (option_and_then (λ (tile : TileState). tile_wants d t tile Bank choice.Serve) o) ≡ []
  by_tile None e = refl
  by_tile (Some tile) e = by_waiting tile e tile.bank.waiting refl

  pub services_wake : woken d (after l steps) (record { agent = agent; choice = choice.Serve }) ≡ agent ∷ []
  services_wake = ap (λ (rest : List ℕ). agent ∷ rest)
      (ap (λ (a : Agent). woken_at (option_and_then (λ (tile : TileState). tile_wants d t tile a choice.Serve) (slice_get (after l steps).tiles t))) is_bank
      ∙ by_tile (slice_get (after l steps).tiles t) refl)
