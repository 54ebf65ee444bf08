-- What is noted of the network is the same for a machine that is handed a line.
use Rattle.std.proofs.Common.{◌≡◌, ◌≢◌, ⊎_elim, ℕ, zero, suc, List, [], ◌∷◌, ◌++◌, take, Option, Some, None, sym, ap, ◌∙◌, refl, subst, slice_get, append-nil}
use Rattle.std.specs.Prelude.{option_map, option_and_then, option_to_list}
use Rattle.std.proofs.lemmas.Bool.{cases_eq}
use Rattle.torus.specs.Shape.{tiles_of}
use Rattle.torus.specs.declared.step.Step.{Step}
use Rattle.torus.specs.declared.step.Choice.{Choice}
use Rattle.torus.specs.declared.step.Choice.TheVariants as choice
use Rattle.packet.specs.declared.kinds.Operation.{Operation}
use Rattle.script_lines.specs.declared.line.Line.{Line}
use Rattle.flit_buffer.specs.declared.want.Want.{Want}
use Rattle.flit_buffer.specs.declared.want.Want.TheVariants as want
use Rattle.flit_buffer.specs.Channel as channel
use Rattle.flit_buffer.specs.Surroundings.{Surroundings, granted, agent_step}
use Rattle.wormhole.specs.State.{NetState, empty}
use Rattle.wormhole.specs.Events.{NetEvent, network_after}
use Rattle.tag_table.specs.Tags.{free_tag}
use Rattle.one_order.specs.Following.{next_operation_of}
use Rattle.one_order.specs.EventBook.{first_book}
use Rattle.one_order.specs.ProcessorRecord.{ProcessorRecord, ready, record_with}
use Rattle.one_order.specs.ProcessorTable.{ProcessorState, processor_wants, processor_after, flits_due, processor_with}
use Rattle.one_order.proofs.Grown.{next_with}
use Rattle.tile.specs.Tile.{Design, TileState, tile_step}
use Rattle.tile.specs.Wiring.{processor_wiring}
use Rattle.tile.specs.declared.agent.Agent.{Agent}
use Rattle.tile.specs.declared.agent.Agent.TheVariants.{Processor, Router, Bank}
use Rattle.tile.specs.Agents.{agent_kind, agent_tile}
use Rattle.core_laws.specs.Core.{Load, State, design_of, first_state, step, or_same, next, after_from}
use Rattle.core_laws.specs.Moves.{learned_by}
use Rattle.core_laws.specs.Runs.{state_after}
use Rattle.core_laws.specs.Noted.{noted, event_by}
use Rattle.core_laws.specs.Enabled.{ahead_if_moved, enabled_of}
use Rattle.core_laws.specs.Appended.{changed_at, tile_with, state_with, IsUnreported}
use Rattle.core_laws.specs.Network.{net_of, network_event, tile_event, processor_event, request_event}
use Rattle.core_laws.proofs.AgentSteps.{did, option_map_some}
use Rattle.core_laws.proofs.Made.{still}
use Rattle.core_laws.proofs.StepLists.{enabled_rest}
use Rattle.core_laws.proofs.GrowthSteps.{Grows, grown_step}
use Rattle.core_laws.proofs.GrowthRuns.{follows}
use Rattle.core_laws.proofs.Places.{get_other, get_same}
use Rattle.fair_rounds.specs.NetRuns.{net_run}
use Rattle.fair_rounds.proofs.Charges.{HasStepped, has_stepped}

-- the network of two lists
pub net_append : (d : Design) (g : NetState) (s : State) (a b : List Step) → net_run d g s (a ++ b) ≡ net_run d (net_run d g s a) (after_from d s a) b
net_append d g s [] b = refl
net_append d g s (x ∷ a) b = net_append d (network_after (net_of d) g (network_event d s x)) (next d s x) a b

take_more : {A : Type 0} (xs : List A) (n : ℕ) (o : Option A) → slice_get xs n ≡ o → take (suc n) xs ≡ take n xs ++ option_to_list o
take_more [] zero o h = ap option_to_list h
take_more [] (suc n) o h = ap option_to_list h
take_more (x ∷ xs) zero o h = ap option_to_list h
take_more (x ∷ xs) (suc n) o h = ap (λ ys. x ∷ ys) (take_more xs n o h)

-- it is the noted one
module _ (l : Load) (steps : List Step) where
  abbrev start : NetState
  start = empty (net_of (design_of l))

  by_attempt : (n : ℕ) (a : Option Step) → slice_get steps n ≡ a
      → (noted l steps n).net ≡ net_run (design_of l) (empty (net_of (design_of l))) (first_state l) (take n steps)
      → (noted l steps (suc n)).net ≡ net_run (design_of l) (empty (net_of (design_of l))) (first_state l) (take (suc n) steps)
  by_attempt n None there before =
      ap (λ (b : Option Step). network_after (net_of (design_of l)) (noted l steps n).net (event_by l (state_after l steps n) b)) there
      ∙ (before ∙ ap (net_run (design_of l) (empty (net_of (design_of l))) (first_state l)) (sym (take_more steps n None there ∙ append-nil (take n steps))))
  by_attempt n (Some a) there before =
      ap (λ (b : Option Step). network_after (net_of (design_of l)) (noted l steps n).net (event_by l (state_after l steps n) b)) there
      ∙ (ap (λ (g : NetState). network_after (net_of (design_of l)) g (network_event (design_of l) (state_after l steps n) a)) before
      ∙ sym (ap (net_run (design_of l) (empty (net_of (design_of l))) (first_state l)) (take_more steps n (Some a) there)
      ∙ net_append (design_of l) (empty (net_of (design_of l))) (first_state l) (take n steps) (a ∷ [])))

  pub noted_run : (n : ℕ) → (noted l steps n).net ≡ net_run (design_of l) (empty (net_of (design_of l))) (first_state l) (take n steps)
  noted_run zero = refl
  noted_run (suc n) = by_attempt n (slice_get steps n) refl (noted_run n)

-- and that of the moves alone
moves_by : (d : Design) (g : NetState) (s : State) (x : Step) (steps rest : List Step) (o : Option State) → step d s x ≡ o
    → ((h : NetState) → net_run d h (next d s x) rest ≡ net_run d h (next d s x) steps)
    → net_run d g s (ahead_if_moved x o rest) ≡ net_run d g s (x ∷ steps)
moves_by d g s x steps rest None is same =
    let now : next d s x ≡ s = ap (or_same s) is in
    let none = still d s x is in
    ap (λ (u : State). net_run d g u rest) (sym now)
    ∙ (same g ∙ ap (λ (e : Option NetEvent). net_run d (network_after (net_of d) g e) (next d s x) steps) (sym none))
moves_by d g s x steps rest (Some u) is same = same (network_after (net_of d) g (network_event d s x))

pub net_moves : (d : Design) (g : NetState) (s : State) (steps : List Step) → net_run d g s (enabled_of (step d) s steps) ≡ net_run d g s steps
net_moves d g s [] = refl
net_moves d g s (x ∷ steps) =
    ap (λ (xs : List Step). net_run d g s (ahead_if_moved x (step d s x) xs)) (enabled_rest d s x steps)
    ∙ moves_by d g s x steps (enabled_of (step d) (next d s x) steps) (step d s x) refl (λ h. net_moves d h (next d s x) steps)

pub nothing : {A : Type 0} (o : Option ℕ) → option_and_then {U = A} (λ (n : ℕ). None) o ≡ None
nothing None = refl
nothing (Some n) = refl

-- a step is the same event of a tile that is handed a line
module _ (d : Design) (t : ℕ) (line : Line) where
  next_by : (b : ProcessorRecord) (f : ℕ × Operation) (o : Option Operation) → next_operation_of b.following ≡ o
      → option_and_then (λ o. option_map (λ tag. (tag, o)) (free_tag b.tags)) o ≡ Some f
      → (p : Operation) × (next_operation_of b.following ≡ Some p)
  next_by b f None is h = absurd (cc)
  next_by b f (Some p) is h = (p, is)

  ready_with : (b : ProcessorRecord) (f : ℕ × Operation) → ready b ≡ Some f → ready (record_with line b) ≡ ready b
  ready_with b f h =
      let at = next_by b f (next_operation_of b.following) refl h in
      ap (λ (o : Option Operation). option_and_then (λ o. option_map (λ tag. (tag, o)) (free_tag b.tags)) o)
      (next_with b.following line at.0 at.1 ∙ sym at.1)

  -- what is sent, by the flits left and what is ready
  abbrev sent : Surroundings → List ℕ → Option (ℕ × Operation) → Option NetEvent
  sent around l r = option_and_then (λ (n : ℕ). request_event d t l r)
      (option_and_then (granted around (processor_wiring d.shape t)) (option_map (λ flit. want.Put 0 flit) (channel.first_of (flits_due (tiles_of d.shape) d.words t l r))))

  send_with : (around : Surroundings) (b : ProcessorRecord) (l : List ℕ) (w : Want)
      → option_map (λ flit. want.Put 0 flit) (channel.first_of (flits_due (tiles_of d.shape) d.words t l (ready b))) ≡ Some w
      → sent around l (ready (record_with line b)) ≡ sent around l (ready b)
  send_with around b [] w h = by_ready (ready b) refl h
    where
      by_ready : (r : Option (ℕ × Operation)) → ready b ≡ r
          → option_map (λ flit. want.Put 0 flit) (channel.first_of (flits_due (tiles_of d.shape) d.words t [] r)) ≡ Some w
          → sent around [] (ready (record_with line b)) ≡ sent around [] (ready b)
      by_ready None is e = absurd (cc)
      by_ready (Some f) is e = ap (sent around []) (ready_with b f is)
  send_with around b (f ∷ fs) w h = refl

  processor_with_event : (p : ProcessorState) (around : Surroundings) (c : Choice) (w : Want)
      → processor_wants (tiles_of d.shape) d.words t p c ≡ Some w
      → option_and_then (processor_event d t (processor_with line p) around c)
      (learned_by (processor_wants (tiles_of d.shape) d.words t) (processor_wiring d.shape t) (processor_with line p) around c)
      ≡ option_and_then (processor_event d t p around c) (learned_by (processor_wants (tiles_of d.shape) d.words t) (processor_wiring d.shape t) p around c)
  processor_with_event p around choice.Send w h = send_with around p.operations p.to_put w h
  processor_with_event p around choice.Take w h = refl
  processor_with_event p around choice.Credit w h = refl
  processor_with_event p around choice.Done w h = nothing _ ∙ sym (nothing _)
  processor_with_event p around choice.Look w h = nothing _ ∙ sym (nothing _)
  processor_with_event p around (choice.TakeFrom i) w h = absurd (cc)
  processor_with_event p around (choice.Put i) w h = absurd (cc)
  processor_with_event p around (choice.CreditOf i) w h = absurd (cc)
  processor_with_event p around choice.Serve w h = absurd (cc)

  tile_with_event : (u : TileState) (around : Surroundings) (a : Agent) (c : Choice) (q : TileState × Surroundings) → tile_step d t u around a c ≡ Some q
      → tile_event d t (tile_with line u) around a c ≡ tile_event d t u around a c
  tile_with_event u around Processor c q h =
      let W : ProcessorState → Choice → Option Want = processor_wants (tiles_of d.shape) d.words t in
      let x = option_map_some _
      (agent_step W (processor_after (tiles_of d.shape) d.words t) d.depth (processor_wiring d.shape t) u.processor around c) q h in
      let y = did W (processor_after (tiles_of d.shape) d.words t) d.depth (processor_wiring d.shape t) u.processor around c (x.0).0 (x.0).1 x.1 in
      processor_with_event u.processor around c y.want y.wanted
  tile_with_event u around Router c q h = refl
  tile_with_event u around Bank c q h = refl

-- of a machine
event_with : (d : Design) (s : State) (p : ℕ) (line : Line) (x : Step) (u : State) → step d s x ≡ Some u
    → network_event d (state_with s p line) x ≡ network_event d s x
event_with d s p line x u enabled =
    let h : HasStepped d s x u = has_stepped d s x u enabled in
    let t : ℕ = agent_tile x.agent in
    let E : Option TileState → Option NetEvent = λ o. option_and_then (λ tile. tile_event d (agent_tile x.agent) tile s.around (agent_kind x.agent) x.choice) o in
    ⊎_elim
    (λ (same : agent_tile x.agent ≡ p).
    ap E (ap (λ (k : ℕ). slice_get (changed_at (tile_with line) s.tiles k) (agent_tile x.agent)) (sym same)
    ∙ get_same (tile_with line) s.tiles (agent_tile x.agent) h.tile h.there)
    ∙ (tile_with_event d t line h.tile s.around (agent_kind x.agent) x.choice h.moved h.enabled ∙ ap E (sym h.there)))
    (λ (apart : agent_tile x.agent ≢ p). ap E (get_other (tile_with line) s.tiles p (agent_tile x.agent) apart))
    (cases_eq (agent_tile x.agent) p)

-- the moves are those of the machine with the line
with_by : (d : Design) (p : ℕ) (line : Line) (g : NetState) (s : State) (x : Step) (steps rest : List Step) (o : Option State) → step d s x ≡ o
    → IsUnreported (after_from d (next d s x) steps) p
    → ((h : NetState) → net_run d h (state_with (next d s x) p line) rest ≡ net_run d h (next d s x) steps)
    → net_run d g (state_with s p line) (ahead_if_moved x o rest) ≡ net_run d g s (x ∷ steps)
with_by d p line g s x steps rest None is un same =
    let now : next d s x ≡ s = ap (or_same s) is in
    let none = still d s x is in
    ap (λ (u : State). net_run d g (state_with u p line) rest) (sym now)
    ∙ (same g ∙ ap (λ (e : Option NetEvent). net_run d (network_after (net_of d) g e) (next d s x) steps) (sym none))
with_by d p line g s x steps rest (Some u) is un same =
    let now : next d s x ≡ u = ap (or_same s) is in
    let there : IsUnreported u p = subst (λ (v : State). IsUnreported v p) now
    (follows d p line (next d s x) (first_book 0) steps un).unreported in
    let grows : Grows d s line x p u = grown_step d s line x p u is there in
    let on : next d (state_with s p line) x ≡ state_with (next d s x) p line =
    ap (or_same (state_with s p line)) grows.step ∙ ap (λ (v : State). state_with v p line) (sym now) in
    ap (λ (e : Option NetEvent). net_run d (network_after (net_of d) g e) (next d (state_with s p line) x) rest) (event_with d s p line x u is)
    ∙ (ap (λ (v : State). net_run d (network_after (net_of d) g (network_event d s x)) v rest) on
    ∙ same (network_after (net_of d) g (network_event d s x)))

pub net_with : (d : Design) (p : ℕ) (line : Line) (g : NetState) (s : State) (steps : List Step) → IsUnreported (after_from d s steps) p
    → net_run d g (state_with s p line) (enabled_of (step d) s steps) ≡ net_run d g s steps
net_with d p line g s [] un = refl
net_with d p line g s (x ∷ steps) un =
    ap (λ (xs : List Step). net_run d g (state_with s p line) (ahead_if_moved x (step d s x) xs)) (enabled_rest d s x steps)
    ∙ with_by d p line g s x steps (enabled_of (step d) (next d s x) steps) (step d s x) refl un (λ h. net_with d p line h (next d s x) steps un)
