-- What is noted of the network is the same where reports are taken back.
use Rattle.std.proofs.Common.{◌≡◌, ℕ, zero, suc, Bool, true, false, List, [], ◌∷◌, ◌++◌, length, map, Option, Some, None, sym, ap, ◌∙◌, refl, arith, slice_get}
use Rattle.std.specs.Prelude.{if◌then◌else◌, option_map, option_and_then}
use Rattle.std.proofs.lemmas.List.{take_all}
use Rattle.torus.specs.Shape.{tiles_of}
use Rattle.torus.specs.declared.step.Step.{Step}
use Rattle.torus.specs.declared.step.Choice.{Choice}
use Rattle.torus.specs.declared.step.Choice.TheVariants as choice
use Rattle.flit_buffer.specs.declared.want.Want.{Want}
use Rattle.flit_buffer.specs.Surroundings.{Surroundings, agent_step}
use Rattle.wormhole.specs.State.{NetState}
use Rattle.wormhole.specs.Events.{NetEvent, network_after}
use Rattle.one_order.specs.EventBook.{first_book}
use Rattle.one_order.specs.ProcessorTable.{ProcessorState, processor_wants, processor_after, processor_open}
use Rattle.router.specs.Table.{RouterState, router_wants, router_after}
use Rattle.router.specs.Beginning.{router_wiring}
use Rattle.home_bank.specs.BankTable.{BankState, bank_wants, bank_after}
use Rattle.tile.specs.Tile.{Design, TileState, tile_step}
use Rattle.tile.specs.Wiring.{processor_wiring, bank_wiring}
use Rattle.tile.specs.declared.agent.Agent.{Agent}
use Rattle.tile.specs.declared.agent.Agent.TheVariants.{Processor, Router, Bank}
use Rattle.tile.specs.Agents.{agent_kind, agent_tile}
use Rattle.core_laws.specs.Core.{Load, State, design_of, first_state, step, or_same, next, after, after_from}
use Rattle.core_laws.specs.Moves.{learned_by}
use Rattle.core_laws.specs.Runs.{IsAcceptedLoad}
use Rattle.core_laws.specs.Enabled.{ahead_if_moved, enabled_of}
use Rattle.core_laws.specs.Reopened.{tile_open, around_open, state_open, is_report, without_reports}
use Rattle.core_laws.specs.Network.{net_of, network_event, tile_event, processor_event, router_event, bank_event}
use Rattle.core_laws.proofs.AgentSteps.{did, option_map_some}
use Rattle.core_laws.proofs.AskedFor.{bank_asked}
use Rattle.core_laws.proofs.ChannelWants.{router_of_channel}
use Rattle.core_laws.proofs.Made.{still, after_push}
use Rattle.core_laws.proofs.StepLists.{enabled_rest}
use Rattle.core_laws.proofs.Tables.{agent_opened, safe_of_channel, wants_same, after_same, safe_processor, safe_bank, ServesWords}
use Rattle.core_laws.proofs.UnreportedRuns.{AllServeWords, reopens}
use Rattle.fair_rounds.specs.NetRuns.{net_run}
use Rattle.fair_rounds.proofs.Charges.{HasStepped, has_stepped}
use Rattle.fair_rounds.proofs.NetRuns.{nothing}

option_then : {A B : Type 0} (f g : A → Option B) (o : Option A) → ((a : A) → f a ≡ g a) → option_and_then f o ≡ option_and_then g o
option_then f g None h = refl
option_then f g (Some a) h = h a

-- and of a tile without marks
module _ (d : Design) (t : ℕ) where
  processor_open_event : (p : ProcessorState) (around : Surroundings) (c : Choice) (n : ℕ)
      → processor_event d t (processor_open p) (around_open d.words around) c n ≡ processor_event d t p around c n
  processor_open_event p around choice.Send n = refl
  processor_open_event p around choice.Take n = refl
  processor_open_event p around choice.Credit n = refl
  processor_open_event p around c n = refl

  router_open_event : (r : RouterState) (around : Surroundings) (c : Choice) (n : ℕ)
      → router_event d t r (around_open d.words around) c n ≡ router_event d t r around c n
  router_open_event r around (choice.TakeFrom i) n = refl
  router_open_event r around (choice.Put i) n = refl
  router_open_event r around (choice.CreditOf o) n = refl
  router_open_event r around c n = refl

  bank_open_event : (b : BankState) (around : Surroundings) (c : Choice) (n : ℕ)
      → bank_event d t b (around_open d.words around) c n ≡ bank_event d t b around c n
  bank_open_event b around choice.Take n = refl
  bank_open_event b around choice.Send n = refl
  bank_open_event b around choice.Credit n = refl
  bank_open_event b around c n = refl

  tile_open_event : (u : TileState) (around : Surroundings) (a : Agent) (c : Choice) (q : TileState × Surroundings) → tile_step d t u around a c ≡ Some q
      → is_report c ≡ false → ServesWords (tiles_of d.shape) d.words t u.bank
      → tile_event d t (tile_open u) (around_open d.words around) a c ≡ tile_event d t u around a c
  tile_open_event u around Processor c q h plain here =
      let W : ProcessorState → Choice → Option Want = processor_wants (tiles_of d.shape) d.words t in
      let x = option_map_some _
      (agent_step W (processor_after (tiles_of d.shape) d.words t) d.depth (processor_wiring d.shape t) u.processor around c) q h in
      let y = did W (processor_after (tiles_of d.shape) d.words t) d.depth (processor_wiring d.shape t) u.processor around c (x.0).0 (x.0).1 x.1 in
      let z = agent_opened W (processor_after (tiles_of d.shape) d.words t) d.depth (processor_wiring d.shape t) processor_open d.words u.processor around c
      (x.0).0 (x.0).1 y (wants_same (tiles_of d.shape) d.words t u.processor c plain)
      (λ n. after_same (tiles_of d.shape) d.words t u.processor c y.want n plain)
      (safe_processor (tiles_of d.shape) d.words t u.processor c y.want plain y.wanted) in
      ap (λ (o : Option ℕ). option_and_then (processor_event d t (processor_open u.processor) (around_open d.words around) c) o) z.learned
      ∙ option_then (processor_event d t (processor_open u.processor) (around_open d.words around) c) (processor_event d t u.processor around c) _
      (processor_open_event u.processor around c)
  tile_open_event u around Router c q h plain here =
      let W : RouterState → Choice → Option Want = router_wants d.shape t in
      let x = option_map_some _ (agent_step W router_after d.depth (router_wiring d.shape t) u.router around c) q h in
      let y = did W router_after d.depth (router_wiring d.shape t) u.router around c (x.0).0 (x.0).1 x.1 in
      let z = agent_opened W router_after d.depth (router_wiring d.shape t) (λ r. r) d.words u.router around c (x.0).0 (x.0).1 y refl (λ n. refl)
      (safe_of_channel d.words y.want (router_of_channel d.shape t u.router c y.want y.wanted)) in
      ap (λ (o : Option ℕ). option_and_then (router_event d t u.router (around_open d.words around) c) o) z.learned
      ∙ option_then (router_event d t u.router (around_open d.words around) c) (router_event d t u.router around c) _
      (router_open_event u.router around c)
  tile_open_event u around Bank c q h plain here =
      let W : BankState → Choice → Option Want = bank_wants (tiles_of d.shape) t in
      let x = option_map_some _ (agent_step W (bank_after (tiles_of d.shape) t) d.depth (bank_wiring d.shape t) u.bank around c) q h in
      let y = did W (bank_after (tiles_of d.shape) t) d.depth (bank_wiring d.shape t) u.bank around c (x.0).0 (x.0).1 x.1 in
      let z = agent_opened W (bank_after (tiles_of d.shape) t) d.depth (bank_wiring d.shape t) (λ r. r) d.words u.bank around c (x.0).0 (x.0).1 y refl (λ n. refl)
      (safe_bank (tiles_of d.shape) d.words t u.bank c y.want here y.wanted) in
      ap (λ (o : Option ℕ). option_and_then (bank_event d t u.bank (around_open d.words around) c) o) z.learned
      ∙ option_then (bank_event d t u.bank (around_open d.words around) c) (bank_event d t u.bank around c) _
      (bank_open_event u.bank around c)

  -- a report is no event
  report_event : (u : TileState) (around : Surroundings) (a : Agent) (c : Choice) → is_report c ≡ true → tile_event d t u around a c ≡ None
  report_event u around Processor choice.Done h = nothing _
  report_event u around Processor choice.Look h = nothing _
  report_event u around Processor c h = absurd (cc)
  report_event u around Router choice.Done h =
      nothing (learned_by (router_wants d.shape t) (router_wiring d.shape t) u.router around choice.Done)
  report_event u around Router choice.Look h =
      nothing (learned_by (router_wants d.shape t) (router_wiring d.shape t) u.router around choice.Look)
  report_event u around Router c h = absurd (cc)
  report_event u around Bank choice.Done h =
      nothing (learned_by (bank_wants (tiles_of d.shape) t) (bank_wiring d.shape t) u.bank around choice.Done)
  report_event u around Bank choice.Look h =
      nothing (learned_by (bank_wants (tiles_of d.shape) t) (bank_wiring d.shape t) u.bank around choice.Look)
  report_event u around Bank c h = absurd (cc)

get_open : (tiles : List TileState) (t : ℕ) (u : TileState) → slice_get tiles t ≡ Some u → slice_get (map tile_open tiles) t ≡ Some (tile_open u)
get_open [] t u h = absurd (cc)
get_open (v ∷ tiles) zero u h = ap (option_map tile_open) h
get_open (v ∷ tiles) (suc t) u h = get_open tiles t u h

module _ (l : Load) (ok : IsAcceptedLoad l) where
  abbrev d : Design
  d = design_of l

  abbrev pub Reached : State → Type 0
  Reached s = (before : List Step) × (after l before ≡ s)

  serve_words : (s : State) → Reached s → AllServeWords (design_of l) s
  serve_words s at t tile there r waits =
      let there_then : slice_get (after l at.0).tiles t ≡ Some tile =
      ap (λ (u : State). slice_get u.tiles t) at.1 ∙ there in
      let asks =
      bank_asked l ok at.0 (length at.0) t tile
      (ap (λ (xs : List Step). slice_get (after l xs).tiles t) (take_all (length at.0) at.0 (omega arith))
      ∙ there_then) in
      let low = (asks.request r waits).word in
      λ e. omega (arith, low, e)

  goes_on : (s : State) (x : Step) → Reached s → Reached (next (design_of l) s x)
  goes_on s x at = (at.0 ++ x ∷ [], after_push (design_of l) at.0 (first_state l) x ∙ ap (λ (u : State). next (design_of l) u x) at.1)

  -- one step
  one_opens : (s : State) (x : Step) (u : State) → Reached s → step (design_of l) s x ≡ Some u
      → after_from (design_of l) (state_open (design_of l) s) (if is_report x.choice then [] else x ∷ []) ≡ state_open (design_of l) (next (design_of l) s x)
  one_opens s x u at is =
      let all = reopens (design_of l) Reached serve_words goes_on s (first_book 0) (x ∷ []) at in
      ap (λ (o : Option State). after_from (design_of l) (state_open (design_of l) s) (without_reports (ahead_if_moved x o []))) (sym is) ∙ all.state

  event_open : (s : State) (x : Step) (u : State) → Reached s → step (design_of l) s x ≡ Some u → is_report x.choice ≡ false
      → network_event (design_of l) (state_open (design_of l) s) x ≡ network_event (design_of l) s x
  event_open s x u at is plain =
      let h : HasStepped (design_of l) s x u = has_stepped (design_of l) s x u is in
      ap (λ (o : Option TileState). option_and_then
      (λ tile. tile_event (design_of l) (agent_tile x.agent) tile (around_open (design_of l).words s.around) (agent_kind x.agent) x.choice) o)
      (get_open s.tiles (agent_tile x.agent) h.tile h.there)
      ∙ (tile_open_event (design_of l) (agent_tile x.agent) h.tile s.around (agent_kind x.agent) x.choice h.moved h.enabled plain
      (serve_words s at (agent_tile x.agent) h.tile h.there)
      ∙ ap (λ (o : Option TileState). option_and_then (λ tile. tile_event (design_of l) (agent_tile x.agent) tile s.around (agent_kind x.agent) x.choice) o)
      (sym h.there))

  event_none : (s : State) (x : Step) (u : State) → step (design_of l) s x ≡ Some u → is_report x.choice ≡ true → network_event (design_of l) s x ≡ None
  event_none s x u is report =
      let h : HasStepped (design_of l) s x u = has_stepped (design_of l) s x u is in
      ap (λ (o : Option TileState). option_and_then (λ tile. tile_event (design_of l) (agent_tile x.agent) tile s.around (agent_kind x.agent) x.choice) o) h.there
      ∙ report_event (design_of l) (agent_tile x.agent) h.tile s.around (agent_kind x.agent) x.choice report

  open_kind : (g : NetState) (s : State) (x : Step) (steps rest : List Step) (u : State) → Reached s → step (design_of l) s x ≡ Some u
      → ((h : NetState) → net_run (design_of l) h (state_open (design_of l) (next (design_of l) s x)) rest ≡ net_run (design_of l) h (next (design_of l) s x) steps)
      → (b : Bool) → is_report x.choice ≡ b
      → net_run (design_of l) g (state_open (design_of l) s) (if b then rest else x ∷ rest) ≡ net_run (design_of l) g s (x ∷ steps)
  open_kind g s x steps rest u at is same true kind =
      let here : state_open (design_of l) s ≡ state_open (design_of l) (next (design_of l) s x) =
      ap (λ (b : Bool). after_from (design_of l) (state_open (design_of l) s) (if b then [] else x ∷ [])) (sym kind) ∙ one_opens s x u at is in
      ap (λ (v : State). net_run (design_of l) g v rest) here
      ∙ (same g ∙ ap (λ (e : Option NetEvent). net_run (design_of l) (network_after (net_of (design_of l)) g e) (next (design_of l) s x) steps)
      (sym (event_none s x u is kind)))
  open_kind g s x steps rest u at is same false kind =
      let here : next (design_of l) (state_open (design_of l) s) x ≡ state_open (design_of l) (next (design_of l) s x) =
      ap (λ (b : Bool). after_from (design_of l) (state_open (design_of l) s) (if b then [] else x ∷ [])) (sym kind) ∙ one_opens s x u at is in
      ap (λ (e : Option NetEvent). net_run (design_of l) (network_after (net_of (design_of l)) g e) (next (design_of l) (state_open (design_of l) s) x) rest)
      (event_open s x u at is kind)
      ∙ (ap (λ (v : State). net_run (design_of l) (network_after (net_of (design_of l)) g (network_event (design_of l) s x)) v rest) here
      ∙ same (network_after (net_of (design_of l)) g (network_event (design_of l) s x)))

  open_by : (g : NetState) (s : State) (x : Step) (steps rest : List Step) (o : Option State) → Reached s → step (design_of l) s x ≡ o
      → ((h : NetState) → net_run (design_of l) h (state_open (design_of l) (next (design_of l) s x)) (without_reports rest) ≡ net_run (design_of l) h (next (design_of l) s x) steps)
      → net_run (design_of l) g (state_open (design_of l) s) (without_reports (ahead_if_moved x o rest)) ≡ net_run (design_of l) g s (x ∷ steps)
  open_by g s x steps rest None at is same =
      let now : next (design_of l) s x ≡ s = ap (or_same s) is in
      let none = still (design_of l) s x is in
      ap (λ (u : State). net_run (design_of l) g (state_open (design_of l) u) (without_reports rest)) (sym now)
      ∙ (same g ∙ ap (λ (e : Option NetEvent). net_run (design_of l) (network_after (net_of (design_of l)) g e) (next (design_of l) s x) steps) (sym none))
  open_by g s x steps rest (Some u) at is same = open_kind g s x steps (without_reports rest) u at is same (is_report x.choice) refl

  pub net_open : (g : NetState) (s : State) (steps : List Step) → Reached s
      → net_run (design_of l) g (state_open (design_of l) s) (without_reports (enabled_of (step (design_of l)) s steps)) ≡ net_run (design_of l) g s steps
  net_open g s [] at = refl
  net_open g s (x ∷ steps) at =
      ap (λ (xs : List Step). net_run (design_of l) g (state_open (design_of l) s) (without_reports (ahead_if_moved x (step (design_of l) s x) xs)))
      (enabled_rest (design_of l) s x steps)
      ∙ open_by g s x steps (enabled_of (step (design_of l)) (next (design_of l) s x) steps) (step (design_of l) s x) at refl
      (λ h. net_open h (next (design_of l) s x) steps (goes_on s x at))
