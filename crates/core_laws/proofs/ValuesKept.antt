-- Each step keeps what holds of values.
use Rattle.std.proofs.Common.{◌≡◌, ◌≢◌, ⊎_elim, ℕ, ◌^◌, ◌<◌, ◌≤◌, List, [], ◌∷◌, length, Option, Some, None, refl, sym, ◌∙◌, ap, subst, arith}
use Rattle.std.proofs.Common.{slice_get, slice_index, slice_set}
use Rattle.std.specs.Prelude.{option_map, option_and_then}
use Rattle.std.proofs.lemmas.Bool.{cases_lt}
use Rattle.std.proofs.lemmas.List.{get_or_past}
use Rattle.std.proofs.lemmas.List.Elements.{All-head}
use Rattle.std.proofs.lemmas.Option.{same_Some, slice_get_within, get_or_from_slice_get}
use Rattle.torus.specs.Shape.{tiles_of}
use Rattle.torus.specs.declared.step.Choice.{Choice}
use Rattle.torus.specs.declared.step.Choice.TheVariants.{Serve, TakeFrom}
use Rattle.torus.specs.declared.step.Step.{Step}
use Rattle.packet.specs.declared.kinds.Operation.{Operation}
use Rattle.packet.specs.declared.kinds.Packet.TheVariants as packet
use Rattle.packet.specs.declared.kinds.Request.{Request as Asking}
use Rattle.packet.specs.declared.kinds.Reply.{Reply}
use Rattle.packet.specs.Memory.{reply_to}
use Rattle.packet.proofs.Shapes.{flits_above_zero}
use Rattle.home_bank.specs.ServiceList.{address_of, response_of}
use Rattle.one_order.specs.Order.{LinearizationPoint}
use Rattle.flit_buffer.specs.Channel.{first_of}
use Rattle.flit_buffer.specs.Wants.{told_by}
use Rattle.flit_buffer.specs.declared.want.Want.{Want}
use Rattle.flit_buffer.specs.declared.want.Want.TheVariants as want
use Rattle.flit_buffer.specs.Surroundings.{Surroundings, ring, no_ring, granted}
use Rattle.one_order.specs.ProcessorRecord.{ready, request_of}
use Rattle.packet.specs.Flits.{flits_of}
use Rattle.router.specs.Table.{RouterState, latch_of, router_wants, router_after}
use Rattle.one_order.specs.ProcessorTable.{ProcessorState, processor_wants, processor_after}
use Rattle.home_bank.specs.BankTable.{BankState, bank_wants, bank_after}
use Rattle.tile.specs.Wiring.{processor_wiring, bank_wiring}
use Rattle.router.specs.Beginning.{router_wiring}
use Rattle.tile.specs.declared.agent.Agent.{Agent}
use Rattle.tile.specs.declared.agent.Agent.TheVariants.{Processor, Router, Bank}
use Rattle.tile.specs.Tile.{Design, TileState, tile_step}
use Rattle.tile.specs.Agents.{agent_kind, agent_tile}
use Rattle.core_laws.specs.Core.{State, next, or_same}
use Rattle.core_laws.proofs.AgentSteps.{did, option_map_some}
use Rattle.core_laws.proofs.TileMoves.{reply_learned}
use Rattle.core_laws.proofs.Values.{IsLimited, AreSome, HasTileValues, HasValues}
use Rattle.core_laws.proofs.ValuesProper.{ready_proper, waiting_values, reply_proper}
use Rattle.core_laws.proofs.ValuesParts.{set_any, words_after, processor_sound, bank_sound, router_sound, processor_followed, processor_left, bank_left}
use Rattle.core_laws.proofs.ValuesParts.{router_latched, router_takes}
use Rattle.core_laws.proofs.Stands.{Ghost, Stands, tile_at, no_tile}

first_some : (flits : List ℕ) (flit : ℕ) → ((i : ℕ) → i < length flits → slice_index flits i ≢ 0) → first_of flits ≡ Some flit → flit ≢ 0
first_some [] flit some h = absurd (cc)
first_some (x ∷ flits) flit some h = subst (λ (n : ℕ). n ≢ 0) (same_Some x flit h) (some 0 (omega arith))

module _ (d : Design) (tags : ℕ) (limits : IsLimited d tags) (opening : List ℕ) (s : State) (g : Ghost) (order : List LinearizationPoint)
    (st : Stands d tags opening s g order) (h : HasValues d s) where
  abbrev AreBelow : Surroundings → Type 0
  AreBelow left = (a : ℕ) → slice_index left.words a < 2 ^ 64

  -- a flit of any channel isn't 0
  pub taken_some : (x flit : ℕ) → first_of (ring s.around.rings x).channel.flits ≡ Some flit → flit ≢ 0
  taken_some x flit e = ⊎_elim
      (λ (within : x < length s.around.rings). first_some (ring s.around.rings x).channel.flits flit (st.rings x within).channel.flits_are_words e)
      (λ (past : length s.around.rings ≤ x).
      let none : first_of (ring s.around.rings x).channel.flits ≡ None = ap (λ r. first_of r.channel.flits) (get_or_past s.around.rings x no_ring past) in
      let no : ◌≡◌ {A = Option ℕ} None (Some flit) = sym none ∙ e in absurd (cc))
      (cases_lt x (length s.around.rings))

  ready_left : (t : ℕ) → t < tiles_of d.shape → (f : ℕ × Operation) → ready (tile_at s t).processor.operations ≡ Some f
      → AreSome (flits_of (packet.Request (request_of (tiles_of d.shape) t f.0 f.1)))
  ready_left t t_in f is =
      flits_above_zero (packet.Request (request_of (tiles_of d.shape) t f.0 f.1)) (flits_of (packet.Request (request_of (tiles_of d.shape) t f.0 f.1)))
      (ready_proper d tags limits opening s g order st h t f.0 f.1 t_in is).0.spelled

  reply_left : (t : ℕ) → t < tiles_of d.shape → (choice : Choice) (w : Want) (learned : ℕ) → bank_wants (tiles_of d.shape) t (tile_at s t).bank choice ≡ Some w
      → granted s.around (bank_wiring d.shape t) w ≡ Some learned
      → choice ≡ Serve → (r : Asking) → (tile_at s t).bank.waiting ≡ Some r
      → AreSome (flits_of (packet.Response (response_of t (length (tile_at s t).bank.entries) r (reply_to r.op learned))))
  reply_left t t_in choice w learned wanted grants serves r waits =
      let n : ℕ = tiles_of d.shape in
      let b : BankState = (tile_at s t).bank in
      let a : ℕ = address_of t n r.word in
      let is : bank_wants n t b Serve ≡ Some w = ap (bank_wants n t b) (sym serves) ∙ wanted in
      let w_is : want.Access a r.op ≡ w =
      same_Some _ _ (ap (λ (o : Option Asking). option_map (λ (x : Asking). want.Access (address_of t n x.word) x.op) o) (sym waits) ∙ is) in
      let learns : told_by r.op (slice_index s.around.words a) ≡ learned = same_Some _ _ (ap (granted s.around (bank_wiring d.shape t)) w_is ∙ grants) in
      let reply : reply_to r.op (slice_index s.around.words a) ≡ reply_to r.op learned =
      sym (reply_learned r.op (slice_index s.around.words a)) ∙ ap (reply_to r.op) learns in
      let spelled = (reply_proper d tags limits opening s g order st h t r t_in waits).spelled in
      subst (λ (v : Reply). AreSome (flits_of (packet.Response (response_of t (length b.entries) r v)))) reply
      (flits_above_zero (packet.Response (response_of t (length b.entries) r (reply_to r.op (slice_index s.around.words a))))
      (flits_of (packet.Response (response_of t (length b.entries) r (reply_to r.op (slice_index s.around.words a))))) spelled)

  -- the tile and the surroundings after a step of one of its agents
  tile_kept : (t : ℕ) → t < tiles_of d.shape → (agent : Agent) (choice : Choice) (after : TileState) (left : Surroundings)
      → tile_step d t (tile_at s t) s.around agent choice ≡ Some (after, left)
      → HasTileValues d.words after × AreBelow left
  tile_kept t t_in Processor choice after left e =
      let n : ℕ = tiles_of d.shape in
      let before : TileState = tile_at s t in
      let old = h.tiles t in
      let f = option_map_some (λ (p : ProcessorState × Surroundings). (record before { processor = p.0 }, p.1)) _ (after, left) e in
      let x = did (processor_wants n d.words t) (processor_after n d.words t) d.depth (processor_wiring d.shape t) before.processor s.around choice f.0.0 f.0.1
      f.1 in
      let kept : HasTileValues d.words (record before { processor = processor_after n d.words t before.processor choice x.want x.learned }) = record {
        followed = processor_followed n d.words t 4096 before.processor choice x.want x.learned old.followed;
        latched = old.latched;
        requests_left = processor_left n d.words t 4096 before.processor choice x.want x.learned old.requests_left (ready_left t t_in);
        replies_left = old.replies_left;
      } in
      let words = words_after d.depth s.around (processor_wiring d.shape t) x.want (processor_sound n d.words t before.processor choice x.want x.wanted)
      h.words in
      subst (λ (z : TileState × Surroundings). HasTileValues d.words z.0 × AreBelow z.1) f.2
      (subst (λ (q : ProcessorState). HasTileValues d.words (record before { processor = q })) (sym x.state_is) kept, subst AreBelow (sym x.around_is) words)
  tile_kept t t_in Router choice after left e =
      let before : TileState = tile_at s t in
      let old = h.tiles t in
      let f = option_map_some (λ (p : RouterState × Surroundings). (record before { router = p.0 }, p.1)) _ (after, left) e in
      let x = did (router_wants d.shape t) router_after d.depth (router_wiring d.shape t) before.router s.around choice f.0.0 f.0.1 f.1 in
      let taken : (k : ℕ) → choice ≡ TakeFrom k → x.learned ≢ 0 = λ k is.
      let w_is = router_takes d.shape t before.router k x.want (ap (router_wants d.shape t before.router) (sym is) ∙ x.wanted) in
      taken_some _ x.learned (ap (granted s.around (router_wiring d.shape t)) w_is ∙ x.grants) in
      let kept : HasTileValues d.words (record before { router = router_after before.router choice x.want x.learned }) = record {
        followed = old.followed;
        latched = router_latched d.shape t before.router choice x.want x.learned old.latched taken;
        requests_left = old.requests_left;
        replies_left = old.replies_left;
      } in
      let words = words_after d.depth s.around (router_wiring d.shape t) x.want (router_sound d.shape t before.router choice x.want x.wanted) h.words in
      subst (λ (z : TileState × Surroundings). HasTileValues d.words z.0 × AreBelow z.1) f.2
      (subst (λ (q : RouterState). HasTileValues d.words (record before { router = q })) (sym x.state_is) kept, subst AreBelow (sym x.around_is) words)
  tile_kept t t_in Bank choice after left e =
      let n : ℕ = tiles_of d.shape in
      let before : TileState = tile_at s t in
      let old = h.tiles t in
      let f = option_map_some (λ (p : BankState × Surroundings). (record before { bank = p.0 }, p.1)) _ (after, left) e in
      let x = did (bank_wants n t) (bank_after n t) d.depth (bank_wiring d.shape t) before.bank s.around choice f.0.0 f.0.1 f.1 in
      let kept : HasTileValues d.words (record before { bank = bank_after n t before.bank choice x.want x.learned }) = record {
        followed = old.followed;
        latched = old.latched;
        requests_left = old.requests_left;
        replies_left = bank_left n t before.bank choice x.want x.learned old.replies_left (reply_left t t_in choice x.want x.learned x.wanted x.grants);
      } in
      let words = words_after d.depth s.around (bank_wiring d.shape t) x.want
      (bank_sound n t before.bank choice x.want (waiting_values d tags limits opening s g order st h t) x.wanted) h.words in
      subst (λ (z : TileState × Surroundings). HasTileValues d.words z.0 × AreBelow z.1) f.2
      (subst (λ (q : BankState). HasTileValues d.words (record before { bank = q })) (sym x.state_is) kept, subst AreBelow (sym x.around_is) words)

  abbrev with_step : ℕ → Option (TileState × Surroundings) → State
  with_step t p = or_same s (option_map (λ p. record { tiles = slice_set s.tiles t p.0; around = p.1 }) p)

  step_kept : (t : ℕ) → t < tiles_of d.shape → (agent : Agent) (choice : Choice) (o : Option (TileState × Surroundings))
      → tile_step d t (tile_at s t) s.around agent choice ≡ o → HasValues d (with_step t o)
  step_kept t t_in agent choice None e = h
  step_kept t t_in agent choice (Some (after, left)) e =
      let k = tile_kept t t_in agent choice after left e in
      record { words = k.1; tiles = λ u. set_any no_tile s.tiles t after u (HasTileValues d.words) k.0 (h.tiles u) }

  abbrev at_tile : Step → Option TileState → State
  at_tile attempt o = or_same s (option_and_then (λ tile.
      option_map (λ p. record { tiles = slice_set s.tiles (agent_tile attempt.agent) p.0; around = p.1 })
      (tile_step d (agent_tile attempt.agent) tile s.around (agent_kind attempt.agent) attempt.choice)) o)

  tile_found : (attempt : Step) (o : Option TileState) → slice_get s.tiles (agent_tile attempt.agent) ≡ o → HasValues d (at_tile attempt o)
  tile_found attempt None there = h
  tile_found attempt (Some tile) there =
      let t : ℕ = agent_tile attempt.agent in
      let is : tile_at s t ≡ tile = get_or_from_slice_get s.tiles t tile no_tile there in
      let t_in : t < tiles_of d.shape = subst (λ (k : ℕ). t < k) st.tiles (slice_get_within s.tiles t tile there) in
      subst (λ (x : TileState). HasValues d (at_tile attempt (Some x))) is
      (step_kept t t_in (agent_kind attempt.agent) attempt.choice
      (tile_step d t (tile_at s t) s.around (agent_kind attempt.agent) attempt.choice) refl)

  -- Each step keeps what holds of values.
  pub values_kept : (attempt : Step) → HasValues d (next d s attempt)
  values_kept attempt = tile_found attempt (slice_get s.tiles (agent_tile attempt.agent)) refl

  -- No flit of a request in course is 0.
  pub course_some : (t flit : ℕ) (more : List ℕ) → (tile_at s t).processor.to_put ≡ flit ∷ more → flit ≢ 0
  course_some t flit more is = let k = All-head (λ n. 0 < n) flit more (subst AreSome is (h.tiles t).requests_left) in λ e. omega (arith, k, e)

  -- No flit of a reply in course is 0.
  pub reply_some : (t flit : ℕ) (more : List ℕ) → (tile_at s t).bank.to_put ≡ flit ∷ more → flit ≢ 0
  reply_some t flit more is = let k = All-head (λ n. 0 < n) flit more (subst AreSome is (h.tiles t).replies_left) in λ e. omega (arith, k, e)

  -- No latched flit is 0.
  pub latched_some : (t i flit : ℕ) → latch_of (tile_at s t).router i ≡ Some flit → flit ≢ 0
  latched_some t i flit full = (h.tiles t).latched i flit full
