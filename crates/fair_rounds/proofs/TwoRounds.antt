-- While an operation is out, a round in which nothing begins does something, or it and the next do two.
use Rattle.std.proofs.Common.{◌≡◌, ◌⊎◌, ⊎_elim, inl, inr, ℕ, ◌<◌, ◌≤◌, List, [], ◌++◌, length, map, Some, None, sym, ap, ◌∙◌, refl, arith, subst, slice_get, slice_index}
use Rattle.std.specs.Prelude.{if◌then◌else◌}
use Rattle.std.proofs.lemmas.Bool.{lt-ltb}
use Rattle.std.proofs.lemmas.List.{take_all, length-map}
use Rattle.torus.specs.Shape.{tiles_of}
use Rattle.torus.specs.declared.step.Step.{Step}
use Rattle.flit_buffer.specs.declared.want.Want.TheVariants as want
use Rattle.flit_buffer.specs.Places.{Ring}
use Rattle.flit_buffer.specs.Surroundings.{ring}
use Rattle.one_order.specs.Observed.{Observed, list_at, HasAnswered}
use Rattle.one_order.specs.ProcessorRecord.{ProcessorRecord}
use Rattle.one_order.proofs.Lists.{within_length, list_within}
use Rattle.router.specs.Table.{RouterState, latch_of}
use Rattle.home_bank.specs.BankTable.{BankState}
use Rattle.wormhole.specs.State.{NetLine}
use Rattle.tile.specs.Tile.{Design, TileState}
use Rattle.tile.specs.declared.agent.Agent.{Agent}
use Rattle.tile.specs.Agents.{agent_kind, agent_tile, tile_wants, wiring_of}
use Rattle.core_laws.specs.Core.{State, design_of, first_state, after, after_from, show, records_of, run_of}
use Rattle.core_laws.specs.Runs.{IsAcceptedLoad, state_after}
use Rattle.core_laws.specs.Noted.{noted}
use Rattle.core_laws.specs.Machine.{Core, built_to, shown}
use Rattle.core_laws.proofs.Books.{after_append}
use Rattle.core_laws.proofs.EveryRun.{holds_in}
use Rattle.core_laws.proofs.Machines.{named_machine}
use Rattle.core_laws.proofs.Told.{flits_tell}
use Rattle.core_laws.proofs.Wires.{FlitsTell}
use Rattle.core_laws.proofs.Stands.{Mirrors, tile_at}
use Rattle.fair_rounds.specs.Charges.{charge}
use Rattle.fair_rounds.specs.Costs.{cost_of}
use Rattle.machine_core.specs.Arbiters.{Arbiter, IsArbiter, arbited_round}
use Rattle.fair_rounds.specs.Hosts.{IsOut}
use Rattle.fair_rounds.proofs.Ready.{CanGo, IsGranted, IsPut}
use Rattle.fair_rounds.proofs.CanGo.{can_go}
use Rattle.fair_rounds.proofs.Frames.{Keeps, put_told}
use Rattle.fair_rounds.proofs.Rings.{Held}
use Rattle.fair_rounds.proofs.Rounds.{enabled_by}
use Rattle.fair_rounds.proofs.RoundMoves.{IsSound, AreSound, Granted, granted_goes, PutHeld, put_goes, put_comes}
use Rattle.fair_rounds.proofs.Guards.{plain_of, plain_finds, plain_on}
use Rattle.fair_rounds.proofs.Attempted.{attempted}
use Rattle.fair_rounds.proofs.Credits.{output_low, HasCredit, has_credit, few_plain}
use Rattle.fair_rounds.proofs.Lines.{Alike, Stage}

-- a put for which a credit is held
pub record Waits (d : Design) (s : State) : Type 0 where
  pub attempt : Step
  pub output : ℕ
  pub flit : ℕ
  pub counts : charge (agent_kind attempt.agent) attempt.choice ≡ 2
  pub low : agent_tile attempt.agent < tiles_of d.shape
  pub held : PutHeld d attempt output flit counts low s

-- it waits in alike states too
pub waits_alike : (d : Design) (s z : State) → Alike s z → Waits d s → Waits d z
waits_alike d s z a w =
    let t : ℕ = agent_tile (w.attempt).agent in
    let keeps : Keeps (tile_at s t) (tile_at z t) = record {
      sends = a.to_put t;
      replies = λ some. ap (λ (b : BankState). b.to_put) (a.bank t);
      latches = λ i f is. ap (λ (r : RouterState). latch_of r i) (a.router t) ∙ is;
      owned = ap (λ (r : RouterState). r.owned) (a.router t);
    } in
    let told = put_told d t (tile_at s t) (tile_at z t) (agent_kind (w.attempt).agent) (w.attempt).choice (want.Put w.output w.flit) w.counts ((w.held).0).1 keeps ((w.held).0).0 in
    record {
      attempt = w.attempt;
      output = w.output;
      flit = w.flit;
      counts = w.counts;
      low = w.low;
      held = (
        told,
        subst (λ (rs : List Ring). Held (ring rs (slice_index (wiring_of d.shape (agent_tile (w.attempt).agent) (agent_kind (w.attempt).agent)).outputs w.output)))
            (sym a.rings) (w.held).1,
      );
    }

-- the machine of a stage is as its steps lead to it
pub built_is : (c : Core) (st : Stage c) → design_of st.load ≡ built_to c
built_is c st = sym (ap built_to (named_machine st.load c st.steps st.after))

pub shown_is : (c : Core) (st : Stage c) → shown c ≡ run_of st.load st.steps (length st.steps)
shown_is c st =
    ap shown (named_machine st.load c st.steps st.after)
    ∙ ap (λ (ys : List Step). show (length (st.load).opening) (after st.load ys)) (sym (take_all (length st.steps) st.steps (omega arith)))

pub now_is : (c : Core) (st : Stage c) → state_after st.load st.steps (length st.steps) ≡ c.state
now_is c st = ap (after st.load) (take_all (length st.steps) st.steps (omega arith)) ∙ sym (st.after).state

module _ (by : Arbiter) (orders : IsArbiter by) (c : Core) (st : Stage c) where
  abbrev d : Design
  d = built_to c

  abbrev ok : IsAcceptedLoad st.load
  ok = (st.after).accepted

  abbrev pub round_of : List Step
  round_of = plain_of (built_to c) c.state (arbited_round by c)

  sound_at : (before : List Step) → IsSound (built_to c) (after_from (built_to c) c.state before)
  sound_at before =
      let h = (holds_in st.load ok (st.steps ++ before) (length (st.steps ++ before))).stands in
      let one : IsSound (design_of st.load) (state_after st.load (st.steps ++ before) (length (st.steps ++ before))) = record { tiles = h.tiles; phases = h.phases } in
      let is : state_after st.load (st.steps ++ before) (length (st.steps ++ before)) ≡ after_from (design_of st.load) (after st.load st.steps) before =
      ap (after st.load) (take_all (length (st.steps ++ before)) (st.steps ++ before) (omega arith))
      ∙ after_append (design_of st.load) (first_state st.load) st.steps before in
      subst (λ (s : State). IsSound (built_to c) (after_from (built_to c) s before)) (sym (st.after).state)
      (subst (λ (e : Design). IsSound e (after_from e (after st.load st.steps) before)) (built_is c st)
      (subst (IsSound (design_of st.load)) is one))

  sound : AreSound (built_to c) c.state (plain_of (built_to c) c.state (arbited_round by c))
  sound before behind e = sound_at before

  at_stage : (T : Design → State → Type 0) → T (design_of st.load) (state_after st.load st.steps (length st.steps)) → T (built_to c) c.state
  at_stage T x = subst (T (built_to c)) (now_is c st) (subst (λ (e : Design). T e (state_after st.load st.steps (length st.steps))) (built_is c st) x)

  tiles_there : length c.state.tiles ≡ tiles_of c.shape
  tiles_there = (sound_at []).tiles

  -- where an operation is out, some choice can go
  pub processor_low : (p i : ℕ) → IsOut c p i → p < tiles_of c.shape
  processor_low p i x =
      let o = within_length (list_at (shown c).issued p) i x.issued in
      let low : p < length (map (λ (b : ProcessorRecord). b.issued) (records_of c.state)) = list_within (map (λ (b : ProcessorRecord). b.issued) (records_of c.state)) p i o.0 o.1 in
      let tiles : length (map (λ (b : ProcessorRecord). b.issued) (records_of c.state)) ≡ length c.state.tiles =
      length-map (records_of c.state) (λ (b : ProcessorRecord). b.issued) ∙ length-map c.state.tiles (λ (t : TileState). t.processor.operations) in
      subst (λ (k : ℕ). p < k) (tiles ∙ tiles_there) low

  goes : (p i : ℕ) → IsOut c p i → CanGo (built_to c) c.state
  goes p i x =
      let here : p < tiles_of (st.load).shape = subst (λ (e : Design). p < tiles_of e.shape) (sym (built_is c st)) (processor_low p i x) in
      let o = within_length (list_at (shown c).issued p) i x.issued in
      at_stage CanGo (can_go st.load ok st.steps (length st.steps) p i o.0 here
      (ap (λ (v : Observed). slice_get (list_at v.issued p) i) (sym (shown_is c st)) ∙ o.1)
      (λ told. x.unanswered (subst (λ (v : Observed). HasAnswered v p i) (sym (shown_is c st)) told)))

  -- what a credit's choice needs
  pub record Wired : Type 0 where
    pub lines : ℕ → NetLine
    pub mirrors : Mirrors (built_to c) c.state lines
    pub tell : FlitsTell (built_to c) c.state

  wired : Wired
  wired =
      let h = (holds_in st.load ok st.steps (length st.steps)).stands in
      let g = noted st.load st.steps (length st.steps) in
      record {
        lines = g.net.lines;
        mirrors = at_stage (λ e s. Mirrors e s g.net.lines) h.mirrors;
        tell = at_stage FlitsTell (flits_tell (design_of st.load) (state_after st.load st.steps (length st.steps)) g.net ok.shape h.lines h.routes h.mirrors);
      }

  low_is : (t : ℕ) → t < tiles_of c.shape → t < length c.state.tiles
  low_is t low = subst (λ (k : ℕ). t < k) (sym tiles_there) low

  -- a put for which a credit is held is made, or another is
  pub second_round : Waits (built_to c) c.state → 2 ≤ cost_of (built_to c) c.state (plain_of (built_to c) c.state (arbited_round by c))
  second_round w =
      let a : Step = w.attempt in
      let place : ℕ = slice_index (wiring_of c.shape (agent_tile (w.attempt).agent) (agent_kind (w.attempt).agent)).outputs w.output in
      let there = enabled_by (built_to c) c.state w.attempt (want.Put w.output w.flit) 0 (low_is (agent_tile (w.attempt).agent) w.low) ((w.held).0).0
      (ap (λ b. if b then Some 0 else None) (lt-ltb 0 (ring c.state.around.rings place).channel.held (w.held).1)) in
      let on = attempted by orders c w.attempt (want.Put w.output w.flit) w.low ((w.held).0).0 there in
      put_goes (built_to c) w.attempt w.output w.flit w.counts w.low (plain_of (built_to c) c.state (arbited_round by c)) c.state sound
      (plain_finds (built_to c) w.attempt (PutHeld (built_to c) w.attempt w.output w.flit w.counts w.low) (λ s q. (q.0).1) (arbited_round by c) c.state on) w.held

  of_granted : (g : CanGo (built_to c) c.state)
      → IsGranted c.state.around (wiring_of c.shape (agent_tile (g.attempt).agent) (agent_kind (g.attempt).agent)) (agent_kind (g.attempt).agent) (g.attempt).choice g.wants
      → 1 ≤ cost_of (built_to c) c.state (plain_of (built_to c) c.state (arbited_round by c))
  of_granted g h =
      let there = enabled_by (built_to c) c.state g.attempt g.wants h.learned (low_is (agent_tile (g.attempt).agent) g.here) g.wanted h.grants in
      let on = attempted by orders c g.attempt g.wants g.here g.wanted there in
      let counts = h.counts in
      granted_goes (built_to c) g.attempt g.wants h.steady h.counts g.here (plain_of (built_to c) c.state (arbited_round by c)) c.state sound
      (plain_finds (built_to c) g.attempt (Granted (built_to c) g.attempt g.wants)
      (λ s q. few_plain (agent_kind (g.attempt).agent) (g.attempt).choice (tile_at s (agent_tile (g.attempt).agent)).processor.to_put (omega (arith, counts)))
      (arbited_round by c) c.state on)
      (g.wanted, (h.learned, h.grants))

  of_put : (g : CanGo (built_to c) c.state)
      → IsPut c.state.around (wiring_of c.shape (agent_tile (g.attempt).agent) (agent_kind (g.attempt).agent)) (agent_kind (g.attempt).agent) (g.attempt).choice g.wants
      → (2 ≤ cost_of (built_to c) c.state (plain_of (built_to c) c.state (arbited_round by c)))
      ⊎ Waits (built_to c) (after_from (built_to c) c.state (plain_of (built_to c) c.state (arbited_round by c)))
  of_put g h =
      let t : ℕ = agent_tile (g.attempt).agent in
      let k : Agent = agent_kind (g.attempt).agent in
      let wanted : tile_wants (built_to c) (agent_tile (g.attempt).agent) (tile_at c.state (agent_tile (g.attempt).agent)) (agent_kind (g.attempt).agent) (g.attempt).choice
      ≡ Some (want.Put h.output h.flit) = g.wanted ∙ ap Some h.is in
      let w = wired in
      let low = output_low (built_to c) c.state w.lines w.mirrors w.tell (agent_tile (g.attempt).agent) g.here (agent_kind (g.attempt).agent) (g.attempt).choice h.output h.flit wanted in
      let credit : HasCredit (built_to c) (agent_tile (g.attempt).agent) (agent_kind (g.attempt).agent) h.output =
      has_credit (built_to c) (agent_tile (g.attempt).agent) (tile_at c.state (agent_tile (g.attempt).agent)) (agent_kind (g.attempt).agent) (g.attempt).choice h.output h.flit wanted low in
      let idle = credit.idle in
      let place : ℕ = slice_index (wiring_of c.shape (agent_tile (g.attempt).agent) (agent_kind (g.attempt).agent)).outputs h.output in
      let x : Step = record { agent = (g.attempt).agent; choice = credit.choice } in
      ⊎_elim
      (λ (done : 2 ≤ cost_of (built_to c) c.state (plain_of (built_to c) c.state (arbited_round by c))). inl done)
      (λ (held : PutHeld (built_to c) g.attempt h.output h.flit h.counts g.here (after_from (built_to c) c.state (plain_of (built_to c) c.state (arbited_round by c)))).
      inr (record { attempt = g.attempt; output = h.output; flit = h.flit; counts = h.counts; low = g.here; held = held }))
      (put_comes (built_to c) g.attempt h.output h.flit h.counts g.here x refl credit.idle credit.takes (plain_of (built_to c) c.state (arbited_round by c)) c.state sound
      (λ returns. plain_on (built_to c) x
      (λ s. few_plain (agent_kind (g.attempt).agent) credit.choice (tile_at s (agent_tile (g.attempt).agent)).processor.to_put (omega (arith, idle)))
      (arbited_round by c) c.state
      (attempted by orders c x (want.Credit h.output) g.here (credit.takes (tile_at c.state (agent_tile (g.attempt).agent)))
      (enabled_by (built_to c) c.state x (want.Credit h.output) 0 (low_is (agent_tile (g.attempt).agent) g.here)
      (credit.takes (tile_at c.state (agent_tile (g.attempt).agent)))
      (ap (λ b. if b then Some 0 else None) (lt-ltb 0 (ring c.state.around.rings place).channel.returning returns)))))
      ((wanted, g.plain), h.credit))

  -- a round does one, or it does two, or a put waits for which a credit is held
  pub first_round : (p i : ℕ) → IsOut c p i → (1 ≤ cost_of (built_to c) c.state (plain_of (built_to c) c.state (arbited_round by c)))
      ⊎ Waits (built_to c) (after_from (built_to c) c.state (plain_of (built_to c) c.state (arbited_round by c)))
  first_round p i x =
      let g = goes p i x in
      ⊎_elim
      (λ (h : IsGranted c.state.around (wiring_of c.shape (agent_tile (g.attempt).agent) (agent_kind (g.attempt).agent)) (agent_kind (g.attempt).agent) (g.attempt).choice g.wants).
      inl (of_granted g h))
      (λ (h : IsPut c.state.around (wiring_of c.shape (agent_tile (g.attempt).agent) (agent_kind (g.attempt).agent)) (agent_kind (g.attempt).agent) (g.attempt).choice g.wants).
      ⊎_elim
      (λ (done : 2 ≤ cost_of (built_to c) c.state (plain_of (built_to c) c.state (arbited_round by c))). inl (omega (arith, done)))
      (λ (waits : Waits (built_to c) (after_from (built_to c) c.state (plain_of (built_to c) c.state (arbited_round by c)))). inr waits)
      (of_put g h))
      g.goes
