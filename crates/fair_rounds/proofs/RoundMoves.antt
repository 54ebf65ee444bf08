-- What a round does where some choice can go: a choice that is granted is made, or something is done before it; and a put
-- for which a credit comes is made in this round or in the next, or another put is.
use Rattle.std.proofs.Common.{◌≡◌, ◌≢◌, ◌⊎◌, ⊎_elim, inl, inr, ℕ, ◌+◌, ◌<◌, ◌≤◌, false, List, [], ◌∷◌, ◌++◌, length, Some, None, sym, ap, ◌∙◌, refl, arith, subst, append_assoc, slice_set, slice_index}
use Rattle.std.specs.Prelude.{if◌then◌else◌}
use Rattle.std.proofs.lemmas.Bool.{lt-ltb, cases_eq, cases_lt}
use Rattle.std.proofs.lemmas.Option.{same_Some}
use Rattle.torus.specs.Shape.{tiles_of}
use Rattle.torus.specs.declared.step.Step.{Step}
use Rattle.torus.specs.declared.step.Choice.{Choice}
use Rattle.torus.specs.declared.step.Choice.TheVariants as choice
use Rattle.flit_buffer.specs.declared.want.Want.{Want}
use Rattle.flit_buffer.specs.declared.want.Want.TheVariants as want
use Rattle.flit_buffer.specs.Places.{Ring, credit_of_ring}
use Rattle.flit_buffer.specs.Wants.{told_by}
use Rattle.flit_buffer.specs.Surroundings.{Surroundings, Wiring, granted, ring, surroundings_after}
use Rattle.router.specs.Table.{RouterState, router_wants}
use Rattle.home_bank.specs.BankTable.{BankState, bank_wants}
use Rattle.tile.specs.Tile.{Design, TileState}
use Rattle.tile.specs.declared.agent.Agent.{Agent}
use Rattle.tile.specs.declared.agent.Agent.TheVariants.{Processor, Router, Bank}
use Rattle.tile.specs.Agents.{agent_kind, agent_tile, tile_wants, wiring_of}
use Rattle.wormhole.specs.Net.{IsOn}
use Rattle.core_laws.specs.Core.{State, step, next, or_same, after_from}
use Rattle.core_laws.proofs.Books.{after_append}
use Rattle.core_laws.proofs.Steps.{IsThere}
use Rattle.core_laws.proofs.Stands.{tile_at}
use Rattle.fair_rounds.specs.Charges.{charge}
use Rattle.machine_core.specs.Guarded.{is_begin}
use Rattle.fair_rounds.specs.Costs.{cost_if_made, cost, cost_of}
use Rattle.fair_rounds.proofs.Ready.{IsSteady}
use Rattle.fair_rounds.proofs.Frames.{put_told}
use Rattle.fair_rounds.proofs.IdleWants.{idle_want}
use Rattle.fair_rounds.proofs.Rings.{Held, Comes, IsIdle, first_kept, ring_made}
use Rattle.fair_rounds.proofs.Rounds.{InPhase, cost_append, enabled_by, step_moves, keeps_all, held_all, comes_all, along}

-- what is asked of each state of a round
pub record IsSound (d : Design) (s : State) : Type 0 where
  pub tiles : length s.tiles ≡ tiles_of d.shape
  pub phases : InPhase s

-- of each state between
abbrev pub AreSound : Design → State → List Step → Type 0
AreSound d s steps = (before behind : List Step) → steps ≡ before ++ behind → IsSound d (after_from d s before)

-- an attempt of a list, where what holds before it is such that it is made
pub record Finds (d : Design) (a : Step) (Q : State → Type 0) (s : State) (steps : List Step) : Type 0 where
  pub before : List Step
  pub rest : List Step
  pub is : steps ≡ before ++ rest
  pub found : Q (after_from d s before) → (behind : List Step) × (rest ≡ a ∷ behind)

-- a step that counts nothing leaves routers and banks
same_all : (d : Design) (s : State) (a : Step) (after : State) → step d s a ≡ Some after → charge (agent_kind a.agent) a.choice ≡ 0
    → (z : ℕ) → ((tile_at after z).router ≡ (tile_at s z).router) × ((tile_at after z).bank ≡ (tile_at s z).bank)
same_all d s a after enabled none z =
    let m = step_moves d s a after enabled in
    let t : ℕ = agent_tile a.agent in
    ⊎_elim
    (λ (e : z ≡ agent_tile a.agent).
    let same = (m.made).same none in (
      ap (λ (y : ℕ). (tile_at after y).router) e
          ∙ (ap (λ (u : TileState). u.router) m.here ∙ (same.0 ∙ (ap (λ (u : TileState). u.router) (sym m.is) ∙ ap (λ (y : ℕ). (tile_at s y).router) (sym e)))),
      ap (λ (y : ℕ). (tile_at after y).bank) e
          ∙ (ap (λ (u : TileState). u.bank) m.here ∙ (same.1 ∙ (ap (λ (u : TileState). u.bank) (sym m.is) ∙ ap (λ (y : ℕ). (tile_at s y).bank) (sym e)))),
    ))
    (λ (other : z ≢ agent_tile a.agent). (ap (λ (u : TileState). u.router) (m.others z other), ap (λ (u : TileState). u.bank) (m.others z other)))
    (cases_eq z (agent_tile a.agent))

module _ (d : Design) (a : Step) (w : Want) where
  abbrev t : ℕ
  t = agent_tile a.agent

  abbrev kind : Agent
  kind = agent_kind a.agent

  abbrev wiring : Wiring
  wiring = wiring_of d.shape (agent_tile a.agent) (agent_kind a.agent)

  abbrev pub Wanted : State → Type 0
  Wanted s = tile_wants d (agent_tile a.agent) (tile_at s (agent_tile a.agent)) (agent_kind a.agent) a.choice ≡ Some w

  -- the choice where it comes: what it costs, where it is enabled
  it_costs : (s : State) → (c : ℕ) → charge (agent_kind a.agent) a.choice ≡ c → IsThere (step d s a) → cost d s a ≡ c
  it_costs s c counts there = ap (λ o. cost_if_made o (charge (agent_kind a.agent) a.choice)) there.1 ∙ counts

  -- a choice on a list, and what is done before it
  on_list : (Q : State → Type 0) (c : ℕ) → charge (agent_kind a.agent) a.choice ≡ c
      → ((s : State) (b : Step) (after : State) → IsSound d s → Q s → step d s b ≡ Some after → (c ≤ charge (agent_kind b.agent) b.choice) ⊎ Q after)
      → ((s : State) → IsSound d s → Q s → IsThere (step d s a))
      → (steps : List Step) (s : State) → AreSound d s steps → Finds d a Q s steps → Q s → c ≤ cost_of d s steps
  on_list Q c counts each there steps s sound on q =
      let s1 : State = after_from d s on.before in
      let parts : cost_of d s steps ≡ cost_of d s on.before + cost_of d s1 on.rest =
      ap (cost_of d s) on.is ∙ cost_append d s on.before on.rest in
      ⊎_elim
      (λ (done : c ≤ cost_of d s on.before). omega (arith, done, parts))
      (λ (kept : Q (after_from d s on.before)).
      let at = on.found kept in
      let one = it_costs s1 c counts (there s1 (sound on.before on.rest on.is) kept) in
      let rest : cost_of d s1 on.rest ≡ cost d s1 a + cost_of d (next d s1 a) at.0 = ap (cost_of d s1) at.1 in
      omega (arith, one, parts, rest))
      (along d Q (IsSound d) c each on.before s (λ before behind e. sound before (behind ++ on.rest)
      (on.is ∙ (ap (λ xs. xs ++ on.rest) e ∙ append_assoc before behind on.rest))) q)

  -- of a choice that is granted
  abbrev pub Granted : State → Type 0
  Granted s = Wanted s × ((f : ℕ) × (granted s.around (wiring_of d.shape (agent_tile a.agent) (agent_kind a.agent)) w ≡ Some f))

  granted_kept : (v : Want) → IsSteady v → (around after : Surroundings) (depth : ℕ) (other : Wiring) (u : Want) → IsIdle u
      → after ≡ surroundings_after depth around other u
      → (wires : Wiring) (f : ℕ) → granted around wires v ≡ Some f → (g : ℕ) × (granted after wires v ≡ Some g)
  granted_kept (want.Take i) steady around after depth other u idle is wires f h =
      (f, subst (λ (r : Surroundings). granted r wires (want.Take i) ≡ Some f) (sym is) (first_kept depth around other u idle f (slice_index wires.inputs i) h))
  granted_kept (want.Access word op) steady around after depth other u idle is wires f h = (told_by op (slice_index after.words word), refl)
  granted_kept (want.Put o flit) steady around after depth other u idle is wires f h = absurd steady
  granted_kept (want.Credit o) steady around after depth other u idle is wires f h = absurd steady
  granted_kept (want.Await word value) steady around after depth other u idle is wires f h = absurd steady

  wanted_kept : (k : Agent) (c : Choice) (z : ℕ) (u v : TileState) → charge k c ≡ 1 → v.router ≡ u.router → v.bank ≡ u.bank
      → tile_wants d z u k c ≡ Some w → tile_wants d z v k c ≡ Some w
  wanted_kept Processor choice.Take z u v counts router bank h = h
  wanted_kept Processor choice.Send z u v counts router bank h = absurd (cc)
  wanted_kept Processor choice.Credit z u v counts router bank h = absurd (cc)
  wanted_kept Processor choice.Done z u v counts router bank h = absurd (cc)
  wanted_kept Processor choice.Look z u v counts router bank h = absurd (cc)
  wanted_kept Processor (choice.TakeFrom i) z u v counts router bank h = absurd (cc)
  wanted_kept Processor (choice.Put i) z u v counts router bank h = absurd (cc)
  wanted_kept Processor (choice.CreditOf i) z u v counts router bank h = absurd (cc)
  wanted_kept Processor choice.Serve z u v counts router bank h = absurd (cc)
  wanted_kept Router c z u v counts router bank h = ap (λ (r : RouterState). router_wants d.shape z r c) router ∙ h
  wanted_kept Bank c z u v counts router bank h = ap (λ (b : BankState). bank_wants (tiles_of d.shape) z b c) bank ∙ h

  pub granted_goes : IsSteady w → charge (agent_kind a.agent) a.choice ≡ 1 → agent_tile a.agent < tiles_of d.shape
      → (steps : List Step) (s : State) → AreSound d s steps → Finds d a Granted s steps → Granted s → 1 ≤ cost_of d s steps
  granted_goes steady counts low = on_list Granted 1 counts
      (λ s b after sound q enabled. elim (cases_lt 0 (charge (agent_kind b.agent) b.choice)) [
        | inl some ↦ inl (omega (arith, some))
        | inr none ↦
            let zero_is : charge (agent_kind b.agent) b.choice ≡ 0 = omega (arith, none) in
            let same = same_all d s b after enabled zero_is (agent_tile a.agent) in
            let m = step_moves d s b after enabled in
            let idle = idle_want d (agent_tile b.agent) m.tile (agent_kind b.agent) b.choice (m.made).wants zero_is (m.made).wanted in
            inr (
              wanted_kept (agent_kind a.agent) a.choice (agent_tile a.agent) (tile_at s (agent_tile a.agent)) (tile_at after (agent_tile a.agent)) counts same.0 same.1 q.0,
              granted_kept w steady s.around after.around d.depth (wiring_of d.shape (agent_tile b.agent) (agent_kind b.agent)) (m.made).wants idle
                  (m.around ∙ (m.made).around_is) (wiring_of d.shape (agent_tile a.agent) (agent_kind a.agent)) (q.1).0 (q.1).1,
            )
      ])
      (λ s sound q. enabled_by d s a w (q.1).0 (subst (λ (k : ℕ). agent_tile a.agent < k) (sym sound.tiles) low) q.0 (q.1).1)

-- of a put
module _ (d : Design) (a : Step) (o f : ℕ) (counts : charge (agent_kind a.agent) a.choice ≡ 2) (low : agent_tile a.agent < tiles_of d.shape) where
  abbrev pub PutAt : State → Type 0
  PutAt s = (tile_wants d (agent_tile a.agent) (tile_at s (agent_tile a.agent)) (agent_kind a.agent) a.choice ≡ Some (want.Put o f))
      × (is_begin (agent_kind a.agent) a.choice (tile_at s (agent_tile a.agent)).processor.to_put ≡ false)

  abbrev place : ℕ
  place = slice_index (wiring_of d.shape (agent_tile a.agent) (agent_kind a.agent)).outputs o

  abbrev pub PutHeld : State → Type 0
  PutHeld s = PutAt s × Held (ring s.around.rings (slice_index (wiring_of d.shape (agent_tile a.agent) (agent_kind a.agent)).outputs o))

  abbrev pub PutComes : State → Type 0
  PutComes s = PutAt s × Comes (ring s.around.rings (slice_index (wiring_of d.shape (agent_tile a.agent) (agent_kind a.agent)).outputs o))

  put_kept : (s : State) (b : Step) (after : State) → IsSound d s → PutAt s → step d s b ≡ Some after → charge (agent_kind b.agent) b.choice < 2 → PutAt after
  put_kept s b after sound q enabled few =
      put_told d (agent_tile a.agent) (tile_at s (agent_tile a.agent)) (tile_at after (agent_tile a.agent)) (agent_kind a.agent) a.choice (want.Put o f) counts q.1
      (keeps_all d s b after enabled few sound.phases (agent_tile a.agent)) q.0

  held_each : (s : State) (b : Step) (after : State) → IsSound d s → PutHeld s → step d s b ≡ Some after
      → (2 ≤ charge (agent_kind b.agent) b.choice) ⊎ PutHeld after
  held_each s b after sound q enabled = elim (cases_lt (charge (agent_kind b.agent) b.choice) 2) [
    | inl few ↦ inr (put_kept s b after sound q.0 enabled few, held_all d s b after enabled few place q.1)
    | inr many ↦ inl (omega (arith, many))
  ]

  comes_each : (s : State) (b : Step) (after : State) → IsSound d s → PutComes s → step d s b ≡ Some after
      → (2 ≤ charge (agent_kind b.agent) b.choice) ⊎ PutComes after
  comes_each s b after sound q enabled = elim (cases_lt (charge (agent_kind b.agent) b.choice) 2) [
    | inl few ↦ inr (put_kept s b after sound q.0 enabled few, comes_all d s b after enabled few place q.1)
    | inr many ↦ inl (omega (arith, many))
  ]

  -- a put for which a credit is held is made, or another is
  pub put_goes : (steps : List Step) (s : State) → AreSound d s steps → Finds d a PutHeld s steps → PutHeld s → 2 ≤ cost_of d s steps
  put_goes = on_list d a (want.Put o f) PutHeld 2 counts held_each
      (λ s sound q. enabled_by d s a (want.Put o f) 0 (subst (λ (k : ℕ). agent_tile a.agent < k) (sym sound.tiles) low) (q.0).0
      (ap (λ b. if b then Some 0 else None) (lt-ltb 0 (ring s.around.rings place).channel.held q.1)))

  -- the credit's choice of the same agent
  module _ (c : Step) (agent : c.agent ≡ a.agent) (idle : charge (agent_kind c.agent) c.choice ≡ 0)
      (takes : (u : TileState) → tile_wants d (agent_tile c.agent) u (agent_kind c.agent) c.choice ≡ Some (want.Credit o)) where
    c_place : slice_index (wiring_of d.shape (agent_tile c.agent) (agent_kind c.agent)).outputs o ≡ place
    c_place = ap (λ (n : ℕ). slice_index (wiring_of d.shape (agent_tile n) (agent_kind n)).outputs o) agent

    -- by it a credit is held
    credit_made : (s after : State) → step d s c ≡ Some after → 0 < (ring s.around.rings place).channel.returning → Held (ring after.around.rings place)
    credit_made s after enabled returns =
        let m = step_moves d s c after enabled in
        let wants : (m.made).wants ≡ want.Credit o = same_Some (m.made).wants (want.Credit o) (sym (m.made).wanted ∙ takes m.tile) in
        subst (λ (r : Surroundings). Held (ring r.rings place)) (sym (m.around ∙ ((m.made).around_is
        ∙ (ap (surroundings_after d.depth s.around (wiring_of d.shape (agent_tile c.agent) (agent_kind c.agent))) wants
        ∙ ap (λ x. record { rings = slice_set s.around.rings x (credit_of_ring (ring s.around.rings x)); words = s.around.words }) c_place))))
        (ring_made Held (λ (r : Ring). 0 < r.channel.returning) credit_of_ring (λ r q. omega arith) (λ no. omega (arith, no)) s.around.rings place returns)

    from_credit : (behind : List Step) (s : State) → AreSound d s (c ∷ behind) → PutComes s
        → (2 ≤ cost_of d s (c ∷ behind)) ⊎ PutHeld (after_from d s (c ∷ behind))
    from_credit behind s sound q = elim (cases_lt 0 (ring s.around.rings place).channel.returning) [
      | inl returns ↦
          let low_c : agent_tile c.agent < length s.tiles =
          subst (λ (k : ℕ). agent_tile c.agent < k) (sym (sound [] (c ∷ behind) refl).tiles) (subst (λ (n : ℕ). agent_tile n < tiles_of d.shape) (sym agent) low) in
          let there = enabled_by d s c (want.Credit o) 0 low_c (takes (tile_at s (agent_tile c.agent)))
          (ap (λ b. if b then Some 0 else None) (lt-ltb 0 _ (subst (λ x. 0 < (ring s.around.rings x).channel.returning) (sym c_place) returns))) in
          let now : next d s c ≡ there.0 = ap (or_same s) there.1 in
          let held : PutHeld (next d s c) = subst PutHeld (sym now)
          (put_kept s c there.0 (sound [] (c ∷ behind) refl) q.0 there.1 (omega (arith, idle)), credit_made s there.0 there.1 returns) in
          ⊎_elim
          (λ (done : 2 ≤ cost_of d (next d s c) behind). inl (omega (arith, done)))
          (λ (kept : PutHeld (after_from d (next d s c) behind)). inr kept)
          (along d PutHeld (IsSound d) 2 held_each behind (next d s c) (λ before rest e. sound (c ∷ before) rest (ap (λ xs. c ∷ xs) e)) held)
      | inr none ↦
          let comes = q.1 in
          along d PutHeld (IsSound d) 2 held_each (c ∷ behind) s sound (q.0, omega (arith, comes, none))
    ]

    -- a put for which a credit comes: a put is made, or the credit is held then
    pub put_comes : (steps : List Step) (s : State) → AreSound d s steps → (0 < (ring s.around.rings place).channel.returning → IsOn c steps) → PutComes s
        → (2 ≤ cost_of d s steps) ⊎ PutHeld (after_from d s steps)
    put_comes steps s sound on q = elim (cases_lt 0 (ring s.around.rings place).channel.returning) [
      | inl returns ↦ from_on (on returns)
      | inr none ↦
          let comes = q.1 in
          along d PutHeld (IsSound d) 2 held_each steps s sound (q.0, omega (arith, comes, none))
    ]
      where
        from_on : IsOn c steps → (2 ≤ cost_of d s steps) ⊎ PutHeld (after_from d s steps)
        from_on at =
            let s1 : State = after_from d s at.0 in
            let parts : cost_of d s steps ≡ cost_of d s at.0 + cost_of d s1 (c ∷ at.1) = ap (cost_of d s) at.2 ∙ cost_append d s at.0 (c ∷ at.1) in
            let whole : after_from d s steps ≡ after_from d s1 (c ∷ at.1) = ap (after_from d s) at.2 ∙ after_append d s at.0 (c ∷ at.1) in
            ⊎_elim
            (λ (done : 2 ≤ cost_of d s at.0). inl (omega (arith, done, parts)))
            (λ (kept : PutComes (after_from d s at.0)). ⊎_elim
            (λ (done : 2 ≤ cost_of d s1 (c ∷ at.1)). inl (omega (arith, done, parts)))
            (λ (held : PutHeld (after_from d s1 (c ∷ at.1))). inr (subst PutHeld (sym whole) held))
            (from_credit at.1 s1 (λ before rest e. subst (IsSound d) (after_append d s at.0 before)
            (sound (at.0 ++ before) rest (at.2 ∙ (ap (λ xs. at.0 ++ xs) e ∙ sym (append_assoc at.0 before rest))))) kept))
            (along d PutComes (IsSound d) 2 comes_each at.0 s (λ before behind e. sound before (behind ++ c ∷ at.1)
            (at.2 ∙ (ap (λ xs. xs ++ c ∷ at.1) e ∙ append_assoc before behind (c ∷ at.1)))) q)
