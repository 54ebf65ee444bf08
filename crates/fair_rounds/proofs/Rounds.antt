-- What a list of attempts does where some choice can go.
use Rattle.std.proofs.Common.{◌≡◌, ◌≢◌, ◌⊎◌, ⊎_elim, inl, inr, ℕ, ◌+◌, ◌<◌, ◌≤◌, List, [], ◌∷◌, ◌++◌, length, Option, Some, None, sym, ap, ◌∙◌, refl, arith, subst, slice_get, slice_set, get_or-set_same, get_or-set_other}
use Rattle.std.specs.Prelude.{option_map, option_and_then}
use Rattle.std.proofs.lemmas.Bool.{cases_eq}
use Rattle.std.proofs.lemmas.Option.{slice_get_within, get_or_from_slice_get, slice_get-get_or}
use Rattle.torus.specs.Shape.{tiles_of}
use Rattle.torus.specs.declared.step.Step.{Step}
use Rattle.torus.specs.declared.step.Choice.{Choice}
use Rattle.flit_buffer.specs.declared.want.Want.{Want}
use Rattle.flit_buffer.specs.Surroundings.{Surroundings, granted, ring}
use Rattle.one_order.specs.ProcessorTable.{processor_wants, processor_after}
use Rattle.router.specs.Table.{router_wants, router_after}
use Rattle.router.specs.Beginning.{router_wiring}
use Rattle.home_bank.specs.BankTable.{bank_wants, bank_after}
use Rattle.tile.specs.Tile.{Design, TileState, tile_step}
use Rattle.tile.specs.Wiring.{processor_wiring, bank_wiring}
use Rattle.tile.specs.declared.agent.Agent.{Agent}
use Rattle.tile.specs.declared.agent.Agent.TheVariants.{Processor, Router, Bank}
use Rattle.tile.specs.Agents.{agent_kind, agent_tile, tile_wants, wiring_of}
use Rattle.core_laws.specs.Core.{State, step, next, or_same, after_from}
use Rattle.core_laws.proofs.Steps.{IsThere, map_there, agent_there}
use Rattle.core_laws.proofs.Stands.{IsInPhase, tile_at, no_tile}
use Rattle.fair_rounds.specs.Charges.{charge}
use Rattle.fair_rounds.specs.Costs.{cost_if_made, cost, cost_of}
use Rattle.fair_rounds.proofs.Charges.{HasStepped, has_stepped}
use Rattle.fair_rounds.proofs.Frames.{Keeps, keeps_same, Made, made, no_put}
use Rattle.fair_rounds.proofs.Rings.{Held, Comes, held_kept, comes_kept}

-- the cost of two lists
pub cost_append : (d : Design) (s : State) (a b : List Step) → cost_of d s (a ++ b) ≡ cost_of d s a + cost_of d (after_from d s a) b
cost_append d s [] b = omega arith
cost_append d s (x ∷ a) b = let rest = cost_append d (next d s x) a b in omega (arith, rest)

-- banks are in their phases
abbrev pub InPhase : State → Type 0
InPhase s = (z : ℕ) → IsInPhase z (tile_at s z).bank

-- a choice that is wanted and granted is enabled
pub enabled_by : (d : Design) (s : State) (a : Step) (w : Want) (g : ℕ) → agent_tile a.agent < length s.tiles
    → tile_wants d (agent_tile a.agent) (tile_at s (agent_tile a.agent)) (agent_kind a.agent) a.choice ≡ Some w
    → granted s.around (wiring_of d.shape (agent_tile a.agent) (agent_kind a.agent)) w ≡ Some g → IsThere (step d s a)
enabled_by d s a w g low wanted grants = by_tile (by_kind (agent_kind a.agent) a.choice wanted grants)
  where
    t : ℕ
    t = agent_tile a.agent

    by_kind : (k : Agent) (c : Choice) → tile_wants d (agent_tile a.agent) (tile_at s (agent_tile a.agent)) k c ≡ Some w
        → granted s.around (wiring_of d.shape (agent_tile a.agent) k) w ≡ Some g
        → IsThere (tile_step d (agent_tile a.agent) (tile_at s (agent_tile a.agent)) s.around k c)
    by_kind Processor c is h = map_there _ _ (agent_there (processor_wants (tiles_of d.shape) d.words (agent_tile a.agent))
        (processor_after (tiles_of d.shape) d.words (agent_tile a.agent)) d.depth (processor_wiring d.shape (agent_tile a.agent))
        (tile_at s (agent_tile a.agent)).processor s.around c w g is h)
    by_kind Router c is h = map_there _ _ (agent_there (router_wants d.shape (agent_tile a.agent)) router_after d.depth (router_wiring d.shape (agent_tile a.agent))
        (tile_at s (agent_tile a.agent)).router s.around c w g is h)
    by_kind Bank c is h = map_there _ _ (agent_there (bank_wants (tiles_of d.shape) (agent_tile a.agent)) (bank_after (tiles_of d.shape) (agent_tile a.agent)) d.depth
        (bank_wiring d.shape (agent_tile a.agent)) (tile_at s (agent_tile a.agent)).bank s.around c w g is h)

    by_tile : IsThere (tile_step d (agent_tile a.agent) (tile_at s (agent_tile a.agent)) s.around (agent_kind a.agent) a.choice) → IsThere (step d s a)
    by_tile p =
        let there : slice_get s.tiles (agent_tile a.agent) ≡ Some (tile_at s (agent_tile a.agent)) = slice_get-get_or s.tiles (agent_tile a.agent) no_tile low in
        subst (λ (o : Option TileState). IsThere {A = State} (option_and_then
        (λ tile. option_map (λ (q : TileState × Surroundings). record { tiles = slice_set s.tiles (agent_tile a.agent) q.0; around = q.1 })
        (tile_step d (agent_tile a.agent) tile s.around (agent_kind a.agent) a.choice)) o)) (sym there)
        (map_there (λ (q : TileState × Surroundings). record { tiles = slice_set s.tiles (agent_tile a.agent) q.0; around = q.1 }) _ p)

-- what an enabled step does to a tile and to what is around it
pub record Moves (d : Design) (s : State) (a : Step) (after : State) : Type 0 where
  pub tile : TileState
  pub is : tile_at s (agent_tile a.agent) ≡ tile
  pub moved : TileState × Surroundings
  pub made : Made d (agent_tile a.agent) tile s.around (agent_kind a.agent) a.choice moved
  pub here : tile_at after (agent_tile a.agent) ≡ moved.0
  pub others : (z : ℕ) → z ≢ agent_tile a.agent → tile_at after z ≡ tile_at s z
  pub around : after.around ≡ moved.1

pub step_moves : (d : Design) (s : State) (a : Step) (after : State) → step d s a ≡ Some after → Moves d s a after
step_moves d s a after enabled =
    let h : HasStepped d s a after = has_stepped d s a after enabled in
    let t : ℕ = agent_tile a.agent in
    let low : t < length s.tiles = slice_get_within s.tiles t h.tile h.there in
    record {
      tile = h.tile;
      is = get_or_from_slice_get s.tiles t h.tile no_tile h.there;
      moved = h.moved;
      made = made d t h.tile s.around (agent_kind a.agent) a.choice h.moved h.enabled;
      here = ap (λ (z : State). tile_at z t) (sym h.is) ∙ get_or-set_same s.tiles t (h.moved).0 no_tile low;
      others = λ z other. ap (λ (y : State). tile_at y z) (sym h.is) ∙ get_or-set_other s.tiles t z (h.moved).0 no_tile other;
      around = ap (λ (z : State). z.around) (sym h.is);
    }

-- a step that counts less than 2 keeps of each tile what puts want
pub keeps_all : (d : Design) (s : State) (a : Step) (after : State) → step d s a ≡ Some after → charge (agent_kind a.agent) a.choice < 2 → InPhase s
    → (z : ℕ) → Keeps (tile_at s z) (tile_at after z)
keeps_all d s a after enabled few phases z =
    let m = step_moves d s a after enabled in
    ⊎_elim
    (λ (e : z ≡ agent_tile a.agent).
    subst (λ (y : ℕ). Keeps (tile_at s y) (tile_at after y)) (sym e)
    (subst (λ (v : TileState). Keeps (tile_at s (agent_tile a.agent)) v) (sym m.here)
    (subst (λ (u : TileState). Keeps u (m.moved).0) (sym m.is)
    ((m.made).keeps few (subst (λ (u : TileState). IsInPhase (agent_tile a.agent) u.bank) m.is (phases (agent_tile a.agent)))))))
    (λ (other : z ≢ agent_tile a.agent). subst (λ (v : TileState). Keeps (tile_at s z) v) (sym (m.others z other)) (keeps_same (tile_at s z)))
    (cases_eq z (agent_tile a.agent))

pub held_all : (d : Design) (s : State) (a : Step) (after : State) → step d s a ≡ Some after → charge (agent_kind a.agent) a.choice < 2
    → (x : ℕ) → Held (ring s.around.rings x) → Held (ring after.around.rings x)
held_all d s a after enabled few x p =
    let m = step_moves d s a after enabled in
    let t : ℕ = agent_tile a.agent in
    subst (λ (r : Surroundings). Held (ring r.rings x)) (sym (m.around ∙ (m.made).around_is))
    (held_kept d.depth s.around (wiring_of d.shape t (agent_kind a.agent)) (m.made).wants
    (no_put d t m.tile (agent_kind a.agent) a.choice (m.made).wants few (m.made).wanted) x p)

pub comes_all : (d : Design) (s : State) (a : Step) (after : State) → step d s a ≡ Some after → charge (agent_kind a.agent) a.choice < 2
    → (x : ℕ) → Comes (ring s.around.rings x) → Comes (ring after.around.rings x)
comes_all d s a after enabled few x p =
    let m = step_moves d s a after enabled in
    let t : ℕ = agent_tile a.agent in
    subst (λ (r : Surroundings). Comes (ring r.rings x)) (sym (m.around ∙ (m.made).around_is))
    (comes_kept d.depth s.around (wiring_of d.shape t (agent_kind a.agent)) (m.made).wants
    (no_put d t m.tile (agent_kind a.agent) a.choice (m.made).wants few (m.made).wanted) x p)

-- along a list either so much is done, or what holds is kept
pub along : (d : Design) (Q : State → Type 0) (Ok : State → Type 0) (c : ℕ)
    → ((s : State) (a : Step) (after : State) → Ok s → Q s → step d s a ≡ Some after → (c ≤ charge (agent_kind a.agent) a.choice) ⊎ Q after)
    → (steps : List Step) (s : State) → ((before behind : List Step) → steps ≡ before ++ behind → Ok (after_from d s before)) → Q s
    → (c ≤ cost_of d s steps) ⊎ Q (after_from d s steps)
along d Q Ok c each [] s oks q = inr q
along d Q Ok c each (a ∷ steps) s oks q =
    by_step (step d s a) refl (λ q'. along d Q Ok c each steps (next d s a) (λ before behind e. oks (a ∷ before) behind (ap (λ xs. a ∷ xs) e)) q')
  where
    on : (c ≤ cost_of d (next d s a) steps) ⊎ Q (after_from d (next d s a) steps) → (c ≤ cost d s a + cost_of d (next d s a) steps) ⊎ Q (after_from d (next d s a) steps)
    on rest = ⊎_elim
        (λ (done : c ≤ cost_of d (next d s a) steps). inl (omega (arith, done)))
        (λ (kept : Q (after_from d (next d s a) steps)). inr kept)
        rest

    by_step : (o : Option State) → step d s a ≡ o → (Q (next d s a) → (c ≤ cost_of d (next d s a) steps) ⊎ Q (after_from d (next d s a) steps))
        → (c ≤ cost d s a + cost_of d (next d s a) steps) ⊎ Q (after_from d (next d s a) steps)
    by_step None is rest = on (rest (subst Q (sym (ap (or_same s) is)) q))
    by_step (Some after) is rest = ⊎_elim
        (λ (done : c ≤ charge (agent_kind a.agent) a.choice).
        let here : cost d s a ≡ charge (agent_kind a.agent) a.choice = ap (λ o. cost_if_made o (charge (agent_kind a.agent) a.choice)) is in
        inl (omega (arith, done, here)))
        (λ (kept : Q after). on (rest (subst Q (sym (ap (or_same s) is)) kept)))
        (each s a after (oks [] (a ∷ steps) refl) q is)
