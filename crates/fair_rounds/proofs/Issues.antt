-- What is issued stays where nothing begins.
use Rattle.std.proofs.Common.{◌≡◌, ◌≢◌, ⊎_elim, ℕ, ◌<◌, Bool, true, false, List, [], ◌∷◌, length, Option, Some, None, sym, ap, ◌∙◌, refl, get_or-set_same, get_or-set_other}
use Rattle.std.specs.Prelude.{if◌then◌else◌}
use Rattle.std.proofs.lemmas.Bool.{cases_eq}
use Rattle.std.proofs.lemmas.Option.{slice_get_within, get_or_from_slice_get}
use Rattle.torus.specs.Shape.{tiles_of}
use Rattle.torus.specs.declared.step.Step.{Step}
use Rattle.torus.specs.declared.step.Choice.{Choice}
use Rattle.torus.specs.declared.step.Choice.TheVariants as choice
use Rattle.packet.specs.declared.assembler.Offered.{Offered}
use Rattle.packet.specs.declared.assembler.Offered.TheVariants.{More, Whole, Refused}
use Rattle.packet.specs.declared.kinds.Operation.{Operation}
use Rattle.packet.specs.declared.kinds.Packet.TheVariants as packet
use Rattle.packet.specs.Flits.{offered}
use Rattle.flit_buffer.specs.declared.want.Want.{Want}
use Rattle.flit_buffer.specs.Surroundings.{Surroundings, agent_step}
use Rattle.wormhole.proofs.Sums.{sum_same}
use Rattle.one_order.specs.ProcessorRecord.{ProcessorRecord}
use Rattle.one_order.specs.ProcessorTable.{ProcessorState, processor_wants, processor_after, record_sent, record_offered}
use Rattle.router.specs.Table.{router_wants, router_after}
use Rattle.router.specs.Beginning.{router_wiring}
use Rattle.home_bank.specs.BankTable.{bank_wants, bank_after}
use Rattle.tile.specs.Tile.{Design, TileState, tile_step}
use Rattle.tile.specs.Wiring.{processor_wiring, bank_wiring}
use Rattle.tile.specs.declared.agent.Agent.{Agent}
use Rattle.tile.specs.declared.agent.Agent.TheVariants.{Processor, Router, Bank}
use Rattle.tile.specs.Agents.{agent_kind, agent_tile}
use Rattle.core_laws.specs.Core.{State, step, or_same, next, after_from}
use Rattle.core_laws.proofs.AgentSteps.{did, option_map_some}
use Rattle.core_laws.proofs.Stands.{tile_at, no_tile}
use Rattle.fair_rounds.specs.Chores.{issued_count}
use Rattle.machine_core.specs.Guarded.{is_begin, begins_operation}
use Rattle.fair_rounds.proofs.Charges.{HasStepped, has_stepped}
use Rattle.fair_rounds.proofs.Guards.{plain_of}

abbrev issued_of_tile : TileState → List Operation
issued_of_tile u = u.processor.operations.issued

module _ (d : Design) (t : ℕ) where
  by_offer : (b : ProcessorRecord) (o : Offered) → (record_offered (tiles_of d.shape) d.words t b o).issued ≡ b.issued
  by_offer b More = refl
  by_offer b (Whole (packet.Request r)) = refl
  by_offer b (Whole (packet.Response r)) = refl
  by_offer b (Refused k) = refl

  by_list : (b : ProcessorRecord) (l : List ℕ) → is_begin Processor choice.Send l ≡ false → (record_sent (tiles_of d.shape) d.words t l b).issued ≡ b.issued
  by_list b [] begin = absurd (cc)
  by_list b (f ∷ fs) begin = refl

  by_choice : (p : ProcessorState) (c : Choice) (w : Want) (n : ℕ) → is_begin Processor c p.to_put ≡ false
      → (processor_after (tiles_of d.shape) d.words t p c w n).operations.issued ≡ p.operations.issued
  by_choice p choice.Send w n begin = by_list p.operations p.to_put begin
  by_choice p choice.Take w n begin = by_offer p.operations (offered p.so_far n)
  by_choice p choice.Credit w n begin = refl
  by_choice p choice.Done w n begin = refl
  by_choice p choice.Look w n begin = refl
  by_choice p c w n begin = refl

  issued_tile : (u : TileState) (around : Surroundings) (a : Agent) (c : Choice) (p : TileState × Surroundings) → tile_step d t u around a c ≡ Some p
      → is_begin a c u.processor.to_put ≡ false → issued_of_tile p.0 ≡ issued_of_tile u
  issued_tile u around Processor c p h begin =
      let W : ProcessorState → Choice → Option Want = processor_wants (tiles_of d.shape) d.words t in
      let q = option_map_some _
      (agent_step W (processor_after (tiles_of d.shape) d.words t) d.depth (processor_wiring d.shape t) u.processor around c) p h in
      let x = did W (processor_after (tiles_of d.shape) d.words t) d.depth (processor_wiring d.shape t) u.processor around c (q.0).0 (q.0).1 q.1 in
      ap (λ (r : TileState × Surroundings). issued_of_tile r.0) (sym q.2)
      ∙ (ap (λ (r : ProcessorState). r.operations.issued) x.state_is ∙ by_choice u.processor c x.want x.learned begin)
  issued_tile u around Router c p h begin =
      let q = option_map_some _ (agent_step (router_wants d.shape t) router_after d.depth (router_wiring d.shape t) u.router around c) p h in
      ap (λ (r : TileState × Surroundings). issued_of_tile r.0) (sym q.2)
  issued_tile u around Bank c p h begin =
      let q = option_map_some _ (agent_step (bank_wants (tiles_of d.shape) t) (bank_after (tiles_of d.shape) t) d.depth (bank_wiring d.shape t) u.bank around c) p h in
      ap (λ (r : TileState × Surroundings). issued_of_tile r.0) (sym q.2)

issued_at : (d : Design) (s : State) (a : Step) (after : State) → step d s a ≡ Some after → begins_operation s a ≡ false
    → (z : ℕ) → issued_of_tile (tile_at after z) ≡ issued_of_tile (tile_at s z)
issued_at d s a after enabled begin z =
    let h : HasStepped d s a after = has_stepped d s a after enabled in
    let t : ℕ = agent_tile a.agent in
    let low : t < length s.tiles = slice_get_within s.tiles t h.tile h.there in
    let is : tile_at s (agent_tile a.agent) ≡ h.tile = get_or_from_slice_get s.tiles (agent_tile a.agent) h.tile no_tile h.there in
    let here : tile_at after (agent_tile a.agent) ≡ (h.moved).0 =
    ap (λ (z : State). tile_at z (agent_tile a.agent)) (sym h.is) ∙ get_or-set_same s.tiles (agent_tile a.agent) (h.moved).0 no_tile low in
    ⊎_elim
    (λ (e : z ≡ agent_tile a.agent).
    ap (λ (y : ℕ). issued_of_tile (tile_at after y)) e
    ∙ (ap issued_of_tile here
    ∙ (issued_tile d (agent_tile a.agent) h.tile s.around (agent_kind a.agent) a.choice h.moved h.enabled
    (ap (λ (u : TileState). is_begin (agent_kind a.agent) a.choice u.processor.to_put) (sym is) ∙ begin)
    ∙ (ap issued_of_tile (sym is) ∙ ap (λ (y : ℕ). issued_of_tile (tile_at s y)) (sym e)))))
    (λ (other : z ≢ agent_tile a.agent). ap issued_of_tile (ap (λ (y : State). tile_at y z) (sym h.is) ∙ get_or-set_other s.tiles (agent_tile a.agent) z (h.moved).0 no_tile other))
    (cases_eq z (agent_tile a.agent))

issued_next : (d : Design) (s : State) (a : Step) (o : Option State) → step d s a ≡ o → begins_operation s a ≡ false → issued_count d (next d s a) ≡ issued_count d s
issued_next d s a None is begin = ap (λ (o : Option State). issued_count d (or_same s o)) is
issued_next d s a (Some after) is begin =
    ap (λ (o : Option State). issued_count d (or_same s o)) is
    ∙ sum_same (tiles_of d.shape) _ _ (λ z low. ap (λ (os : List Operation). length os) (issued_at d s a after is begin z))

pub issued_still : (d : Design) (steps : List Step) (s : State) → issued_count d (after_from d s (plain_of d s steps)) ≡ issued_count d s
issued_still d [] s = refl
issued_still d (a ∷ steps) s = by_begin (begins_operation s a) refl (issued_still d steps s) (issued_still d steps (next d s a))
  where
    by_begin : (b : Bool) → begins_operation s a ≡ b → issued_count d (after_from d s (plain_of d s steps)) ≡ issued_count d s
        → issued_count d (after_from d (next d s a) (plain_of d (next d s a) steps)) ≡ issued_count d (next d s a)
        → issued_count d (after_from d s (if b then plain_of d s steps else a ∷ plain_of d (next d s a) steps)) ≡ issued_count d s
    by_begin true is left right = left
    by_begin false is left right = right ∙ issued_next d s a (step d s a) refl is
