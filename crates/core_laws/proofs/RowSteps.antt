-- A step of the core, at any state whose channels are channels and whose wants are possible.
use Rattle.std.proofs.Common.{◌≡◌, ◌≢◌, ℕ, ◌==◌, ◌<◌, Bool, true, List, length, Option, Some, None, refl, sym, ap, ◌∙◌, subst, slice_get, slice_set}
use Rattle.std.proofs.Common.{eq-eqb}
use Rattle.std.specs.Prelude.{option_map, option_and_then, if◌then◌else◌, MatchOption}
use Rattle.std.proofs.lemmas.Option.{slice_get_within, same_Some}
use Rattle.one_order.proofs.Lists.{get_set_same, get_set_other}
use Rattle.torus.specs.Shape.{IsAccepted, tiles_of}
use Rattle.torus.specs.declared.step.Step.{Step}
use Rattle.flit_buffer.specs.Words.{word_of, performed}
use Rattle.flit_buffer.specs.Surroundings.{Surroundings}
use Rattle.flit_buffer.specs.declared.word_op.WordOp.{WordOp}
use Rattle.core_laws.specs.Agent.{Agent}
use Rattle.core_laws.specs.Agent.TheVariants.{Processor, Router, Bank}
use Rattle.core_laws.specs.Tile.{Design, TileState, tile_step}
use Rattle.core_laws.specs.Agents.{TilePlace, tile_placed, agent_op, agent_absorbed, tile_next_op, tile_absorbed, agent_kind, agent_tile}
use Rattle.core_laws.specs.Refinement.{IsSurrounded, IsPossibleChoice, TileStays, TileMoves, TileRefines, KeepsOthers, OnlyAgent}
use Rattle.core_laws.proofs.Tiles.{tile_refines, tile_keeps}
use Rattle.core_laws.specs.Core.{State, step}
use Rattle.core_laws.proofs.AgentSteps.{option_map_some}
use Rattle.core_laws.proofs.OneAgent.{processor_alone, router_alone, bank_alone}
use Rattle.core_laws.specs.Row.{row_of}
use Rattle.core_laws.specs.Attempts.{tile_in, step_absorbed, found_by, LeavesRow, MovesRow, IsWordOperation}
use Rattle.core_laws.proofs.RowRows.{row_shows, only_row}

-- the step of a tile that is there, and of none
pub step_of_tile : (d : Design) (s : State) (attempt : Step) (tile : TileState) → slice_get s.tiles (agent_tile attempt.agent) ≡ Some tile
    → step d s attempt ≡ option_map (λ p. record { tiles = slice_set s.tiles (agent_tile attempt.agent) p.0; around = p.1 })
    (tile_step d (agent_tile attempt.agent) tile s.around (agent_kind attempt.agent) attempt.choice)
step_of_tile d s attempt tile e =
    let with_tile : TileState × Surroundings → State = λ p. record { tiles = slice_set s.tiles (agent_tile attempt.agent) p.0; around = p.1 } in
    ap (λ (o : Option TileState). option_and_then
    (λ y. option_map with_tile (tile_step d (agent_tile attempt.agent) y s.around (agent_kind attempt.agent) attempt.choice)) o) e

pub step_of_none : (d : Design) (s : State) (attempt : Step) → slice_get s.tiles (agent_tile attempt.agent) ≡ None → step d s attempt ≡ None
step_of_none d s attempt e =
    let with_tile : TileState × Surroundings → State = λ p. record { tiles = slice_set s.tiles (agent_tile attempt.agent) p.0; around = p.1 } in
    ap (λ (o : Option TileState). option_and_then
    (λ y. option_map with_tile (tile_step d (agent_tile attempt.agent) y s.around (agent_kind attempt.agent) attempt.choice)) o) e

module _ (d : Design) (s : State) (ok : IsAccepted d.shape) (count : length s.tiles ≡ tiles_of d.shape) (in_network : IsSurrounded d s.around)
    (possible : (t : ℕ) (tile : TileState) → slice_get s.tiles t ≡ Some tile → (a : Agent) (attempt : Step)
    → IsPossibleChoice d t tile s.around a attempt.choice) (attempt : Step) where
  abbrev t : ℕ
  t = agent_tile attempt.agent

  abbrev a : Agent
  a = agent_kind attempt.agent

  abbrev with_tile : TileState × Surroundings → State
  with_tile p = record { tiles = slice_set s.tiles t p.0; around = p.1 }

  abbrev tried : TileState → Option (TileState × Surroundings)
  tried tile = tile_step d t tile s.around a attempt.choice

  abbrev placed : TileState → TilePlace
  placed tile = tile_placed d t tile s.around

  there : (tile : TileState) → slice_get s.tiles t ≡ Some tile → t < tiles_of d.shape
  there tile e = subst (λ (n : ℕ). t < n) count (slice_get_within s.tiles t tile e)

  step_at : (tile : TileState) → slice_get s.tiles t ≡ Some tile → step d s attempt ≡ option_map with_tile (tried tile)
  step_at tile e = step_of_tile d s attempt tile e

  step_nowhere : slice_get s.tiles t ≡ None → step d s attempt ≡ None
  step_nowhere e = step_of_none d s attempt e

  keeps : (tile : TileState) → slice_get s.tiles t ≡ Some tile → (p : TileState × Surroundings) → tried tile ≡ Some p → KeepsOthers d t a s.around p.1
  keeps tile e p is = tile_keeps d t tile s.around attempt.choice ok (there tile e) in_network a (possible t tile e a attempt) p.0 p.1 is

  -- an enabled step, by its tile
  pub record Stepped (next : State) : Type 0 where
    pub tile : TileState
    pub p : TileState × Surroundings
    pub here : slice_get s.tiles t ≡ Some tile
    pub is : tried tile ≡ Some p
    pub next_is : with_tile p ≡ next

  stepped_at : (o : Option TileState) → slice_get s.tiles t ≡ o → (next : State) → step d s attempt ≡ Some next → Stepped next
  stepped_at None e next is = let no : ◌≡◌ {A = Option State} None (Some next) = sym (step_nowhere e) ∙ is in absurd (cc)
  stepped_at (Some tile) e next is =
      let m = option_map_some with_tile (tried tile) next (sym (step_at tile e) ∙ is) in
      record { tile = tile; p = m.0; here = e; is = m.1; next_is = m.2 }

  pub stepped : (next : State) → step d s attempt ≡ Some next → Stepped next
  stepped next is = stepped_at (slice_get s.tiles t) refl next is

  -- the ports of all other agents stand as they did
  pub others_stay : (next : State) → step d s attempt ≡ Some next → KeepsOthers d t a s.around next.around
  others_stay next is =
      let m = stepped next is in
      subst (λ (z : State). KeepsOthers d t a s.around z.around) m.next_is (keeps m.tile m.here m.p m.is)

  same_placed : (left : Surroundings) → KeepsOthers d t a s.around left → (u : ℕ) → u ≢ t → (o : Option TileState) → slice_get s.tiles u ≡ o
      → option_map (λ tile. tile_placed d u tile left) o ≡ option_map (λ tile. tile_placed d u tile s.around) o
  same_placed left k u other None h = refl
  same_placed left k u other (Some tile) h =
      let u_in : u < tiles_of d.shape = subst (λ (n : ℕ). u < n) count (slice_get_within s.tiles u tile h) in
      let kp = k.others u Processor u_in (λ q. other q.0) in
      let kr = k.others u Router u_in (λ q. other q.0) in
      let kb = k.others u Bank u_in (λ q. other q.0) in
      λ i. Some record {
        design = d;
        tile = u;
        processor = record { state = tile.processor; ports = kp i };
        router = record { state = tile.router; ports = kr i };
        bank = record { state = tile.bank; ports = kb i };
      }

  -- another tile stands as it did
  pub tile_stays : (next : State) → step d s attempt ≡ Some next → (u : ℕ) → u ≢ t → tile_in d next u ≡ tile_in d s u
  tile_stays next is u other =
      let m = stepped next is in
      let k = keeps m.tile m.here m.p m.is in
      ap (λ (z : State). tile_in d z u) (sym m.next_is)
      ∙ (ap (λ o. option_map (λ tile. tile_placed d u tile m.p.1) o) (get_set_other s.tiles t u m.p.0 other)
      ∙ same_placed m.p.1 k u other (slice_get s.tiles u) refl)

  -- the operation and the effect on a tile that is there
  own : (t == t) ≡ true
  own = eq-eqb t t refl

  absorbed_at : (tile : TileState) → slice_get s.tiles t ≡ Some tile → (found : ℕ)
      → step_absorbed d s attempt found ≡ agent_absorbed (placed tile) a attempt.choice found
  absorbed_at tile e found =
      ap (λ (o : Option TileState). option_and_then (λ p. tile_absorbed p attempt found) (option_map (λ y. tile_placed d t y s.around) o)) e
      ∙ ap (λ (b : Bool). if b then agent_absorbed (placed tile) a attempt.choice found else None) own

  abbrev row : List ℕ
  row = row_of d s

  abbrev Tells : Option WordOp → Option State → Type 0
  Tells o next = MatchOption o (next ≡ None) (λ op. (word_of op < length row) × MatchOption next (LeavesRow d s attempt op) (λ n. MovesRow d s attempt op n))

  module _ (tile : TileState) (e : slice_get s.tiles t ≡ Some tile) where
    shows_now : TileRefines d t tile s.around row a attempt.choice
    shows_now = tile_refines d t tile s.around attempt.choice ok (there tile e) in_network a (possible t tile e a attempt) row
        (row_shows d.depth s.around in_network.rings)

    by_step : (op : WordOp) (x : Option (TileState × Surroundings)) → tried tile ≡ x
        → MatchOption x (TileStays d t tile s.around row a attempt.choice op) (λ p. TileMoves d t tile s.around row a attempt.choice op p.0 p.1)
        → MatchOption (option_map with_tile x) (LeavesRow d s attempt op) (λ n. MovesRow d s attempt op n)
    by_step op None is k = record { idle = absorbed_at tile e (found_by d s attempt op) ∙ k.idle; row = k.same }
    by_step op (Some p) is k =
        let kept = keeps tile e p is in
        let now = kept.surrounded in
        record {
          tile = tile_placed d t p.0 p.1;
          moved = absorbed_at tile e (found_by d s attempt op) ∙ k.moved;
          next_tile = ap (λ (o : Option TileState). option_map (λ y. tile_placed d t y p.1) o) (get_set_same s.tiles t p.0 (slice_get_within s.tiles t tile e));
          row = only_row d.depth p.1 now.rings (performed op row) k.shows;
        }

    by_op : (o : Option WordOp)
        → MatchOption o (tried tile ≡ None) (λ op. (word_of op < length row)
        × MatchOption (tried tile) (TileStays d t tile s.around row a attempt.choice op) (λ p. TileMoves d t tile s.around row a attempt.choice op p.0 p.1))
        → Tells o (option_map with_tile (tried tile))
    by_op None k = ap (λ o. option_map with_tile o) k
    by_op (Some op) k = (k.0, by_step op (tried tile) refl k.1)

    at_tile : Tells (tile_next_op (placed tile) attempt) (option_map with_tile (tried tile))
    at_tile =
        subst (λ (b : Bool). Tells (if b then agent_op (placed tile) a attempt.choice else None) (option_map with_tile (tried tile))) (sym own)
        (by_op (agent_op (placed tile) a attempt.choice) shows_now)

  abbrev op_in : Option TileState → Option WordOp
  op_in o = option_and_then (λ p. tile_next_op p attempt) (option_map (λ y. tile_placed d t y s.around) o)

  by_tile : (o : Option TileState) → slice_get s.tiles t ≡ o → Tells (op_in o) (step d s attempt)
  by_tile None e = step_nowhere e
  by_tile (Some tile) e = subst (λ (z : Option State). Tells (tile_next_op (placed tile) attempt) z) (sym (step_at tile e)) (at_tile tile e)

  -- the attempt is one word operation, if any
  pub is_operation : IsWordOperation d s attempt
  is_operation = by_tile (slice_get s.tiles t) refl

  -- the tile's other agents stand as they did
  only_by : (x : Agent) (tile next : TileState) (left : Surroundings) → KeepsOthers d t x s.around left → t < tiles_of d.shape
      → tile_step d t tile s.around x attempt.choice ≡ Some (next, left) → OnlyAgent x (placed tile) (tile_placed d t next left)
  only_by Processor tile next left k t_in is =
      let f = processor_alone d t tile s.around attempt.choice next left is in
      let fr = f.router in
      let fb = f.bank in
      let kr = k.others t Router t_in (λ q. let no : Router ≡ Processor = q.1 in absurd (cc)) in
      let kb = k.others t Bank t_in (λ q. let no : Bank ≡ Processor = q.1 in absurd (cc)) in
      (refl, refl, λ i. record { state = fr i; ports = kr i }, λ i. record { state = fb i; ports = kb i })
  only_by Router tile next left k t_in is =
      let f = router_alone d t tile s.around attempt.choice next left is in
      let fp = f.processor in
      let fb = f.bank in
      let kp = k.others t Processor t_in (λ q. let no : Processor ≡ Router = q.1 in absurd (cc)) in
      let kb = k.others t Bank t_in (λ q. let no : Bank ≡ Router = q.1 in absurd (cc)) in
      (refl, refl, λ i. record { state = fp i; ports = kp i }, λ i. record { state = fb i; ports = kb i })
  only_by Bank tile next left k t_in is =
      let f = bank_alone d t tile s.around attempt.choice next left is in
      let fp = f.processor in
      let fr = f.router in
      let kp = k.others t Processor t_in (λ q. let no : Processor ≡ Bank = q.1 in absurd (cc)) in
      let kr = k.others t Router t_in (λ q. let no : Router ≡ Bank = q.1 in absurd (cc)) in
      (refl, refl, λ i. record { state = fp i; ports = kp i }, λ i. record { state = fr i; ports = kr i })

  pub only_own : (next : State) (p q : TilePlace) → step d s attempt ≡ Some next → tile_in d s t ≡ Some p → tile_in d next t ≡ Some q → OnlyAgent a p q
  only_own next p q is before after =
      let m = stepped next is in
      let k = keeps m.tile m.here m.p m.is in
      let was : placed m.tile ≡ p = same_Some _ _ (sym (ap (λ (o : Option TileState). option_map (λ y. tile_placed d t y s.around) o) m.here) ∙ before) in
      let now : tile_placed d t m.p.0 m.p.1 ≡ q = same_Some _ _
      (sym (ap (λ (o : Option TileState). option_map (λ y. tile_placed d t y m.p.1) o)
      (get_set_same s.tiles t m.p.0 (slice_get_within s.tiles t m.tile m.here)))
      ∙ (ap (λ (z : State). tile_in d z t) m.next_is ∙ after)) in
      subst (λ (y : TilePlace). OnlyAgent a y q) was (subst (λ (y : TilePlace). OnlyAgent a (placed m.tile) y) now
      (only_by a m.tile m.p.0 m.p.1 k (there m.tile m.here) m.is))
