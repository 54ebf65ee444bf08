-- The flit that a processor would take next stands in the row.
use Rattle.std.proofs.Common.{◌≡◌, ◌≢◌, ℕ, ne_eqb, ◌<◌, Bool, List, length, Option, Some, None, sym, ◌∙◌, ap, subst, arith}
use Rattle.std.proofs.Common.{slice_get, slice_index, if◌then◌else◌, vec_len}
use Rattle.std.specs.Prelude.{option_map}
use Rattle.std.specs.Option.{IfSome}
use Rattle.std.proofs.lemmas.Option.{get_or_from_slice_get, slice_get-map, slice_get_within, same_Some}
use Rattle.torus.specs.Shape.{Shape, tiles_of}
use Rattle.torus.specs.declared.step.Choice.TheVariants as choice
use Rattle.flit_buffer.specs.Surroundings.{IsWired, granted, ports_of}
use Rattle.flit_buffer.specs.Wants.{PortEnds, input, outcome}
use Rattle.flit_buffer.specs.Ends.{take_op}
use Rattle.flit_buffer.specs.Words.{word_of}
use Rattle.flit_buffer.specs.declared.want.Want.TheVariants.{Take}
use Rattle.flit_buffer.specs.declared.word_op.WordOp.{WordOp}
use Rattle.flit_buffer.proofs.Wirings.{tells}
use Rattle.tile.specs.declared.agent.Agent.TheVariants.{Processor}
use Rattle.tile.specs.Tile.{TileState}
use Rattle.tile.specs.Wiring.{processor_wiring}
use Rattle.tile.specs.Agents.{TilePlace, agent_number, agent_op, tile_placed}
use Rattle.tile.proofs.AgentNumbers.{tile_of_number, kind_of_number}
use Rattle.tile.proofs.Channels.{wired}
use Rattle.core_laws.proofs.RowRows.{row_shows}
use Rattle.machine_parts.specs.Placed.{PlacedTile}
use Rattle.machine_parts.specs.Core.{Load, State, design_of, after}
use Rattle.machine_parts.specs.Row.{row_of}
use Rattle.machine_parts.specs.Attempts.{tile_in}
use Rattle.machine_parts.specs.Runs.{state_after}
use Rattle.machine_parts.specs.Machine.{Core}
use Rattle.machine_parts.proofs.RowOfRuns.{surrounded}
use Rattle.machine_core.specs.declared.machine.Machine.TheInside.{Inside}
use Rattle.machine_core.specs.Inside.{core_of, IsMachine}
use Rattle.machine_core.proofs.Agents.{agent_word}
use Rattle.machine_core.proofs.Standing.{all_steps, shown_now, state_is, tiles_counted}

module _ {A : Type 0} (a : Inside A) (is : IsMachine a) (t : ℕ) (v : PlacedTile) (there : slice_get a.tiles.items t ≡ Some v) where
  abbrev l : Load
  l = is.load

  abbrev n : ℕ
  n = length is.steps

  abbrev s : State
  s = state_after l is.steps n

  -- the word of a take is one of the row
  pub take_word : IfSome (agent_op v.place Processor choice.Take) (λ o. word_of o < vec_len a.row)
  take_word = agent_word a is (record { agent = agent_number t Processor; choice = choice.Take }) t Processor
      (tile_of_number t Processor) (kind_of_number t Processor) v there

  place : tile_in (design_of l) s t ≡ Some v.place
  place = sym ((shown_now a is).tiles t)
      ∙ (slice_get-map (λ (w : PlacedTile). w.place) a.tiles.items t ∙ ap (option_map (λ (w : PlacedTile). w.place)) there)

  ports_placed : (o : Option TileState) → option_map (λ tile. tile_placed (design_of l) t tile s.around) o ≡ Some v.place
      → v.place.processor.ports ≡ ports_of l.depth s.around (processor_wiring l.shape t)
  ports_placed None h = absurd (cc)
  ports_placed (Some tile) h = ap (λ (q : TilePlace). q.processor.ports) (sym (same_Some _ _ h))

  -- what the word of the take tells
  told : outcome (Take 0) (slice_index a.row.items (word_of (take_op (input v.place.processor.ports 0))))
      ≡ granted s.around (processor_wiring l.shape t) (Take 0)
  told =
      let rings = surrounded l is.after.accepted is.steps n in
      let t_in : t < tiles_of l.shape = subst (λ (k : ℕ). t < k) (tiles_counted a is) (slice_get_within a.tiles.items t v there) in
      let wires : IsWired (length s.around.rings) (processor_wiring l.shape t) =
      subst (λ (k : ℕ). IsWired k (processor_wiring l.shape t)) (sym rings.count) (wired l.shape is.after.accepted.shape t t_in Processor) in
      subst (λ (r : List ℕ). outcome (Take 0) (slice_index r (word_of (take_op (input v.place.processor.ports 0))))
      ≡ granted s.around (processor_wiring l.shape t) (Take 0)) (sym (shown_now a is).row_is)
      (subst (λ (p : PortEnds). outcome (Take 0) (slice_index (row_of (design_of l) s) (word_of (take_op (input p 0))))
      ≡ granted s.around (processor_wiring l.shape t) (Take 0)) (sym (ports_placed (slice_get s.tiles t) place))
      (tells (row_of (design_of l) s) l.depth s.around (processor_wiring l.shape t) (Take 0)
      (row_shows l.depth s.around rings.rings) rings.rings wires (omega arith)))

  -- so the word that is asked for is
  pub asked_in : (o : WordOp) → Some o ≡ agent_op v.place Processor choice.Take → (w : ℕ) → w ≡ word_of o → w < vec_len a.row
  asked_in o asks w is =
      let same : o ≡ take_op (input v.place.processor.ports 0) = same_Some _ _ asks in
      subst (λ (k : ℕ). k < vec_len a.row) (sym (is ∙ ap word_of same)) take_word

  module _ (c : Core) (view : core_of a ≡ c) (o : WordOp) (asks : Some o ≡ agent_op v.place Processor choice.Take) (w : ℕ) (is_word : w ≡ word_of o)
      (flit : ℕ) (found : slice_get a.row.items w ≡ Some flit) where
    now : s ≡ c.state
    now = ap (after l) (all_steps a is) ∙ (sym (state_is a is) ∙ ap (λ (x : Core). x.state) view)

    -- the flit that is found is the one that is granted
    arrives : outcome (Take 0) flit ≡ granted c.state.around (processor_wiring c.shape t) (Take 0)
    arrives =
        let same : o ≡ take_op (input v.place.processor.ports 0) = same_Some _ _ asks in
        let shape : l.shape ≡ c.shape = sym is.after.shape ∙ ap (λ (x : Core). x.shape) view in
        ap (outcome (Take 0)) (sym (get_or_from_slice_get a.row.items w flit 0 found)
        ∙ (ap (slice_index a.row.items) is_word ∙ ap (λ (x : WordOp). slice_index a.row.items (word_of x)) same))
        ∙ (told
        ∙ (ap (λ (x : State). granted x.around (processor_wiring l.shape t) (Take 0)) now
        ∙ ap (λ (x : Shape). granted c.state.around (processor_wiring x t) (Take 0)) shape))

    pub none_arrives : flit ≡ 0 → None ≡ granted c.state.around (processor_wiring c.shape t) (Take 0)
    none_arrives empty = sym (ap (outcome (Take 0)) empty) ∙ arrives

    pub some_arrives : flit ≢ 0 → Some flit ≡ granted c.state.around (processor_wiring c.shape t) (Take 0)
    some_arrives some = kept flit some ∙ arrives
      where
        kept : (k : ℕ) → k ≢ 0 → Some k ≡ outcome (Take 0) k
        kept k h = sym (ap (λ (b : Bool). if b then None else Some k) (ne_eqb k 0 h))
