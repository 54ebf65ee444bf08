-- Every reached state is balanced.
use Rattle.std.proofs.Common.{◌≡◌, ℕ, zero, suc, ◌<◌, cond, List, [], ◌∷◌, length, map, replicate, Option, Some, None, refl, sym, ap, subst, arith, slice_get}
use Rattle.std.proofs.Common.{slice_index_or}
use Rattle.std.specs.Prelude.{is_some}
use Rattle.std.proofs.lemmas.List.Sums.{sum_by-cons}
use Rattle.std.proofs.Math.ListN.{get_or-map}
use Rattle.torus.specs.Shape.{tiles_of, dims_of}
use Rattle.torus.specs.declared.step.OpId.{OpId}
use Rattle.torus.specs.declared.step.Step.{Step}
use Rattle.packet.specs.declared.kinds.Operation.{Operation}
use Rattle.script_lines.specs.declared.line.Line.{Line}
use Rattle.one_order.specs.Following.{next_operation_of, first_of}
use Rattle.one_order.specs.ProcessorRecord.{ProcessorRecord, no_processor}
use Rattle.tag_table.specs.Tags.{out_count}
use Rattle.one_order.specs.Events.{order_after}
use Rattle.one_order.specs.Flight.{Flight, moved_by}
use Rattle.core_laws.specs.Tile.{Design, TileState}
use Rattle.core_laws.specs.Core.{Load, State, design_of, first_state, first_tile, records_of, next}
use Rattle.core_laws.specs.Moves.{move_of}
use Rattle.core_laws.specs.Noted.{Noted, noted}
use Rattle.core_laws.specs.Runs.{IsAcceptedLoad}
use Rattle.core_laws.proofs.Networks.{network}
use Rattle.core_laws.proofs.FlightSteps.{flight_step}
use Rattle.core_laws.proofs.StepEvents.{found}
use Rattle.core_laws.proofs.Followed.{next_inside}
use Rattle.core_laws.proofs.Histories.{state_at, next_at, event_at, after_more}
use Rattle.core_laws.proofs.EveryRun.{holds_in}
use Rattle.core_laws.proofs.Stands.{tile_at, no_tile, flight_of}
use Rattle.core_laws.proofs.Balance.{IsBalanced, any_balanced}

-- the records of a state's processors are balanced
abbrev pub RecordsBalanced : List ProcessorRecord → Type 0
RecordsBalanced rs = (p : ℕ) → IsBalanced (slice_index_or rs p no_processor)

-- at first no tag is out, and nothing is issued
none_out : (tags : ℕ) → out_count (replicate tags None) ≡ 0
none_out zero = refl
none_out (suc tags) = let sum = sum_by-cons (λ (y : Option OpId). cond (is_some y) 1 0) None (replicate tags None) in let rest = none_out tags in omega arith

first_record : (tags : ℕ) (lines : List Line) → IsBalanced (record { following = first_of lines; tags = replicate tags None; issued = []; answers = [] })
unfolding first_of
first_record tags lines = record { out = sym (none_out tags); answered = refl }

first_records : (dims tags : ℕ) (scripts : List (List Line)) (p : ℕ)
    → IsBalanced (slice_index_or (map (λ (t : TileState). t.processor.operations) (map (first_tile dims tags) scripts)) p no_processor)
first_records dims tags [] p = first_record 0 []
first_records dims tags (lines ∷ scripts) zero = first_record tags lines
first_records dims tags (lines ∷ scripts) (suc p) = first_records dims tags scripts p

module _ (l : Load) (ok : IsAcceptedLoad l) where
  first_balanced : RecordsBalanced (records_of (first_state l))
  first_balanced p = first_records (dims_of l.shape) l.tags l.scripts p

  step_balanced : (steps : List Step) (n : ℕ) → RecordsBalanced (records_of (state_at l steps n)) → (a : Option Step)
      → RecordsBalanced (records_of (next_at (design_of l) (state_at l steps n) a))
  step_balanced steps n at None = at
  step_balanced steps n at (Some attempt) =
      let d : Design = design_of l in
      let s : State = state_at l steps n in
      let h = holds_in l ok steps n in
      let order = order_after (event_at l steps) n in
      let addressed : (t : ℕ) (o : Operation) → t < tiles_of l.shape → next_operation_of (tile_at s t).processor.operations.following ≡ Some o
      → o.address < length l.opening =
      λ t o t_in is. (next_inside d.words 4096 (tile_at s t).processor.operations.following o (h.values.tiles t).followed is).0 in
      let g : Noted = noted l steps n in
      let finds = found d (network d ok.shape) l.tags l.opening s g order h.stands addressed attempt in
      let after : Flight = moved_by (tiles_of l.shape) (flight_of d.words s g) (move_of d s attempt) in
      let same : records_of (next d s attempt) ≡ after.processors =
      ap (λ (f : Flight). f.processors) (flight_step d s g.asked g.told attempt (λ m is. (finds m is).1)) in
      λ p. subst (λ (rs : List ProcessorRecord). IsBalanced (slice_index_or rs p no_processor)) (sym same)
      (any_balanced (tiles_of l.shape) l.tags (length l.opening) l.opening (flight_of d.words s g) order h.stands.flight (move_of d s attempt)
      (λ m is. (finds m is).0) at p)

  -- the processors of every reached state are balanced
  pub run_balanced : (steps : List Step) (n : ℕ) → RecordsBalanced (records_of (state_at l steps n))
  run_balanced steps zero p = first_balanced p
  run_balanced steps (suc n) p =
      subst (λ (s : State). IsBalanced (slice_index_or (records_of s) p no_processor)) (sym (after_more (design_of l) steps (first_state l) n))
      (step_balanced steps n (run_balanced steps n) (slice_get steps n) p)

  -- of the processor of a tile
  pub tile_balanced : (steps : List Step) (n p : ℕ) → IsBalanced (tile_at (state_at l steps n) p).processor.operations
  tile_balanced steps n p =
      subst IsBalanced (get_or-map (λ (t : TileState). t.processor.operations) (state_at l steps n).tiles p no_tile) (run_balanced steps n p)
