-- An attempt over the row that shows a reached state leads to the next state's tiles and row.
use Rattle.std.proofs.Common.{◌≡◌, ◌≢◌, ⊎_elim, ℕ, ◌<◌, List, length, Option, Some, None, refl, sym, ◌∙◌, ap, subst, slice_get, slice_set, slice_index}
use Rattle.std.specs.Prelude.{option_and_then, MatchOption}
use Rattle.std.proofs.lemmas.Bool.{cases_eq}
use Rattle.std.proofs.lemmas.Option.{slice_get_within}
use Rattle.torus.specs.declared.step.Step.{Step}
use Rattle.one_order.proofs.Lists.{get_set_same, get_set_other}
use Rattle.flit_buffer.specs.Words.{word_of, performed}
use Rattle.flit_buffer.specs.Tries.{performed_by}
use Rattle.flit_buffer.specs.declared.word_op.WordOp.{WordOp}
use Rattle.core_laws.specs.Tile.{Design}
use Rattle.core_laws.specs.Agents.{TilePlace, tile_next_op, tile_absorbed, agent_tile}
use Rattle.core_laws.specs.Core.{Load, State, design_of, step}
use Rattle.core_laws.specs.Runs.{IsAcceptedLoad, state_after}
use Rattle.core_laws.specs.Row.{row_of}
use Rattle.core_laws.specs.Attempts.{tile_in, step_absorbed, found_by, LeavesRow, MovesRow}
use Rattle.core_laws.proofs.RowOfRuns.{is_operation, tile_stays}
use Rattle.core_laws.specs.Seen.{IsShown, LeadsOn}

module _ (l : Load) (ok : IsAcceptedLoad l) (steps : List Step) (n : ℕ) (places : List TilePlace) (row : List ℕ)
    (shown : IsShown (design_of l) (state_after l steps n) places row) (attempt : Step) (p : TilePlace)
    (there : slice_get places (agent_tile attempt.agent) ≡ Some p) where
  abbrev d : Design
  d = design_of l

  abbrev s : State
  s = state_after l steps n

  abbrev t : ℕ
  t = agent_tile attempt.agent

  place : tile_in d s t ≡ Some p
  place = sym (shown.tiles t) ∙ there

  -- the tile after the operation found its word
  absorbs : (op : WordOp) → tile_absorbed p attempt (slice_index row (word_of op)) ≡ step_absorbed d s attempt (found_by d s attempt op)
  absorbs op =
      ap (λ (r : List ℕ). tile_absorbed p attempt (slice_index r (word_of op))) shown.row_is
      ∙ sym (ap (λ (o : Option TilePlace). option_and_then (λ (q : TilePlace). tile_absorbed q attempt (found_by d s attempt op)) o) place)

  -- the tiles of the next state
  next_tiles : (next : State) (q : TilePlace) → step d s attempt ≡ Some next → tile_in d next t ≡ Some q → (u : ℕ)
      → slice_get (slice_set places t q) u ≡ tile_in d next u
  next_tiles next q is new u = ⊎_elim
      (λ (same : u ≡ t). subst (λ (x : ℕ). slice_get (slice_set places t q) x ≡ tile_in d next x) (sym same)
      (get_set_same places t q (slice_get_within places t p there) ∙ sym new))
      (λ (other : u ≢ t). get_set_other places t u q other ∙ (shown.tiles u ∙ sym (tile_stays l ok steps n attempt next u is other)))
      (cases_eq u t)

  abbrev Outcome : Option WordOp → Option TilePlace → Type 0
  Outcome o q = MatchOption q ((step d s attempt ≡ None) × (performed_by row o ≡ row))
      (λ x. (next : State) × (step d s attempt ≡ Some next) × IsShown d next (slice_set places t x) (performed_by row o))

  by_step : (op : WordOp) (x : Option State) → step d s attempt ≡ x → MatchOption x (LeavesRow d s attempt op) (λ next. MovesRow d s attempt op next)
      → Outcome (Some op) (tile_absorbed p attempt (slice_index row (word_of op)))
  by_step op None is k =
      subst (Outcome (Some op)) (sym (absorbs op ∙ k.idle))
      (is, ap (performed op) shown.row_is ∙ (k.row ∙ sym shown.row_is))
  by_step op (Some next) is k =
      subst (Outcome (Some op)) (sym (absorbs op ∙ k.moved))
      (next, is, record { tiles = next_tiles next k.tile is k.next_tile; row_is = ap (performed op) shown.row_is ∙ k.row })

  by_op : (o : Option WordOp)
      → MatchOption o (step d s attempt ≡ None)
      (λ op. (word_of op < length (row_of d s)) × MatchOption (step d s attempt) (LeavesRow d s attempt op) (λ next. MovesRow d s attempt op next))
      → Outcome o (option_and_then (λ (op : WordOp). tile_absorbed p attempt (slice_index row (word_of op))) o)
  by_op None k = (k, refl)
  by_op (Some op) k = by_step op (step d s attempt) refl k.1

  abbrev op_of : Option TilePlace → Option WordOp
  op_of o = option_and_then (λ (q : TilePlace). tile_next_op q attempt) o

  pub leads_on : LeadsOn d s places row attempt p
  leads_on = by_op (tile_next_op p attempt)
      (subst (λ (o : Option TilePlace). MatchOption (op_of o) (step d s attempt ≡ None)
      (λ op. (word_of op < length (row_of d s)) × MatchOption (step d s attempt) (LeavesRow d s attempt op) (λ next. MovesRow d s attempt op next)))
      place (is_operation l ok steps n attempt))
