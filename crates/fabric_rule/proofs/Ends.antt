-- Where one processor has seen the end, every script is finished.
use Rattle.std.proofs.Common.{◌≡◌, ℕ, suc, Bool, true, ◌&&◌, List, [], ◌∷◌, length, Option, Some, None, refl, ap, ◌∙◌, subst}
use Rattle.std.specs.Prelude.{slice_get, option_map}
use Rattle.std.specs.List.{list_all}
use Rattle.std.proofs.lemmas.List.Folds.{list_all-map}
use Rattle.std.proofs.lemmas.Option.{same_Some}
use Rattle.torus.specs.declared.step.Step.{Step}
use Rattle.one_order.specs.Following.{is_finished}
use Rattle.one_order.specs.ProcessorRecord.{ProcessorRecord}
use Rattle.tile.specs.Tile.{TileState}
use Rattle.tile.specs.Agents.{TilePlace, tile_placed}
use Rattle.core_laws.specs.Core.{Load, State, design_of, after}
use Rattle.core_laws.specs.Runs.{IsAcceptedLoad}
use Rattle.core_laws.specs.Reports.{CountsReports}
use Rattle.core_laws.proofs.Reached.{reports_counted}
use Rattle.core_laws.proofs.RowOfRuns.{all_steps}
use Rattle.fabric_rule.specs.Known.{known}
use Rattle.fabric_rule.specs.Ended.{AreAllFinished}

-- a test that each element passes
passes : {X : Type 0} (p : X → Bool) (xs : List X) → ((i : ℕ) (x : X) → slice_get xs i ≡ Some x → p x ≡ true) → list_all p xs ≡ true
passes p [] each = refl
passes p (x ∷ xs) each = ap (λ (b : Bool). b && list_all p xs) (each 0 x refl) ∙ passes p xs (λ i y e. each (suc i) y e)

module _ (load : Load) (ok : IsAcceptedLoad load) (run : List Step) where
  abbrev s : State
  s = after load run

  counted : CountsReports (design_of load) s
  counted = subst (λ (z : State). CountsReports (design_of load) z) (all_steps load run) (reports_counted load ok run (length run))

  tile_there : (t : ℕ) (p : TilePlace) → known load run t ≡ Some p
      → (tile : TileState) × (slice_get s.tiles t ≡ Some tile) × (tile_placed (design_of load) t tile s.around ≡ p)
  unfolding known
  tile_there t p here = by_state (slice_get s.tiles t) refl here
    where
      by_state : (o : Option TileState) → slice_get s.tiles t ≡ o → option_map (λ tile. tile_placed (design_of load) t tile s.around) o ≡ Some p
          → (tile : TileState) × (slice_get s.tiles t ≡ Some tile) × (tile_placed (design_of load) t tile s.around ≡ p)
      by_state None e h = absurd (cc)
      by_state (Some tile) e h = (tile, e, same_Some _ _ h)

  pub all_ended : (t : ℕ) (p : TilePlace) → known load run t ≡ Some p → p.processor.state.seen ≡ true → AreAllFinished load run
  all_ended t p here sees =
      let k = tile_there t p here in
      let saw : k.0.processor.seen ≡ true = ap (λ (q : TilePlace). q.processor.state.seen) k.2 ∙ sees in
      let each : (u : ℕ) (other : TileState) → slice_get s.tiles u ≡ Some other → is_finished other.processor.operations.following ≡ true =
      λ u other there. counted.finished u other there (counted.seen t k.0 k.1 saw u other there) in
      list_all-map (λ (b : ProcessorRecord). is_finished b.following) (λ (w : TileState). w.processor.operations) s.tiles
      ∙ passes (λ (w : TileState). is_finished w.processor.operations.following) s.tiles each
