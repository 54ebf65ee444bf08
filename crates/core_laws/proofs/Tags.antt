-- Where nothing is in flight, all tags are free, and a processor has finished or an operation is ready.
use Rattle.std.proofs.Common.{◌≡◌, ℕ, zero, suc, ◌+◌, ◌<◌, ◌≤◌, false, cond, List, [], ◌∷◌, length, map, Option, Some, None, inl, inr, refl, sym, ◌∙◌, ap}
use Rattle.std.proofs.Common.{subst, arith, slice_get, slice_index_or}
use Rattle.std.proofs.lemmas.Bool.{lt-ltb}
use Rattle.std.proofs.Math.ListN.{get_or-map}
use Rattle.std.proofs.Math.Nat.{mod-lt}
use Rattle.torus.specs.Shape.{tiles_of}
use Rattle.torus.specs.declared.step.OpId.{OpId}
use Rattle.packet.specs.declared.kinds.Operation.{Operation}
use Rattle.packet.specs.declared.kinds.Request.{Request as Asking}
use Rattle.packet.specs.declared.kinds.Response.{Response as Telling}
use Rattle.tag_table.specs.Tags.{holder_of, free_tag}
use Rattle.one_order.specs.Following.{next_operation_of, is_finished}
use Rattle.one_order.specs.ProcessorRecord.{ProcessorRecord, no_processor}
use Rattle.one_order.specs.Observed.{total}
use Rattle.one_order.specs.Order.{LinearizationPoint}
use Rattle.one_order.proofs.Lists.{list_within}
use Rattle.one_order.specs.Flight.{Flight, processor_at}
use Rattle.one_order.proofs.Whole.{Whole}
use Rattle.one_order.proofs.Parts.{tags_at, tags_of}
use Rattle.core_laws.specs.Tile.{Design, TileState}
use Rattle.core_laws.specs.Core.{State}
use Rattle.core_laws.proofs.Stands.{Ghost, tile_at, no_tile, flight_of}
use Rattle.core_laws.proofs.Lives.{IsInFlight, TagsTell}
use Rattle.core_laws.proofs.Out.{no_holder}
use Rattle.core_laws.proofs.Balance.{IsBalanced, AreBalanced}

-- with no tag out the first is free
first_free : (tags : List (Option OpId)) → 0 < length tags → ((k : ℕ) → holder_of tags k ≡ None) → (tag : ℕ) × (free_tag tags ≡ Some tag)
first_free [] some none = absurd (omega arith)
first_free (x ∷ xs) some none = (0, ap (λ y. free_tag (y ∷ xs)) (none 0) ∙ ap (λ b. cond b (Some 0) None) (lt-ltb 0 (suc (length xs)) (omega arith)))

-- as many operations await an answer as are issued and not answered
waits_together : (rs : List ProcessorRecord) → ((p : ℕ) → IsBalanced (slice_index_or rs p no_processor)) → (p : ℕ)
    → (slice_index_or rs p no_processor).following.waiting + total (map (λ (b : ProcessorRecord). b.answers) rs)
    ≤ total (map (λ (b : ProcessorRecord). b.issued) rs)
waits_together [] at p = let none = (at p).answered in omega arith
waits_together (r ∷ rs) at zero = let first = (at 0).answered in let rest = waits_together rs (λ q. at (suc q)) (length rs) in omega arith
waits_together (r ∷ rs) at (suc p) = let first = (at 0).answered in let rest = waits_together rs (λ q. at (suc q)) p in omega arith

module _ (d : Design) (tags : ℕ) (opening : List ℕ) (s : State) (g : Ghost) (order : List LinearizationPoint) (some : 0 < tags)
    (w : Whole (tiles_of d.shape) tags opening (flight_of d.words s g) order)
    (balanced : AreBalanced (flight_of d.words s g)) where
  abbrev f : Flight
  f = flight_of d.words s g

  record_is : (p : ℕ) → processor_at f p ≡ (tile_at s p).processor.operations
  record_is p = get_or-map (λ (t : TileState). t.processor.operations) s.tiles p no_tile

  none_asked : (IsInFlight d g → ⊥) → (asked : List Asking) → g.asked ≡ asked → length g.asked ≡ 0
  none_asked none [] is = ap length is
  none_asked none (r ∷ rs) is =
      let there : slice_get g.asked 0 ≡ Some r = ap (λ (xs : List Asking). slice_get xs 0) is in
      let at = w.sound.requests 0 r there in
      let source : r.source < tiles_of d.shape =
      subst (λ (k : ℕ). r.source < k) w.sound.tagged (list_within (tags_of f) r.source r.tag.0 (Some (record { 0 = at.index })) at.holds) in
      absurd (none (inl (0, r, there, source, subst (λ n. n < tiles_of d.shape) at.bank (mod-lt at.operation.address (omega arith)))))

  none_told : (IsInFlight d g → ⊥) → (told : List Telling) → g.told ≡ told → length g.told ≡ 0
  none_told none [] is = ap length is
  none_told none (r ∷ rs) is =
      let there : slice_get g.told 0 ≡ Some r = ap (λ (xs : List Telling). slice_get xs 0) is in
      let at = w.sound.responses 0 r there in
      let to : r.destination < tiles_of d.shape =
      subst (λ (k : ℕ). r.destination < k) w.sound.tagged (list_within (tags_of f) r.destination r.tag.0 (Some (record { 0 = at.index })) at.holds) in
      absurd (none (inr (0, r, there, subst (λ n. n < tiles_of d.shape) (sym at.at.bank) (mod-lt at.at.point.operation.address (omega arith)), to)))

  -- where nothing is in flight, no operation awaits an answer
  pub none_waits : (IsInFlight d g → ⊥) → (p : ℕ) → (tile_at s p).processor.operations.following.waiting ≡ 0
  none_waits none p =
      let asked = none_asked none g.asked refl in
      let told = none_told none g.told refl in
      let count = w.counted.asked in
      let count_too = w.counted.told in
      let all = waits_together f.processors balanced p in
      let same : (processor_at f p).following.waiting ≡ (tile_at s p).processor.operations.following.waiting =
      ap (λ (b : ProcessorRecord). b.following.waiting) (record_is p) in
      omega arith

  -- what the records tell where nothing is in flight
  pub tags_tell : ((p : ℕ) → p < tiles_of d.shape → (tile_at s p).processor.operations.following.waiting ≡ 0
      → is_finished (tile_at s p).processor.operations.following ≡ false
      → (o : Operation) × (next_operation_of (tile_at s p).processor.operations.following ≡ Some o)) → TagsTell d s g
  tags_tell ready = record {
    free = λ none p here.
        let b : ProcessorRecord = (tile_at s p).processor.operations in
        let bal : IsBalanced b = subst IsBalanced (record_is p) (balanced p) in
        let size : length b.tags ≡ tags = sym (ap length (tags_at f p ∙ ap (λ (b : ProcessorRecord). b.tags) (record_is p))) ∙ w.tag_counts p here in
        first_free b.tags (omega arith) (no_holder b.tags (sym bal.out ∙ none_waits none p));
    ready = λ none p here busy. ready p here (none_waits none p) busy;
  }
