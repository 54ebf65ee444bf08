-- Where a guard holds operations back, one is out.
use Rattle.std.proofs.Common.{◌≡◌, inl, inr, ℕ, zero, suc, ◌-◌, ◌<◌, Bool, true, false, List, [], ◌∷◌, length, map, Option, Some, None, refl, sym, ◌∙◌, ap, subst, arith}
use Rattle.std.proofs.Common.{slice_get, slice_index, slice_index_or}
use Rattle.std.specs.Prelude.{nat_lt, if◌then◌else◌}
use Rattle.std.proofs.lemmas.Bool.{cases_lt, ltb-true}
use Rattle.std.proofs.Math.ListN.{get_or-map}
use Rattle.std.proofs.lemmas.Option.{slice_get_within}
use Rattle.torus.specs.Shape.{Shape, tiles_of}
use Rattle.torus.specs.declared.step.OpId.{OpId}
use Rattle.one_order.specs.Observed.{Observed, list_at, HasIssued, HasAnswered}
use Rattle.one_order.specs.ProcessorRecord.{ProcessorRecord, no_processor}
use Rattle.one_order.proofs.Parts.{tags_at}
use Rattle.tile.specs.Tile.{TileState}
use Rattle.core_laws.specs.Core.{State}
use Rattle.core_laws.specs.Runs.{state_after}
use Rattle.core_laws.specs.Machine.{Core, MakesMove, all_finished}
use Rattle.core_laws.specs.Mirrors.{tile_at, no_tile}
use Rattle.core_laws.specs.Noted.{flight_after}
use Rattle.core_laws.proofs.EveryRun.{holds_in}
use Rattle.machine_core.specs.Oldest.{oldest}
use Rattle.machine_core.specs.Guarded.{guarded_round}
use Rattle.machine_core.proofs.Orders.{oldest_is}
use Rattle.fair_rounds.proofs.HeldMoves.{held_moves}
use Rattle.fair_rounds.specs.Guard.{Guarding, tag_holder, least_if_out, least_of_tags, least_of, seen, holds}
use Rattle.fair_rounds.specs.Hosts.{IsOut}
use Rattle.fair_rounds.proofs.Lines.{Stage}
use Rattle.fair_rounds.proofs.TwoRounds.{shown_is, now_is}

-- some tag is out
abbrev pub SomeTag : Core → Type 0
SomeTag c = (p : ℕ) × (t : ℕ) × (id : OpId) × (tag_holder c p t ≡ Some id)

module _ (c : Core) (since : List (List ℕ)) where
  less_tags : (p n most : ℕ) → least_of_tags c since p n most < most → SomeTag c
  less_tags p zero most less = absurd (omega (arith, less))
  less_tags p (suc t) most less = by_holder (λ more. less_tags p t most more) (tag_holder c p t) refl less
    where
      by_holder : (least_of_tags c since p t most < most → SomeTag c) → (o : Option OpId) → tag_holder c p t ≡ o → least_if_out o (slice_index (list_at since p) t) (least_of_tags c since p t most) < most → SomeTag c
      by_holder rest None is less = rest less
      by_holder rest (Some id) is less = (p, t, id, is)

  less_all : (n most : ℕ) → least_of c since n most < most → SomeTag c
  less_all zero most less = absurd (omega (arith, less))
  less_all (suc p) most less = elim (cases_lt (least_of_tags c since p 16 (least_of c since p most)) (least_of c since p most)) [
    | inl here ↦ less_tags p 16 (least_of c since p most) here
    | inr none ↦ less_all p most (omega (arith, none, less))
  ]

pub tag_out : (g : Guarding) (c : Core) → holds g c ≡ true → SomeTag c
tag_out g c is = by_search (nat_lt g.most (g.rounds - g.oldest)) refl is
  where
    by_search : (b : Bool) → nat_lt g.most (g.rounds - g.oldest) ≡ b
        → nat_lt g.most (g.rounds - (if b then least_of c (seen g c).since (tiles_of c.shape) g.rounds else g.oldest)) ≡ true → SomeTag c
    by_search true old is =
        let long = ltb-true g.most (g.rounds - least_of c (seen g c).since (tiles_of c.shape) g.rounds) is in
        less_all c (seen g c).since (tiles_of c.shape) g.rounds (omega (arith, long))
    by_search false old is = let clash : ◌≡◌ {A = Bool} false true = sym old ∙ is in absurd (cc)

-- who holds a tag is out
pub get_held : (tags : List (Option OpId)) (t : ℕ) (id : OpId) → slice_index_or tags t None ≡ Some id → slice_get tags t ≡ Some (Some id)
get_held [] t id h = let never : ◌≡◌ {A = Option OpId} None (Some id) = h in absurd (cc)
get_held (x ∷ tags) zero id h = ap (λ (o : Option OpId). Some o) h
get_held (x ∷ tags) (suc t) id h = get_held tags t id h

module _ (c : Core) (st : Stage c) where
  pub record_at : (p : ℕ) → slice_index_or (map (λ (t : TileState). t.processor.operations) (state_after st.load st.steps (length st.steps)).tiles) p no_processor
      ≡ (tile_at c.state p).processor.operations
  record_at p =
      get_or-map (λ (t : TileState). t.processor.operations) (state_after st.load st.steps (length st.steps)).tiles p no_tile
      ∙ ap (λ (s : State). (tile_at s p).processor.operations) (now_is c st)

  pub holder_out : (p t : ℕ) (id : OpId) → tag_holder c p t ≡ Some id → IsOut c p id.0
  holder_out p t id is =
      let h = (holds_in st.load (st.after).accepted st.steps (length st.steps)).stands in
      let there : slice_get (tile_at c.state p).processor.operations.tags t ≡ Some (Some id) = get_held (tile_at c.state p).processor.operations.tags t id is in
      let held = h.flight.sound.held p t id.0
      (ap (λ (xs : List (Option OpId)). slice_get xs t) (tags_at (flight_after st.load st.steps (length st.steps)) p ∙ ap (λ (b : ProcessorRecord). b.tags) (record_at p)) ∙ there) in
      record {
        issued = subst (λ (v : Observed). HasIssued v p id.0) (sym (shown_is c st)) held.0;
        unanswered = λ told. held.1 (subst (λ (v : Observed). HasAnswered v p id.0) (shown_is c st) told);
      }

-- a tag that is out is one of sixteen
pub tag_low : (c : Core) (st : Stage c) (p t : ℕ) (id : OpId) → p < tiles_of c.shape → tag_holder c p t ≡ Some id → t < 16
tag_low c st p t id low is =
    let h = (holds_in st.load (st.after).accepted st.steps (length st.steps)).stands in
    let there : slice_get (tile_at c.state p).processor.operations.tags t ≡ Some (Some id) = get_held (tile_at c.state p).processor.operations.tags t id is in
    let within : t < length (tile_at c.state p).processor.operations.tags = slice_get_within (tile_at c.state p).processor.operations.tags t (Some id) there in
    let here : p < tiles_of (st.load).shape = subst (λ (s : Shape). p < tiles_of s) (st.after).shape low in
    let count : length (tile_at c.state p).processor.operations.tags ≡ (st.load).tags =
    sym (ap (λ (xs : List (Option OpId)). length xs) (tags_at (flight_after st.load st.steps (length st.steps)) p ∙ ap (λ (b : ProcessorRecord). b.tags) (record_at c st p)))
    ∙ h.flight.tag_counts p here in
    let few = ((st.after).accepted).tags.1 in
    omega (arith, within, count, few)

pub someone_out : (g : Guarding) (c : Core) → Stage c → holds g c ≡ true → (p : ℕ) × (i : ℕ) × IsOut c p i
someone_out g c st is =
    let tag = tag_out g c is in
    (tag.0, (tag.2).0, holder_out c st tag.0 tag.1 tag.2 tag.3)

-- a round by a guard makes a move
pub round_lives : (g : Guarding) (c : Core) (b : Bool) → b ≡ holds g c → Stage c → all_finished c.state ≡ false
    → (b ≡ false → all_finished c.state ≡ false → MakesMove c (guarded_round oldest b c)) → MakesMove c (guarded_round oldest b c)
round_lives g c false is st busy free = free refl busy
round_lives g c true is st busy free =
    let out = someone_out g c st (sym is) in held_moves oldest oldest_is c st out.0 out.1 out.2
