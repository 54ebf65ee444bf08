-- A take that looks at its place first.
use Rattle.std.proofs.Common.{◌≡◌, ℕ, true, false, List, ◌∷◌, [], ◌++◌, append_assoc, Some, sym, ap, ◌∙◌, subst}
use Rattle.std.specs.Prelude.{slice_index}
use Rattle.torus.specs.declared.step.Step.{Step}
use Rattle.flit_buffer.specs.Words.{word_of}
use Rattle.flit_buffer.specs.declared.word_op.WordOp.{WordOp}
use Rattle.tile.specs.Agents.{TilePlace}
use Rattle.fabric_rule.specs.Placed.{PlacedTile}
use Rattle.fabric_rule.specs.Runs.{IsAcceptedLoad}
use Rattle.fabric_rule.specs.Known.{tile_of, known, enabled, ShowsBeginning, op_of, moves}
use Rattle.fabric_rule.specs.View.{View}
use Rattle.fabric_rule.specs.Groups.{In, Others, knowing}
use Rattle.fabric_rule.specs.Rule.{Looked}
use Rattle.fabric_rule.proofs.Groups.{away, others_append}
use Rattle.fabric_rule.proofs.Runs.{known_away, tells_later}
use Rattle.fabric_rule.specs.Counted.{Counted, IsInnerTake}
use Rattle.fabric_rule.proofs.Takes.{empty_place}
use Rattle.fabric.specs.Turns.{SeesIdle, StepMoves, OnlyTile}
use Rattle.fabric.specs.Seats.{StandsAt}
use Rattle.fabric.proofs.Seating.{stands_still}
use Rattle.fabric.proofs.Turning.{begins_trans}

-- a look at the place of a take that found no flit there
pub looked_in_vain : (f : Counted) (t : ℕ) (c : Step) (x : TilePlace) (o : WordOp) (v w : View) (i n : ℕ) → IsAcceptedLoad v.load → In v.groups (tile_of c)
    → known v.load v.run (tile_of c) ≡ Some x → op_of x c ≡ Some o → IsInnerTake f t c.choice → i ≡ word_of o → n ≡ 0 → Looked i v n w
    → enabled w.load w.run c ≡ false
looked_in_vain f t c x o v w i n ok mine here asks take at none l =
    let words : List ℕ = l.row.0 in
    let shows : ShowsBeginning v.load words (v.run ++ l.between) = subst (λ (u : View). ShowsBeginning u.load words u.run) l.view l.row.1 in
    let told = tells_later v.load ok words v.run l.between c x o shows (away v.groups (tile_of c) l.between mine l.others) here asks in
    let found : slice_index words (word_of o) ≡ 0 = ap (λ (j : ℕ). slice_index words j) (sym at) ∙ (sym l.row.2 ∙ none) in
    subst (λ (u : View). enabled u.load u.run c ≡ false) (sym l.view)
    (told.enabled_there ∙ (ap (λ (m : ℕ). moves x c m) found ∙ empty_place f t x c take))

-- what comes of the view u, after which v saw steps of others
module _ (v u w : View) (c : Step) (between : List Step) (others : Others v.groups between) (saw : u ≡ knowing v (v.run ++ between)) where
  abbrev far : View
  far = knowing v (v.run ++ between)

  pub moves_then : StepMoves u c w → StepMoves v c w
  moves_then m =
      let k : StepMoves far c w = subst (λ (x : View). StepMoves x c w) saw m in (
        between ++ k.0,
        others_append v.groups between k.0 others k.1,
        subst (λ (l : List Step). enabled v.load l c ≡ true) (append_assoc v.run between k.0) k.2,
        k.3 ∙ ap (λ (l : List Step). knowing v (l ++ c ∷ [])) (append_assoc v.run between k.0),
      )

  pub sees_then : SeesIdle u c w → SeesIdle v c w
  sees_then m =
      let k : SeesIdle far c w = subst (λ (x : View). SeesIdle x c w) saw m in (
        between ++ k.0,
        others_append v.groups between k.0 others k.1,
        subst (λ (l : List Step). enabled v.load l c ≡ false) (append_assoc v.run between k.0) k.2,
        k.3 ∙ ap (λ (l : List Step). knowing v l) (append_assoc v.run between k.0),
      )

  pub sees_at_once : enabled u.load u.run c ≡ false → SeesIdle v c u
  sees_at_once out = (between, others, subst (λ (x : View). enabled x.load x.run c ≡ false) saw out, saw)

  module _ (ok : IsAcceptedLoad v.load) where
    stays : (t : ℕ) → In v.groups t → known v.load (v.run ++ between) t ≡ known v.load v.run t
    stays t i = known_away v.load ok v.run between t (away v.groups t between i others)

    pub only_then : (t : ℕ) → OnlyTile u t w → OnlyTile v t w
    only_then t k = record {
      same = k.same ∙ ap (λ (x : View). knowing x w.run) saw;
      later = begins_trans w.run u.run v.run k.later (between, ap (λ (x : View). x.run) saw);
      rest = λ s ne i. k.rest s ne (subst (λ (x : View). In x.groups s) (sym saw) i) ∙ (ap (λ (x : View). known x.load x.run s) saw ∙ stays s i);
    }

    pub stands_on : In v.groups (tile_of c) → (y : PlacedTile) → StandsAt v.load v.run (tile_of c) y → StandsAt u.load u.run (tile_of c) y
    stands_on mine y k =
        subst (λ (x : View). StandsAt x.load x.run (tile_of c) y) (sym saw)
        (stands_still v.load v.run (v.run ++ between) (tile_of c) y (stays (tile_of c) mine) k)
