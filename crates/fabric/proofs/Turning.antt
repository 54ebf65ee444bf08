-- From what an operation told to what a turn says.
use Rattle.std.proofs.Common.{◌≡◌, ◌≢◌, ℕ, append_assoc, ◌<◌, Bool, true, false, List, [], ◌∷◌, ◌++◌, Option, Some, None, refl, sym, ap, ◌∙◌, subst}
use Rattle.std.proofs.lemmas.List.{append-nil}
use Rattle.std.proofs.lemmas.Option.{same_Some}
use Rattle.std.specs.Prelude.{IsSome, MatchBool, MatchOption, is_some, option_and_then, option_map, slice_get, unwrap_or}
use Rattle.torus.specs.Shape.{tiles_of}
use Rattle.torus.specs.declared.step.Step.{Step}
use Rattle.torus.specs.declared.step.Stepped.{Stepped}
use Rattle.torus.specs.declared.step.Stepped.TheVariants.{Moved, Idle}
use Rattle.fabric_rule.specs.Room.{home_room}
use Rattle.flit_buffer.specs.declared.word_op.WordOp.{WordOp}
use Rattle.flit_buffer.specs.Words.{word_of}
use Rattle.tile.specs.Agents.{TilePlace, tile_next_op, tile_absorbed, tile_placed, agent_kind}
use Rattle.fabric_rule.specs.Placed.{PlacedTile, with_place, IsAcceptableTo, HasRoomForEntry}
use Rattle.tile.specs.Tile.{TileState}
use Rattle.fabric_rule.specs.Core.{Load, after, design_of}
use Rattle.fabric_rule.specs.Runs.{IsAcceptedLoad}
use Rattle.fabric_rule.specs.Known.{tile_of, known, op_of, moves, left_by, Suits, row_length}
use Rattle.fabric_rule.specs.Told.{Away, grown}
use Rattle.fabric_rule.specs.View.{View}
use Rattle.fabric_rule.specs.Groups.{knowing, Extends, Others}
use Rattle.fabric_rule.specs.Rule.{Attempted}
use Rattle.fabric_rule.proofs.Groups.{away}
use Rattle.fabric_rule.proofs.Runs.{known_away, tells, row_size, shown_row, row_shows}
use Rattle.fabric.specs.Turns.{is_ready, SeesIdle, StepMoves, StepIdles, OnlyTile}
use Rattle.fabric.specs.Seats.{StandsAt}

pub sees : (c : Step) (x : TilePlace) (v w : View) (n : ℕ) (t : Attempted c x v n w) (b : Bool) → moves x c n ≡ b → b ≡ false → SeesIdle v c w
sees c x v w n t true e f = absurd (cc)
sees c x v w n t false e f = (t.between, t.others, t.enabled_there ∙ e, t.view ∙ ap (λ (q : Bool). knowing v (grown q (v.run ++ t.between) c)) e)

ready_known : (load : Load) (run : List Step) (c : Step) (x : TilePlace) (q : Option WordOp) → known load run (tile_of c) ≡ Some x → op_of x c ≡ q
    → is_ready load run c ≡ is_some q
unfolding is_ready
ready_known load run c x q is op =
    ap (λ (o : Option TilePlace). is_some (option_and_then (λ (y : TilePlace). op_of y c) o)) is ∙ ap (λ (o : Option WordOp). is_some o) op

-- an operation was there, so the step is idle where it was seen not to be enabled
pub waits : (c : Step) (x : TilePlace) (v w : View) (o : WordOp) → known v.load v.run (tile_of c) ≡ Some x → op_of x c ≡ Some o → SeesIdle v c w
    → StepIdles v c w
waits c x v w o here op seen =
    subst (λ (q : Bool). MatchBool q (SeesIdle v c w) (w ≡ v)) (sym (ready_known v.load v.run c x (Some o) here op)) seen

pub idles_before : (c : Step) (x : TilePlace) (v : View) → known v.load v.run (tile_of c) ≡ Some x → op_of x c ≡ None → StepIdles v c v
idles_before c x v here op = subst (λ (q : Bool). MatchBool q (SeesIdle v c v) (v ≡ v)) (sym (ready_known v.load v.run c x None here op)) refl

pub makes : (c : Step) (x : TilePlace) (v w : View) (n : ℕ) → Attempted c x v n w → moves x c n ≡ true → StepMoves v c w
makes c x v w n t e = (t.between, t.others, t.enabled_there ∙ e, t.view ∙ ap (λ (q : Bool). knowing v (grown q (v.run ++ t.between) c)) e)

-- a tile in its place is at its number
pub tile_known : (load : Load) (run : List Step) (t : ℕ) (x : PlacedTile) → StandsAt load run t x → x.place.tile ≡ t
unfolding known
tile_known load run t x k = by_slot (slice_get (after load run).tiles t) k.place
  where
    by_slot : (o : Option TileState) → option_map (λ tile. tile_placed (design_of load) t tile (after load run).around) o ≡ Some x.place → x.place.tile ≡ t
    by_slot None e = absurd (cc)
    by_slot (Some tile) e = sym (ap (λ (p : TilePlace). p.tile) (same_Some _ _ e))

-- the operation of a step is the one that the tile in code is at
pub op_is : (p : TilePlace) (c : Step) (q : Option WordOp) → q ≡ tile_next_op p c → op_of p c ≡ q
unfolding op_of
op_is p c q e = sym e

pub asked : (p : TilePlace) (c : Step) (o : WordOp) → Some o ≡ tile_next_op p c → IsSome (tile_next_op p c)
asked p c o e = subst IsSome e refl

pub accepts : (load : Load) (p : TilePlace) (c : Step) (n : ℕ) → Suits load p c n → IsAcceptableTo p (agent_kind c.agent) c.choice n
unfolding Suits
accepts load p c n k = k.0

pub has_room : (load : Load) (v : PlacedTile) (c : Step) (n : ℕ) → v.room ≡ home_room (tiles_of load.shape) (tile_of c) load.scripts → Suits load v.place c n
    → HasRoomForEntry v (agent_kind c.agent) c.choice
unfolding Suits
has_room load v c n room k =
    let P : ℕ → Type 0 = λ m. HasRoomForEntry (record { place = v.place; room = m }) (agent_kind c.agent) c.choice in
    subst P (sym room) k.1

-- what a tile's code made of the word
abbrev pub Absorbs : PlacedTile → Step → ℕ → Stepped → PlacedTile → Type 0
Absorbs v c n answer w =
    MatchOption (tile_absorbed v.place c n) ((answer ≡ Idle) × (w ≡ v)) (λ p. (answer ≡ Moved) × (w ≡ with_place v p))

pub absorbed_is : (v : PlacedTile) (c : Step) (n : ℕ) (answer : Stepped) (w : PlacedTile) → Absorbs v c n answer w → w ≡ with_place v (left_by v.place c n)
unfolding left_by
absorbed_is v c n answer w k = by_tile (tile_absorbed v.place c n) k
  where
    by_tile : (o : Option TilePlace) → MatchOption o ((answer ≡ Idle) × (w ≡ v)) (λ p. (answer ≡ Moved) × (w ≡ with_place v p))
        → w ≡ with_place v (unwrap_or o v.place)
    by_tile None k = k.1
    by_tile (Some p) k = k.1

pub moved_is : (v : PlacedTile) (c : Step) (n : ℕ) (w : PlacedTile) → Absorbs v c n Moved w → moves v.place c n ≡ true
unfolding moves
moved_is v c n w k = by_tile (tile_absorbed v.place c n) k
  where
    by_tile : (o : Option TilePlace) → MatchOption o ((Moved ≡ Idle) × (w ≡ v)) (λ p. (Moved ≡ Moved) × (w ≡ with_place v p)) → is_some o ≡ true
    by_tile None k = let e = k.0 in absurd (cc)
    by_tile (Some p) k = refl

pub idle_is : (v : PlacedTile) (c : Step) (n : ℕ) (w : PlacedTile) → Absorbs v c n Idle w → moves v.place c n ≡ false
unfolding moves
idle_is v c n w k = by_tile (tile_absorbed v.place c n) k
  where
    by_tile : (o : Option TilePlace) → MatchOption o ((Idle ≡ Idle) × (w ≡ v)) (λ p. (Idle ≡ Moved) × (w ≡ with_place v p)) → is_some o ≡ false
    by_tile None k = refl
    by_tile (Some p) k = let e = k.0 in absurd (cc)

-- where the seat still knows what it knew as the turn began
pub before : (v u : View) (t : ℕ) (x : PlacedTile) → v ≡ u → StandsAt u.load u.run t x → StandsAt v.load v.run t x
before v u t x e s = subst (λ (w : View). StandsAt w.load w.run t x) (sym e) s

pub accepted_before : (v u : View) → v ≡ u → IsAcceptedLoad u.load → IsAcceptedLoad v.load
accepted_before v u e a = subst (λ (w : View). IsAcceptedLoad w.load) (sym e) a

-- the tile in code after an attempt stands as after the run that its seat knows then
pub stands_then : (c : Step) (v : PlacedTile) (a b : View) (n : ℕ) (answer : Stepped) (w : PlacedTile) → StandsAt a.load a.run (tile_of c) v
    → Attempted c v.place a n b → Absorbs v c n answer w → StandsAt b.load b.run (tile_of c) w
stands_then c v a b n answer w here t k =
    let is = absorbed_is v c n answer w k in
    let P : PlacedTile → Type 0 = λ x. StandsAt b.load b.run (tile_of c) x in
    subst P (sym is) record { place = t.tile; room = here.room ∙ ap (λ (u : View). home_room (tiles_of u.load.shape) (tile_of c) u.load.scripts) (sym t.view) }

-- the word of an operation is one of the row
pub word_in_row : (load : Load) (run : List Step) (c : Step) (x : TilePlace) (o : WordOp) → IsAcceptedLoad load → known load run (tile_of c) ≡ Some x
    → op_of x c ≡ Some o → word_of o < row_length load
word_in_row load run c x o ok here asks =
    let row : List ℕ = shown_row load run in
    let k = tells load ok row run c x o (row_shows load run) here asks in
    subst (λ (m : ℕ). word_of o < m) (row_size load ok row run (row_shows load run)) k.within

-- what a turn picked is what it attempts
pub as_picked : (v : View) (s c : Step) (p : TilePlace) (x : PlacedTile) (o : WordOp) → s ≡ c → p ≡ x.place → IsAcceptedLoad v.load
    → StandsAt v.load v.run (tile_of c) x → Some o ≡ tile_next_op x.place c
    → (known v.load v.run (tile_of s) ≡ Some p) × (op_of p s ≡ Some o) × (word_of o < row_length v.load)
as_picked v s c p x o step place ok here op =
    let here' : known v.load v.run (tile_of s) ≡ Some p =
    ap (λ (y : Step). known v.load v.run (tile_of y)) step ∙ here.place ∙ ap (λ (q : TilePlace). Some q) (sym place) in
    let next : Some o ≡ tile_next_op p s = op ∙ sym (ap (λ (q : TilePlace). tile_next_op q c) place) ∙ sym (ap (λ (y : Step). tile_next_op p y) step) in
    let asks = op_is p s (Some o) next in
    (here', asks, word_in_row v.load v.run s p o ok here' asks)

pub told_of : (s c : Step) (p x : TilePlace) (v w : View) (n : ℕ) → s ≡ c → p ≡ x → Attempted s p v n w → Attempted c x v n w
told_of s c p x v w n step place t = subst (λ (q : TilePlace). Attempted c q v n w) place (subst (λ (y : Step). Attempted y p v n w) step t)

away_one : (t : ℕ) (xs : List Step) (c : Step) → Away t xs → tile_of c ≢ t → Away t (xs ++ c ∷ [])
away_one t [] c a ne = (ne, tt)
away_one t (x ∷ xs) c a ne = (a.0, away_one t xs c a.1 ne)

-- with b, the step c after the others
only_by : (b : Bool) (c : Step) (v w : View) (between : List Step) → IsAcceptedLoad v.load → Others v.groups between → w ≡ knowing v (grown b (v.run ++ between) c)
    → OnlyTile v (tile_of c) w
only_by true c v w between accepted o e = record {
  same = e ∙ ap (λ (u : View). knowing v u.run) (sym e);
  later = (between ++ c ∷ [], ap (λ (u : View). u.run) e ∙ append_assoc v.run between (c ∷ []));
  rest = λ u ne i. ap (λ (z : View). known z.load z.run u) e ∙ ap (λ (l : List Step). known v.load l u) (append_assoc v.run between (c ∷ []))
      ∙ known_away v.load accepted v.run (between ++ c ∷ []) u (away_one u between c (away v.groups u between i o) ne);
}
only_by false c v w between accepted o e = record {
  same = e ∙ ap (λ (u : View). knowing v u.run) (sym e);
  later = (between, ap (λ (u : View). u.run) e);
  rest = λ u ne i. ap (λ (z : View). known z.load z.run u) e ∙ known_away v.load accepted v.run between u (away v.groups u between i o);
}

pub only_tile : (c : Step) (x : TilePlace) (v w : View) (n : ℕ) → IsAcceptedLoad v.load → Attempted c x v n w → OnlyTile v (tile_of c) w
only_tile c x v w n accepted t = only_by (moves x c n) c v w t.between accepted t.others t.view

pub only_same : (v : View) (t : ℕ) → OnlyTile v t v
only_same v t = record { same = refl; later = ([], sym (append-nil v.run)); rest = λ u ne i. refl }

pub begins_trans : (a b c : List Step) → Extends a b → Extends b c → Extends a c
begins_trans a b c x y = (y.0 ++ x.0, x.1 ∙ ap (λ (l : List Step). l ++ x.0) y.1 ∙ append_assoc c y.0 x.0)
