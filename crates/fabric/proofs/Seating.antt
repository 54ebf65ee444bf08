-- A seat after a step: its tiles stand as after the run that it knows.
use Rattle.std.proofs.Common.{◌≡◌, ◌≢◌, ⊎_elim, inl, ℕ, true, false, true≢false, List, [], ◌∷◌, ◌++◌, set, length-set, Option, Some, refl, sym, ap, ◌∙◌, subst}
use Rattle.std.specs.Prelude.{slice_get, slice_index, ◌+◌, ◌*◌}
use Rattle.channel_number.specs.Order.{channel_count}
use Rattle.std.proofs.lemmas.List.{append-nil}
use Rattle.std.proofs.lemmas.Option.{same_Some, slice_get_within}
use Rattle.one_order.proofs.Lists.{get_set_same, get_set_other}
use mathlib.Core.Logic.{dite}
use native.Mathlib.Decide.{ℕ_discrete}
use Rattle.atomic_table.specs.declared.shared.Seat.{Seat}
use Rattle.torus.specs.declared.step.Step.{Step}
use Rattle.fabric_rule.specs.Placed.{PlacedTile}
use Rattle.fabric_rule.specs.Core.{Load}
use Rattle.fabric_rule.specs.Runs.{IsAcceptedLoad}
use Rattle.fabric_rule.specs.Known.{tile_of, known, word_after, ShowsBeginning, row_length}
use Rattle.fabric_rule.specs.View.{View}
use Rattle.fabric_rule.specs.Groups.{Owns, In, Others, first_group, knowing}
use Rattle.fabric_rule.specs.Rule.{Looked}
use Rattle.fabric_rule.proofs.Groups.{away}
use Rattle.fabric_rule.proofs.Runs.{known_away, word_shown}
use Rattle.fabric.specs.Turns.{OnlyTile, Sees, has_choice}
use Rattle.fabric.specs.Seats.{Knowing, seat_knows, with_run, StandsAt, Tied, Placed, Seated, Looking, Grows, IsNotMine}

abbrev S : Type 0
S = Seat (Unit {0}) View

-- the view changed in its run alone
pub placed_after : (s z : S) → z.table_id ≡ s.table_id → z.me.1 ≡ s.me.1 → z.me.0 ≡ knowing s.me.0 z.me.0.run → Placed s → Placed z
placed_after s z t h e p = record {
  live = ap (λ (v : View). v.live) e ∙ p.live;
  quiet = ap (λ (v : View). v.told) e ∙ p.quiet;
  no_slot = h ∙ p.no_slot;
  words = ap (λ k. k.words) t ∙ p.words ∙ ap (λ (v : View). row_length v.load) (sym e);
  accepted = subst (λ (l : Load). IsAcceptedLoad l) (ap (λ (v : View). v.load) (sym e)) p.accepted;
}

pub groups_after : (s z : S) → z.me.0 ≡ knowing s.me.0 z.me.0.run → z.me.0.groups ≡ s.me.0.groups
groups_after s z e = ap (λ (v : View). v.groups) e

pub stands_still : (load : Load) (run now : List Step) (t : ℕ) (x : PlacedTile) → known load now t ≡ known load run t → StandsAt load run t x
    → StandsAt load now t x
stands_still load run now t x e k = record { place = e ∙ k.place; room = k.room }

pub in_group : (gs : List (List ℕ)) (u : ℕ) → gs ≡ first_group gs ∷ [] → Owns (first_group gs) u → In gs u
in_group gs u e o = subst (λ (h : List (List ℕ)). In h u) (sym e) (inl o)

-- one slot changed with its tile, and the others' tiles stand as they did
pub tied_step : (slots : List (Option PlacedTile)) (load : Load) (run now : List Step) (tiles : List ℕ) (t : ℕ) (x y : PlacedTile) → Tied slots load run tiles
    → slice_get slots t ≡ Some (Some x) → StandsAt load now t y
    → ((u : ℕ) → t ≢ u → Owns tiles u → known load now u ≡ known load run u) → Tied (set slots t (Some y)) load now tiles
tied_step slots load run now tiles t x y k is here rest =
    let put : slice_get (set slots t (Some y)) t ≡ Some (Some y) = get_set_same slots t (Some y) (slice_get_within slots t (Some x) is) in
    record {
      room = length-set slots t (Some y) ∙ k.room;
      own = λ u z e. dite (ℕ_discrete t u)
          (λ same. let a : slice_get (set slots t (Some y)) t ≡ Some (Some z) =
          subst (λ (m : ℕ). slice_get (set slots t (Some y)) m ≡ Some (Some z)) (sym same) e in
          let b : Some y ≡ Some z = same_Some _ _ (sym put ∙ a) in
          let c : y ≡ z = same_Some _ _ b in
          (subst (Owns tiles) same (k.own t x is).0, subst (λ (m : ℕ). StandsAt load now m z) same (subst (λ (q : PlacedTile). StandsAt load now t q) c here)))
          (λ ne. let o = k.own u z (sym (get_set_other slots t u (Some y) (λ q. ne (sym q))) ∙ e) in (o.0, stands_still load run now u z (rest u ne o.0) o.1));
      all = λ u o. dite (ℕ_discrete t u)
          (λ same. (y, subst (λ (m : ℕ). slice_get (set slots t (Some y)) m ≡ Some (Some y)) same put))
          (λ ne. let p = k.all u o in (p.0, get_set_other slots t u (Some y) (λ q. ne (sym q)) ∙ p.1));
    }

-- no slot changed, and the run grew by steps of others
pub tied_grow : (slots : List (Option PlacedTile)) (load : Load) (run now : List Step) (tiles : List ℕ) → Tied slots load run tiles
    → ((u : ℕ) → Owns tiles u → known load now u ≡ known load run u) → Tied slots load now tiles
tied_grow slots load run now tiles k rest =
    record { room = k.room; own = λ u z e. (let o = k.own u z e in (o.0, stands_still load run now u z (rest u o.0) o.1)); all = k.all }

-- the seat after a turn
pub seated_turn : (slots : List (Option PlacedTile)) (s z : S) (t : ℕ) (x y : PlacedTile) → Seated slots s → slice_get slots t ≡ Some (Some x)
    → z.table_id ≡ s.table_id → z.me.1 ≡ s.me.1
    → StandsAt z.me.0.load z.me.0.run t y → OnlyTile s.me.0 t z.me.0 → Seated (set slots t (Some y)) z
seated_turn slots s z t x y k is table held here only =
    let g : z.me.0.groups ≡ s.me.0.groups = groups_after s z only.same in
    let same_load : z.me.0.load ≡ s.me.0.load = ap (λ (v : View). v.load) only.same in
    let start = tied_step slots s.me.0.load s.me.0.run z.me.0.run (first_group s.me.0.groups) t x y k.tied is
    (subst (λ (l : Load). StandsAt l z.me.0.run t y) same_load here)
    (λ u ne o. subst (λ (l : Load). known l z.me.0.run u ≡ known s.me.0.load s.me.0.run u) same_load
    (only.rest u ne (in_group s.me.0.groups u k.one_group o))) in
    record {
      placed = placed_after s z table held only.same k.placed;
      one_group = g ∙ k.one_group ∙ ap (λ (h : List (List ℕ)). first_group h ∷ []) (sym g);
      tied = subst (λ (q : Load × List ℕ). Tied (set slots t (Some y)) q.0 z.me.0.run q.1) (λ i. (sym same_load i, first_group (sym g i))) start;
    }

-- the seat after a look
pub saw : (i : ℕ) (s z : S) (n : ℕ) → Looked i s.me.0 n z.me.0 → z.table_id ≡ s.table_id → z.me.1 ≡ s.me.1 → Sees s z
saw i s z n l table held = record { between = l.between; others = l.others; table = table; held = held; view = l.view }

pub saw_nothing : (s : S) → Sees s s
saw_nothing s = record { between = []; others = tt; table = refl; held = refl; view = ap (knowing s.me.0) (sym (append-nil s.me.0.run)) }

module _ (s z : S) (l : Sees s z) where
  same_view : z.me.0 ≡ knowing s.me.0 z.me.0.run
  same_view = l.view ∙ ap (λ (u : View). knowing s.me.0 u.run) (sym l.view)

  placed_look : Placed s → Placed z
  placed_look = placed_after s z l.table l.held same_view

  pub seated_look : (slots : List (Option PlacedTile)) → Seated slots s → Seated slots z
  seated_look slots k =
      let p = k.placed in
      let g : z.me.0.groups ≡ s.me.0.groups = groups_after s z same_view in
      let start = tied_grow slots s.me.0.load s.me.0.run (s.me.0.run ++ l.between) (first_group s.me.0.groups) k.tied
      (λ u o. known_away s.me.0.load p.accepted s.me.0.run l.between u (away s.me.0.groups u l.between (in_group s.me.0.groups u k.one_group o) l.others)) in
      record {
        placed = placed_look k.placed;
        one_group = g ∙ k.one_group ∙ ap (λ (h : List (List ℕ)). first_group h ∷ []) (sym g);
        tied = subst (λ (v : View). Tied slots v.load v.run (first_group v.groups)) (sym l.view) start;
      }

  pub looking_look : Looking s → Looking z
  looking_look k = record { placed = placed_look k.placed; none_owned = groups_after s z same_view ∙ k.none_owned }

  knows_look : seat_knows z ≡ with_run (seat_knows s) (s.me.0.run ++ l.between)
  knows_look = λ j. record { table = l.table j; load = (l.view j).load; run = (l.view j).run; tiles = first_group (l.view j).groups }

  pub seated_grows : (v : Knowing) (slots : List (Option PlacedTile)) → seat_knows s ≡ v → Seated slots s → Grows v (seat_knows z)
  seated_grows v slots is k =
      subst (λ (u : Knowing). Grows u (seat_knows z)) is (l.between, subst (λ (h : List (List ℕ)). Others h l.between) k.one_group l.others, knows_look)

  no_group : (more : List Step) → Others ([] ∷ []) more
  no_group [] = tt
  no_group (c ∷ more) = ((λ o. ⊎_elim (λ (a : ⊥). a) (λ (a : ⊥). a) o), no_group more)

  pub looking_grows : (v : Knowing) → seat_knows s ≡ v → Looking s → Grows v (seat_knows z)
  looking_grows v is k = subst (λ (u : Knowing). Grows u (seat_knows z)) is
      (l.between, subst (λ (h : List ℕ). Others (h ∷ []) l.between) (ap first_group (sym k.none_owned)) (no_group l.between), knows_look)

-- the step is the seat's
pub not_not_mine : (k : Knowing) (c : Step) → Owns k.tiles (tile_of c) → has_choice k.load.shape c ≡ true → IsNotMine k c → ⊥
not_not_mine k c owns has neither =
    ⊎_elim (λ (f : Owns k.tiles (tile_of c) → ⊥). f owns) (λ (e : has_choice k.load.shape c ≡ false). true≢false (sym has ∙ e)) neither

-- the word that a look found is the memory's
pub looked_word : (i : ℕ) (v w : View) (n : ℕ) (l : Looked i v n w) (load : Load) → IsAcceptedLoad v.load → v.load ≡ load → (a : ℕ)
    → i ≡ channel_count load.shape * load.depth + a → n ≡ word_after w.load w.run a
looked_word i v w n l load accepted same a is =
    let words : List ℕ = l.row.0 in
    let loaded : w.load ≡ load = ap (λ (u : View). u.load) l.view ∙ same in
    let good : IsAcceptedLoad load = subst (λ (z : Load). IsAcceptedLoad z) same accepted in
    let shows : ShowsBeginning load words w.run = subst (λ (z : Load). ShowsBeginning z words w.run) loaded l.row.1 in
    l.row.2 ∙ (ap (λ j. slice_index words j) is ∙ (word_shown load good words w.run shows a ∙ ap (λ (z : Load). word_after z w.run a) (sym loaded)))
