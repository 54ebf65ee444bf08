-- The end: what a seat that has every tile leaves when it is closed, and what is read there.
use Rattle.std.proofs.Common.{◌≡◌, ℕ, zero, suc, ◌+◌, ◌*◌, ◌<◌, ◌≤◌, List, [], ◌∷◌, length, get_or, get_or-take, Option, Some, None, refl, sym, ap, ◌∙◌}
use Rattle.std.proofs.Common.{subst, arith, vec_len, inl}
use Rattle.std.specs.Prelude.{Vec, slice_get}
use Rattle.std.proofs.Math.Seq.{take-length}
use Rattle.std.proofs.lemmas.Option.{same_Some, slice_get_past, slice_get_within, slice_get-get_or}
use mathlib.Core.Option.{some, some-ne-none, some-injective}
use lib.ListN.{get_elem?}
use Rattle.atomic_table.specs.declared.shared.Seat.{Seat}
use Rattle.atomic_table.specs.Table.{State}
use Rattle.torus.specs.Shape.{Shape, tiles_of}
use Rattle.torus.specs.declared.step.Step.{Step}
use Rattle.channel_number.specs.Order.{channel_count}
use Rattle.one_order.specs.Observed.{Observed}
use Rattle.fabric_rule.specs.Placed.{PlacedTile}
use Rattle.fabric_rule.specs.Core.{Load, after, show}
use Rattle.fabric_rule.specs.Runs.{IsAcceptedLoad}
use Rattle.fabric_rule.proofs.Lawful.{lawful}
use Rattle.fabric_rule.specs.Known.{ShowsBeginning, word_after, row_length}
use Rattle.fabric_rule.specs.View.{View}
use Rattle.fabric_rule.specs.Groups.{In, with_groups, note}
use Rattle.fabric_rule.specs.Rule.{Kept}
use Rattle.fabric_rule.proofs.Ending as ending
use Rattle.fabric_rule.proofs.Runs.{word_shown}
use Rattle.fabric.specs.Table.{Holds}
use Rattle.fabric.specs.Seats.{Knowing, seat_knows, Seated, IsWhole, StandsAt}
use Rattle.fabric.specs.Ending.{Ended, ended, IsLongest, WasLongest, shown_after, HasAll, IsEnd}
use Rattle.fabric.proofs.Seating.{in_group}
use Rattle.fabric.proofs.Sharing.{ends}
use Rattle.fabric.proofs.EndsShown.{closed_tiles, slot_at}

abbrev S : Type 0
S = Seat (Unit {0}) View

-- no seat's run exceeds that of a seat that has every tile
pub longest : (k : Knowing) → IsWhole k → IsLongest k
longest k whole words views r id other v u kept at same tiles there =
    let all : (t : ℕ) → t < tiles_of k.load.shape → In v.groups t = λ t lt. subst (λ (gs : List (List ℕ)). In gs t) (sym tiles) (inl (whole t lt)) in
    let fit = kept.fits other u there in
    let begins = fit.begins in
    (begins.0, sym same ∙ (ending.ends k.load words views r id v kept at all ∙ begins.1))

-- the row at the end, shown by the table's last state, where the seat has every tile
whole_row : (load : Load) (slots : List (Option PlacedTile)) (s n : S) (st : State (Unit {0}) View) → Seated slots s → s.me.0.load ≡ load
    → n.me.0 ≡ with_groups s.me.0 s.me.0.groups → IsWhole (seat_knows s)
    → Holds load st → get_elem? st.views n.id ≡ some n.me.0 → ShowsBeginning s.me.0.load st.words s.me.0.run
whole_row load slots s n st k same e whole h at =
    let all : (t : ℕ) → t < tiles_of load.shape → In n.me.0.groups t
    = λ t lt. subst (λ (v : View). In v.groups t) (sym e)
    (in_group s.me.0.groups t k.one_group (whole t (subst (λ (l : Load). t < tiles_of l.shape) (sym same) lt))) in
    subst (λ (l : Load). ShowsBeginning l st.words s.me.0.run) (sym same) (subst (λ (v : View). ShowsBeginning load st.words v.run) e (ends load n.id n.me.0 st h at all))

-- what is kept when a seat that has every tile is closed: n is the seat then, and b a seat that was told of its run
pub is_end : (load : Load) (slots : List (Option PlacedTile)) (s n b : S) (st : State (Unit {0}) View) (v : Knowing) (start : ℕ) (shape : Shape)
    (first : List ℕ) → seat_knows s ≡ v → Seated slots s → v.load ≡ load → IsWhole v
    → n.me.0 ≡ with_groups s.me.0 s.me.0.groups → b.me.0 ≡ note s.me.0 → Holds load st → get_elem? st.views n.id ≡ some n.me.0
    → start ≡ channel_count load.shape * load.depth → shape ≡ load.shape → first ≡ load.opening → IsEnd (ended b.me.0) slots st.words start shape first
is_end load slots s n b st v start shape first is k loaded whole e f h at base built words =
    let same : s.me.0.load ≡ load = ap (λ (u : Knowing). u.load) is ∙ loaded in
    let all : IsWhole (seat_knows s) = subst IsWhole (sym is) whole in
    let here : IsEnd (ended s.me.0) slots st.words start shape first = record {
      accepted = k.placed.accepted;
      tiles = closed_tiles slots s (seat_knows s) refl k all;
      row = whole_row load slots s n st k same e all h at;
      base = base ∙ ap (λ (l : Load). channel_count l.shape * l.depth) (sym same);
      torus = built ∙ ap (λ (l : Load). l.shape) (sym same);
      opening = words ∙ ap (λ (l : Load). l.opening) (sym same);
    } in
    subst (λ (u : View). IsEnd (ended u) slots st.words start shape first) (sym f) here

-- the table's last state keeps the rule, with the run of a seat that has every tile as the longest: n is the seat then
pub was_longest : (load : Load) (slots : List (Option PlacedTile)) (s n : S) (st : State (Unit {0}) View) (v : Knowing) → seat_knows s ≡ v → Seated slots s
    → v.load ≡ load → IsWhole v
    → n.me.0 ≡ with_groups s.me.0 s.me.0.groups → Holds load st → get_elem? st.views n.id ≡ some n.me.0 → WasLongest v
was_longest load slots s n st v is k loaded whole e h at =
    let loads : n.me.0.load ≡ v.load = ap (λ (u : View). u.load) e ∙ ap (λ (u : Knowing). u.load) is in
    let runs : n.me.0.run ≡ v.run = ap (λ (u : View). u.run) e ∙ ap (λ (u : Knowing). u.run) is in
    let tiles : n.me.0.groups ≡ v.tiles ∷ [] = ap (λ (u : View). u.groups) e ∙ k.one_group ∙ ap (λ (u : Knowing). u.tiles ∷ []) is in
    let kept : Kept v.load st.words st.views h.0 = subst (λ (l : Load). Kept l st.words st.views h.0) (sym loaded) h.1 in
    let all : (t : ℕ) → t < tiles_of v.load.shape → In n.me.0.groups t = λ t lt. subst (λ (gs : List (List ℕ)). In gs t) (sym tiles) (inl (whole t lt)) in
    let last : h.0 ≡ v.run = sym (ending.ends v.load st.words st.views h.0 n.id n.me.0 kept at all) ∙ runs in
    record {
      words = st.words;
      views = st.views;
      kept = subst (λ (r : List Step). Kept v.load st.words st.views r) last kept;
      own = (n.id, n.me.0, at, (loads, runs, tiles));
      longest = λ id u there. longest v whole st.words st.views h.0 n.id id n.me.0 u kept at runs tiles there;
    }

-- the load of the seat that was told is that of the fabric
pub same_load : (s b : S) (v : Knowing) (load : Load) → seat_knows s ≡ v → v.load ≡ load → b.me.0 ≡ note s.me.0 → row_length b.me.0.load ≡ row_length load
same_load s b v load is loaded f = ap (λ (u : View). row_length u.load) f ∙ ap row_length (ap (λ (k : Knowing). k.load) is ∙ loaded)

-- the tile in a slot at the end
module _ (slots : List (Option PlacedTile)) (last : Ended) where
  pub tile_missing : (t : ℕ) → HasAll slots last.load last.run → slice_get slots t ≡ Some None → ⊥
  tile_missing t all at =
      let n = all.room in
      let x = all.each t (let lt = slice_get_within slots t None at in omega (arith, n, lt)) in
      empty (same_Some _ _ (sym at ∙ x.1))
    where
      empty : {x : PlacedTile} → None ≡ Some x → ⊥
      empty e = cc

  pub tile_there : (end : Ended) (t : ℕ) (o : Option PlacedTile) → last ≡ end → HasAll slots last.load last.run → slice_get slots t ≡ Some o
      → t < tiles_of end.load.shape
  tile_there end t o is all at =
      let n = all.room in
      let lt = slice_get_within slots t o at in
      subst (λ (e : Ended). t < tiles_of e.load.shape) is (omega (arith, n, lt))

  pub tile_stands : (end : Ended) (t : ℕ) (y : PlacedTile) → last ≡ end → HasAll slots last.load last.run → slice_get slots t ≡ Some (Some y)
      → StandsAt end.load end.run t y
  tile_stands end t y is all at =
      let n = all.room in
      let x = all.each t (let lt = slice_get_within slots t (Some y) at in omega (arith, n, lt)) in
      let same : x.0 ≡ y = same_Some _ _ (same_Some _ _ (sym x.1 ∙ at)) in
      subst (λ (e : Ended). StandsAt e.load e.run t y) is (subst (λ (z : PlacedTile). StandsAt last.load last.run t z) same x.2)

-- an element of the row
elem_index : (l : List ℕ) (i a : ℕ) → get_elem? l i ≡ some a → a ≡ get_or l i 0
elem_index [] i a e = absurd (some-ne-none a (sym e))
elem_index (x ∷ l) zero a e = sym (some-injective x a e)
elem_index (x ∷ l) (suc i) a e = elem_index l i a e

-- the memory that is shown stands in the row behind the places
memory_count : (load : Load) (run : List Step) → IsAcceptedLoad load → length (shown_after load run).memory ≡ length load.opening
memory_count load run ok =
    subst (λ (s : Observed). length s.memory ≡ length load.opening) (ap (λ (xs : List Step). show (length load.opening) (after load xs)) (take-length run))
    (lawful load ok run).order.shown.size

pub word_at : (load : Load) (run : List Step) (row : List ℕ) (start a n : ℕ) → IsAcceptedLoad load → ShowsBeginning load row run
    → start ≡ channel_count load.shape * load.depth → a < length load.opening → get_elem? row (start + a) ≡ some n
    → Some n ≡ slice_get (shown_after load run).memory a
unfolding word_after
word_at load run row start a n ok shows base h at =
    let m = memory_count load run ok in
    ap Some (elem_index row (start + a) n at
    ∙ (ap (λ (k : ℕ). get_or row (k + a) 0) base
    ∙ (word_shown load ok row run shows a ∙ sym (get_or-take (length load.opening) (after load run).around.words a 0 h))))
    ∙ sym (slice_get-get_or (shown_after load run).memory a 0 (omega (arith, m, h)))

pub no_word_at : (load : Load) (run : List Step) (a : ℕ) → IsAcceptedLoad load → length load.opening ≤ a → None ≡ slice_get (shown_after load run).memory a
no_word_at load run a ok h = sym (slice_get_past (shown_after load run).memory a (let m = memory_count load run ok in omega (arith, m, h)))

-- the words that were loaded, in a vector
pub opening_at : {B : Type 0} (v : Vec ℕ B) (words : List ℕ) (k x : ℕ) → k < vec_len v → x ≡ get_or v.items k x → v.items ≡ words → Some x ≡ slice_get words k
opening_at v words k x lt e is = sym (slot_at v k x x lt e refl) ∙ ap (λ (l : List ℕ). slice_get l k) is

pub no_opening_at : {B : Type 0} (v : Vec ℕ B) (words : List ℕ) (k : ℕ) → vec_len v ≤ k → v.items ≡ words → None ≡ slice_get words k
no_opening_at v words k h is = sym (slice_get_past v.items k (let n = v.ok.0 in omega (arith, n, h))) ∙ ap (λ (l : List ℕ). slice_get l k) is
