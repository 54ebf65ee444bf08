-- Seats that were put together, learned of both runs, and were cut again.
use Rattle.std.proofs.Common.{◌≡◌, ◌⊎◌, ⊎_elim, None, ℕ, List, [], ◌∷◌, ◌++◌, length, Option, Some, refl, sym, ap, ◌∙◌, subst, inl, inr}
use Rattle.std.specs.Prelude.{slice_get}
use Rattle.std.proofs.lemmas.List.{append-nil}
use Rattle.atomic_table.specs.declared.shared.Seat.{Seat}
use Rattle.torus.specs.declared.step.Step.{Step}
use Rattle.fabric_rule.specs.Placed.{PlacedTile}
use Rattle.fabric_rule.specs.Core.{Load}
use Rattle.fabric_rule.specs.Runs.{IsAcceptedLoad}
use Rattle.fabric_rule.specs.Known.{tile_of, known, row_length}
use Rattle.fabric_rule.specs.View.{View}
use Rattle.fabric_rule.specs.Groups.{Owns, In, Others, GroupGoesOn, Extends, flat, first_group, other_groups, with_groups, first_half, second_half, both, knowing}
use Rattle.fabric_rule.specs.Rule.{Learned}
use Rattle.fabric_rule.proofs.Groups.{away, owns_append, owns_left, owns_right}
use Rattle.fabric_rule.proofs.Runs.{known_away}
use Rattle.fabric.specs.Seats.{Knowing, seat_knows, with_run, Tied, Placed, Seated, Looking, Learns, JoinsTo, mix_at}
use Rattle.fabric.proofs.Seating.{tied_grow, in_group}

abbrev S : Type 0
S = Seat (Unit {0}) View

-- a seat z is the seat s, whose run went on to this one
abbrev pub IsOn : S → List Step → S → Type 0
IsOn s run z = (z.table_id ≡ s.table_id) × (z.me.1 ≡ []) × (z.me.0 ≡ with_groups (knowing s.me.0 run) s.me.0.groups)

pub placed_on : (s z : S) (run : List Step) → IsOn s run z → Placed s → Placed z
placed_on s z run on p = record {
  live = ap (λ (v : View). v.live) on.2 ∙ p.live;
  quiet = ap (λ (v : View). v.told) on.2;
  no_slot = on.1;
  words = ap (λ k. k.words) on.0 ∙ p.words ∙ ap (λ (v : View). row_length v.load) (sym on.2);
  accepted = subst (λ (l : Load). IsAcceptedLoad l) (ap (λ (v : View). v.load) (sym on.2)) p.accepted;
}

pub seated_on : (slots : List (Option PlacedTile)) (s z : S) (run : List Step) → IsOn s run z → GroupGoesOn s.me.0.groups run s.me.0.run → Seated slots s
    → Seated slots z
seated_on slots s z run on go k =
    let p = k.placed in
    let grown = tied_grow slots s.me.0.load s.me.0.run (s.me.0.run ++ go.0) (first_group s.me.0.groups) k.tied
    (λ u o. known_away s.me.0.load p.accepted s.me.0.run go.0 u (away s.me.0.groups u go.0 (in_group s.me.0.groups u k.one_group o) go.2)) in
    let now : Tied slots s.me.0.load run (first_group s.me.0.groups) =
    subst (λ (l : List Step). Tied slots s.me.0.load l (first_group s.me.0.groups)) (sym go.1) grown in
    record {
      placed = placed_on s z run on k.placed;
      one_group = subst (λ (v : View). v.groups ≡ first_group v.groups ∷ []) (sym on.2) k.one_group;
      tied = subst (λ (v : View). Tied slots v.load v.run (first_group v.groups)) (sym on.2) now;
    }

pub looking_on : (s z : S) (run : List Step) → IsOn s run z → Looking s → Looking z
looking_on s z run on k = record { placed = placed_on s z run on k.placed; none_owned = ap (λ (v : View). v.groups) on.2 ∙ k.none_owned }

pub knows_on : (s z : S) (run : List Step) → IsOn s run z → seat_knows z ≡ with_run (seat_knows s) run
knows_on s z run on = λ i. record { table = on.0 i; load = (on.2 i).load; run = (on.2 i).run; tiles = first_group (on.2 i).groups }

-- what was learned, of both
module _ (v w z : View) (gs : List (List ℕ)) (l : Learned (both v w) gs z) where
  pub from_one : GroupGoesOn v.groups z.run v.run
  from_one = l.told.0

  pub from_other : GroupGoesOn w.groups z.run w.run
  from_other = l.told.2.0

pub learned_at : (u v z : View) → u ≡ v → Learned u u.groups z → Learned v v.groups z
learned_at u v z e l = subst (λ (x : View). Learned x x.groups z) e l

module _ (v w z : View) (l : Learned (both v w) (both v w).groups z) (one : v.groups ≡ first_group v.groups ∷ []) where
  pub first_is : first_half z ≡ with_groups (knowing v z.run) v.groups
  first_is = (λ i. record { live = (l.view i).live; load = (l.view i).load; run = z.run; groups = first_group (l.view i).groups ∷ []; told = [] })
      ∙ ap (λ (gs : List (List ℕ)). with_groups (knowing v z.run) (first_group (gs ++ w.groups) ∷ [])) one ∙ ap (with_groups (knowing v z.run)) (sym one)

  pub second_is : v.live ≡ w.live → v.load ≡ w.load → second_half z ≡ with_groups (knowing w z.run) w.groups
  second_is p q = (λ i. record { live = (l.view i).live; load = (l.view i).load; run = z.run; groups = other_groups (l.view i).groups; told = [] })
      ∙ ap (λ (gs : List (List ℕ)). with_groups (knowing v z.run) (other_groups (gs ++ w.groups))) one
      ∙ (λ i. record { live = p i; load = q i; run = z.run; groups = w.groups; told = [] })

-- a seat with no group that learned keeps none
pub bare_is : (v w z : View) → Learned (both v w) (both v w).groups z → w.groups ≡ [] → z ≡ with_groups (knowing v z.run) v.groups
bare_is v w z l none = l.view ∙ ap (with_groups (knowing v z.run)) (ap (λ (gs : List (List ℕ)). v.groups ++ gs) none ∙ append-nil v.groups)

bare_others : (more : List Step) → Others ([] ∷ []) more
bare_others [] = tt
bare_others (st ∷ more) = (none, bare_others more)
  where
    none : In ([] ∷ []) (tile_of st) → ⊥
    none (inl o) = o
    none (inr i) = i

pub bare_goes : (gs : List (List ℕ)) (r a : List Step) → gs ≡ [] → GroupGoesOn gs r a → GroupGoesOn (first_group gs ∷ []) r a
bare_goes gs r a none go = (go.0, go.1, subst (λ (h : List (List ℕ)). Others (first_group h ∷ []) go.0) (sym none) (bare_others go.0))

pub learns_said : (s o z : S) (v u : Knowing) → seat_knows s ≡ v → seat_knows o ≡ u → seat_knows z ≡ with_run (seat_knows s) z.me.0.run
    → GroupGoesOn (first_group s.me.0.groups ∷ []) z.me.0.run s.me.0.run → Extends z.me.0.run o.me.0.run → Learns v u (seat_knows z)
learns_said s o z v u e f known go begins =
    subst (λ (k : Knowing). Learns k u (seat_knows z)) e (subst (λ (k : Knowing). Learns (seat_knows s) k (seat_knows z)) f (known, go, begins))

-- what a seat learned that was put together with another
pub learns_on : (s o z : S) (v u : Knowing) (run : List Step) (gs : List (List ℕ)) → IsOn s run z → seat_knows s ≡ v → seat_knows o ≡ u
    → s.me.0.groups ≡ first_group s.me.0.groups ∷ []
    → GroupGoesOn s.me.0.groups run s.me.0.run → GroupGoesOn gs run o.me.0.run → Learns v u (seat_knows z)
learns_on s o z v u run gs on e f one own other =
    let same : z.me.0.run ≡ run = ap (λ (x : View). x.run) on.2 in
    learns_said s o z v u e f (knows_on s z run on ∙ ap (with_run (seat_knows s)) (sym same))
    (subst (λ (l : List Step). GroupGoesOn (first_group s.me.0.groups ∷ []) l s.me.0.run) (sym same)
    (subst (λ (hs : List (List ℕ)). GroupGoesOn hs run s.me.0.run) one own))
    (subst (λ (l : List Step). Extends l o.me.0.run) (sym same) (other.0, other.1))

-- of two beginnings of one list, one begins with the other
pub two_begins : (a x b y : List Step) → a ++ x ≡ b ++ y → Extends a b ⊎ Extends b a
two_begins [] x b y e = inr (b, refl)
two_begins (c ∷ a) x [] y e = inl (c ∷ a, refl)
two_begins (c ∷ a) x (d ∷ b) y e = let h : c ≡ d = cc in let t : a ++ x ≡ b ++ y = cc in
    ⊎_elim (λ (p : Extends a b). inl (p.0, λ i. h i ∷ p.1 i)) (λ (p : Extends b a). inr (p.0, λ i. sym h i ∷ p.1 i)) (two_begins a x b y t)

-- the tiles of two seats in the slots of one
mix_own : (p q : Option (Option PlacedTile)) (x : PlacedTile) → mix_at p q ≡ Some (Some x) → (p ≡ Some (Some x)) ⊎ (q ≡ Some (Some x))
mix_own p None x e = inl e
mix_own p (Some None) x e = inl e
mix_own p (Some (Some y)) x e = inr e

mix_left : (p q : Option (Option PlacedTile)) (x : PlacedTile) → p ≡ Some (Some x) → (y : PlacedTile) × (mix_at p q ≡ Some (Some y))
mix_left p None x e = (x, e)
mix_left p (Some None) x e = (x, e)
mix_left p (Some (Some y)) x e = (y, refl)

mix_right : (p q : Option (Option PlacedTile)) (x : PlacedTile) → q ≡ Some (Some x) → (y : PlacedTile) × (mix_at p q ≡ Some (Some y))
mix_right p q x e = (x, ap (mix_at p) e)

tied_mix : (one other slots : List (Option PlacedTile)) (load : Load) (run : List Step) (a b : List ℕ) → Tied one load run a → Tied other load run b
    → length slots ≡ length one → ((k : ℕ) → slice_get slots k ≡ mix_at (slice_get one k) (slice_get other k))
    → Tied slots load run (a ++ b)
tied_mix one other slots load run a b k m len at = record {
  room = len ∙ k.room;
  own = λ t x e. ⊎_elim
      (λ (p : slice_get one t ≡ Some (Some x)). let o = k.own t x p in (owns_left a b t o.0, o.1))
      (λ (p : slice_get other t ≡ Some (Some x)). let o = m.own t x p in (owns_right a b t o.0, o.1))
      (mix_own (slice_get one t) (slice_get other t) x (sym (at t) ∙ e));
  all = λ t o. ⊎_elim
      (λ (p : Owns a t). let q = k.all t p in let y = mix_left (slice_get one t) (slice_get other t) q.0 q.1 in (y.0, at t ∙ y.1))
      (λ (p : Owns b t). let q = m.all t p in let y = mix_right (slice_get one t) (slice_get other t) q.0 q.1 in (y.0, at t ∙ y.1))
      (owns_append a b t o);
}

grown_tied : (slots : List (Option PlacedTile)) (s : S) (run : List Step) → GroupGoesOn s.me.0.groups run s.me.0.run → Seated slots s
    → Tied slots s.me.0.load run (first_group s.me.0.groups)
grown_tied slots s run go k = let p = k.placed in subst (λ (l : List Step). Tied slots s.me.0.load l (first_group s.me.0.groups)) (sym go.1)
    (tied_grow slots s.me.0.load s.me.0.run (s.me.0.run ++ go.0) (first_group s.me.0.groups) k.tied
    (λ u o. known_away s.me.0.load p.accepted s.me.0.run go.0 u (away s.me.0.groups u go.0 (in_group s.me.0.groups u k.one_group o) go.2)))

pub flat_two : (gs hs : List (List ℕ)) → gs ≡ first_group gs ∷ [] → hs ≡ first_group hs ∷ [] → flat (gs ++ hs) ≡ first_group gs ++ first_group hs
flat_two gs hs e f = (λ i. flat (e i ++ f i)) ∙ ap (λ (l : List ℕ). first_group gs ++ l) (append-nil (first_group hs))

pub seated_joined : (one other slots : List (Option PlacedTile)) (s o z : S) → Seated one s → Seated other o → s.me.0.load ≡ o.me.0.load
    → Learned (both s.me.0 o.me.0) (flat (s.me.0.groups ++ o.me.0.groups) ∷ []) z.me.0 → z.table_id ≡ s.table_id → z.me.1 ≡ []
    → length slots ≡ length one → ((k : ℕ) → slice_get slots k ≡ mix_at (slice_get one k) (slice_get other k)) → Seated slots z
seated_joined one other slots s o z k m same l table held len at =
    let t1 = grown_tied one s z.me.0.run (from_one s.me.0 o.me.0 z.me.0 _ l) k in
    let t2 = subst (λ (x : Load). Tied other x z.me.0.run (first_group o.me.0.groups)) (sym same)
    (grown_tied other o z.me.0.run (from_other s.me.0 o.me.0 z.me.0 _ l) m) in
    let t = tied_mix one other slots s.me.0.load z.me.0.run (first_group s.me.0.groups) (first_group o.me.0.groups) t1 t2 len at in
    record {
      placed = let p = k.placed in record {
        live = ap (λ (v : View). v.live) l.view ∙ p.live;
        quiet = ap (λ (v : View). v.told) l.view;
        no_slot = held;
        words = ap (λ x. x.words) table ∙ p.words ∙ ap (λ (v : View). row_length v.load) (sym l.view);
        accepted = subst (λ (x : Load). IsAcceptedLoad x) (ap (λ (v : View). v.load) (sym l.view)) p.accepted;
      };
      one_group = subst (λ (v : View). v.groups ≡ first_group v.groups ∷ []) (sym l.view) refl;
      tied = subst (λ (v : View). Tied slots v.load v.run (first_group v.groups)) (sym l.view)
          (subst (λ (g : List ℕ). Tied slots s.me.0.load z.me.0.run g) (sym (flat_two s.me.0.groups o.me.0.groups k.one_group m.one_group)) t);
    }

pub joins_said : (s o z : S) (v u : Knowing) → seat_knows s ≡ v → seat_knows o ≡ u → s.me.0.groups ≡ first_group s.me.0.groups ∷ []
    → o.me.0.groups ≡ first_group o.me.0.groups ∷ [] → Learned (both s.me.0 o.me.0) (flat (s.me.0.groups ++ o.me.0.groups) ∷ []) z.me.0
    → z.table_id ≡ s.table_id → JoinsTo v u (seat_knows z)
joins_said s o z v u e f g h l table =
    subst (λ (k : Knowing). JoinsTo k u (seat_knows z)) e (subst (λ (k : Knowing). JoinsTo (seat_knows s) k (seat_knows z)) f (
      table,
      ap (λ (x : View). x.load) l.view,
      ap (λ (x : View). first_group x.groups) l.view ∙ flat_two s.me.0.groups o.me.0.groups g h,
      (let a = from_one s.me.0 o.me.0 z.me.0 _ l in (a.0, a.1, subst (λ (gs : List (List ℕ)). Others gs a.0) g a.2)),
      (let a = from_other s.me.0 o.me.0 z.me.0 _ l in (a.0, a.1, subst (λ (gs : List (List ℕ)). Others gs a.0) h a.2)),
    ))
