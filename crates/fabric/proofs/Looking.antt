-- Seats that only look, cut off one after the other from one such.
use Rattle.std.proofs.Common.{◌≡◌, ℕ, zero, suc, ◌+◌, List, [], ◌∷◌, ◌++◌, replicate, refl, ap, ◌∙◌, arith}
use Rattle.atomic_table.specs.Seated.{TableId}
use Rattle.atomic_table.specs.declared.shared.Seat.{Seat}
use Rattle.fabric_rule.specs.Core.{Load}
use Rattle.fabric_rule.specs.View.{View}
use Rattle.fabric_rule.specs.Groups.{first_group, with_groups, note}
use Rattle.fabric.specs.Seats.{Knowing, seat_knows, Looking}
use Rattle.fabric.specs.Opening.{fresh, HasRest}
use Rattle.fabric.proofs.Fresh.{placed_half}

abbrev S : Type 0
S = Seat (Unit {0}) View

-- what is left, and what was cut off
module _ (z : TableId) (load : Load) (s q : S) (h : HasRest z load [] s) (table : q.table_id ≡ s.table_id) where
  pub rest_stays : q.me.1 ≡ s.me.1 → q.me.0 ≡ with_groups s.me.0 s.me.0.groups → HasRest z load [] q
  rest_stays held e = record {
    table = table ∙ h.table;
    placed = placed_half s q s.me.0.groups table (held ∙ h.placed.no_slot) e h.placed;
    loaded = ap (λ (v : View). v.load) e ∙ h.loaded;
    run = ap (λ (v : View). v.run) e ∙ h.run;
    grouped = ap (λ (v : View). v.groups) e ∙ h.grouped;
  }

  pub looks_on : q.me.1 ≡ [] → q.me.0 ≡ note s.me.0 → Looking q
  looks_on held e = record { placed = placed_half s q [] table held e h.placed; none_owned = ap (λ (v : View). v.groups) e }

  pub knows_load : q.me.0 ≡ note s.me.0 → seat_knows q ≡ fresh z load []
  knows_load e = λ i. record {
    table = (table ∙ h.table) i;
    load = (ap (λ (v : View). v.load) e ∙ h.loaded) i;
    run = (ap (λ (v : View). v.run) e ∙ h.run) i;
    tiles = first_group (e i).groups;
  }

replicate_more : (n : ℕ) (x : Knowing) → replicate n x ++ x ∷ [] ≡ replicate (n + 1) x
replicate_more zero x = refl
replicate_more (suc n) x =
    ap (λ (l : List Knowing). x ∷ l) (replicate_more n x) ∙ ap (λ (k : ℕ). replicate k x) (let e : suc (n + 1) ≡ suc n + 1 = omega arith in e)

pub one_looker_more : (xs ys : List Knowing) (one x : Knowing) (n : ℕ) → xs ≡ replicate n x → ys ≡ xs ++ one ∷ [] → one ≡ x → ys ≡ replicate (n + 1) x
one_looker_more xs ys one x n so_far push is =
    push ∙ (ap (λ (k : Knowing). xs ++ k ∷ []) is ∙ (ap (λ (l : List Knowing). l ++ x ∷ []) so_far ∙ replicate_more n x))

-- what HasRest says of a seat, by the load and the groups that the seat knows itself
pub rest_itself : (z : TableId) (load : Load) (gs : List (List ℕ)) (s : S) → HasRest z load gs s → HasRest z s.me.0.load s.me.0.groups s
rest_itself z load gs s h = record { table = h.table; placed = h.placed; loaded = refl; run = h.run; grouped = refl }
