-- What a seat counts as asleep as it is made.
use Rattle.std.proofs.Common.{◌≡◌, ℕ, ◌-◌, List, [], ◌∷◌, sym, inl, subst, arith}
use Rattle.atomic_table.specs.Seated.{TableId}
use Rattle.atomic_table.specs.declared.shared.Seat.{Seat}
use Rattle.torus.specs.declared.step.Step.{Step}
use Rattle.fabric_rule.specs.View.{View}
use Rattle.fabric_rule.specs.Groups.{In, first_group, first_half}
use Rattle.fabric_rule.specs.Border.{AreOf}
use Rattle.fabric_rule.specs.Counted.{Counted, AreRight}
use Rattle.fabric.specs.Key.{count_up}
use Rattle.fabric.specs.Opening.{HasRest}
use Rattle.fabric.proofs.Counting.{RightOf}
use Rattle.fabric.proofs.Ranges.{count_owns}

abbrev S : Type 0
S = Seat (Unit {0}) View

pub right_start : (z : TableId) (s q : S) (from to : ℕ) → HasRest z s.me.0.load s.me.0.groups s → q.me.0 ≡ first_half s.me.0
    → first_group s.me.0.groups ≡ count_up from (to - from) → (f : Counted)
    → ((gs : List (List ℕ)) → AreOf gs from to → AreRight s.me.0.load [] gs f) → RightOf q.me.0 f
right_start z s q from to h half group f right =
    let own : AreOf (first_group s.me.0.groups ∷ []) from to =
    λ t lo hi. subst (λ (g : List ℕ). In (g ∷ []) t) (sym group) (inl (count_owns from (to - from) t lo (omega (arith, lo, hi)))) in
    subst (λ (v : View). RightOf v f) (sym half)
    (subst (λ (r : List Step). AreRight s.me.0.load r (first_group s.me.0.groups ∷ []) f) (sym h.run) (right (first_group s.me.0.groups ∷ []) own))
