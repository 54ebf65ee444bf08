-- What is decided by what is found of dead sets.
use Rattle.std.proofs.Common.{◌≡◌, ℕ, Bool, true, List, map, subst}
use Rattle.std.specs.Prelude.{Vec}
use Rattle.network_judge.specs.declared.table.Kind.{Kind}
use Rattle.network_judge.specs.declared.table.Join.{Join}
use Rattle.network_judge.specs.declared.table.Reply.{Reply}
use Rattle.network_adaptive.specs.Choosing.{choosing_of, IsShaped}
use Rattle.dead_sets.specs.FillingFlags.{filling_of, IsDeadBy}
use Rattle.dead_sets.specs.Greatest.{IsDeadSetOf}
use Rattle.dead_sets.specs.Deciding.{IsGreatestOf, IsDecidedOf}
use Rattle.dead_sets.specs.declared.filling.FilledChannel.{FilledChannel}
use Rattle.dead_sets.specs.declared.greatest.DeadSet.{DeadSet}
use Rattle.dead_sets.specs.declared.greatest.DeadSet.TheVariants.{Empty, Greatest}
use Rattle.dead_sets.specs.declared.deciding.Decided.{Decided}
use Rattle.dead_sets.specs.declared.deciding.Decided.TheVariants.{Rises, Fills, Open}

module _ {A : Type 0} (kinds : List Kind) (joins : List Join) (replies : List Reply) (ways : ℕ) (choices : List ℕ) (marks : List Bool)
    (shaped : IsShaped (choosing_of kinds joins ways choices marks)) (found : DeadSet A) (holds : IsDeadSetOf kinds joins replies ways choices found) where
  pub rises : (numbers : Vec ℕ A) → found ≡ Empty numbers → IsDecidedOf {A = A} (choosing_of kinds joins ways choices marks) replies (Rises numbers)
  rises numbers is =
      let w = subst (λ (d : DeadSet A). IsDeadSetOf kinds joins replies ways choices d) is holds in
      (w.0, w.1 marks shaped)

  pub greatest : (flags : Vec Bool A) → found ≡ Greatest flags → IsGreatestOf (choosing_of kinds joins ways choices marks) replies flags.items
  greatest flags is =
      let w = subst (λ (d : DeadSet A). IsDeadSetOf kinds joins replies ways choices d) is holds in
      record { size = w.0; some = w.1; greatest = w.2 marks shaped }

  pub fills : (flags : Vec Bool A) (items : Vec (FilledChannel A) A) → found ≡ Greatest flags
      → IsDeadBy (choosing_of kinds joins ways choices marks) replies (map filling_of items.items) true
      → IsDecidedOf {A = A} (choosing_of kinds joins ways choices marks) replies (Fills flags items)
  fills flags items is dead = (greatest flags is, dead)
