-- What is found of the dead sets of a network of choices.
use Rattle.std.specs.Prelude.{◌≡◌, ℕ, ◌<◌, Bool, true, List, length, slice_index}
use Rattle.network_judge.specs.declared.table.Kind.{Kind}
use Rattle.network_judge.specs.declared.table.Join.{Join}
use Rattle.network_judge.specs.declared.table.Reply.{Reply}
use Rattle.network_judge.specs.TableNet.{Flits}
use Rattle.network_judge.specs.Marks.{is_marked_at}
use Rattle.network_adaptive.specs.Choosing.{ChoiceTable, choosing_of, network, IsShaped}
use Rattle.network_adaptive.specs.Judged.{answers_of}
use Rattle.deadlock_laws.specs.DeadSets.{HasRisingChoices, IsGreatestDeadSet}
use Rattle.dead_sets.specs.Numbers.{AreFlagsOfLeft, AreNumbers}
use Rattle.dead_sets.specs.declared.greatest.DeadSet.{DeadSet}
use Rattle.dead_sets.specs.declared.greatest.DeadSet.TheVariants.{Empty, Greatest}

-- choices of the network of some lists rise by these numbers, whatever the depth and the flits
abbrev pub RiseBy : ChoiceTable → List Reply → List ℕ → Type 0
RiseBy t replies numbers = (depth : ℕ) (flits : Flits)
    → HasRisingChoices (network t depth flits) (answers_of replies) (slice_index numbers)

-- flags of its greatest dead set
abbrev pub AreGreatest : ChoiceTable → List Reply → List Bool → Type 0
AreGreatest t replies flags = (depth : ℕ) (flits : Flits)
    → IsGreatestDeadSet (network t depth flits) (answers_of replies) (is_marked_at flags)

-- what is found by how many cases are left in each channel, and by the order in which the others were
-- struck out
abbrev pub IsFoundBy : {A : Type 0} → List ℕ → List ℕ → DeadSet A → Type 0
IsFoundBy left order (Empty numbers) =
    ((x : ℕ) → x < length left → slice_index left x ≡ 0)
    × AreNumbers (length left) order numbers.items
IsFoundBy left order (Greatest flags) =
    AreFlagsOfLeft left flags.items × ((x : ℕ) × (is_marked_at flags.items x ≡ true))

-- exactly what is found, whichever channels are escapes: numbers by which choices rise, so that no
-- channel is in a dead set, or the greatest dead set, which has some channel
abbrev pub IsDeadSetOf : {A : Type 0} → List Kind → List Join → List Reply → ℕ → List ℕ
    → DeadSet A → Type 0
IsDeadSetOf kinds joins replies ways choices (Empty numbers) =
    (length numbers.items ≡ length kinds)
    × ((marks : List Bool) → IsShaped (choosing_of kinds joins ways choices marks)
    → RiseBy (choosing_of kinds joins ways choices marks) replies numbers.items)
IsDeadSetOf kinds joins replies ways choices (Greatest flags) =
    (length flags.items ≡ length kinds) × ((x : ℕ) × (is_marked_at flags.items x ≡ true))
    × ((marks : List Bool) → IsShaped (choosing_of kinds joins ways choices marks)
    → AreGreatest (choosing_of kinds joins ways choices marks) replies flags.items)
