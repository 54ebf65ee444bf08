-- What is decided of deadlocks with packets of one flit.
use Rattle.std.specs.Prelude.{◌≡◌, ℕ, Bool, true, List, length, map}
use Rattle.network_judge.specs.declared.table.Reply.{Reply}
use Rattle.network_judge.specs.Marks.{is_marked_at}
use Rattle.network_adaptive.specs.Choosing.{ChoiceTable}
use Rattle.dead_sets.specs.Greatest.{RiseBy, AreGreatest}
use Rattle.dead_sets.specs.FillingFlags.{filling_of, IsDeadBy}
use Rattle.dead_sets.specs.declared.deciding.Decided.{Decided}
use Rattle.dead_sets.specs.declared.deciding.Decided.TheVariants.{Rises, Fills, Open}

-- the flags of the greatest dead set of a network, which has some channel
pub record IsGreatestOf (t : ChoiceTable) (replies : List Reply) (flags : List Bool) : Type 0 where
  pub size : length flags ≡ length t.kinds
  pub some : (x : ℕ) × (is_marked_at flags x ≡ true)
  pub greatest : AreGreatest t replies flags

-- exactly what is decided of the network of some lists: numbers by which choices rise; or a dead set
-- that can be filled, beside the greatest; or the greatest alone
abbrev pub IsDecidedOf : {A : Type 0} → ChoiceTable → List Reply → Decided A → Type 0
IsDecidedOf t replies (Rises numbers) =
    (length numbers.items ≡ length t.kinds) × RiseBy t replies numbers.items
IsDecidedOf t replies (Fills flags items) = IsGreatestOf t replies flags.items
    × IsDeadBy t replies (map filling_of items.items) true
IsDecidedOf t replies (Open flags) = IsGreatestOf t replies flags.items
