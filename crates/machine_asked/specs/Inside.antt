-- What an asked machine's fields stand for, and what is true of each.
use Rattle.std.specs.Prelude.{◌≡◌}
use Rattle.machine_asked.specs.declared.asked.AskedMachine.TheInside.{Inside}
use Rattle.machine_asked.specs.Asked.{Asked, IsAsked}

abbrev pub asked_of : {A : Type 0} → Inside A → Asked
asked_of a = record { core = a.machine; spins = a.spins.items; guard = a.guard }

-- the counts, the depth and the tags are those of the machine, and it stands as it is asked
pub record IsAskedMachine {A : Type 0} (a : Inside A) : Type 0 where
  pub counts : a.counts.items ≡ a.machine.allowed
  pub depth : a.depth ≡ a.machine.depth
  pub tags : a.tags ≡ a.machine.tags
  pub asked : IsAsked (asked_of a)
